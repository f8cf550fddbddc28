-- Deliveries and resets: every call keeps two devices alike until they enter the command stage, and what is seen of them is the same. Assumes nothing.
use mathlib.Core.Bool.{Bool, true, false}
use mathlib.Core.List.{List, [], ◌∷◌}
use mathlib.Core.Path.{◌≡◌, refl, sym, ap, subst, ◌∙◌}
use Prim.Native.Nat.{ℕ, ◌+◌, ◌<◌}
use lib.ListN.{length}
use Rattle.profile.specs.declared.Profile.{Profile}
use Rattle.profile.specs.Areas.{areas_of, total_of}
use Rattle.id_code.specs.Identity.{id_of}
use Rattle.state.specs.declared.Stage.{Stage}
use Rattle.state.specs.declared.State.{State}
use Rattle.state.specs.State.{fresh_state}
use Rattle.device_steps.specs.Step.{Machine, step_of}
use Rattle.device_steps.specs.Feed.{Delivery, feed_of}
use Rattle.device_steps.proofs.Delivered.{later, feed_none, feed_quiet, feed_reply, by_reply}
use Rattle.record_history.specs.History.{Call, deliver, again, fresh_of}
use Rattle.stranger.specs.Alike.{is_shut, Shut, SameStored, Alike}
use Rattle.stranger.specs.Seen.{seen, called, while_shut, seen_of, SameStep, SameDelivery}
use Rattle.stranger.proofs.Bytes.{byte_alike, byte_quiet}

-- a delivery, up to its first answer
pub feed_alike : (p : Profile) (m m' : Machine) (bs : List ℕ) → Alike p m m' → Shut m → SameDelivery p (feed_of p m bs) (feed_of p m' bs)
feed_alike p m m' [] a h = rw (feed_none p m, feed_none p m') (record { reply = refl; consumed = refl; machine = a })
feed_alike p m m' (b ∷ bs) a h =
    let s : SameStep p (step_of p m b) (step_of p m' b) = byte_alike p m m' b a h in
    by_reply p m b bs (λ (d : Delivery). SameDelivery p d (feed_of p m' (b ∷ bs)))
    (λ quiet.
    let more : SameDelivery p (feed_of p (step_of p m b).machine bs) (feed_of p (step_of p m' b).machine bs) =
    feed_alike p (step_of p m b).machine (step_of p m' b).machine bs s.machine (byte_quiet p m b h quiet) in
    subst (SameDelivery p (later 1 (feed_of p (step_of p m b).machine bs))) (sym (feed_quiet p m' b bs (sym (ap length s.reply) ∙ quiet)))
    (record { reply = more.reply; consumed = ap (λ (n : ℕ). n + 1) more.consumed; machine = more.machine }))
    (λ answered.
    subst (SameDelivery p (record { machine = (step_of p m b).machine; reply = (step_of p m b).reply; consumed = 1 }))
    (sym (feed_reply p m' b bs (subst (λ (l : List ℕ). 0 < length l) s.reply answered)))
    (record { reply = s.reply; consumed = refl; machine = s.machine }))

-- a device that is started or reset
pub fresh_alike : (p : Profile) (image image' : List ℕ) → SameStored p image image' → Alike p (fresh_of p image) (fresh_of p image')
fresh_alike p image image' s = record { state = refl; held = refl; stored = s }

pub fresh_shut : (p : Profile) (image : List ℕ) → Shut (fresh_of p image)
unfolding fresh_state
fresh_shut p image = refl

-- images that fit the profile and have one ID
pub fitting_stored : (p : Profile) (image image' : List ℕ) → length image ≡ total_of (areas_of p) → length image' ≡ total_of (areas_of p)
    → id_of (areas_of p) image ≡ id_of (areas_of p) image' → SameStored p image image'
fitting_stored p image image' e f id = record { size = e ∙ sym f; id = id }

-- a call
pub call_alike : (p : Profile) (m m' : Machine) (c : Call) → Alike p m m' → Shut m → SameDelivery p (called p m c) (called p m' c)
call_alike p m m' (deliver bs) a h = feed_alike p m m' bs a h
call_alike p m m' again a h = record { reply = refl; consumed = refl; machine = fresh_alike p m.image m'.image a.stored }

pub seen_alike : {p : Profile} {d d' : Delivery} → SameDelivery p d d' → seen d ≡ seen d'
seen_alike {d = d} {d' = d'} s =
    let reply : d.reply ≡ d'.reply = s.reply in
    let consumed : d.consumed ≡ d'.consumed = s.consumed in
    let state : d.machine.state ≡ d'.machine.state = s.machine.state in
    let held : d.machine.held ≡ d'.machine.held = s.machine.held in
    cc

-- both have entered, or neither has
pub shut_alike : {p : Profile} {m m' : Machine} → Alike p m m' → is_shut m.state.stage ≡ is_shut m'.state.stage
shut_alike a = ap (λ (st : State). is_shut st.stage) a.state

-- what is seen or told of a call, and what follows it
pub follows : {A : Type 0} {x y : A} {g g' : Stage} {l l' : List A} → x ≡ y → g ≡ g' → (is_shut g ≡ true → l ≡ l') → x ∷ while_shut g l ≡ y ∷ while_shut g' l'
follows {x = x} {y = y} {g = g} {g' = g'} {l = l} {l' = l'} e f h = by (is_shut g) refl
  where
    by : (t : Bool) → is_shut g ≡ t → x ∷ while_shut g l ≡ y ∷ while_shut g' l'
    by true k = let m : is_shut g' ≡ true = sym (ap is_shut f) ∙ k in rw (k, m, e, h k) refl
    by false k = let m : is_shut g' ≡ false = sym (ap is_shut f) ∙ k in rw (k, m, e) refl

-- all calls
pub calls_alike : (p : Profile) (m m' : Machine) (calls : List Call) → Alike p m m' → Shut m → seen_of p m calls ≡ seen_of p m' calls
unfolding seen_of
calls_alike p m m' [] a h = refl
calls_alike p m m' (c ∷ more) a h =
    let s : SameDelivery p (called p m c) (called p m' c) = call_alike p m m' c a h in
    follows (seen_alike s) (ap (λ (st : State). st.stage) s.machine.state)
    (λ t. calls_alike p (called p m c).machine (called p m' c).machine more s.machine t)
