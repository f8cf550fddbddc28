-- Bytes that only add to what is awaited: how many there are, and that feeding them brings no reply; they are held. Assumes nothing.
use mathlib.Core.Bool.{true}
use mathlib.Core.List.{List, [], ◌∷◌, ◌++◌, append-nil, append_assoc}
use mathlib.Core.Path.{◌≡◌, refl, sym, ap, subst, ◌∙◌}
use Prim.Native.Nat.{ℕ, ◌+◌, ◌≤◌, min}
use native.Mathlib.Numerals.{add-one}
use native.Mathlib.Omega.{arith}
use lib.ListN.{length, take, length-append}
use lib.Seq.{paste-zero}
use borrow.Author.Tests.{eq-eqb, eqb-true}
use Rattle.profile.specs.declared.Profile.{Profile}
use Rattle.packet.specs.declared.Kind.{Kind}
use Rattle.packet.specs.Packet.{progress_of}
use Rattle.packet.proofs.Partial.{is_partial_lem}
use Rattle.packet_gather.specs.Gather.{Holds, Taken}
use Rattle.packet_gather.proofs.Adding.{front_held, taken_held, taken_room}
use Rattle.state.specs.declared.Awaited.{Awaited}
use Rattle.state.specs.declared.Awaited.TheVariants.{WakeUp, Packet}
use Rattle.state.specs.declared.Pulse.{Pulse}
use Rattle.state.specs.Awaits.{awaits_of, held_fits}
use Rattle.device_steps.specs.Step.{Machine, holding, heard, step_in, step_of}
use Rattle.device_steps.specs.Feed.{Delivery, feed_of}
use Rattle.device_steps.proofs.Delivered.{later, later_none, later_more, feed_quiet}
use Rattle.device.specs.Steps.{gain_in, Holding, Added}

-- where a packet is awaited, the held bytes are one that is incomplete
pub holds : {kind : Kind} {count : ℕ} {rc : List ℕ} → Holding (Packet kind) count rc → Holds kind count rc
unfolding held_fits
holds h = record { inside = h.inside; fits = h.fits; room = h.room }

-- by what was found to be awaited
pub holding_at : {awaited found : Awaited} {g : Awaited} {count : ℕ} {rc : List ℕ} → Holding awaited count rc → found ≡ awaited → found ≡ g → Holding g count rc
holding_at {count = count} {rc = rc} h e f = subst (λ (a : Awaited). Holding a count rc) (sym e ∙ f) h

pub added_none : {awaited found : Awaited} {u : Pulse} {count : ℕ} {bs rc : List ℕ} → found ≡ awaited → found ≡ WakeUp u → Added awaited count bs 0 rc rc
added_none {count = count} {bs = bs} {rc = rc} e f =
    subst (λ (a : Awaited). Added a count bs 0 rc rc) (sym f ∙ e) (record { taken = omega arith; receive = paste-zero rc count bs })

pub added_some : {awaited found : Awaited} {kind : Kind} {count n : ℕ} {bs rc₀ rc : List ℕ} → found ≡ awaited → found ≡ Packet kind → Taken kind count bs n rc₀ rc
    → Added awaited count bs n rc₀ rc
added_some {count = count} {n = n} {bs = bs} {rc₀ = rc₀} {rc = rc} e f k =
    subst (λ (a : Awaited). Added a count bs n rc₀ rc) (sym f ∙ e) (record { taken = k.taken; receive = k.receive })

-- n of the bytes bs, behind those that are held
module _ (count : ℕ) (rc bs : List ℕ) (n : ℕ) where
  abbrev q : List ℕ
  q = take count rc

  pub there : (a : Awaited) → Holding a count rc → n ≡ min (gain_in a q bs) (length bs) → n ≤ length bs
  there (WakeUp u) h e = omega (arith, e)
  there (Packet kind) h e = omega (arith, e)

  pub room : (a : Awaited) → Holding a count rc → n ≡ min (gain_in a q bs) (length bs) → count + n ≤ length rc
  room (WakeUp u) h e = omega (arith, e, h.inside)
  room (Packet kind) h e = taken_room kind count rc bs (holds h) n e

  pub held_on : (a : Awaited) → Holding a count rc → n ≡ min (gain_in a q bs) (length bs) → held_fits a (q ++ take n bs) ≡ true
  unfolding held_fits
  held_on (WakeUp u) h e =
      let z : n ≡ 0 = omega (arith, e) in
      ap (λ (k : ℕ). held_fits (WakeUp u) (q ++ take k bs)) z ∙ ap (held_fits (WakeUp u)) (append-nil q) ∙ h.fits
  held_on (Packet kind) h e = taken_held kind count rc bs (holds h) n e

-- what can be held, its beginning can be held
front_fits : (a : Awaited) (q bs : List ℕ) → held_fits a (q ++ bs) ≡ true → held_fits a q ≡ true
unfolding held_fits
front_fits (WakeUp u) q bs e = eq-eqb (length q) 0 (omega (arith, length-append q bs, eqb-true (length (q ++ bs)) 0 e))
front_fits (Packet kind) q bs e = front_held kind q bs e

-- one such byte is held
adds : (p : Profile) (m : Machine) (q : List ℕ) (b : ℕ) → held_fits (awaits_of m.state.stage) (q ++ b ∷ []) ≡ true
    → step_of p (holding q m).machine b ≡ holding (q ++ b ∷ []) m
unfolding step_of step_in heard held_fits
adds p m q b e = go (awaits_of m.state.stage) e
  where
    go : (a : Awaited) → held_fits a (q ++ b ∷ []) ≡ true → step_in p (holding q m).machine a b ≡ holding (q ++ b ∷ []) m
    go (WakeUp u) f = absurd (omega (arith, length-append q (b ∷ []), eqb-true (length (q ++ b ∷ [])) 0 f))
    go (Packet kind) f = rw (is_partial_lem (progress_of kind (q ++ b ∷ [])) f) refl

-- and so are all of them
pub fed_more : (p : Profile) (m : Machine) (q bs rest : List ℕ) → held_fits (awaits_of m.state.stage) (q ++ bs) ≡ true
    → feed_of p (holding q m).machine (bs ++ rest) ≡ later (length bs) (feed_of p (holding (q ++ bs) m).machine rest)
fed_more p m q [] rest e =
    ap (λ (l : List ℕ). feed_of p (holding l m).machine rest) (sym (append-nil q)) ∙ sym (later_none (feed_of p (holding (q ++ []) m).machine rest))
fed_more p m q (b ∷ bs) rest e =
    let whole : held_fits (awaits_of m.state.stage) ((q ++ b ∷ []) ++ bs) ≡ true = ap (held_fits (awaits_of m.state.stage)) (append_assoc q (b ∷ []) bs) ∙ e in
    let s = adds p m q b (front_fits (awaits_of m.state.stage) (q ++ b ∷ []) bs whole) in
    let quiet : length (step_of p (holding q m).machine b).reply ≡ 0 = rw s refl in
    let d : Delivery = feed_of p (holding (q ++ b ∷ bs) m).machine rest in
    feed_quiet p (holding q m).machine b (bs ++ rest) quiet
    ∙ ap (λ (k : Machine). later 1 (feed_of p k (bs ++ rest))) (ap (λ k. k.machine) s)
    ∙ ap (λ (k : Delivery). later 1 k) (fed_more p m (q ++ b ∷ []) bs rest whole)
    ∙ ap (λ (l : List ℕ). later 1 (later (length bs) (feed_of p (holding l m).machine rest))) (append_assoc q (b ∷ []) bs)
    ∙ later_more 1 (length bs) d
    ∙ ap (λ (n : ℕ). later n d) (add-one (length bs))
