-- What stands in the record: requests that were answered with a packet, with that packet, and resets; without an answer nothing, and nothing of
-- waking up. Assumes nothing.
use mathlib.Core.Bool.{Bool, true, false, ◌||◌, cond}
use mathlib.Core.List.{List, [], ◌∷◌, ◌++◌, append_assoc, append-nil}
use mathlib.Core.Logic.{◌⊎◌, ⊎_elim}
use mathlib.Core.Path.{◌≡◌, refl, sym, ap, subst, ◌∙◌}
use Prim.Native.Nat.{ℕ, ◌≤◌, ◌<◌}
use native.Mathlib.Omega.{arith}
use lib.ListN.{length}
use Rattle.profile.specs.declared.Profile.{Profile}
use Rattle.packet.proofs.Laws.{impossible}
use Rattle.state.specs.declared.Pulse.{Pulse}
use Rattle.state.specs.declared.Stage.TheVariants.{Setting}
use Rattle.record_exchange.specs.Line.{Entry, exchange, restart}
use Rattle.device_steps.specs.Step.{Machine, step_of}
use Rattle.device_steps.specs.Feed.{Delivery, feed_of}
use Rattle.device_steps.specs.Records.{heard_with, completes, refuses, Brings}
use Rattle.device_steps.proofs.Defaults.{setting_completes_none, setting_refuses_none}
use Rattle.device_steps.proofs.Delivered.{by_reply}
use Rattle.device_steps.proofs.Replies.{IsPacket, packet_least, unbrought, brings_or, packet_step}
use Rattle.record_history.specs.History.{Call, deliver, again, fresh_of, hearing, machine_after, entries_at, heard_record, record_of}

-- an entry that a byte adds: all that is held and the byte, with the reply that the byte brings, which is a packet
pub record Noted (p : Profile) (m : Machine) (b : ℕ) (q reply : List ℕ) : Type 0 where
  pub request : q ≡ heard_with m b
  pub answer : reply ≡ (step_of p m b).reply
  pub packet : IsPacket reply
  pub some : 0 < length reply

-- what is picked by whether a byte brings a request
module _ (m : Machine) (b : ℕ) (x y : List Entry) where
  picks_asked : Brings m b → cond (completes m b || refuses m b) x y ≡ x
  picks_asked h = by (completes m b) (refuses m b) h
    where
      by : (s t : Bool) → (s ≡ true) ⊎ (t ≡ true) → cond (s || t) x y ≡ x
      by true t k = refl
      by false true k = refl
      by false false k = absurd (⊎_elim (λ e. impossible (cc)) (λ e. impossible (cc)) k)

  picks_unasked : (Brings m b → ⊥) → cond (completes m b || refuses m b) x y ≡ y
  picks_unasked n = let u = unbrought m b n in rw (u.0, u.1) refl

-- an entry is left exactly by a byte that brings a request: what is held and the byte, with the reply
module _ (p : Profile) (m : Machine) (b : ℕ) where
  pub entry_asked : Brings m b → entries_at p m b ≡ exchange (heard_with m b) (step_of p m b).reply ∷ []
  unfolding entries_at
  entry_asked h = picks_asked m b (exchange (heard_with m b) (step_of p m b).reply ∷ []) [] h

  pub entry_unasked : (Brings m b → ⊥) → entries_at p m b ≡ []
  unfolding entries_at
  entry_unasked n = picks_unasked m b (exchange (heard_with m b) (step_of p m b).reply ∷ []) [] n

  -- so it is one of the two
  pub entries_are : entries_at p m b ≡ cond (completes m b || refuses m b) (exchange (heard_with m b) (step_of p m b).reply ∷ []) []
  entries_are =
      let x : List Entry = exchange (heard_with m b) (step_of p m b).reply ∷ [] in
      ⊎_elim (λ h. entry_asked h ∙ sym (picks_asked m b x [] h)) (λ n. entry_unasked n ∙ sym (picks_unasked m b x [] n)) (brings_or m b)

  -- a byte that is answered with no packet adds none
  pub unanswered_entry : length (step_of p m b).reply ≡ 0 → entries_at p m b ≡ []
  unanswered_entry e = entry_unasked (λ h. let k : 6 ≤ length (step_of p m b).reply = packet_least (packet_step p m b h) in omega arith)

  -- waking up, with its answers, is in no record
  pub waking_unrecorded : (u : Pulse) → m.state.stage ≡ Setting u → entries_at p m b ≡ []
  waking_unrecorded u e = entry_unasked (λ h. ⊎_elim (setting_completes_none m b u e) (setting_refuses_none m b u e) h)

  -- what stands in an entry
  pub entry_answered : (q reply : List ℕ) → entries_at p m b ≡ exchange q reply ∷ [] → Noted p m b q reply
  entry_answered q reply e = ⊎_elim there none (brings_or m b)
    where
      there : Brings m b → Noted p m b q reply
      there h =
          let same : exchange (heard_with m b) (step_of p m b).reply ∷ [] ≡ exchange q reply ∷ [] = sym (entry_asked h) ∙ e in
          let r : reply ≡ (step_of p m b).reply = cc in
          let packet : IsPacket reply = subst IsPacket (sym r) (packet_step p m b h) in
          record { request = cc; answer = r; packet = packet; some = omega (arith, packet_least packet) }

      none : (Brings m b → ⊥) → Noted p m b q reply
      none n = let z : [] ≡ exchange q reply ∷ [] = sym (entry_unasked n) ∙ e in impossible (cc)

-- a delivery without an answer leaves no entry: a packet that is cut, noise, waking up
pub unanswered_unrecorded : (p : Profile) (m : Machine) (bs : List ℕ) → length (feed_of p m bs).reply ≡ 0 → heard_record p m bs ≡ []
unfolding heard_record
unanswered_unrecorded p m [] = λ e. refl
unanswered_unrecorded p m (b ∷ bs) =
    by_reply p m b bs (λ (d : Delivery). length d.reply ≡ 0 → heard_record p m (b ∷ bs) ≡ [])
    (λ quiet e. rw (unanswered_entry p m b quiet) (unanswered_unrecorded p (step_of p m b).machine bs e))
    (λ answered e. absurd (omega arith))

-- each reset leaves its own
pub reset_recorded : (p : Profile) (m : Machine) → record_of p m (again ∷ []) ≡ restart ∷ []
unfolding record_of
reset_recorded p m = refl

-- one call after the other
pub record_continued : (p : Profile) (m : Machine) (first later : List Call)
    → record_of p m (first ++ later) ≡ record_of p m first ++ record_of p (machine_after p m first) later
unfolding record_of machine_after
record_continued p m [] later = refl
record_continued p m (deliver bs ∷ first) later =
    let s : Machine = hearing p m bs in
    ap (λ (es : List Entry). heard_record p m bs ++ es) (record_continued p s first later)
    ∙ sym (append_assoc (heard_record p m bs) (record_of p s first) (record_of p (machine_after p s first) later))
record_continued p m (again ∷ first) later = ap (λ (es : List Entry). restart ∷ es) (record_continued p (fresh_of p m.image) first later)

pub machine_continued : (p : Profile) (m : Machine) (first later : List Call)
    → machine_after p m (first ++ later) ≡ machine_after p (machine_after p m first) later
unfolding machine_after
machine_continued p m [] later = refl
machine_continued p m (deliver bs ∷ first) later = machine_continued p (hearing p m bs) first later
machine_continued p m (again ∷ first) later = machine_continued p (fresh_of p m.image) first later

-- one delivery, and one byte
pub delivery_record : (p : Profile) (m : Machine) (bs : List ℕ) → record_of p m (deliver bs ∷ []) ≡ heard_record p m bs
unfolding record_of
delivery_record p m bs = append-nil (heard_record p m bs)

pub byte_record : (p : Profile) (m : Machine) (b : ℕ) → record_of p m (deliver (b ∷ []) ∷ []) ≡ entries_at p m b
unfolding heard_record
byte_record p m b = delivery_record p m (b ∷ []) ∙ append-nil (entries_at p m b)
