-- Over any history the machine fits, its image keeps its length, and the next call is accepted; what tells the flash, and what leaves it. Assumes
-- nothing.
use mathlib.Core.List.{List, [], ◌∷◌, ◌++◌}
use mathlib.Core.Path.{◌≡◌, refl, sym, ap, ◌∙◌}
use Prim.Native.Nat.{ℕ, ◌<◌}
use native.Mathlib.Omega.{arith}
use lib.ListN.{length, take}
use Rattle.profile.specs.declared.Area.{Area}
use Rattle.profile.specs.declared.Profile.{Profile}
use Rattle.profile.specs.Areas.{areas_of, total_of}
use Rattle.profile_rules.specs.Rules.{Accepted}
use Rattle.packet.specs.Frame.{Roomy}
use Rattle.record_exchange.specs.Line.{Entry}
use Rattle.record_replay.specs.Replay.{replay}
use Rattle.device_steps.specs.Step.{Machine, step_of}
use Rattle.device_steps.specs.Fits.{FitMachine}
use Rattle.device_steps.proofs.Kept.{fresh_fits, still_fits, kept_length, state_fits, held_short}
use Rattle.device_calls.specs.Calls.{buffers, start_refusal, feed_refusal}
use Rattle.device_calls.proofs.Rows.{start_accepts, ready_rows}
use Rattle.record_history.specs.History.{Call, deliver, again, fresh_of, hearing, machine_after, record_of}
use Rattle.std.specs.Prelude.{Ok}
use Rattle.record_history.proofs.Replayed.{replayed}

-- the machine fits all along, and its image keeps its length
pub hearing_fits : (p : Profile) → Accepted p → (m : Machine) (bs : List ℕ) → FitMachine p m → FitMachine p (hearing p m bs)
unfolding hearing
hearing_fits p accepted m [] f = f
hearing_fits p accepted m (b ∷ bs) f = hearing_fits p accepted (step_of p m b).machine bs (still_fits p accepted m b f)

pub hearing_length : (p : Profile) (m : Machine) (bs : List ℕ) → length (hearing p m bs).image ≡ length m.image
unfolding hearing
hearing_length p m [] = refl
hearing_length p m (b ∷ bs) = hearing_length p (step_of p m b).machine bs ∙ kept_length p m b

pub history_fits : (p : Profile) → Accepted p → (m : Machine) (calls : List Call) → FitMachine p m → FitMachine p (machine_after p m calls)
unfolding machine_after
history_fits p accepted m [] f = f
history_fits p accepted m (deliver bs ∷ more) f = history_fits p accepted (hearing p m bs) more (hearing_fits p accepted m bs f)
history_fits p accepted m (again ∷ more) f = history_fits p accepted (fresh_of p m.image) more (fresh_fits p m.image)

pub history_length : (p : Profile) (m : Machine) (calls : List Call) → length (machine_after p m calls).image ≡ length m.image
unfolding machine_after
history_length p m [] = refl
history_length p m (deliver bs ∷ more) = history_length p (hearing p m bs) more ∙ hearing_length p m bs
history_length p m (again ∷ more) = history_length p (fresh_of p m.image) more

-- a machine that fits has its next feed accepted, with buffers of 1,030 bytes that hold what is held
next_feeds : (p : Profile) → Accepted p → (m : Machine) → length m.image ≡ total_of (areas_of p) → FitMachine p m
    → (receive reply : List ℕ) → take m.state.held receive ≡ m.held → Roomy receive → Roomy reply
    → feed_refusal p m.state (buffers m.image receive reply) ≡ Ok tt
next_feeds p accepted m e f receive reply held wide long =
    let few : length m.held < 1030 = held_short p m f in
    let count : m.state.held ≡ length m.held = f.count in
    ready_rows p m.state (buffers m.image receive reply)
    (record { profile = accepted; image = e; receive = wide; reply = long; fit = state_fits p m receive f held (omega arith) })

-- so every call after a history from the start is accepted
module _ (p : Profile) (accepted : Accepted p) (image : List ℕ) (e : length image ≡ total_of (areas_of p)) (calls : List Call) where
  abbrev there : Machine
  there = machine_after p (fresh_of p image) calls

  pub then_resets : start_refusal p (length there.image) ≡ Ok tt
  then_resets = start_accepts p (length there.image) accepted (history_length p (fresh_of p image) calls ∙ e)

  pub then_feeds : (receive reply : List ℕ) → take there.state.held receive ≡ there.held → Roomy receive → Roomy reply
      → feed_refusal p there.state (buffers there.image receive reply) ≡ Ok tt
  then_feeds =
      next_feeds p accepted there (history_length p (fresh_of p image) calls ∙ e) (history_fits p accepted (fresh_of p image) calls (fresh_fits p image))

-- the line's record and the areas tell the flash, whatever else the profiles and the histories are
pub same_record : (p p' : Profile) (image : List ℕ) (calls calls' : List Call) → areas_of p ≡ areas_of p'
    → record_of p (fresh_of p image) calls ≡ record_of p' (fresh_of p' image) calls'
    → (machine_after p (fresh_of p image) calls).image ≡ (machine_after p' (fresh_of p' image) calls').image
same_record p p' image calls calls' areas e =
    replayed p image calls
    ∙ ap (λ (a : List Area). replay a image (record_of p (fresh_of p image) calls)) areas
    ∙ ap (λ (es : List Entry). replay (areas_of p') image es) e
    ∙ sym (replayed p' image calls')

-- a reset leaves the flash as it is
pub reset_keeps : (p : Profile) (m : Machine) (calls : List Call) → (machine_after p m (calls ++ again ∷ [])).image ≡ (machine_after p m calls).image
unfolding machine_after
reset_keeps p m [] = refl
reset_keeps p m (deliver bs ∷ calls) = reset_keeps p (hearing p m bs) calls
reset_keeps p m (again ∷ calls) = reset_keeps p (fresh_of p m.image) calls
