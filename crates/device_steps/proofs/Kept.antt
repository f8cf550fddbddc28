-- A machine that fits stays one that fits, byte for byte, and its image keeps its length. Assumes nothing.
use mathlib.Core.Bool.{true}
use mathlib.Core.List.{List, [], ◌∷◌, ◌++◌}
use mathlib.Core.Path.{◌≡◌, refl, sym, ap, ◌∙◌}
use Prim.Native.Nat.{ℕ, ◌≤◌, ◌<◌}
use lib.ListN.{length, take}
use lib.Seq.{length-take-le}
use Rattle.profile.specs.declared.Profile.{Profile}
use Rattle.profile.specs.Areas.{areas_of}
use Rattle.profile_rules.specs.Rules.{Accepted}
use Rattle.profile_rules.proofs.Accepted.{sound}
use Rattle.packet.specs.declared.Progress.{Progress}
use Rattle.packet.specs.declared.Progress.TheVariants.{Astray, Partial, Unfit, Complete, Excess}
use Rattle.packet.specs.Packet.{progress_of, is_partial}
use Rattle.packet.specs.Frame.{longest_packet}
use Rattle.packet_fields.specs.Fields.{info_of}
use Rattle.flash.proofs.Performed.{performed_length}
use Rattle.state.specs.declared.Awaited.{Awaited}
use Rattle.state.specs.declared.Awaited.TheVariants.{WakeUp, Packet}
use Rattle.state.specs.declared.Pulse.TheVariants.{Zero}
use Rattle.state.specs.declared.State.{State}
use Rattle.state.specs.Awaits.{awaits_of, held_fits}
use Rattle.state.specs.State.{fresh_state}
use Rattle.state.specs.Fits.{stage_fits}
use Rattle.state.specs.Fit.{Fit}
use Rattle.state.proofs.FitParts.{fit_few}
use Rattle.answer.specs.Answer.{Answer}
use Rattle.answer_waking.specs.Wake.{wake_of}
use Rattle.device_calls.specs.Calls.{Lent}
use Rattle.device_steps.specs.Step.{Machine, machine_of, settled, refused_early, answer_of, heard, step_in, step_of}
use Rattle.device_steps.specs.Feed.{Delivery, feed_of}
use Rattle.device_steps.specs.Fits.{FitMachine}
use Rattle.device_steps.proofs.Delivered.{by_reply, feed_none}
use Rattle.device_steps.proofs.Settles.{empty_fits, settled_fits, wake_settles, early_settles, answer_settles}

pub fresh_fits : (p : Profile) (image : List ℕ) → FitMachine p (record { image = image; held = []; state = fresh_state p })
unfolding fresh_state stage_fits
fresh_fits p image = record { count = refl; held = empty_fits (WakeUp Zero); stage = refl }

-- one byte
module _ (p : Profile) (accepted : Accepted p) (m : Machine) (b : ℕ) (f : FitMachine p m) where
  -- what the held bytes and one more lead to
  heard_fits : (q : List ℕ) (g : Progress) → (is_partial g ≡ true → held_fits (awaits_of m.state.stage) q ≡ true) → FitMachine p (heard p m q g).machine
  unfolding heard
  heard_fits q Astray holds = record { count = refl; held = empty_fits (awaits_of m.state.stage); stage = f.stage }
  heard_fits q Partial holds = record { count = refl; held = holds refl; stage = f.stage }
  heard_fits q Unfit holds = settled_fits p m [] (refused_early m.state) (early_settles p m.state)
  heard_fits q Complete holds =
      settled_fits p m (info_of q) (answer_of p m.image m.state m.state.stage q)
      (answer_settles p (sound p accepted).areas m.image m.state f.stage q)
  heard_fits q Excess holds = record { count = refl; held = empty_fits (awaits_of m.state.stage); stage = f.stage }

  step_fits : (awaited : Awaited) → awaits_of m.state.stage ≡ awaited → FitMachine p (step_in p m awaited b).machine
  unfolding step_in held_fits
  step_fits (WakeUp u) e = settled_fits p m [] (wake_of p m.image m.state u b) (wake_settles p m.image m.state u b)
  step_fits (Packet kind) e =
      let q : List ℕ = m.held ++ b ∷ [] in
      heard_fits q (progress_of kind q) (λ h. ap (λ (k : Awaited). held_fits k q) e ∙ h)

pub still_fits : (p : Profile) → Accepted p → (m : Machine) (b : ℕ) → FitMachine p m → FitMachine p (step_of p m b).machine
unfolding step_of
still_fits p accepted m b f = step_fits p accepted m b f (awaits_of m.state.stage) refl

pub kept_length : (p : Profile) (m : Machine) (b : ℕ) → length (step_of p m b).machine.image ≡ length m.image
unfolding step_of step_in heard
kept_length p m b = go (awaits_of m.state.stage)
  where
    -- every act keeps it
    acted : (bytes : List ℕ) (a : Answer) → length (settled p m bytes a).machine.image ≡ length m.image
    acted bytes a = performed_length (areas_of p) a.act bytes m.image

    by_progress : (q : List ℕ) (g : Progress) → length (heard p m q g).machine.image ≡ length m.image
    by_progress q Astray = refl
    by_progress q Partial = refl
    by_progress q Unfit = acted [] (refused_early m.state)
    by_progress q Complete = acted (info_of q) (answer_of p m.image m.state m.state.stage q)
    by_progress q Excess = refl

    go : (awaited : Awaited) → length (step_in p m awaited b).machine.image ≡ length m.image
    go (WakeUp u) = acted [] (wake_of p m.image m.state u b)
    go (Packet kind) = by_progress (m.held ++ b ∷ []) (progress_of kind (m.held ++ b ∷ []))

-- a delivery of bytes
pub feed_fits : (p : Profile) → Accepted p → (m : Machine) (bs : List ℕ) → FitMachine p m → FitMachine p (feed_of p m bs).machine
feed_fits p accepted m [] f = rw feed_none f
feed_fits p accepted m (b ∷ bs) f =
    let g : FitMachine p (step_of p m b).machine = still_fits p accepted m b f in
    by_reply p m b bs (λ (d : Delivery). FitMachine p d.machine) (λ quiet. feed_fits p accepted (step_of p m b).machine bs g) (λ answered. g)

pub feed_length : (p : Profile) (m : Machine) (bs : List ℕ) → length (feed_of p m bs).machine.image ≡ length m.image
feed_length p m [] = rw feed_none refl
feed_length p m (b ∷ bs) =
    by_reply p m b bs (λ (d : Delivery). length d.machine.image ≡ length m.image)
    (λ quiet. feed_length p (step_of p m b).machine bs ∙ kept_length p m b)
    (λ answered. kept_length p m b)

-- a machine made of a state and the lent buffers fits where the state does
pub machine_fits : (p : Profile) (st : State) (l : Lent) → Fit p st l.receive → FitMachine p (machine_of st l)
machine_fits p st l f = record { count = sym (length-take-le st.held l.receive f.inside); held = f.held; stage = f.stage }

pub state_fits : (p : Profile) (m : Machine) (receive : List ℕ) → FitMachine p m → take m.state.held receive ≡ m.held → m.state.held ≤ length receive
    → Fit p m.state receive
state_fits p m receive f e inside =
    record { inside = inside; held = ap (held_fits (awaits_of m.state.stage)) e ∙ f.held; stage = f.stage }

-- fewer bytes are held than a longest packet has
pub held_short : (p : Profile) (m : Machine) → FitMachine p m → length m.held < longest_packet
held_short p m f = fit_few (awaits_of m.state.stage) m.held f.held
