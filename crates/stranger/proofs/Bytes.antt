-- One byte: two devices that are alike and before the command stage answer it alike and stay alike; without an answer it enters none. Assumes nothing.
use mathlib.Core.Bool.{true}
use mathlib.Core.List.{List, [], ◌∷◌, ◌++◌}
use mathlib.Core.Logic.{◌⊎◌, inl, ⊎_elim}
use mathlib.Core.Path.{◌≡◌, refl, sym, ap, subst}
use Prim.Native.Nat.{ℕ, ◌≤◌}
use native.Mathlib.Omega.{arith}
use lib.ListN.{length}
use lib.Dec.{eqb}
use Rattle.profile.specs.declared.Profile.{Profile}
use Rattle.profile.specs.Areas.{areas_of}
use Rattle.packet.specs.declared.Kind.TheVariants.{Command as CommandPacket}
use Rattle.packet.specs.declared.Progress.{Progress}
use Rattle.packet.specs.declared.Progress.TheVariants.{Astray, Partial, Unfit, Complete, Excess}
use Rattle.packet.specs.Packet.{progress_of}
use Rattle.packet.proofs.Laws.{impossible}
use Rattle.packet_fields.specs.Fields.{info_of}
use Rattle.verdict.specs.declared.Reason.TheVariants.{LengthRefused}
use Rattle.flash.specs.declared.Act.{Act}
use Rattle.flash.specs.declared.Act.TheVariants.{Nothing, EraseRange, EraseAll, Store}
use Rattle.flash.specs.Acts.{performed}
use Rattle.flash.specs.Effects.{blanked}
use Rattle.flash.proofs.ByAddress.{blanked_alike}
use Rattle.state.specs.declared.Pulse.{Pulse}
use Rattle.state.specs.declared.Pulse.TheVariants.{Zero, One, Acknowledged}
use Rattle.state.specs.declared.Stage.{Stage}
use Rattle.state.specs.declared.Stage.TheVariants.{Setting, Authentication, Command, Writing, Reading}
use Rattle.state.specs.declared.State.{State}
use Rattle.state.specs.Awaits.{awaits_of}
use Rattle.answer.specs.Answer.{Answer}
use Rattle.answer_command.specs.Grants.{answer_command}
use Rattle.answer_command.proofs.Unseen.{authentication_unseen, authentication_acts}
use Rattle.answer_waking.specs.Wake.{wake_of}
use Rattle.answer_waking.proofs.Woken.{wake_act, wake_alike}
use Rattle.device_steps.specs.Step.{Machine, settled, early_of, refused_early, answer_of, heard, step_in, step_of}
use Rattle.device_steps.proofs.Settles.{either}
use Rattle.device_steps.proofs.Replies.{IsPacket, packet_least, status_packet, command_packet}
use Rattle.device.proofs.Turns.{machine_eq}
use Rattle.stranger.specs.Alike.{is_shut, Shut, SameStored, Alike}
use Rattle.std.specs.Prelude.{Err}
use Rattle.stranger.specs.Seen.{SameStep}

-- an image is like itself
stored_self : (p : Profile) (image : List ℕ) → SameStored p image image
stored_self p image = record { size = refl; id = refl }

-- what may be done to an image of which nothing is known: nothing, or a total erase, which leaves nothing of it
abbrev Blind : Act → Type 0
Blind act = (act ≡ Nothing) ⊎ (act ≡ EraseAll)

blind_acts : (p : Profile) (act : Act) (bytes image image' : List ℕ) → Blind act → SameStored p image image'
    → SameStored p (performed (areas_of p) act bytes image) (performed (areas_of p) act bytes image')
unfolding performed
blind_acts p Nothing bytes image image' h s = s
blind_acts p (EraseRange x y) bytes image image' h s = ⊎_elim (λ e. impossible (cc)) (λ e. impossible (cc)) h
blind_acts p EraseAll bytes image image' h s =
    subst (SameStored p (blanked image)) (blanked_alike image image' s.size) (stored_self p (blanked image))
blind_acts p (Store x n) bytes image image' h s = ⊎_elim (λ e. impossible (cc)) (λ e. impossible (cc)) h

-- two devices that differ in the image alone
module _ (p : Profile) (image image' held : List ℕ) (st : State) (s : SameStored p image image') where
  abbrev m : Machine
  m = record { image = image; held = held; state = st }

  abbrev m' : Machine
  m' = record { image = image'; held = held; state = st }

  -- answers that are the same
  answers_alike : (bytes : List ℕ) (a a' : Answer) → a ≡ a' → Blind a.act → SameStep p (settled p m bytes a) (settled p m' bytes a')
  answers_alike bytes a a' e h =
      subst (λ (x : Answer). SameStep p (settled p m bytes a) (settled p m' bytes x)) e
      (record { reply = refl; machine = record { state = refl; held = refl; stored = blind_acts p a.act bytes image image' h s } })

  -- bytes of a command that come in authentication stage
  heard_alike : (q : List ℕ) (g : Progress) → st.stage ≡ Authentication → SameStep p (heard p m q g) (heard p m' q g)
  unfolding heard
  heard_alike q Astray e = record { reply = refl; machine = record { state = refl; held = refl; stored = s } }
  heard_alike q Partial e = record { reply = refl; machine = record { state = refl; held = refl; stored = s } }
  heard_alike q Unfit e = answers_alike [] (refused_early st) (refused_early st) refl (inl refl)
  heard_alike q Complete e =
      subst (λ (g : Stage). SameStep p (settled p m (info_of q) (answer_of p image st g q)) (settled p m' (info_of q) (answer_of p image' st g q))) (sym e)
      (answers_alike (info_of q) (answer_command p image st q) (answer_command p image' st q) (authentication_unseen p st q e image image')
      (authentication_acts p st q e image))
  heard_alike q Excess e = record { reply = refl; machine = record { state = refl; held = refl; stored = s } }

  module _ (b : ℕ) where
    in_stage : (g : Stage) → st.stage ≡ g → is_shut g ≡ true → SameStep p (step_in p m (awaits_of g) b) (step_in p m' (awaits_of g) b)
    unfolding step_in
    in_stage (Setting pulse) e h =
        answers_alike [] (wake_of p image st pulse b) (wake_of p image' st pulse b) (wake_alike p image image' s.id st pulse b)
        (inl (wake_act p image st pulse b))
    in_stage Authentication e h = heard_alike (held ++ b ∷ []) (progress_of CommandPacket (held ++ b ∷ [])) e
    in_stage Command e h = impossible (cc)
    in_stage (Writing r) e h = impossible (cc)
    in_stage (Reading r) e h = impossible (cc)

    same_step : is_shut st.stage ≡ true → SameStep p (step_of p m b) (step_of p m' b)
    unfolding step_of
    same_step h = in_stage st.stage refl h

-- what two devices that are alike have in common makes them two that differ in the image alone
pub byte_alike : (p : Profile) (m m' : Machine) (b : ℕ) → Alike p m m' → Shut m → SameStep p (step_of p m b) (step_of p m' b)
byte_alike p m m' b a h =
    subst (λ (x : Machine). SameStep p (step_of p m b) (step_of p x b))
    (machine_eq (record { image = m'.image; held = m.held; state = m.state }) m' refl a.held a.state)
    (same_step p m.image m'.image m.held m.state a.stored b h)

-- an answer, so that a delivery stops there
answered : {A : Type 0} {reply : List ℕ} → IsPacket reply → length reply ≡ 0 → A
answered {reply = reply} k e = let least : 6 ≤ length reply = packet_least k in absurd (omega arith)

-- a byte without an answer does not enter the command stage
abbrev QuietShut : Answer → Type 0
QuietShut a = length a.reply ≡ 0 → is_shut a.state.stage ≡ true

wake_quiet : (p : Profile) (image : List ℕ) (st : State) (pulse : Pulse) (b : ℕ) → QuietShut (wake_of p image st pulse b)
unfolding wake_of
wake_quiet p image st Zero b = either QuietShut _ _ (eqb b 0x00) (λ e. refl) (λ e. refl)
wake_quiet p image st One b = either QuietShut _ _ (eqb b 0x00) (λ e. refl) (λ e. refl)
wake_quiet p image st Acknowledged b = either QuietShut _ _ (eqb b 0x55) (λ e. absurd (omega arith)) (either QuietShut _ _ (eqb b 0x00) (λ e. refl) (λ e. refl))

module _ (p : Profile) (m : Machine) where
  heard_quiet : (q : List ℕ) (g : Progress) → m.state.stage ≡ Authentication → length (heard p m q g).reply ≡ 0
      → is_shut (heard p m q g).machine.state.stage ≡ true
  unfolding heard
  heard_quiet q Astray e k = ap is_shut e
  heard_quiet q Partial e k = ap is_shut e
  heard_quiet q Unfit e k = answered (status_packet (early_of m.state.stage).0 (Err LengthRefused)) k
  heard_quiet q Complete e k =
      answered (subst (λ (g : Stage). IsPacket (answer_of p m.image m.state g q).reply) (sym e) (command_packet p m.image m.state q)) k
  heard_quiet q Excess e k = ap is_shut e

  quiet_in : (b : ℕ) (g : Stage) → m.state.stage ≡ g → is_shut g ≡ true → length (step_in p m (awaits_of g) b).reply ≡ 0
      → is_shut (step_in p m (awaits_of g) b).machine.state.stage ≡ true
  unfolding step_in
  quiet_in b (Setting pulse) e h k = wake_quiet p m.image m.state pulse b k
  quiet_in b Authentication e h k = heard_quiet (m.held ++ b ∷ []) (progress_of CommandPacket (m.held ++ b ∷ [])) e k
  quiet_in b Command e h k = impossible (cc)
  quiet_in b (Writing r) e h k = impossible (cc)
  quiet_in b (Reading r) e h k = impossible (cc)

pub byte_quiet : (p : Profile) (m : Machine) (b : ℕ) → Shut m → length (step_of p m b).reply ≡ 0 → Shut (step_of p m b).machine
unfolding step_of
byte_quiet p m b h k = quiet_in p m b m.state.stage refl h k
