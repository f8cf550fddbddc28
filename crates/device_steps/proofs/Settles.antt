-- Each answer leaves a state that fits, with nothing held. Assumes nothing.
use mathlib.Core.Bool.{Bool, true, false, cond}
use mathlib.Core.List.{List, []}
use Rattle.std.specs.Prelude.{None, Ok, Err}
use mathlib.Core.Path.{◌≡◌, refl}
use Prim.Native.Nat.{ℕ}
use native.Mathlib.Nat.{min-le_left}
use lib.Dec.{eqb}
use Rattle.verdict.specs.Check.{first_fault, verdict_of, Verdict}
use Rattle.verdict.proofs.FirstFault.{granted_clear}
use Rattle.profile.specs.declared.Profile.{Profile}
use Rattle.profile.specs.Areas.{areas_of}
use Rattle.profile_rules.specs.Sound.{Ascending}
use Rattle.id_code.specs.Identity.{id_of, is_none, total_erase}
use Rattle.profile_ranges.specs.declared.Purpose.TheVariants.{Write as ToWrite, Read as ToRead}
use Rattle.packet.specs.Packet.{progress_of}
use Rattle.packet_fields.specs.declared.Com.{Com}
use Rattle.packet_fields.specs.declared.Com.TheVariants.{Inquiry, Erase, Write, Read, Authenticate, Baud, Signature, Area, Unknown}
use Rattle.state.specs.declared.Awaited.{Awaited}
use Rattle.state.specs.declared.Awaited.TheVariants.{WakeUp, Packet}
use Rattle.state.specs.declared.Pulse.{Pulse}
use Rattle.state.specs.declared.Pulse.TheVariants.{Zero, One, Acknowledged}
use Rattle.state.specs.declared.Range.{Range}
use Rattle.state.specs.declared.Stage.{Stage}
use Rattle.state.specs.declared.Stage.TheVariants.{Setting, Authentication, Command, Writing, Reading}
use Rattle.state.specs.declared.State.{State}
use Rattle.state.specs.State.{fresh_state, window_of}
use Rattle.packet_fields.specs.Fields.{com_of, code_at, info_count, info_of, sad_of, ead_of}
use Rattle.check_command.specs.Commands.{command_checks}
use Rattle.check_transfer.specs.Transfer.{write_checks, next_checks}
use Rattle.state.specs.Awaits.{awaits_of, held_fits}
use Rattle.state.specs.Fits.{stage_fits}
use Rattle.check_command.proofs.Granted.{granted_write, granted_read}
use Rattle.check_transfer.proofs.WriteGranted.{write_any, write_most, write_units}
use Rattle.answer.specs.Answer.{Answer}
use Rattle.answer_command.specs.Grants.{span_of, entered, grant_of, decided, answer_command}
use Rattle.answer_transfer.specs.Transfers.{read_count, read_packet, write_decided, answer_write, next_decided, answer_next}
use Rattle.answer_waking.specs.Wake.{awake, wake_of}
use Rattle.device_steps.specs.Step.{Machine, settled, early_of, refused_early, answer_of}
use Rattle.device_steps.specs.Fits.{FitMachine}
use Rattle.device_steps.proofs.Going.{Going, going, going_fits, spanned, read_after, write_after}

-- what holds of both sides of a test holds of the side that it picks
pub either : {A : Type 0} (P : A → Type 0) (a b : A) (t : Bool) → P a → P b → P (cond t a b)
either P a b true x y = x
either P a b false x y = y

-- nothing held fits whatever is awaited
pub empty_fits : (awaited : Awaited) → held_fits awaited [] ≡ true
unfolding held_fits progress_of
empty_fits (WakeUp pulse) = refl
empty_fits (Packet kind) = refl

-- an answer after which the machine fits: nothing is held any more
pub record Settles (p : Profile) (a : Answer) : Type 0 where
  pub none_held : a.state.held ≡ 0
  pub stage : stage_fits (areas_of p) (window_of p a.state) a.state.stage ≡ true

pub settled_fits : (p : Profile) (m : Machine) (bytes : List ℕ) (a : Answer) → Settles p a → FitMachine p (settled p m bytes a).machine
settled_fits p m bytes a s = record { count = s.none_held; held = empty_fits (awaits_of a.state.stage); stage = s.stage }

-- waking up
pub wake_settles : (p : Profile) (image : List ℕ) (st : State) (u : Pulse) (b : ℕ) → Settles p (wake_of p image st u b)
unfolding wake_of awake stage_fits
wake_settles p image st Zero b = either (Settles p) _ _ (eqb b 0x00) (record { none_held = refl; stage = refl }) (record { none_held = refl; stage = refl })
wake_settles p image st One b = either (Settles p) _ _ (eqb b 0x00) (record { none_held = refl; stage = refl }) (record { none_held = refl; stage = refl })
wake_settles p image st Acknowledged b =
    either (Settles p) _ _ (eqb b 0x55)
    (record {
      none_held = refl;
      stage =
          either (λ (s : Stage). stage_fits (areas_of p) (window_of p st) s ≡ true) Command Authentication (is_none (id_of (areas_of p) image)) refl refl;
    })
    (either (Settles p) _ _ (eqb b 0x00) (record { none_held = refl; stage = refl }) (record { none_held = refl; stage = refl }))

-- a length outside its range ends a transfer
pub early_settles : (p : Profile) (st : State) → Settles p (refused_early st)
unfolding stage_fits
early_settles p st = record { none_held = refl; stage = ends st.stage }
  where
    ends : (s : Stage) → stage_fits (areas_of p) (window_of p st) (early_of s).1 ≡ true
    ends (Setting u) = refl
    ends Authentication = refl
    ends Command = refl
    ends (Writing r) = refl
    ends (Reading r) = refl

-- what the answers of a device with an acceptable profile leave fits
module _ (p : Profile) (areas-sound : Ascending 0 (areas_of p)) (image : List ℕ) (st : State) where
  read_settles : (r : Range) → Going (areas_of p) (window_of p st) ToRead r → Settles p (read_packet p image st r)
  unfolding read_packet
  read_settles r g =
      record { none_held = refl; stage = read_after (areas_of p) areas-sound (window_of p st) r (read_count r) g (min-le_left r.left _) }

  entered_settles : (q : List ℕ) → Settles p (entered p st q)
  unfolding entered fresh_state stage_fits
  entered_settles q =
      either (Settles p) _ _ (total_erase st.id (info_of q)) (record { none_held = refl; stage = refl }) (record { none_held = refl; stage = refl })

  module _ (fits : stage_fits (areas_of p) (window_of p st) st.stage ≡ true) where
    grant_settles : (q : List ℕ) → first_fault (command_checks p st q) ≡ None → (cmd : Com) → com_of (code_at q) ≡ cmd → Settles p (grant_of p image st q cmd)
    unfolding grant_of stage_fits
    grant_settles q g Inquiry e = record { none_held = refl; stage = fits }
    grant_settles q g Erase e = record { none_held = refl; stage = fits }
    grant_settles q g Write e =
        record {
          none_held = refl;
          stage =
              going_fits (areas_of p) (window_of p st) ToWrite (span_of (sad_of q) (ead_of q))
              (spanned (areas_of p) areas-sound (window_of p st) ToWrite (sad_of q) (ead_of q) (granted_write p st q g e));
        }
    grant_settles q g Read e =
        read_settles (span_of (sad_of q) (ead_of q)) (spanned (areas_of p) areas-sound (window_of p st) ToRead (sad_of q) (ead_of q) (granted_read p st q g e))
    grant_settles q g Authenticate e = entered_settles q
    grant_settles q g Baud e = record { none_held = refl; stage = fits }
    grant_settles q g Signature e = record { none_held = refl; stage = fits }
    grant_settles q g Area e = record { none_held = refl; stage = fits }
    grant_settles q g Unknown e = record { none_held = refl; stage = fits }

    pub command_settles : (q : List ℕ) → Settles p (answer_command p image st q)
    unfolding answer_command decided
    command_settles q = go (verdict_of (first_fault (command_checks p st q))) refl
      where
        go : (v : Verdict) → verdict_of (first_fault (command_checks p st q)) ≡ v → Settles p (decided p image st q v)
        go (Ok tt) e = grant_settles q (granted_clear (first_fault (command_checks p st q)) e) (com_of (code_at q)) refl
        go (Err reason) e = record { none_held = refl; stage = fits }

  pub write_settles : (r : Range) → Going (areas_of p) (window_of p st) ToWrite r → (q : List ℕ) → Settles p (answer_write p image st r q)
  unfolding answer_write write_decided stage_fits
  write_settles r g q = go (verdict_of (first_fault (write_checks (areas_of p) image r q))) refl
    where
      go : (v : Verdict) → verdict_of (first_fault (write_checks (areas_of p) image r q)) ≡ v → Settles p (write_decided st r q v)
      go (Ok tt) e =
          let c = granted_clear (first_fault (write_checks (areas_of p) image r q)) e in
          record {
            none_held = refl;
            stage =
                write_after (areas_of p) areas-sound (window_of p st) r (info_count q) g (write_any (areas_of p) image r q c)
                (write_units (areas_of p) image r q c) (write_most (areas_of p) image r q c);
          }
      go (Err reason) e = record { none_held = refl; stage = refl }

  pub next_settles : (r : Range) → Going (areas_of p) (window_of p st) ToRead r → (q : List ℕ) → Settles p (answer_next p image st r q)
  unfolding answer_next next_decided stage_fits
  next_settles r g q = go (verdict_of (first_fault (next_checks q)))
    where
      go : (v : Verdict) → Settles p (next_decided p image st r v)
      go (Ok tt) = read_settles r g
      go (Err reason) = record { none_held = refl; stage = refl }

  -- whatever the stage awaits
  pub answer_settles : stage_fits (areas_of p) (window_of p st) st.stage ≡ true → (q : List ℕ) → Settles p (answer_of p image st st.stage q)
  unfolding stage_fits
  answer_settles fits q = go st.stage fits
    where
      go : (stage : Stage) → stage_fits (areas_of p) (window_of p st) stage ≡ true → Settles p (answer_of p image st stage q)
      go (Setting u) e = command_settles fits q
      go Authentication e = command_settles fits q
      go Command e = command_settles fits q
      go (Writing r) e = write_settles r (going (areas_of p) (window_of p st) ToWrite r e) q
      go (Reading r) e = next_settles r (going (areas_of p) (window_of p st) ToRead r e) q
