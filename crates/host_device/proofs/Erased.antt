-- What is asked of a write into blank flash can be met: by a device that awaits commands with all of its flash erased. Assumes nothing.
use mathlib.Core.List.{List, []}
use mathlib.Core.Path.{◌≡◌, refl, sym, ◌∙◌}
use Prim.Native.Nat.{ℕ, ◌+◌, ◌-◌, ◌<◌}
use native.Mathlib.Omega.{arith}
use lib.ListN.{length, replicate, length-replicate, get_or-replicate}
use lib.Seq.{ext_get_or}
use Rattle.verdict.specs.Check.{first_fault}
use Rattle.profile.specs.declared.Profile.{Profile}
use Rattle.profile.specs.Areas.{areas_of, total_of, entries, inside}
use Rattle.profile.specs.Places.{place_from, place_of, offset_in}
use Rattle.profile.specs.Bench.{bench}
use Rattle.profile_rules.specs.Rules.{Accepted}
use Rattle.profile_ranges.specs.declared.Purpose.TheVariants.{Write as ToWrite}
use Rattle.profile_ranges.specs.Ranges.{Permitted, unit_checks, limited, window_checks, change_checks, purpose_checks, end_checks, range_checks}
use Rattle.flash.specs.Effects.{fetched}
use Rattle.flash.proofs.ByAddress.{fetched_whole}
use Rattle.flash_blank.proofs.Found.{AllBlank}
use Rattle.state.specs.declared.Stage.TheVariants.{Command}
use Rattle.state.specs.declared.State.{State}
use Rattle.state.specs.State.{fresh_state, window_of}
use Rattle.answer.specs.Answer.{moved}
use Rattle.device_steps.specs.Step.{Machine}
use Rattle.host_device.specs.Writing.{Blank, Within}
use Rattle.host_device.proofs.Stored.{BlankFrom, in_image, fetched_blank}
use Rattle.host_device.proofs.Target.{Target, target}
use Rattle.host_device.proofs.Writing.{within}
use Rattle.std.specs.Prelude.{Some}
use Rattle.host_device.proofs.Examples.{bench_accepted}

-- all of the flash, erased
abbrev pub erased_image : Profile → List ℕ
erased_image p = replicate (total_of (areas_of p)) 0xFF

-- it has the areas' length
erased_whole : (p : Profile) → length (erased_image p) ≡ total_of (areas_of p)
erased_whole p = length-replicate (total_of (areas_of p)) 0xFF

-- a device in this state that holds nothing, with all of its flash erased
abbrev pub erased_device : Profile → State → Machine
erased_device p st = record { image = erased_image p; held = []; state = st }

-- bytes that are all blank are FFh alone
all_blank_lem : (n : ℕ) (l : List ℕ) → length l ≡ n → AllBlank l → l ≡ replicate n 0xFF
all_blank_lem n l count blank =
    ext_get_or 0 l (replicate n 0xFF) (count ∙ sym (length-replicate n 0xFF))
    (λ k h. blank k h ∙ sym (get_or-replicate n k 0xFF 0 (omega arith)))

-- a range of one area
module _ (p : Profile) (s e : ℕ) (t : Target p s e) where
  -- each address of the range is blank
  erased_from : BlankFrom t.spot (erased_image p) s e
  erased_from x from to =
      let there : offset_in t.spot x < length (erased_image p) =
      in_image (areas_of p) t.spot t.same s e t.low t.order t.high (erased_image p) (erased_whole p) x from to in
      get_or-replicate (total_of (areas_of p)) (offset_in t.spot x) 0xFF 0 (omega (arith, there, erased_whole p))

  -- so it is fetched as FFh alone, as many as were asked for
  erased_fetched : fetched (areas_of p) s (e + 1 - s) (erased_image p) ≡ replicate (e + 1 - s) 0xFF
  erased_fetched =
      let found : place_of (areas_of p) s ≡ Some t.spot = t.same s t.low (omega (arith, t.order, t.high)) in
      all_blank_lem (e + 1 - s) (fetched (areas_of p) s (e + 1 - s) (erased_image p))
      (fetched_whole (areas_of p) s (e + 1 - s) (erased_image p) t.spot found (erased_whole p) (omega (arith, t.order, t.high)))
      (fetched_blank (areas_of p) t.spot t.same s e t.low t.order t.high (erased_image p) (erased_whole p) (e + 1 - s)
      (omega (arith, t.order)) erased_from)

-- a permitted write to a device that awaits commands
module _ (p : Profile) (accepted : Accepted p) (st : State) (stage : st.stage ≡ Command) (none_held : st.held ≡ 0) (s e : ℕ)
    (permitted : Permitted (areas_of p) (window_of p st) ToWrite s e) (bytes : List ℕ) (amount : length bytes ≡ e + 1 - s) where
  -- is one into blank flash
  pub erased_blank : Blank p (erased_device p st) s e bytes
  erased_blank =
      record {
        profile = accepted;
        image = erased_whole p;
        stage = stage;
        idle = refl;
        count = none_held;
        permitted = permitted;
        amount = amount;
        blank = erased_fetched p s e (target p accepted (window_of p st) s e permitted);
      }

  -- and comes to its end as planned
  pub erased_within : Within p (erased_device p st) s e bytes
  erased_within = within p (erased_device p st) s e bytes erased_blank

-- the state of a fresh device of the bench profile that has come to await commands
abbrev pub bench_awaits : State
bench_awaits = moved Command (fresh_state bench)

-- the first 128 addresses may be written in it
pub bench_permits : Permitted (areas_of bench) (window_of bench bench_awaits) ToWrite 0 0x7F
unfolding Permitted range_checks end_checks purpose_checks change_checks unit_checks window_checks limited entries inside place_from first_fault
bench_permits = refl

-- so any 128 bytes are written there as planned, where all of the flash is erased
pub bench_within : (bytes : List ℕ) → length bytes ≡ 128 → Within bench (erased_device bench bench_awaits) 0 0x7F bytes
bench_within bytes amount = erased_within bench bench_accepted bench_awaits refl refl 0 0x7F bench_permits bytes amount
