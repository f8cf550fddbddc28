-- What a replay from outside leaves, from what the start and the play of the recording answered. Assumes nothing.
use mathlib.Core.Bool.{true, false}
use mathlib.Core.List.{List, ◌++◌}
use mathlib.Core.Path.{◌≡◌, refl, sym, ap, ◌∙◌}
use Prim.Native.Nat.{ℕ}
use native.Mathlib.Omega.{arith}
use lib.ListN.{length}
use Rattle.profile.specs.declared.Profile.{Profile}
use Rattle.profile.specs.Areas.{areas_of}
use Rattle.recording.specs.declared.Extent.{Extent}
use Rattle.recording.specs.Recording.{records_of, ended_number}
use Rattle.record_exchange.specs.Line.{Entry, exchanges_of}
use Rattle.record_replay.specs.Replay.{replay}
use Rattle.record_replay.specs.Post.{Played}
use Rattle.state.specs.State.{zero_state}
use Rattle.device_calls.specs.declared.Started.{Started}
use Rattle.device_calls.specs.Calls.{number_of, is_accepted, start_refusal, started_by}
use Rattle.device_calls.proofs.Rows.{is_accepted_lem}
use Rattle.profile_bytes.specs.Profile.{profile_in}
use Rattle.std.specs.Prelude.{Ok}
use Rattle.interface_replay.specs.Post.{Replayed}

-- the refusal of the start with the profile in the bytes
module _ (profile recording before : List ℕ) (p : Profile) (q : p ≡ profile_in profile)
    (begun : Started) (e : begun ≡ started_by (start_refusal p (length before)) p zero_state) where
  first : begun.refusal ≡ start_refusal (profile_in profile) (length before)
  first = ap (λ (x : Started). x.refusal) e ∙ ap (λ (x : Profile). start_refusal x (length before)) q

  pub left : is_accepted begun.refusal ≡ false → (r : ℕ) → r ≡ number_of begun.refusal → Replayed profile recording before before r 0 0
  left f r m =
      let g : is_accepted (start_refusal (profile_in profile) (length before)) ≡ false = ap is_accepted (sym first) ∙ f in
      let never : start_refusal (profile_in profile) (length before) ≡ Ok tt → ⊥ =
      λ a. let both : false ≡ true = sym g ∙ ap is_accepted a in let z : ◌≡◌ {A = ℕ} 0 1 = cc in omega arith in
      record {
        number = m ∙ ap number_of first;
        image = simp g;
        count = simp g;
        why = simp g;
        own = λ ok es f i. absurd (never ok);
        strays = λ ok a b stray h i. absurd (never ok);
      }

  pub replayed : is_accepted begun.refusal ≡ true → (after : List ℕ) (extent : Extent) → Played p recording before after extent
      → (ended : ℕ) → ended ≡ ended_number extent.ended → Replayed profile recording before after 0 extent.count ended
  replayed t after extent played ended n =
      let a : start_refusal (profile_in profile) (length before) ≡ (Ok tt) = sym first ∙ is_accepted_lem begun.refusal t in
      let same : (es : List Entry) → replay (areas_of p) before es ≡ replay (areas_of (profile_in profile)) before es =
      λ es. ap (λ (x : Profile). replay (areas_of x) before es) q in
      record {
        number = rw a refl;
        image = rw a (played.image ∙ same (exchanges_of (records_of recording)));
        count = rw a (ap (λ (x : Extent). x.count) played.read);
        why = rw a (n ∙ ap (λ (x : Extent). ended_number x.ended) played.read);
        own = λ ok es f i. played.own es f i ∙ same es;
        strays = λ ok k l stray h i. played.strays k l stray h i ∙ same (exchanges_of (k ++ l));
      }
