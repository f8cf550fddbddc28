-- What building, beginning and taking from outside leave, from what the parts answered. Assumes nothing.
use mathlib.Core.List.{List}
use mathlib.Core.Path.{◌≡◌, refl, sym, ap, ◌∙◌}
use Prim.Native.Nat.{ℕ}
use lib.ListN.{length}
use borrow.Author.Tests.{eq-eqb, ne_eqb}
use Rattle.host_request.specs.declared.Request.{Request}
use Rattle.host_request.specs.Build.{Builds}
use Rattle.host_judge.specs.declared.Judgement.{Judgement}
use Rattle.host_judge.specs.declared.Judge.{Judge}
use Rattle.host_judge.specs.declared.Taken.{Taken}
use Rattle.host_judge.specs.Reply.{judgement_number}
use Rattle.host_judge.specs.Judge.{fresh_judge, taken_of}
use Rattle.host_bytes.specs.Requests.{request_in}
use Rattle.host_bytes.specs.Judges.{judge_length, head_in, judge_with, judge_over}
use Rattle.std.specs.Prelude.{Option, Result, Some, None, Ok, Err}
use Rattle.std.specs.Result.{result_unwrap_or}
use Rattle.host_request.specs.declared.Unbuilt.{Unbuilt}
use Rattle.interface_host.specs.Post.{built_number, built_length, BuildsBytes, BeginsBytes, TakesBytes}

-- the length of what was built, or 0
pub length_or_none : (x : Result ℕ Unbuilt) → result_unwrap_or x 0 ≡ built_length x
length_or_none (Ok n) = refl
length_or_none (Err why) = refl

-- three numbers, by the request that was told from them
module _ (request first second : ℕ) {told : Option Request} (from : told ≡ request_in request first second) where
  -- they are no request: nothing is built, and nothing begun
  pub unasked_builds : told ≡ None → (bytes before : List ℕ) → BuildsBytes request first second bytes before before 5 0
  unasked_builds e bytes before =
      let k : request_in request first second ≡ None = sym from ∙ e in
      record { number = rw k refl; amount = rw k refl; leaves = rw k refl }

  pub unasked_begins : told ≡ None → (before : List ℕ) → BeginsBytes request first second before before 5
  unasked_begins e before =
      let k : request_in request first second ≡ None = sym from ∙ e in
      record { number = rw k refl; leaves = rw k refl }

  module _ {r : Request} (asked : told ≡ Some r) where
    -- which request they are
    are : request_in request first second ≡ Some r
    are = sym from ∙ asked

    -- building answered
    pub asked_builds : {bytes before after : List ℕ} {x : Result ℕ Unbuilt} {n count : ℕ} → Builds r bytes before after x → n ≡ built_number x
        → count ≡ built_length x → BuildsBytes request first second bytes before after n count
    asked_builds b p q =
        record {
          number = rw are (p ∙ ap built_number b.answers);
          amount = rw are (q ∙ ap built_length b.answers);
          leaves = rw are b.leaves;
        }

    -- too few bytes were lent for a judge, or too many
    pub unfit_begins : (before : List ℕ) → (length before ≡ judge_length → ⊥) → BeginsBytes request first second before before 6
    unfit_begins before h =
        record { number = rw (are, ne_eqb (length before) judge_length h) refl; leaves = rw (are, ne_eqb (length before) judge_length h) refl }

    -- a fresh judge was written
    pub asked_begins : {before after : List ℕ} {j : Judge} → length before ≡ judge_length → j ≡ fresh_judge r → after ≡ judge_over j before
        → BeginsBytes request first second before after 1
    asked_begins {before} h p q =
        record {
          number = rw (are, eq-eqb (length before) judge_length h) refl;
          leaves = rw are (q ∙ ap (λ (x : Judge). judge_over x before) p);
        }

-- a judge's bytes, by what they were told to begin with
module _ (bytes before : List ℕ) {told : Option (Request × Judgement)} (from : told ≡ head_in before) where
  -- they are no judge: nothing is taken
  pub unjudged_takes : told ≡ None → TakesBytes bytes before before 3 0 0 0
  unjudged_takes e =
      let k : head_in before ≡ None = sym from ∙ e in
      record { number = rw k refl; amount = rw k refl; first = rw k refl; behind = rw k refl; leaves = rw k refl }

  -- the judge in them took bytes, and was written back
  pub judge_takes : {r : Request} {v : Judgement} {j : Judge} {x : Taken} {after : List ℕ} {n : ℕ} → told ≡ Some (r, v) → j ≡ judge_with before r v
      → x ≡ taken_of j bytes → after ≡ judge_over x.judge before → n ≡ judgement_number x.judge.judgement
      → TakesBytes bytes before after n x.count x.from x.to
  judge_takes {r} {v} {j} {x} e p q o a =
      let k : head_in before ≡ Some (r, v) = sym from ∙ e in
      let t : x ≡ taken_of (judge_with before r v) bytes = q ∙ ap (λ (y : Judge). taken_of y bytes) p in
      record {
        number = rw k (a ∙ ap (λ (y : Taken). judgement_number y.judge.judgement) t);
        amount = rw k (ap (λ (y : Taken). y.count) t);
        first = rw k (ap (λ (y : Taken). y.from) t);
        behind = rw k (ap (λ (y : Taken). y.to) t);
        leaves = rw k (o ∙ ap (λ (y : Taken). judge_over y.judge before) t);
      }
