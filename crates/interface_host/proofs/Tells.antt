-- No second outcome meets the promises, and the numbers tell what was built, begun, taken and judged. Assumes nothing.
use mathlib.Core.Bool.{cond}
use mathlib.Core.List.{List}
use mathlib.Core.Logic.{◌↔◌}
use Rattle.std.specs.Prelude.{Option, None, Some, Result, Ok, Err}
use mathlib.Core.Path.{◌≡◌, refl, sym, ap, subst, ◌∙◌}
use Prim.Native.Nat.{ℕ, ◌<◌}
use native.Mathlib.Omega.{arith}
use lib.Dec.{eqb}
use Rattle.verdict.proofs.OneAnswer.{one_answer}
use Rattle.host_request.specs.declared.Unbuilt.{Unbuilt}
use Rattle.host_request.specs.declared.Unbuilt.TheVariants.{WrongAmount, NothingLeft, NoRoom}
use Rattle.host_request.specs.Request.{packet_for}
use Rattle.host_request.specs.Build.{unbuilt, built_by}
use Rattle.host_request.proofs.Outcome.{unbuilt_leaves}
use Rattle.host_judge.specs.declared.Judgement.{Judgement}
use Rattle.host_judge.specs.declared.Judgement.TheVariants.{Unanswered, Passed, Refused, WrongReply}
use Rattle.host_judge.specs.declared.Judge.{Judge}
use Rattle.host_judge.specs.Reply.{judgement_number}
use Rattle.host_judge.specs.Judge.{taken_of}
use Rattle.host_judge.proofs.Exactly.{judgement_one_number}
use Rattle.host_bytes.specs.Requests.{request_in}
use Rattle.host_bytes.specs.Judges.{head_in, judge_by, judge_in}
use Rattle.interface_host.specs.Post.{unbuilt_number, built_number, built_length, no_request_number, no_judge_number, builds_number, builds_length, builds_over, BuildsBytes, BeginsBytes, takes_number, TakesBytes, verdict_by, verdict_number}
use Rattle.host_request.specs.declared.Request.{Request}
use Rattle.interface_host.specs.Told.{BuildsAs, JudgeHas}

-- one outcome of building
pub builds_bytes_once : {request first second : ℕ} {bytes before after after' : List ℕ} {r r' count count' : ℕ}
    → BuildsBytes request first second bytes before after r count → BuildsBytes request first second bytes before after' r' count'
    → (r ≡ r') × (count ≡ count') × (after ≡ after')
builds_bytes_once a b = (one_answer a.number b.number, one_answer a.amount b.amount, one_answer a.leaves b.leaves)

-- one of beginning
pub begins_bytes_once : {request first second : ℕ} {before after after' : List ℕ} {r r' : ℕ}
    → BeginsBytes request first second before after r → BeginsBytes request first second before after' r' → (r ≡ r') × (after ≡ after')
begins_bytes_once a b = (one_answer a.number b.number, one_answer a.leaves b.leaves)

-- one of taking
pub takes_bytes_once : {bytes before after after' : List ℕ} {r r' taken taken' from from' to to' : ℕ}
    → TakesBytes bytes before after r taken from to → TakesBytes bytes before after' r' taken' from' to'
    → (r ≡ r') × (taken ≡ taken') × (from ≡ from') × (to ≡ to') × (after ≡ after')
takes_bytes_once a b = (
  one_answer a.number b.number,
  one_answer a.amount b.amount,
  one_answer a.first b.first,
  one_answer a.behind b.behind,
  one_answer a.leaves b.leaves,
)

-- why nothing was built has a number of its own: 2, 3 or 4
unbuilt_between : (why : Unbuilt) → (1 < unbuilt_number why) × (unbuilt_number why < 5)
unbuilt_between WrongAmount = (omega arith, omega arith)
unbuilt_between NothingLeft = (omega arith, omega arith)
unbuilt_between NoRoom = (omega arith, omega arith)

unbuilt_once : (why other : Unbuilt) → unbuilt_number why ≡ unbuilt_number other → why ≡ other
unbuilt_once why other e = sym (back why) ∙ ap named e ∙ back other
  where
    named : ℕ → Unbuilt
    named n = cond (eqb n 2) WrongAmount (cond (eqb n 3) NothingLeft NoRoom)

    back : (w : Unbuilt) → named (unbuilt_number w) ≡ w
    back WrongAmount = refl
    back NothingLeft = refl
    back NoRoom = refl

-- what was built, by its number
module _ (request first second : ℕ) (bytes before after : List ℕ) (r count : ℕ)
    (told : BuildsBytes request first second bytes before after r count) where
  -- either the numbers are no request, or building the one that they are gave an answer
  built_by_lem : {P : Type 0} → (request_in request first second ≡ None → r ≡ 5 → (count ≡ 0) × (after ≡ before) → P)
      → ((x : Result ℕ Unbuilt) → BuildsAs request first second bytes before after x → r ≡ built_number x → count ≡ built_length x → P) → P
  built_by_lem {P} unasked asked = by (request_in request first second) refl
    where
      by : (x : Option Request) → request_in request first second ≡ x → P
      by None e =
          unasked e (told.number ∙ ap (λ (y : Option Request). builds_number y bytes before) e) (
            told.amount ∙ ap (λ (y : Option Request). builds_length y bytes before) e,
            told.leaves ∙ ap (λ (y : Option Request). builds_over y bytes before) e,
          )
      by (Some q) e =
          asked
          (built_by (unbuilt q bytes before) (packet_for q bytes))
          (record {
            asked = q;
            is = e;
            builds = record { answers = refl; leaves = told.leaves ∙ ap (λ (y : Option Request). builds_over y bytes before) e };
          })
          (told.number ∙ ap (λ (y : Option Request). builds_number y bytes before) e)
          (told.amount ∙ ap (λ (y : Option Request). builds_length y bytes before) e)

  -- the number is that of the answer
  number_as : (x : Result ℕ Unbuilt) → BuildsAs request first second bytes before after x → r ≡ built_number x
  number_as x h = told.number ∙ ap (λ (y : Option Request). builds_number y bytes before) h.is ∙ ap built_number (sym h.builds.answers)

  -- 1 exactly where the packet was built, in so many bytes
  pub built_told : (r ≡ 1) ↔ BuildsAs request first second bytes before after (Ok count)
  built_told = (λ e. built_by_lem (λ _ n _. absurd (omega arith)) (by e), number_as (Ok count))
    where
      by : r ≡ 1 → (x : Result ℕ Unbuilt) → BuildsAs request first second bytes before after x → r ≡ built_number x → count ≡ built_length x
          → BuildsAs request first second bytes before after (Ok count)
      by e (Ok n) h k m = subst (λ (x : ℕ). BuildsAs request first second bytes before after (Ok x)) (sym m) h
      by e (Err why) h k m = absurd (omega (arith, unbuilt_between why))

  -- 2, 3 and 4 exactly where it was not, each for its reason
  pub unbuilt_told : (why : Unbuilt) → (r ≡ unbuilt_number why) ↔ BuildsAs request first second bytes before after (Err why)
  unbuilt_told why = (λ e. built_by_lem (λ _ n _. absurd (omega (arith, unbuilt_between why))) (by e), number_as (Err why))
    where
      by : r ≡ unbuilt_number why → (x : Result ℕ Unbuilt) → BuildsAs request first second bytes before after x → r ≡ built_number x → count ≡ built_length x
          → BuildsAs request first second bytes before after (Err why)
      by e (Ok n) h k m = absurd (omega (arith, unbuilt_between why))
      by e (Err other) h k m =
          subst (λ (w : Unbuilt). BuildsAs request first second bytes before after (Err w)) (unbuilt_once other why (sym k ∙ e)) h

  -- 5 exactly where the numbers are no request
  pub unasked_told : (r ≡ no_request_number) ↔ (request_in request first second ≡ None)
  unasked_told = (λ e. built_by_lem (λ k _ _. k) (by e), λ e. told.number ∙ ap (λ (y : Option Request). builds_number y bytes before) e)
    where
      by : r ≡ 5 → (x : Result ℕ Unbuilt) → BuildsAs request first second bytes before after x → r ≡ built_number x → count ≡ built_length x
          → request_in request first second ≡ None
      by e (Ok n) h k m = absurd (omega arith)
      by e (Err why) h k m = absurd (omega (arith, unbuilt_between why))

  -- where nothing was built the length is 0 and the buffer stays
  pub unbuilt_stays : (r ≡ 1 → ⊥) → (count ≡ 0) × (after ≡ before)
  unbuilt_stays none-built = built_by_lem (λ _ _ stays. stays) by
    where
      by : (x : Result ℕ Unbuilt) → BuildsAs request first second bytes before after x → r ≡ built_number x → count ≡ built_length x
          → (count ≡ 0) × (after ≡ before)
      by (Ok n) h k m = absurd (none-built k)
      by (Err why) h k m = (m, unbuilt_leaves h.asked bytes before after (Err why) h.builds why refl)

  -- never 0
  pub building_answered : 0 < r
  building_answered = built_by_lem (λ _ n _. omega arith) by
    where
      by : (x : Result ℕ Unbuilt) → BuildsAs request first second bytes before after x → r ≡ built_number x → count ≡ built_length x → 0 < r
      by (Ok n) h k m = omega arith
      by (Err why) h k m = omega (arith, unbuilt_between why)

-- no verdict's number is that of bytes that are no judge
verdict_apart : (v : Judgement) → judgement_number v ≡ no_judge_number → ⊥
verdict_apart Unanswered e = omega arith
verdict_apart Passed e = omega arith
verdict_apart (Refused code) e = omega arith
verdict_apart WrongReply e = omega arith

-- a number for that verdict of what the bytes are
abbrev number_by : (Judge → Judgement) → Option Judge → ℕ
number_by verdict None = no_judge_number
number_by verdict (Some j) = judgement_number (verdict j)

module _ (verdict : Judge → Judgement) (bs : List ℕ) (r : ℕ) (number : r ≡ number_by verdict (judge_in bs)) where
  -- is a verdict's exactly where the bytes are a judge with it
  number_of : (v : Judgement) → (r ≡ judgement_number v) ↔ JudgeHas verdict bs v
  number_of v = (λ e. by (judge_in bs) refl (sym number ∙ e), λ h. number ∙ ap (number_by verdict) h.there ∙ ap judgement_number h.has)
    where
      by : (x : Option Judge) → judge_in bs ≡ x → number_by verdict x ≡ judgement_number v → JudgeHas verdict bs v
      by None e k = absurd (verdict_apart v (sym k))
      by (Some j) e k = record { judge = j; there = e; has = judgement_one_number (verdict j) v k }

  -- and 3 exactly where they are none
  number_none : (r ≡ no_judge_number) ↔ (judge_in bs ≡ None)
  number_none = (λ e. by (judge_in bs) (sym number ∙ e), λ e. number ∙ ap (number_by verdict) e)
    where
      by : (x : Option Judge) → number_by verdict x ≡ no_judge_number → x ≡ None
      by None k = refl
      by (Some j) k = absurd (verdict_apart (verdict j) k)

-- asking: the verdict of the judge in the bytes
module _ (bs : List ℕ) where
  asks : verdict_number bs ≡ number_by (λ j. j.judgement) (judge_in bs)
  asks = by (head_in bs)
    where
      by : (x : Option (Request × Judgement)) → verdict_by x ≡ number_by (λ j. j.judgement) (judge_by bs x)
      by None = refl
      by (Some (q, v)) = refl

  -- 0 exactly of an unanswered judge, 1 of a passed one, 2 of a wrong reply, 256 and the code of a refusal
  pub verdict_told : (v : Judgement) → (verdict_number bs ≡ judgement_number v) ↔ JudgeHas (λ j. j.judgement) bs v
  verdict_told = number_of (λ j. j.judgement) bs (verdict_number bs) asks

  -- 3 exactly of bytes that are no judge
  pub unjudged_told : (verdict_number bs ≡ no_judge_number) ↔ (judge_in bs ≡ None)
  unjudged_told = number_none (λ j. j.judgement) bs (verdict_number bs) asks

-- taking: the verdict behind the bytes
module _ (bytes before after : List ℕ) (r taken from to : ℕ) (told : TakesBytes bytes before after r taken from to) where
  takes : r ≡ number_by (λ j. (taken_of j bytes).judge.judgement) (judge_in before)
  takes = told.number ∙ by (head_in before)
    where
      by : (x : Option (Request × Judgement)) → takes_number x bytes before ≡ number_by (λ j. (taken_of j bytes).judge.judgement) (judge_by before x)
      by None = refl
      by (Some (q, v)) = refl

  -- the same numbers, of the judge behind the bytes
  pub taken_told : (v : Judgement) → (r ≡ judgement_number v) ↔ JudgeHas (λ j. (taken_of j bytes).judge.judgement) before v
  taken_told = number_of (λ j. (taken_of j bytes).judge.judgement) before r takes

  -- 3 exactly where the bytes were no judge
  pub untaken_told : (r ≡ no_judge_number) ↔ (judge_in before ≡ None)
  untaken_told = number_none (λ j. (taken_of j bytes).judge.judgement) before r takes
