-- What building a request and judging its replies from outside leave, by name.
use Rattle.host_judge.specs.declared.Judgement.{Judgement}
use Rattle.std.specs.Prelude.{cond, List, ◌≡◌, ℕ, length, eqb, Option, Result, Some, None, Ok, Err}
use Rattle.host_request.specs.declared.Unbuilt.{Unbuilt}
use Rattle.host_request.specs.declared.Unbuilt.TheVariants.{WrongAmount, NothingLeft, NoRoom}
use Rattle.host_request.specs.Request.{packet_for}
use Rattle.host_request.specs.Build.{unbuilt, built_by, placed_by}
use Rattle.host_judge.specs.Reply.{judgement_number}
use Rattle.host_judge.specs.Judge.{fresh_judge, taken_of}
use Rattle.host_bytes.specs.Requests.{request_in}
use Rattle.host_request.specs.declared.Request.{Request}
use Rattle.host_bytes.specs.Judges.{judge_length, head_in, judge_with, judge_over}

-- numbers of what building and beginning answer; none is 0
abbrev pub unbuilt_number : Unbuilt → ℕ
unbuilt_number WrongAmount = 2
unbuilt_number NothingLeft = 3
unbuilt_number NoRoom = 4

abbrev pub built_number : Result ℕ Unbuilt → ℕ
built_number (Ok n) = 1
built_number (Err why) = unbuilt_number why

abbrev pub built_length : Result ℕ Unbuilt → ℕ
built_length (Ok n) = n
built_length (Err why) = 0

-- the numbers are no request; the bytes are not as many as a judge has
abbrev pub no_request_number : ℕ
no_request_number = 5

abbrev pub wrong_length_number : ℕ
wrong_length_number = 6

-- bytes that are no judge have no verdict
abbrev pub no_judge_number : ℕ
no_judge_number = 3

-- building, of what the numbers say
abbrev pub builds_number : Option Request → List ℕ → List ℕ → ℕ
builds_number None bytes before = no_request_number
builds_number (Some r) bytes before = built_number (built_by (unbuilt r bytes before) (packet_for r bytes))

abbrev pub builds_length : Option Request → List ℕ → List ℕ → ℕ
builds_length None bytes before = 0
builds_length (Some r) bytes before = built_length (built_by (unbuilt r bytes before) (packet_for r bytes))

abbrev pub builds_over : Option Request → List ℕ → List ℕ → List ℕ
builds_over None bytes before = before
builds_over (Some r) bytes before = placed_by (unbuilt r bytes before) (packet_for r bytes) before

pub record BuildsBytes (request first second : ℕ) (bytes before after : List ℕ) (r count : ℕ) : Type 0 where
  pub number : r ≡ builds_number (request_in request first second) bytes before
  pub amount : count ≡ builds_length (request_in request first second) bytes before
  pub leaves : after ≡ builds_over (request_in request first second) bytes before

-- beginning: a request first, then the length
abbrev pub begins_number : Option Request → List ℕ → ℕ
begins_number None before = no_request_number
begins_number (Some r) before = cond (eqb (length before) judge_length) 1 wrong_length_number

abbrev pub begins_over : Option Request → List ℕ → List ℕ
begins_over None before = before
begins_over (Some r) before = judge_over (fresh_judge r) before

pub record BeginsBytes (request first second : ℕ) (before after : List ℕ) (r : ℕ) : Type 0 where
  pub number : r ≡ begins_number (request_in request first second) before
  pub leaves : after ≡ begins_over (request_in request first second) before

-- taking bytes, of what the judge's bytes begin with
abbrev pub takes_number : Option (Request × Judgement) → List ℕ → List ℕ → ℕ
takes_number None bytes before = no_judge_number
takes_number (Some (r, v)) bytes before = judgement_number (taken_of (judge_with before r v) bytes).judge.judgement

abbrev pub takes_count : Option (Request × Judgement) → List ℕ → List ℕ → ℕ
takes_count None bytes before = 0
takes_count (Some (r, v)) bytes before = (taken_of (judge_with before r v) bytes).count

abbrev pub takes_from : Option (Request × Judgement) → List ℕ → List ℕ → ℕ
takes_from None bytes before = 0
takes_from (Some (r, v)) bytes before = (taken_of (judge_with before r v) bytes).from

abbrev pub takes_to : Option (Request × Judgement) → List ℕ → List ℕ → ℕ
takes_to None bytes before = 0
takes_to (Some (r, v)) bytes before = (taken_of (judge_with before r v) bytes).to

abbrev pub takes_over : Option (Request × Judgement) → List ℕ → List ℕ → List ℕ
takes_over None bytes before = before
takes_over (Some (r, v)) bytes before = judge_over (taken_of (judge_with before r v) bytes).judge before

pub record TakesBytes (bytes before after : List ℕ) (r taken from to : ℕ) : Type 0 where
  pub number : r ≡ takes_number (head_in before) bytes before
  pub amount : taken ≡ takes_count (head_in before) bytes before
  pub first : from ≡ takes_from (head_in before) bytes before
  pub behind : to ≡ takes_to (head_in before) bytes before
  pub leaves : after ≡ takes_over (head_in before) bytes before

-- asking
abbrev pub verdict_by : Option (Request × Judgement) → ℕ
verdict_by None = no_judge_number
verdict_by (Some (r, v)) = judgement_number v

abbrev pub verdict_number : List ℕ → ℕ
verdict_number judge = verdict_by (head_in judge)
