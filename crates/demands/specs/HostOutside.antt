-- The host's end for callers in C: what each number tells, and that calls one behind the other are one judge.
use Rattle.std.specs.Prelude.{List, ◌↔◌, ◌≡◌, ℕ, ◌<◌, replicate, None, Some, Ok, Err}
use Rattle.numbers.specs.Bytes.{AllBytes}
use Rattle.host_request.specs.declared.Request.{Request}
use Rattle.host_request.specs.declared.Unbuilt.{Unbuilt}
use Rattle.host_judge.specs.declared.Judgement.{Judgement}
use Rattle.host_judge.specs.Reply.{judgement_of, judgement_number}
use Rattle.host_judge.specs.Judge.{taken_of}
use Rattle.host_judge.specs.Meaning.{joined}
use Rattle.host_bytes.specs.Requests.{request_in}
use Rattle.host_bytes.specs.Judges.{judge_length, judge_in}
use Rattle.interface_host.specs.Post.{unbuilt_number, no_request_number, no_judge_number, BuildsBytes, BeginsBytes, TakesBytes, verdict_number}
use Rattle.interface_host.specs.Told.{BuildsAs, BeginsAs, JudgeHas, TakenAll}

pub record HostOutside : Type 0 where
  -- building answers 1 exactly where the packet was built, with its length; otherwise why not, with a length of 0, and the buffer stays
  pub build : (request first second : ℕ) (bytes before after : List ℕ) (r count : ℕ) → BuildsBytes request first second bytes before after r count
      → (r ≡ 1) ↔ BuildsAs request first second bytes before after (Ok count)
  pub build_refused : (request first second : ℕ) (bytes before after : List ℕ) (r count : ℕ) → BuildsBytes request first second bytes before after r count
      → (why : Unbuilt) → (r ≡ unbuilt_number why) ↔ BuildsAs request first second bytes before after (Err why)
  pub build_unasked : (request first second : ℕ) (bytes before after : List ℕ) (r count : ℕ) → BuildsBytes request first second bytes before after r count
      → (r ≡ no_request_number) ↔ (request_in request first second ≡ None)
  pub build_stays : (request first second : ℕ) (bytes before after : List ℕ) (r count : ℕ) → BuildsBytes request first second bytes before after r count
      → (r ≡ 1 → ⊥) → (count ≡ 0) × (after ≡ before)
  -- beginning answers 1 exactly where a judge was begun; otherwise the bytes stay
  pub begin : (request first second : ℕ) (before after : List ℕ) (r : ℕ) → BeginsBytes request first second before after r
      → (r ≡ 1) ↔ BeginsAs request first second before after
  pub begin_stays : (request first second : ℕ) (before after : List ℕ) (r : ℕ) → BeginsBytes request first second before after r
      → (r ≡ 1 → ⊥) → after ≡ before
  -- neither ever answers 0
  pub build_answers : (request first second : ℕ) (bytes before after : List ℕ) (r count : ℕ) → BuildsBytes request first second bytes before after r count
      → 0 < r
  pub begin_answers : (request first second : ℕ) (before after : List ℕ) (r : ℕ) → BeginsBytes request first second before after r → 0 < r
  -- taking answers a verdict's number exactly where the bytes were a judge that says it behind what it was given; asking, where they are one that says it
  pub take : (bytes before after : List ℕ) (r taken from to : ℕ) → TakesBytes bytes before after r taken from to
      → (v : Judgement) → (r ≡ judgement_number v) ↔ JudgeHas (λ j. (taken_of j bytes).judge.judgement) before v
  pub verdict : (judge : List ℕ) (v : Judgement) → (verdict_number judge ≡ judgement_number v) ↔ JudgeHas (λ j. j.judgement) judge v
  -- and 3 exactly where they are no judge, as bytes are that were only cleared
  pub take_none : (bytes before after : List ℕ) (r taken from to : ℕ) → TakesBytes bytes before after r taken from to
      → (r ≡ no_judge_number) ↔ (judge_in before ≡ None)
  pub verdict_none : (judge : List ℕ) → (verdict_number judge ≡ no_judge_number) ↔ (judge_in judge ≡ None)
  pub cleared : judge_in (replicate judge_length 0) ≡ None
  -- a judge that was begun, and given bytes by calls one behind the other, says what all of them together say to its request
  pub calls : (request first second : ℕ) → first < 4294967296 → second < 4294967296 → (before start : List ℕ)
      → BeginsBytes request first second before start 1 → (cuts : List (List ℕ)) (last : List ℕ) → TakenAll cuts start last → AllBytes (joined cuts)
      → (r : Request) → request_in request first second ≡ Some r → verdict_number last ≡ judgement_number (judgement_of r (joined cuts))
