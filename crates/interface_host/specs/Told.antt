-- What the numbers of the host's end tell a caller: the laws in proofs/Tells, proofs/Begun and proofs/Lasting are said
-- in these words.
use Rattle.std.specs.Prelude.{List, [], ◌∷◌, ◌≡◌, ℕ, length, Some, Result}
use Rattle.host_request.specs.declared.Request.{Request}
use Rattle.host_request.specs.Build.{Builds}
use Rattle.host_judge.specs.declared.Judgement.{Judgement}
use Rattle.host_judge.specs.declared.Judge.{Judge}
use Rattle.host_judge.specs.Judge.{fresh_judge}
use Rattle.host_bytes.specs.Requests.{request_in}
use Rattle.host_bytes.specs.Judges.{judge_length, judge_bytes, judge_in}
use Rattle.host_request.specs.declared.Unbuilt.{Unbuilt}
use Rattle.interface_host.specs.Post.{TakesBytes}

-- the numbers are a request, and building it answers x
pub record BuildsAs (request first second : ℕ) (bytes before after : List ℕ) (x : Result ℕ Unbuilt) : Type 0 where
  pub asked : Request
  pub is : request_in request first second ≡ Some asked
  pub builds : Builds asked bytes before after x

-- the numbers are a request, there are as many bytes as a judge has, and they became a fresh judge of it
pub record BeginsAs (request first second : ℕ) (before after : List ℕ) : Type 0 where
  pub asked : Request
  pub is : request_in request first second ≡ Some asked
  pub whole : length before ≡ judge_length
  pub leaves : after ≡ judge_bytes (fresh_judge asked)

-- the bytes are a judge, of which `verdict` is v
pub record JudgeHas (verdict : Judge → Judgement) (bs : List ℕ) (v : Judgement) : Type 0 where
  pub judge : Judge
  pub there : judge_in bs ≡ Some judge
  pub has : verdict judge ≡ v

-- calls of taking, one behind the other on the bytes of one judge: what each was given, the judge's bytes before the first and behind the last
pub data TakenAll : List (List ℕ) → List ℕ → List ℕ → Type 0 where
  none_taken : {judge : List ℕ} → TakenAll [] judge judge
  next_taken : {cut : List ℕ} {cuts : List (List ℕ)} {before between after : List ℕ} {r taken from to : ℕ}
      → TakesBytes cut before between r taken from to → TakenAll cuts between after → TakenAll (cut ∷ cuts) before after
