-- A judge as 36 bytes: verdict 2, request 1, its own numbers 4 and 4, count of the reply's bytes 4, length bytes 1 and 1, RES 1, sum 1, the
-- first seventeen data bytes.
use Rattle.std.specs.Prelude.{◌||◌, cond, List, [], ◌∷◌, ◌++◌, ℕ, ◌-◌, length, get_or, leb, ltb, eqb, Option, None, Some}
use Rattle.numbers.specs.Bytes.{bytes_of}
use Rattle.packet_fields.specs.Fields.{two_at, four_at, bytes_from}
use Rattle.host_request.specs.declared.Request.{Request}
use Rattle.host_judge.specs.declared.Judgement.{Judgement}
use Rattle.host_judge.specs.declared.Judgement.TheVariants.{Unanswered, Passed, Refused, WrongReply}
use Rattle.host_judge.specs.declared.Reply.{Reply}
use Rattle.host_judge.specs.declared.Judge.{Judge}
use Rattle.host_judge.specs.Reply.{judgement_number}
use Rattle.host_bytes.specs.Requests.{request_number, first_number, second_number, request_in}

abbrev pub judge_length : ℕ
judge_length = 36

abbrev pub head_bytes : Request → Judgement → List ℕ
head_bytes r v = bytes_of 2 (judgement_number v) ++ (request_number r ∷ []) ++ bytes_of 4 (first_number r) ++ bytes_of 4 (second_number r)

abbrev pub reply_head : Reply → List ℕ
reply_head y = bytes_of 4 y.count ++ (y.high ∷ y.low ∷ y.res ∷ y.sum ∷ [])

unfoldable pub judge_bytes : Judge → List ℕ
judge_bytes j = head_bytes j.request j.judgement ++ reply_head j.reply ++ j.reply.first

-- the other way round: the verdict of a number. A refusal has a code that is not 0
unfoldable pub judgement_in : ℕ → Option Judgement
judgement_in n =
    cond (eqb n 0) (Some Unanswered)
    (cond (eqb n 1) (Some Passed)
    (cond (eqb n 2) (Some WrongReply)
    (cond (leb n 256 || ltb 511 n) None
    (Some (Refused (n - 256))))))

-- request and verdict, where both are there
abbrev pub head_by : Option Request → Option Judgement → Option (Request × Judgement)
head_by None v = None
head_by (Some r) None = None
head_by (Some r) (Some v) = Some (r, v)

-- what the bytes begin with, if they are a judge
unfoldable pub head_in : List ℕ → Option (Request × Judgement)
head_in bs =
    cond (eqb (length bs) judge_length) (head_by (request_in (get_or bs 2 0) (four_at bs 3) (four_at bs 7)) (judgement_in (two_at bs 0))) None

unfoldable pub reply_in : List ℕ → Reply
reply_in bs =
    record { count = four_at bs 11; high = get_or bs 15 0; low = get_or bs 16 0; res = get_or bs 17 0; sum = get_or bs 18 0; first = bytes_from 17 19 bs }

-- the judge with this request and verdict, and the rest out of the bytes
abbrev pub judge_with : List ℕ → Request → Judgement → Judge
judge_with bs r v = record { request = r; judgement = v; reply = reply_in bs }

abbrev pub judge_by : List ℕ → Option (Request × Judgement) → Option Judge
judge_by bs None = None
judge_by bs (Some (r, v)) = Some (judge_with bs r v)

-- the judge in the bytes, if there is one
abbrev pub judge_in : List ℕ → Option Judge
judge_in bs = judge_by bs (head_in bs)

-- what a judge leaves in bytes that are lent for it: all of them if they are 36, otherwise nothing
abbrev pub judge_over : Judge → List ℕ → List ℕ
judge_over j bs = cond (eqb (length bs) judge_length) (judge_bytes j) bs
