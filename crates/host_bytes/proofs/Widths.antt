-- How wide a judge's numbers are: those of its request, its verdict and its reply. Assumes nothing.
use mathlib.Core.Path.{◌≡◌}
use Prim.Native.Nat.{◌≤◌, ◌<◌}
use native.Mathlib.Omega.{arith}
use lib.ListN.{length}
use Rattle.numbers.specs.Bytes.{AllBytes}
use Rattle.host_request.specs.declared.Request.{Request}
use Rattle.host_request.specs.declared.Request.TheVariants.{Inquiry, Erase, Write, Read, Authenticate, Baud, Signature, Area, WriteData, Next}
use Rattle.host_request.specs.Request.{InWidth}
use Rattle.host_judge.specs.declared.Judgement.{Judgement}
use Rattle.host_judge.specs.declared.Judgement.TheVariants.{Unanswered, Passed, Refused, WrongReply}
use Rattle.host_judge.specs.declared.Judge.{Judge}
use Rattle.host_judge.specs.Reply.{judgement_number}
use Rattle.host_bytes.specs.Requests.{first_number, second_number}

-- a refusal's code is a byte that is not 0
abbrev pub Coded : Judgement → Type 0
Coded Unanswered = Unit {0}
Coded Passed = Unit {0}
Coded (Refused code) = (1 ≤ code) × (code ≤ 255)
Coded WrongReply = Unit {0}

-- a judge whose numbers are within their widths
pub record FormedJudge (j : Judge) : Type 0 where
  pub asked : InWidth j.request
  pub said : Coded j.judgement
  pub count : j.reply.count < 4294967296
  pub high : j.reply.high < 256
  pub low : j.reply.low < 256
  pub res : j.reply.res < 256
  pub sum : j.reply.sum < 256
  pub seventeen : length j.reply.first ≡ 17
  pub kept : AllBytes j.reply.first

-- a request's own numbers have four bytes
pub first_width : (r : Request) → InWidth r → first_number r < 4294967296
first_width Inquiry w = omega arith
first_width (Erase s e) w = w.0
first_width (Write s e) w = w.0
first_width (Read s e) w = w.0
first_width Authenticate w = omega arith
first_width (Baud brt) w = w
first_width Signature w = omega arith
first_width (Area n) w = omega arith
first_width WriteData w = omega arith
first_width (Next left) w = w

pub second_width : (r : Request) → InWidth r → second_number r < 4294967296
second_width Inquiry w = omega arith
second_width (Erase s e) w = w.1
second_width (Write s e) w = w.1
second_width (Read s e) w = w.1
second_width Authenticate w = omega arith
second_width (Baud brt) w = omega arith
second_width Signature w = omega arith
second_width (Area n) w = omega arith
second_width WriteData w = omega arith
second_width (Next left) w = omega arith

-- a verdict's number has two
pub said_width : (v : Judgement) → Coded v → judgement_number v < 65536
said_width Unanswered w = omega arith
said_width Passed w = omega arith
said_width (Refused code) w = omega arith
said_width WrongReply w = omega arith
