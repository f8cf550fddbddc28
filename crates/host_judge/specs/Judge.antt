-- The judge: what it keeps between two bytes, and what one more byte makes of it.
use Rattle.std.specs.Prelude.{ℕ, ◌+◌, ◌-◌, ◌%◌, min, Bool, true, false, cond, not, ◌&&◌, List, [], ◌∷◌, replicate, ◌==◌, nat_le, nat_lt, slice_index, slice_set, Option, Some, None}
use Rattle.numbers.specs.Bytes.{number}
use Rattle.packet.specs.declared.Kind.TheVariants.{Data as DataPacket}
use Rattle.packet.specs.Packet.{start_of, permitted}
use Rattle.packet_fields.specs.Fields.{four_at}
use Rattle.profile.specs.declared.Area.{Area as AreaFields}
use Rattle.profile_bytes.specs.Profile.{area_at}
use Rattle.host_request.specs.declared.Request.{Request}
use Rattle.host_request.specs.declared.Request.TheVariants.{Inquiry, Erase, Write, Read, Authenticate, Baud, Signature, Area, WriteData, Next}
use Rattle.host_judge.specs.declared.Judgement.{Judgement}
use Rattle.host_judge.specs.declared.Judgement.TheVariants.{Unanswered, Passed, Refused, WrongReply}
use Rattle.host_judge.specs.declared.Reply.{Reply}
use Rattle.host_judge.specs.declared.Judge.{Judge}
use Rattle.host_judge.specs.declared.Taken.{Taken}
use Rattle.host_judge.specs.Reply.{is_unanswered, judged_by}

-- nothing of a reply yet
abbrev pub no_reply : Reply
no_reply = record { count = 0; high = 0; low = 0; res = 0; sum = 0; first = replicate 17 0 }

-- the judge of a request that was just sent
abbrev pub fresh_judge : Request → Judge
fresh_judge r = record { request = r; judgement = Unanswered; reply = no_reply }

-- what the length bytes say
abbrev pub length_in : Reply → ℕ
length_in y = number (y.high ∷ y.low ∷ [])

-- the place in the reply behind its data, which starts behind RES; SUM stands there, then ETX
abbrev pub data_end : Reply → ℕ
data_end y = 4 + (length_in y - 1)

-- a reply of so many bytes, all else as it is
abbrev pub with_count : ℕ → Reply → Reply
with_count n y = record { count = n; high = y.high; low = y.low; res = y.res; sum = y.sum; first = y.first }

-- the next byte is one of the first seventeen of the data
abbrev pub is_kept : Reply → Bool
is_kept y = nat_le 4 y.count && nat_lt y.count (min (data_end y) 21)

-- one byte more, of those that SUM counts: it goes where its place says
unfoldable pub grown : Reply → ℕ → Reply
grown y b =
    record {
      count = y.count + 1;
      high = cond (y.count == 1) b y.high;
      low = cond (y.count == 2) b y.low;
      res = cond (y.count == 3) b y.res;
      sum = (y.sum + b) % 256;
      first = cond (is_kept y) (slice_set y.first (y.count - 4) b) y.first;
    }

-- before 81h: every other byte is skipped
abbrev pub begun : Judge → ℕ → Judge
begun j b =
    record { request = j.request; judgement = j.judgement; reply = cond (b == start_of DataPacket) (with_count 1 j.reply) j.reply }

-- between 81h and ETX: a length outside its range decides, at its second byte
abbrev pub advanced : Judge → Reply → Judge
advanced j y =
    record { request = j.request; judgement = cond (y.count == 3 && not (permitted DataPacket (length_in y))) WrongReply j.judgement; reply = y }

-- what the whole reply says, b its last byte
abbrev pub last_judged : Request → Reply → ℕ → Judgement
last_judged r y b = cond (b == 0x03 && y.sum == 0) (judged_by r (length_in y) y.res (slice_index y.first 0)) WrongReply

-- ETX: the reply is whole
abbrev pub finished : Judge → ℕ → Judge
finished j b =
    record { request = j.request; judgement = last_judged j.request j.reply b; reply = with_count (length_in j.reply + 5) j.reply }

-- one byte, where nothing is decided yet
unfoldable pub heard_byte : Judge → ℕ → Judge
heard_byte j b =
    cond (j.reply.count == 0) (begun j b)
    (cond (nat_le 3 j.reply.count && nat_le (length_in j.reply + 4) j.reply.count) (finished j b)
    (advanced j (grown j.reply b)))

-- the judge behind some bytes, and how many of them were taken
pub record Heard : Type 0 where
  pub judge : Judge
  pub count : ℕ

-- one byte after the other; a verdict is final, and behind it no byte is taken
unfoldable pub hearing_of : Judge → List ℕ → Heard
hearing_of j [] = record { judge = j; count = 0 }
hearing_of j (b ∷ bs) =
    cond (is_unanswered j.judgement)
    (record { judge = (hearing_of (heard_byte j b) bs).judge; count = (hearing_of (heard_byte j b) bs).count + 1 })
    (record { judge = j; count = 0 })

-- where a place in a reply, of which `count` bytes came, stands among the last so many of them: at the start if it came before, at the end if it is
-- still to come
abbrev pub place_in : ℕ → ℕ → ℕ → ℕ
place_in taken count at = taken - min taken (count - at)

-- what taking bytes answers: the judge behind them, how many were taken, and which of them are the reply's data
abbrev pub taken_by : Heard → Taken
taken_by h =
    record {
      judge = h.judge;
      count = h.count;
      from = place_in h.count h.judge.reply.count 4;
      to = place_in h.count h.judge.reply.count (data_end h.judge.reply);
    }

abbrev pub taken_of : Judge → List ℕ → Taken
taken_of j bytes = taken_by (hearing_of j bytes)

-- what a judge that passed a reply knows from it: of a signature SCI, of an area its fields
abbrev pub sci_by : Request → List ℕ → Option ℕ
sci_by Inquiry first = None
sci_by (Erase s e) first = None
sci_by (Write s e) first = None
sci_by (Read s e) first = None
sci_by Authenticate first = None
sci_by (Baud brt) first = None
sci_by Signature first = Some (four_at first 0)
sci_by (Area n) first = None
sci_by WriteData first = None
sci_by (Next left) first = None

abbrev pub area_by : Request → List ℕ → Option AreaFields
area_by Inquiry first = None
area_by (Erase s e) first = None
area_by (Write s e) first = None
area_by (Read s e) first = None
area_by Authenticate first = None
area_by (Baud brt) first = None
area_by Signature first = None
area_by (Area n) first = Some (area_at first 0)
area_by WriteData first = None
area_by (Next left) first = None

-- any other knows nothing
abbrev pub is_passed : Judgement → Bool
is_passed Unanswered = false
is_passed Passed = true
is_passed (Refused code) = false
is_passed WrongReply = false

abbrev pub sci_in : Judge → Option ℕ
sci_in j = cond (is_passed j.judgement) (sci_by j.request j.reply.first) None

abbrev pub area_in : Judge → Option AreaFields
area_in j = cond (is_passed j.judgement) (area_by j.request j.reply.first) None
