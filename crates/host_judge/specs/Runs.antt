-- The steps in which bytes are taken: noise up to 81h, each of the next four bytes, then all before ETX at once. That they make what one byte after
-- the other makes is proofs/Parts and proofs/Runs.
use Rattle.std.specs.Prelude.{◌≡◌, ℕ, suc, ◌+◌, ◌-◌, ◌%◌, min, Bool, cond, not, ◌||◌, List, [], ◌∷◌, length, take, drop, ◌==◌, nat_le, nat_lt, slice_index}
use Rattle.std.proofs.lemmas.List.Edits.{sets}
use Rattle.packet.specs.declared.Kind.TheVariants.{Data as DataPacket}
use Rattle.packet.specs.Packet.{start_of, sum_of}
use Rattle.host_judge.specs.declared.Judgement.{Judgement}
use Rattle.host_judge.specs.declared.Reply.{Reply}
use Rattle.host_judge.specs.declared.Judge.{Judge}
use Rattle.host_judge.specs.declared.taking.Hearing.{Hearing}
use Rattle.host_judge.specs.declared.taking.Part.{Part}
use Rattle.host_judge.specs.Judge.{length_in, data_end, with_count, grown, hearing_of}

-- where the first 81h stands, or behind the bytes where there is none
unfoldable pub mark_place : List ℕ → ℕ
mark_place [] = 0
mark_place (b ∷ bs) = cond (b == start_of DataPacket) 0 (suc (mark_place bs))

-- what came before or with 81h
abbrev pub began_part : Reply → List ℕ → Part
began_part y bytes =
    cond (y.count == 0)
    (cond (nat_le (length bytes) (mark_place bytes))
    (record { reply = y; taken = mark_place bytes })
    (record { reply = with_count 1 y; taken = mark_place bytes + 1 }))
    (record { reply = y; taken = 0 })

-- no byte with this place is next: there is none, it has another place, or it is ETX
abbrev pub not_next : ℕ → List ℕ → Part → Bool
not_next place bytes p = nat_le (length bytes) p.taken || (not (p.reply.count == place) || nat_le (length_in p.reply + 4) place)

-- the byte with this place, if it is next
unfoldable pub next_part : ℕ → List ℕ → Part → Part
next_part place bytes p =
    cond (not_next place bytes p) p (record { reply = grown p.reply (slice_index bytes p.taken); taken = p.taken + 1 })

-- the first seventeen data bytes, when some more bytes before ETX came
abbrev pub kept_of : Reply → List ℕ → List ℕ
kept_of y more = sets y.first (y.count - 4) (take (min (data_end y) 21 - y.count) more)

-- the reply, when they came
abbrev pub run_added : Reply → List ℕ → Reply
run_added y more =
    record {
      count = y.count + length more;
      high = y.high;
      low = y.low;
      res = y.res;
      sum = (y.sum + sum_of more) % 256;
      first = kept_of y more;
    }

-- how many of the bytes stand before ETX
abbrev pub run_of : List ℕ → Part → ℕ
run_of bytes p = min (length bytes - p.taken) (length_in p.reply + 4 - p.reply.count)

-- there are none, or RES did not come yet
abbrev pub no_run : List ℕ → Part → Bool
no_run bytes p = nat_le (length bytes) p.taken || (nat_lt p.reply.count 4 || nat_le (length_in p.reply + 4) p.reply.count)

-- all of them
unfoldable pub run_part : List ℕ → Part → Part
run_part bytes p =
    cond (no_run bytes p) p
    (record { reply = run_added p.reply (take (run_of bytes p) (drop p.taken bytes)); taken = p.taken + run_of bytes p })

-- the judge with this verdict and reply, behind so many bytes
abbrev pub hearing_with : Judge → Judgement → Reply → ℕ → Hearing
hearing_with j v y n = record { judge = record { request = j.request; judgement = v; reply = y }; count = n }

-- what hearing bytes answers
pub record HeardBytes (j : Judge) (bytes : List ℕ) (r : Hearing) : Type 0 where
  pub judge : r.judge ≡ (hearing_of j bytes).judge
  pub count : r.count ≡ (hearing_of j bytes).count
