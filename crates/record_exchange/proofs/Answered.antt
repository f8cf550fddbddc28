-- What counts as answered OK, and exchanges that tell of nothing. Assumes nothing.
use mathlib.Core.Bool.{Bool, true, false, cond}
use mathlib.Core.List.{List}
use mathlib.Core.Path.{◌≡◌, refl}
use Prim.Native.Nat.{ℕ}
use lib.ListN.{get_or, replicate}
use Rattle.numbers.specs.Bytes.{bytes_of}
use Rattle.packet.specs.declared.Kind.TheVariants.{Data}
use Rattle.packet.specs.Packet.{permitted, frame, good}
use Rattle.packet.specs.Frame.{front, has_room, Framed}
use Rattle.packet_fields.specs.Fields.{code_at}
use Rattle.packet_reply.specs.Reply.{status_contents, status_reply}
use Rattle.std.specs.Prelude.{Option, Ok}
use Rattle.record_exchange.specs.Exchange.{answered_ok, idle, command_read, data_read, exchange_read}

-- an OK status that was put into seven bytes is all of them
pub status_alone : (request : ℕ) (after : List ℕ) (r : Option ℕ) → Framed Data (status_contents request (Ok tt)) (replicate 7 0) after r → after ≡ status_reply request (Ok tt)
unfolding has_room permitted front frame bytes_of
status_alone request after r p = p.leaves

-- a test that decides nothing
either_way : {A : Type 0} (t : Bool) (a : A) → cond t a a ≡ a
either_way true a = refl
either_way false a = refl

module _ (q reply : List ℕ) (landing : Option ℕ) where
  -- what is no whole packet with right ETX and SUM, as a piece of one
  pub unwhole : good q ≡ false → exchange_read q reply landing ≡ idle landing
  unfolding exchange_read
  unwhole h = rw h refl

  -- what was not answered OK
  pub unanswered : answered_ok q reply ≡ false → exchange_read q reply landing ≡ idle landing
  unfolding exchange_read command_read data_read
  unanswered h = simp (h, either_way)

  -- data with RES 15h is a read's request for the next packet
  pub asks_next_lem : code_at q ≡ 0x15 → get_or q 0 0 ≡ 0x81 → exchange_read q reply landing ≡ idle landing
  unfolding exchange_read data_read
  asks_next_lem c s = simp (c, s, either_way)
