-- Where the next write data lands behind an exchange. Assumes nothing.
use mathlib.Core.Bool.{Bool, true, false, cond}
use mathlib.Core.List.{List}
use Prim.Native.Nat.{ℕ}
use lib.ListN.{get_or}
use lib.Dec.{eqb}
use Rattle.numbers.specs.Same.{same}
use Rattle.id_code.specs.Identity.{erase_code}
use Rattle.packet.specs.Packet.{good}
use Rattle.packet_fields.specs.declared.Com.{Com}
use Rattle.packet_fields.specs.declared.Com.TheVariants.{Inquiry, Erase, Write, Read, Authenticate, Baud, Signature, Area, Unknown}
use Rattle.packet_fields.specs.Fields.{com_of, code_at, info_count, info_of, info_length, sad_of}
use Rattle.record_exchange.specs.declared.Told.{Told}
use Rattle.std.specs.Prelude.{Option, Some}
use Rattle.record_exchange.specs.Exchange.{answered_ok, command_told, command_read, data_told, data_read, exchange_read}

-- at the old place, at the SAD of a write, or behind the data that was stored: what holds of these three holds of it
module _ (P : Option ℕ → Type 0) (q : List ℕ) (landing : Option ℕ) (stays : P landing) (first : P (Some (sad_of q))) (behind : P (data_told q landing).landing) where
  either : (s : Bool) (a b : Told) → P a.landing → P b.landing → P (cond s a b).landing
  either true a b h k = h
  either false a b h k = k

  command_lands : (cmd : Com) → P (command_told q cmd landing).landing
  unfolding command_told
  command_lands Inquiry = stays
  command_lands Erase = stays
  command_lands Write = first
  command_lands Read = stays
  command_lands Authenticate = either (same (info_of q) erase_code) _ _ stays stays
  command_lands Baud = stays
  command_lands Signature = stays
  command_lands Area = stays
  command_lands Unknown = stays

  pub lands : (reply : List ℕ) → P (exchange_read q reply landing).landing
  unfolding exchange_read command_read data_read
  lands reply =
      let cmd : Com = com_of (code_at q) in
      let ok : Bool = answered_ok q reply in
      either (good q) _ _
      (either (eqb (get_or q 0 0) 0x01) _ _
      (either (eqb (info_count q) (info_length cmd)) _ _ (either ok _ _ (command_lands cmd) stays) stays)
      (either (eqb (code_at q) 0x13) _ _ (either ok _ _ behind stays) stays))
      stays
