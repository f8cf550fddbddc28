-- A request's packet tells the request and the bytes that were lent with it, all but how much of a read is left. Assumes nothing.
use mathlib.Core.Bool.{true, cond}
use mathlib.Core.List.{List, []}
use Rattle.std.specs.Prelude.{None}
use mathlib.Core.Path.{◌≡◌, refl, sym, ap, ◌∙◌}
use Prim.Native.Nat.{ℕ, ◌<◌}
use lib.ListN.{length, take, drop, get_or}
use lib.Dec.{eqb}
use Rattle.numbers.specs.Bytes.{number, bytes_of}
use Rattle.numbers.proofs.RoundTrip.{number_back}
use Rattle.verdict.specs.Check.{first_fault}
use Rattle.packet.specs.declared.Kind.{Kind}
use Rattle.packet.specs.declared.Kind.TheVariants.{Command, Data}
use Rattle.packet_fields.specs.declared.Com.{Com}
use Rattle.packet_fields.specs.declared.Com.TheVariants.{Inquiry as ComInquiry, Erase as ComErase, Write as ComWrite, Read as ComRead, Authenticate as ComAuthenticate, Baud as ComBaud, Signature as ComSignature, Area as ComArea, Unknown as ComUnknown}
use Rattle.packet_fields.specs.Fields.{com_number}
use Rattle.packet_fields.proofs.Laws.{com_once}
use Rattle.host_request.specs.declared.Request.{Request}
use Rattle.host_request.specs.declared.Request.TheVariants.{Inquiry, Erase, Write, Read, Authenticate, Baud, Signature, Area, WriteData, Next}
use Rattle.host_request.specs.Request.{com_for, kind_for, information_for, packet_for, InWidth, enclosable, request_checks}
use Rattle.host_request.proofs.Laws.{nothing_lent}
use Rattle.host_request.proofs.Packets.{buildable_lent, packets_differ}

-- the request as far as a packet says it: not how much of a read is left
abbrev pub said : Request → Request
said Inquiry = Inquiry
said (Erase sad ead) = Erase sad ead
said (Write sad ead) = Write sad ead
said (Read sad ead) = Read sad ead
said Authenticate = Authenticate
said (Baud brt) = Baud brt
said Signature = Signature
said (Area n) = Area n
said WriteData = WriteData
said (Next left) = Next 0

-- the request that a kind, a command and information say, and the bytes lent with it
asks : Kind → Com → List ℕ → Request
asks Command ComInquiry info = Inquiry
asks Command ComErase info = Erase (number (take 4 info)) (number (drop 4 info))
asks Command ComWrite info = Write (number (take 4 info)) (number (drop 4 info))
asks Command ComRead info = Read (number (take 4 info)) (number (drop 4 info))
asks Command ComAuthenticate info = Authenticate
asks Command ComBaud info = Baud (number info)
asks Command ComSignature info = Signature
asks Command ComArea info = Area (get_or info 0 0)
asks Command ComUnknown info = Inquiry
asks Data cmd info = cond (eqb (com_number cmd) 0x13) WriteData (Next 0)

lends : Kind → Com → List ℕ → List ℕ
lends Command cmd info = cond (eqb (com_number cmd) 0x30) info []
lends Data cmd info = cond (eqb (com_number cmd) 0x13) info []

-- a range in its eight bytes
range_back : (range : ℕ → ℕ → Request) (sad ead : ℕ) → (sad < 4294967296) × (ead < 4294967296)
    → range (number (bytes_of 4 sad)) (number (bytes_of 4 ead)) ≡ range sad ead
range_back range sad ead w = rw (number_back 4 sad w.0, number_back 4 ead w.1) refl

asks_back : (r : Request) (bytes : List ℕ) → InWidth r → asks (kind_for r) (com_for r) (information_for r bytes) ≡ said r
unfolding bytes_of asks
asks_back Inquiry bytes w = refl
asks_back (Erase sad ead) bytes w = range_back Erase sad ead w
asks_back (Write sad ead) bytes w = range_back Write sad ead w
asks_back (Read sad ead) bytes w = range_back Read sad ead w
asks_back Authenticate bytes w = refl
asks_back (Baud brt) bytes w = ap Baud (number_back 4 brt w)
asks_back Signature bytes w = refl
asks_back (Area n) bytes w = refl
asks_back WriteData bytes w = refl
asks_back (Next left) bytes w = refl

lends_back : (r : Request) (bytes : List ℕ) → enclosable r (length bytes) ≡ true → bytes ≡ lends (kind_for r) (com_for r) (information_for r bytes)
unfolding enclosable lends
lends_back Inquiry bytes e = nothing_lent bytes e
lends_back (Erase sad ead) bytes e = nothing_lent bytes e
lends_back (Write sad ead) bytes e = nothing_lent bytes e
lends_back (Read sad ead) bytes e = nothing_lent bytes e
lends_back Authenticate bytes e = refl
lends_back (Baud brt) bytes e = nothing_lent bytes e
lends_back Signature bytes e = nothing_lent bytes e
lends_back (Area n) bytes e = nothing_lent bytes e
lends_back WriteData bytes e = refl
lends_back (Next left) bytes e = nothing_lent bytes e

-- two requests with one packet
module _ (r r' : Request) (bytes bytes' : List ℕ) (same : packet_for r bytes ≡ packet_for r' bytes') where
  com_same : com_for r ≡ com_for r'
  com_same = com_once (com_for r) (com_for r') (packets_differ r r' bytes bytes' same).1

  -- what is read out of kind, command and information is the same of both
  read_same : {A : Type 0} (f : Kind → Com → List ℕ → A)
      → f (kind_for r) (com_for r) (information_for r bytes) ≡ f (kind_for r') (com_for r') (information_for r' bytes')
  read_same f = let d = packets_differ r r' bytes bytes' same in rw (d.0, com_same, d.2) refl

  -- are one request, as far as it is said
  pub same_request : InWidth r → InWidth r' → said r ≡ said r'
  same_request w w' = sym (asks_back r bytes w) ∙ read_same asks ∙ asks_back r' bytes' w'

  -- and have the same bytes lent with them, where both can be built
  pub same_lent : first_fault (request_checks r (length bytes)) ≡ None → first_fault (request_checks r' (length bytes')) ≡ None → bytes ≡ bytes'
  same_lent b b' =
      lends_back r bytes (buildable_lent r (length bytes) b) ∙ read_same lends ∙ sym (lends_back r' bytes' (buildable_lent r' (length bytes') b'))
