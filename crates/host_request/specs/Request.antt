-- What a host asks of a device: each request's packet, and what it takes to build it.
use Rattle.std.specs.Prelude.{Bool, false, ◌&&◌, not, List, [], ◌∷◌, ◌++◌, ℕ, ◌<◌, length, leb, eqb}
use Rattle.numbers.specs.Bytes.{bytes_of}
use Rattle.verdict.specs.Check.{Check, ◌gives◌}
use Rattle.packet.specs.declared.Kind.{Kind}
use Rattle.packet.specs.declared.Kind.TheVariants.{Command, Data}
use Rattle.packet.specs.Packet.{frame}
use Rattle.packet.specs.Frame.{longest_data}
use Rattle.packet_fields.specs.declared.Com.{Com}
use Rattle.packet_fields.specs.declared.Com.TheVariants.{Inquiry as ComInquiry, Erase as ComErase, Write as ComWrite, Read as ComRead, Authenticate as ComAuthenticate, Baud as ComBaud, Signature as ComSignature, Area as ComArea}
use Rattle.packet_fields.specs.Fields.{com_number}
use Rattle.host_request.specs.declared.Request.{Request}
use Rattle.host_request.specs.declared.Request.TheVariants.{Inquiry, Erase, Write, Read, Authenticate, Baud, Signature, Area, WriteData, Next}
use Rattle.host_request.specs.declared.Unbuilt.{Unbuilt}
use Rattle.host_request.specs.declared.Unbuilt.TheVariants.{WrongAmount, NothingLeft, NoRoom}

-- the command that it is, or that it goes on with
abbrev pub com_for : Request → Com
com_for Inquiry = ComInquiry
com_for (Erase s e) = ComErase
com_for (Write s e) = ComWrite
com_for (Read s e) = ComRead
com_for Authenticate = ComAuthenticate
com_for (Baud brt) = ComBaud
com_for Signature = ComSignature
com_for (Area n) = ComArea
com_for WriteData = ComWrite
com_for (Next left) = ComRead

-- COM or RES of its packet, and RES of what grants it
abbrev pub number_for : Request → ℕ
number_for r = com_number (com_for r)

-- commands are command packets; a write and a read under way go on with data packets
abbrev pub kind_for : Request → Kind
kind_for Inquiry = Command
kind_for (Erase s e) = Command
kind_for (Write s e) = Command
kind_for (Read s e) = Command
kind_for Authenticate = Command
kind_for (Baud brt) = Command
kind_for Signature = Command
kind_for (Area n) = Command
kind_for WriteData = Data
kind_for (Next left) = Data

-- what stands behind COM or RES; `bytes` are lent beside the request, the code of authenticate or the data of a write
abbrev pub information_for : Request → List ℕ → List ℕ
information_for Inquiry bytes = []
information_for (Erase s e) bytes = bytes_of 4 s ++ bytes_of 4 e
information_for (Write s e) bytes = bytes_of 4 s ++ bytes_of 4 e
information_for (Read s e) bytes = bytes_of 4 s ++ bytes_of 4 e
information_for Authenticate bytes = bytes
information_for (Baud brt) bytes = bytes_of 4 brt
information_for Signature bytes = []
information_for (Area n) bytes = n ∷ []
information_for WriteData bytes = bytes
information_for (Next left) bytes = 0x00 ∷ []

abbrev pub contents_for : Request → List ℕ → List ℕ
contents_for r bytes = number_for r ∷ information_for r bytes

-- the request's packet
abbrev pub packet_for : Request → List ℕ → List ℕ
packet_for r bytes = frame (kind_for r) (contents_for r bytes)

-- its numbers are no wider than their fields, which the code's types see to
abbrev pub InWidth : Request → Type 0
InWidth Inquiry = Unit {0}
InWidth (Erase s e) = (s < 4294967296) × (e < 4294967296)
InWidth (Write s e) = (s < 4294967296) × (e < 4294967296)
InWidth (Read s e) = (s < 4294967296) × (e < 4294967296)
InWidth Authenticate = Unit {0}
InWidth (Baud brt) = brt < 4294967296
InWidth Signature = Unit {0}
InWidth (Area n) = n < 256
InWidth WriteData = Unit {0}
InWidth (Next left) = left < 4294967296

-- so many bytes may be lent beside it: a code has 16, a data packet 1 to 1,024, the others none
unfoldable pub enclosable : Request → ℕ → Bool
enclosable Inquiry n = eqb n 0
enclosable (Erase s e) n = eqb n 0
enclosable (Write s e) n = eqb n 0
enclosable (Read s e) n = eqb n 0
enclosable Authenticate n = eqb n 16
enclosable (Baud brt) n = eqb n 0
enclosable Signature n = eqb n 0
enclosable (Area number) n = eqb n 0
enclosable WriteData n = leb 1 n && leb n longest_data
enclosable (Next left) n = eqb n 0

-- a next packet of a read that is over
abbrev pub has_nothing_left : Request → Bool
has_nothing_left Inquiry = false
has_nothing_left (Erase s e) = false
has_nothing_left (Write s e) = false
has_nothing_left (Read s e) = false
has_nothing_left Authenticate = false
has_nothing_left (Baud brt) = false
has_nothing_left Signature = false
has_nothing_left (Area n) = false
has_nothing_left WriteData = false
has_nothing_left (Next left) = eqb left 0

-- why a request has no packet
unfoldable pub request_checks : Request → ℕ → List (Check Unbuilt)
request_checks r count =
    (not (enclosable r count) gives WrongAmount)
    ∷ (has_nothing_left r gives NothingLeft)
    ∷ []

-- why it cannot be built into a buffer of so many bytes
unfoldable pub build_checks : Request → List ℕ → ℕ → List (Check Unbuilt)
build_checks r bytes room = request_checks r (length bytes) ++ (not (leb (length (packet_for r bytes)) room) gives NoRoom) ∷ []
