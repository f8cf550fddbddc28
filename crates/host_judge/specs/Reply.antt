-- What a reply says to a request.
use Rattle.std.specs.Prelude.{ℕ, ◌+◌, ◌-◌, min, Bool, true, false, cond, not, ◌&&◌, List, [], ◌∷◌, take, ◌==◌, slice_index}
use Rattle.packet.specs.declared.Kind.TheVariants.{Data as DataPacket}
use Rattle.packet.specs.declared.Progress.{Progress}
use Rattle.packet.specs.declared.Progress.TheVariants.{Astray, Partial, Unfit, Complete, Excess}
use Rattle.packet.specs.Packet.{start_of, length_of, progress_of, ends_well}
use Rattle.packet.specs.Frame.{longest_data}
use Rattle.packet_fields.specs.Fields.{code_at}
use Rattle.packet_reply.specs.Reply.{marked}
use Rattle.host_request.specs.declared.Request.{Request}
use Rattle.host_request.specs.declared.Request.TheVariants.{Inquiry, Erase, Write, Read, Authenticate, Baud, Signature, Area, WriteData, Next}
use Rattle.host_request.specs.Request.{number_for}
use Rattle.host_judge.specs.declared.Due.{Due}
use Rattle.host_judge.specs.declared.Due.TheVariants.{Status, Data, Nothing}
use Rattle.host_judge.specs.declared.Judgement.{Judgement}
use Rattle.host_judge.specs.declared.Judgement.TheVariants.{Unanswered, Passed, Refused, WrongReply}

-- the numbers of the four, for callers that have numbers only: no two share one, and 0 is that nothing was answered
abbrev pub judgement_number : Judgement → ℕ
judgement_number Unanswered = 0
judgement_number Passed = 1
judgement_number WrongReply = 2
judgement_number (Refused code) = 256 + code

abbrev pub is_unanswered : Judgement → Bool
is_unanswered Unanswered = true
is_unanswered Passed = false
is_unanswered (Refused code) = false
is_unanswered WrongReply = false

-- of a read with so many bytes left: 1,024, or all that remain if fewer. Of none there is no packet
abbrev pub read_due : ℕ → Due
read_due left = cond (left == 0) Nothing (Data (min left longest_data))

-- what grants each request: a status, or data of a length
abbrev pub due_for : Request → Due
due_for Inquiry = Status
due_for (Erase s e) = Status
due_for (Write s e) = Status
due_for (Read s e) = read_due (e + 1 - s)
due_for Authenticate = Status
due_for (Baud brt) = Status
due_for Signature = Data 12
due_for (Area n) = Data 17
due_for WriteData = Status
due_for (Next left) = read_due left

-- a reply by its length, RES and the byte behind RES: it grants a request of this number, to which that is due. Data is not judged. What
-- stands for a byte behind RES that is not there never decides: proofs/There, `first_there`
unfoldable pub grants : Due → ℕ → ℕ → ℕ → ℕ → Bool
grants Status number n res first = n == 2 && (res == number && first == 0x00)
grants (Data count) number n res first = n == count + 1 && res == number
grants Nothing number n res first = false

-- it refuses such a request: RES with bit 7, and a status that is not 0
unfoldable pub denies : ℕ → ℕ → ℕ → ℕ → Bool
denies number n res first = n == 2 && (res == marked number && not (first == 0x00))

-- anything else is a wrong reply
unfoldable pub judged_by : Request → ℕ → ℕ → ℕ → Judgement
judged_by r n res first =
    cond (grants (due_for r) (number_for r) n res first) Passed
    (cond (denies (number_for r) n res first) (Refused first)
    WrongReply)

-- the bytes from the first 81h on: those before it are skipped
unfoldable pub from_mark : List ℕ → List ℕ
from_mark [] = []
from_mark (b ∷ bs) = cond (b == start_of DataPacket) (b ∷ bs) (from_mark bs)

-- the packet at the front
abbrev pub first_packet : List ℕ → List ℕ
first_packet q = take (length_of q + 5) q

-- a whole packet: ETX and SUM before all
unfoldable pub packet_judged : Request → List ℕ → Judgement
packet_judged r q = cond (ends_well q) (judged_by r (length_of q) (code_at q) (slice_index q 4)) WrongReply

-- bytes by what they are to a data packet: a length outside its range decides at once, any other packet when it is whole. The clause of
-- bytes that do not start with 81h never decides: proofs/There, `never_astray`
unfoldable pub judged_at : Request → List ℕ → Progress → Judgement
judged_at r q Astray = Unanswered
judged_at r q Partial = Unanswered
judged_at r q Unfit = WrongReply
judged_at r q Complete = packet_judged r (first_packet q)
judged_at r q Excess = packet_judged r (first_packet q)

-- what bytes that came back say to a request: the first packet decides
unfoldable pub judgement_of : Request → List ℕ → Judgement
judgement_of r bytes = judged_at r (from_mark bytes) (progress_of DataPacket (from_mark bytes))
