-- Packets: start byte, length (two bytes), contents, SUM, 03h. Length counts the contents, COM or RES and what follows before SUM.
use Rattle.std.specs.Prelude.{ℕ, ◌+◌, ◌-◌, ◌%◌, Bool, true, false, cond, not, ◌&&◌, ◌||◌, List, [], ◌∷◌, ◌++◌, length, take, drop, ◌==◌, nat_le, nat_lt, slice_index}
use Rattle.numbers.specs.Bytes.{number, bytes_of, field}
use Rattle.verdict.specs.declared.Reason.{Reason}
use Rattle.verdict.specs.declared.Reason.TheVariants.{WrongEtx, WrongSum}
use Rattle.verdict.specs.Check.{Check, ◌gives◌, first_fault, passes}
use Rattle.packet.specs.declared.Kind.{Kind}
use Rattle.packet.specs.declared.Kind.TheVariants.{Command, Data}
use Rattle.packet.specs.declared.Progress.{Progress}
use Rattle.packet.specs.declared.Progress.TheVariants.{Astray, Partial, Unfit, Complete, Excess}

abbrev pub start_of : Kind → ℕ
start_of Command = 0x01
start_of Data = 0x81

abbrev pub longest_of : Kind → ℕ
longest_of Command = 256
longest_of Data = 1025

unfoldable pub permitted : Kind → ℕ → Bool
permitted kind n = nat_le 1 n && nat_le n (longest_of kind)

-- what the two bytes behind the start byte say; looked at only where both are there: proofs/There, `length_whole`
unfoldable pub length_of : List ℕ → ℕ
length_of q = number (field 2 1 q)

-- what `count` bytes with the right start byte are to a packet whose length is n: start byte, two of length, SUM and ETX come on top
unfoldable pub measured_of : Kind → ℕ → ℕ → Progress
measured_of kind count n =
    cond (not (permitted kind n)) Unfit
    (cond (nat_lt count (n + 5)) Partial
    (cond (count == n + 5) Complete Excess))

-- what the bytes q are to a packet of a kind; the 0 for a start byte that is not there never decides: proofs/There, `start_there`
unfoldable pub progress_of : Kind → List ℕ → Progress
progress_of kind q =
    cond (length q == 0) Partial
    (cond (not (slice_index q 0 == start_of kind)) Astray
    (cond (nat_lt (length q) 3) Partial
    (measured_of kind (length q) (length_of q))))

unfoldable pub sum_of : List ℕ → ℕ
sum_of [] = 0
sum_of (b ∷ bs) = b + sum_of bs

-- the last byte of a packet; the 0 for none never decides: proofs/There, `etx_there`
abbrev pub etx_of : List ℕ → ℕ
etx_of q = slice_index q (length q - 1)

-- all of a packet but start byte and ETX: length bytes, contents and SUM
abbrev pub summed : List ℕ → List ℕ
summed q = take (length q - 2) (drop 1 q)

unfoldable pub ending_checks : List ℕ → List (Check Reason)
ending_checks q =
    (nat_lt (length q) 2 || not (etx_of q == 0x03) gives WrongEtx)
    ∷ (not (sum_of (summed q) % 256 == 0) gives WrongSum)
    ∷ []

abbrev pub is_partial : Progress → Bool
is_partial Astray = false
is_partial Partial = true
is_partial Unfit = false
is_partial Complete = false
is_partial Excess = false

abbrev pub is_complete : Progress → Bool
is_complete Astray = false
is_complete Partial = false
is_complete Unfit = false
is_complete Complete = true
is_complete Excess = false

unfoldable pub ends_well : List ℕ → Bool
ends_well q = passes (first_fault (ending_checks q))

-- exactly one whole packet, of either kind, with right ETX and SUM
unfoldable pub good : List ℕ → Bool
good q = (is_complete (progress_of Command q) || is_complete (progress_of Data q)) && ends_well q

abbrev pub contents_of : List ℕ → List ℕ
contents_of q = field (length_of q) 3 q

-- whether the first n bytes of a receive buffer are there and are one good packet
abbrev pub good_front : List ℕ → ℕ → Bool
good_front receive n = nat_le n (length receive) && good (take n receive)

-- the payload of the first n bytes of a receive buffer, and where in the buffer it starts
unfoldable pub payload_of : List ℕ → ℕ → List ℕ
payload_of receive n = cond (good_front receive n) (contents_of (take n receive)) []

unfoldable pub payload_at : List ℕ → ℕ → ℕ
payload_at receive n = cond (good_front receive n) 3 0

-- what bytes lack to a total that 256 divides
unfoldable pub lack : List ℕ → ℕ
lack bs = (256 - sum_of bs % 256) % 256

-- length bytes and contents
abbrev pub counted : List ℕ → List ℕ
counted contents = bytes_of 2 (length contents) ++ contents

-- the packet of a kind with these contents
unfoldable pub frame : Kind → List ℕ → List ℕ
frame kind contents = start_of kind ∷ (counted contents ++ lack (counted contents) ∷ 0x03 ∷ [])
