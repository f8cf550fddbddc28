-- A packet that is built is whole and good, and its payload is what it was built from. A good packet is the one that is built from its contents.
-- Assumes nothing.
use Rattle.std.proofs.Common.{◌≡◌, ℕ, zero, suc, ◌+◌, ◌-◌, ◌/◌, ◌%◌, ◌^◌, ◌<◌, ◌≤◌, Bool, true, false, not, ◌||◌, eqb, ltb, List, [], ◌∷◌, ◌++◌, length, get_or, take, drop, sym, refl, ap, ◌∙◌, subst, append_assoc, mod-lt, arith, length-append, take-append-drop, drop_of_length-le, length-take-le, drop-cons, take_at, drop_at, le-ltb, eq-eqb, eqb-true, le-leb}
use Rattle.std.specs.Prelude.{Option, None, Some}
use lib.Seq.{get_or_at}
use borrow.Author.Tests.{not-false}
use Rattle.numbers.specs.Bytes.{number, bytes_of, AllBytes}
use Rattle.numbers.proofs.RoundTrip.{bytes_length, number_back, bytes_number}
use Rattle.verdict.specs.declared.Reason.{Reason}
use Rattle.verdict.specs.Check.{first_fault, NoneApplies, passes}
use Rattle.verdict.proofs.FirstFault.{clear}
use Rattle.packet.specs.declared.Kind.{Kind}
use Rattle.packet.specs.declared.Kind.TheVariants.{Command, Data}
use Rattle.packet.specs.declared.Progress.TheVariants.{Complete}
use Rattle.packet.specs.Packet.{start_of, permitted, length_of, progress_of, sum_of, etx_of, summed, ending_checks, ends_well, good, contents_of, payload_of, lack, counted, frame}
use Rattle.packet.proofs.Laws.{impossible, permitted_below}
use Rattle.packet.proofs.Gathering.{whole, complete, good_is, good_so}

-- totals

total_append : (a b : List ℕ) → sum_of (a ++ b) ≡ sum_of a + sum_of b
unfolding sum_of
total_append [] b = omega arith
total_append (x ∷ a) b = omega (arith, total_append a b)

-- what bytes lack fills them up
lack_fills : (a : List ℕ) → sum_of (a ++ lack a ∷ []) % 256 ≡ 0
unfolding sum_of lack
lack_fills a = omega (arith, total_append a (lack a ∷ []))

-- and no other byte does
lack_only : (a : List ℕ) (s : ℕ) → s < 256 → sum_of (a ++ s ∷ []) % 256 ≡ 0 → s ≡ lack a
unfolding sum_of lack
lack_only a s h e = omega (arith, total_append a (s ∷ []))

-- a list from its ends: first, middle, and the last two
module _ (a : ℕ) (b : List ℕ) (s e : ℕ) where
  abbrev parts : List ℕ
  parts = a ∷ (b ++ s ∷ e ∷ [])

  last_apart : b ++ s ∷ e ∷ [] ≡ (b ++ s ∷ []) ++ e ∷ []
  last_apart = sym (append_assoc b (s ∷ []) (e ∷ []))

  parts_length : length parts ≡ length b + 3
  parts_length = omega (arith, length-append b (s ∷ e ∷ []))

  middle_length : length (b ++ s ∷ []) ≡ length b + 1
  middle_length = omega (arith, length-append b (s ∷ []))

  parts_etx : etx_of parts ≡ e
  parts_etx =
      let i : length parts - 1 ≡ suc (length (b ++ s ∷ [])) = omega (arith, parts_length, middle_length) in
      rw (i, last_apart) (get_or_at (b ++ s ∷ []) e [] 0 (length (b ++ s ∷ [])) refl)

  parts_summed : summed parts ≡ b ++ s ∷ []
  parts_summed =
      let i : length parts - 2 ≡ length (b ++ s ∷ []) = omega (arith, parts_length, middle_length) in
      rw (i, last_apart) (take_at (b ++ s ∷ []) (e ∷ []) (length (b ++ s ∷ [])) refl)

-- a built packet

counted_length : (contents : List ℕ) → length (counted contents) ≡ length contents + 2
counted_length contents = omega (arith, length-append (bytes_of 2 (length contents)) contents, bytes_length 2 (length contents))

module _ (kind : Kind) (contents : List ℕ) where
  -- the packet behind its length bytes
  abbrev behind : List ℕ
  behind = contents ++ lack (counted contents) ∷ 0x03 ∷ []

  frame_starts : frame kind contents ≡ start_of kind ∷ (bytes_of 2 (length contents) ++ behind)
  unfolding frame
  frame_starts = ap (λ (l : List ℕ). start_of kind ∷ l) (append_assoc (bytes_of 2 (length contents)) contents (lack (counted contents) ∷ 0x03 ∷ []))

  pub frame_length : length (frame kind contents) ≡ length contents + 5
  unfolding frame
  frame_length = omega (arith, parts_length (start_of kind) (counted contents) (lack (counted contents)) 0x03, counted_length contents)

  pub frame_etx : etx_of (frame kind contents) ≡ 0x03
  unfolding frame
  frame_etx = parts_etx (start_of kind) (counted contents) (lack (counted contents)) 0x03

  pub frame_total : sum_of (summed (frame kind contents)) % 256 ≡ 0
  unfolding frame
  frame_total = rw (parts_summed (start_of kind) (counted contents) (lack (counted contents)) 0x03) (lack_fills (counted contents))

  pub frame_ends_well : ends_well (frame kind contents) ≡ true
  unfolding ends_well ending_checks first_fault
  frame_ends_well =
      let n : 2 ≤ length (frame kind contents) = omega (arith, frame_length) in
      simp (le-ltb _ _ n, eq-eqb _ _ frame_etx, eq-eqb _ _ frame_total)

  module _ (permits : permitted kind (length contents) ≡ true) where
    pub frame_says : length_of (frame kind contents) ≡ length contents
    unfolding length_of
    frame_says =
        let n : length contents ≤ 1025 = permitted_below kind (length contents) permits in
        rw (frame_starts, take_at (bytes_of 2 (length contents)) behind 2 (bytes_length 2 (length contents))) (number_back 2 (length contents) (omega arith))

    pub frame_complete : progress_of kind (frame kind contents) ≡ Complete
    unfolding frame
    frame_complete =
        complete kind (frame kind contents) (record { start = refl; permits = rw frame_says permits; count = rw frame_says frame_length })

    pub frame_good : good (frame kind contents) ≡ true
    frame_good = good_so kind (frame kind contents) frame_complete frame_ends_well

    pub frame_contents : contents_of (frame kind contents) ≡ contents
    frame_contents =
        rw (frame_says, frame_starts, drop_at (bytes_of 2 (length contents)) behind 2 (bytes_length 2 (length contents)))
        (take_at contents (lack (counted contents) ∷ 0x03 ∷ []) (length contents) refl)

    -- whatever stands behind the packet in the buffer
    pub frame_payload : (rest : List ℕ) → payload_of (frame kind contents ++ rest) (length contents + 5) ≡ contents
    unfolding payload_of
    frame_payload rest =
        let t : take (length contents + 5) (frame kind contents ++ rest) ≡ frame kind contents = take_at (frame kind contents) rest (length contents + 5) frame_length in
        let h : length contents + 5 ≤ length (frame kind contents ++ rest) = omega (arith, length-append (frame kind contents) rest, frame_length) in
        simp (le-leb _ _ h, t, frame_good) frame_contents

-- it is made of bytes where its contents are

all_append : (a b : List ℕ) → AllBytes a → AllBytes b → AllBytes (a ++ b)
unfolding AllBytes
all_append [] b s t = t
all_append (x ∷ a) b s t = (s.0, all_append a b s.1 t)

number_all : (w n : ℕ) → AllBytes (bytes_of w n)
unfolding bytes_of AllBytes
number_all zero n = tt
number_all (suc w) n = (mod-lt (n / 256 ^ w) (omega arith), number_all w n)

lack_byte : (a : List ℕ) → lack a < 256
unfolding lack
lack_byte a = omega arith

start_byte : (kind : Kind) → start_of kind < 256
start_byte Command = omega arith
start_byte Data = omega arith

pub frame_bytes : (kind : Kind) (contents : List ℕ) → AllBytes contents → AllBytes (frame kind contents)
unfolding frame AllBytes
frame_bytes kind contents all =
    let c : AllBytes (counted contents) = all_append (bytes_of 2 (length contents)) contents (number_all 2 (length contents)) all in
    (start_byte kind, all_append (counted contents) (lack (counted contents) ∷ 0x03 ∷ []) c (lack_byte (counted contents), (omega arith, tt)))

-- a good packet

-- what right ETX and SUM say
pub record Ended (q : List ℕ) : Type 0 where
  pub etx : etx_of q ≡ 0x03
  pub total : sum_of (summed q) % 256 ≡ 0

passes_none : (f : Option Reason) → passes f ≡ true → f ≡ None
passes_none None e = refl
passes_none (Some reason) e = impossible (cc)

-- the second of two tests that both fail
neither : (s t : Bool) → (s || t) ≡ false → t ≡ false
neither true t e = impossible (cc)
neither false t e = e

pub ended : (q : List ℕ) → ends_well q ≡ true → Ended q
unfolding ends_well ending_checks NoneApplies
ended q e =
    let n = clear (ending_checks q) (passes_none (first_fault (ending_checks q)) e) in
    let x = not-false (eqb (etx_of q) 0x03) (neither (ltb (length q) 2) (not (eqb (etx_of q) 0x03)) n.0) in
    let t = not-false (eqb (sum_of (summed q) % 256) 0) n.1.0 in
    record { etx = eqb-true (etx_of q) 0x03 x; total = eqb-true (sum_of (summed q) % 256) 0 t }

-- any number of such a list
byte_at : (l : List ℕ) (i : ℕ) → AllBytes l → get_or l i 0 < 256
unfolding AllBytes
byte_at [] i t = omega arith
byte_at (x ∷ l) zero t = t.0
byte_at (x ∷ l) (suc i) t = byte_at l i t.1

-- a list and its last two
split_end : (l : List ℕ) (n : ℕ) → length l ≡ n + 2 → l ≡ take n l ++ get_or l n 0 ∷ get_or l (suc n) 0 ∷ []
split_end l n h =
    let d : drop n l ≡ get_or l n 0 ∷ get_or l (suc n) 0 ∷ [] =
    rw (drop-cons l n 0 (omega arith), drop-cons l (suc n) 0 (omega arith), drop_of_length-le l {i = suc (suc n)} (omega arith)) refl in
    sym (take-append-drop n l) ∙ ap (λ (r : List ℕ). take n l ++ r) d

-- the parts of a good packet make it
rebuilt : (kind : Kind) (a x y : ℕ) (c : List ℕ) (s e : ℕ) → a ≡ start_of kind → AllBytes (x ∷ y ∷ []) → number (x ∷ y ∷ []) ≡ length c
    → s < 256 → Ended (a ∷ x ∷ y ∷ (c ++ s ∷ e ∷ [])) → a ∷ x ∷ y ∷ (c ++ s ∷ e ∷ []) ≡ frame kind c
unfolding frame
rebuilt kind a x y c s e start bytes says below ends =
    let b : bytes_of 2 (length c) ≡ x ∷ y ∷ [] = ap (bytes_of 2) (sym says) ∙ bytes_number (x ∷ y ∷ []) bytes in
    let t : sum_of ((x ∷ y ∷ c) ++ s ∷ []) % 256 ≡ 0 = rw (← parts_summed a (x ∷ y ∷ c) s e) ends.total in
    let f : e ≡ 0x03 = sym (parts_etx a (x ∷ y ∷ c) s e) ∙ ends.etx in
    let g : s ≡ lack (x ∷ y ∷ c) = lack_only (x ∷ y ∷ c) s below t in
    rw (b, ← start, ← f, ← g) refl

module _ (kind : Kind) where
  pub whole_frame : (q : List ℕ) → AllBytes q → progress_of kind q ≡ Complete → ends_well q ≡ true → q ≡ frame kind (contents_of q)
  unfolding AllBytes length_of
  whole_frame [] all p w = absurd (omega (arith, (whole kind [] p).count))
  whole_frame (a ∷ []) all p w = absurd (omega (arith, (whole kind (a ∷ []) p).count))
  whole_frame (a ∷ x ∷ []) all p w = absurd (omega (arith, (whole kind (a ∷ x ∷ []) p).count))
  whole_frame (a ∷ x ∷ y ∷ r) all p w =
      let i = whole kind (a ∷ x ∷ y ∷ r) p in
      let n = number (x ∷ y ∷ []) in
      let k : length r ≡ n + 2 = omega (arith, i.count) in
      let d = split_end r n k in
      let z : ends_well (a ∷ x ∷ y ∷ (take n r ++ get_or r n 0 ∷ get_or r (suc n) 0 ∷ [])) ≡ true = subst (λ (l : List ℕ). ends_well (a ∷ x ∷ y ∷ l) ≡ true) d w in
      ap (λ (l : List ℕ). a ∷ x ∷ y ∷ l) d
      ∙ rebuilt kind a x y (take n r) (get_or r n 0) (get_or r (suc n) 0) i.start (all.1.0, (all.1.1.0, tt)) (sym (length-take-le n r (omega arith))) (byte_at r n all.1.1.1) (ended _ z)

-- kind and contents tell a good packet
pub good_frame : (q : List ℕ) → AllBytes q → (g : good q ≡ true) → q ≡ frame (good_is q g).kind (contents_of q)
good_frame q all g =
    let i = good_is q g in
    whole_frame i.kind q all (complete i.kind q i.is) i.ends
