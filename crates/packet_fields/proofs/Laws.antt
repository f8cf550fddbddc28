-- The numbers of commands, the bytes between COM and SUM and where they stand, a COM and a number that are there. Assumes nothing.
use mathlib.Core.Bool.{Bool, true, false, cond}
use mathlib.Core.List.{List, [], ◌∷◌}
use mathlib.Core.Path.{◌≡◌, refl, sym, ap, ◌∙◌}
use Prim.Native.Nat.{ℕ, ◌+◌, ◌-◌, ◌≤◌, ◌<◌}
use native.Mathlib.Omega.{arith}
use lib.ListN.{length, take, drop, get_or}
use lib.Dec.{ltb, eqb}
use borrow.Author.Tests.{ne_eqb, eqb-true, le-leb, lt-ltb, le-ltb, ltb-true, ltb-false}
use Rattle.numbers.specs.Bytes.{number, field, number_at, value_at}
use Rattle.numbers.proofs.Part.{part_there}
use Rattle.numbers.proofs.There.{entry_there, field_there}
use Rattle.packet_fields.specs.declared.Com.{Com}
use Rattle.packet_fields.specs.declared.Com.TheVariants.{Inquiry, Erase, Write, Read, Authenticate, Baud, Signature, Area, Unknown}
use Rattle.packet_fields.specs.Fields.{com_number, com_in, com_of, code_at, info_count, info_of, info_at, value_of}

-- a number that is none of the eight
pub com_unknown : (n : ℕ)
    → (n ≡ 0x00 → ⊥) → (n ≡ 0x12 → ⊥) → (n ≡ 0x13 → ⊥) → (n ≡ 0x15 → ⊥)
    → (n ≡ 0x30 → ⊥) → (n ≡ 0x34 → ⊥) → (n ≡ 0x3A → ⊥) → (n ≡ 0x3B → ⊥)
    → com_of n ≡ Unknown
unfolding com_of com_in
com_unknown n a b c d e f g h =
    simp (ne_eqb n 0x00 a, ne_eqb n 0x12 b, ne_eqb n 0x13 c, ne_eqb n 0x15 d, ne_eqb n 0x30 e, ne_eqb n 0x34 f, ne_eqb n 0x3A g, ne_eqb n 0x3B h)

-- each command is the one of its number, and the number of no command belongs to none
pub com_back : (cmd : Com) → com_of (com_number cmd) ≡ cmd
unfolding com_of com_in
com_back Inquiry = refl
com_back Erase = refl
com_back Write = refl
com_back Read = refl
com_back Authenticate = refl
com_back Baud = refl
com_back Signature = refl
com_back Area = refl
com_back Unknown = refl

-- two commands never have one number
pub com_once : (cmd other : Com) → com_number cmd ≡ com_number other → cmd ≡ other
com_once cmd other e = sym (com_back cmd) ∙ ap com_of e ∙ com_back other

-- a number that is a command's is the number of that command
com_number_in : (cmds : List Com) (n : ℕ) → (com_in cmds n ≡ Unknown → ⊥) → n ≡ com_number (com_in cmds n)
unfolding com_in
com_number_in [] n known = absurd (known refl)
com_number_in (cmd ∷ more) n known = by (eqb n (com_number cmd)) refl (com_number_in more n) known
  where
    by : (t : Bool) → eqb n (com_number cmd) ≡ t → ((com_in more n ≡ Unknown → ⊥) → n ≡ com_number (com_in more n)) → (cond t cmd (com_in more n) ≡ Unknown → ⊥)
        → n ≡ com_number (cond t cmd (com_in more n))
    by true e later k = eqb-true n (com_number cmd) e
    by false e later k = later k

pub com_number_lem : (n : ℕ) → (com_of n ≡ Unknown → ⊥) → n ≡ com_number (com_of n)
unfolding com_of
com_number_lem n known = com_number_in (Inquiry ∷ Erase ∷ Write ∷ Read ∷ Authenticate ∷ Baud ∷ Signature ∷ Area ∷ []) n known

-- a packet with no room between COM and SUM, and one with room
pub info_none : (q : List ℕ) → length q < 6 → [] ≡ info_of q
info_none q h = let e : 0 ≡ length q - 6 = omega arith in ap (λ (k : ℕ). take k (drop 4 q)) e

pub info_part : (q : List ℕ) → take (length q - 2 - 4) (drop 4 q) ≡ info_of q
info_part q = let e : length q - 2 - 4 ≡ length q - 6 = omega arith in ap (λ (k : ℕ). take k (drop 4 q)) e

-- where the bytes between COM and SUM start
pub info_at_none : (q : List ℕ) → length q < 6 → info_at q ≡ 0
unfolding info_at
info_at_none q h = rw (lt-ltb (length q) 6 h) refl

pub info_at_part : (q : List ℕ) → 6 ≤ length q → info_at q ≡ 4
unfolding info_at
info_at_part q h = rw (le-ltb (length q) 6 h) refl

-- they are the packet's own bytes from there on
pub info_there : (q : List ℕ) → info_of q ≡ take (length (info_of q)) (drop (info_at q) q)
info_there q = by (ltb (length q) 6) refl
  where
    by : (t : Bool) → ltb (length q) 6 ≡ t → info_of q ≡ take (length (info_of q)) (drop (info_at q) q)
    by true t = part_there 0 (info_at q) q (info_of q) (info_none q (ltb-true (length q) 6 t))
    by false t = rw (info_at_part q (ltb-false (length q) 6 t)) (part_there (info_count q) 4 q (info_of q) refl)

-- a packet of at least six bytes has a COM or RES, and its information is not cut short
module _ (q : List ℕ) (h : 6 ≤ length q) where
  pub code_there : (d : ℕ) → get_or q 3 d ≡ code_at q
  code_there d = entry_there q 3 d 0 (omega arith)

  pub info_whole : length (info_of q) ≡ info_count q
  info_whole = field_there (info_count q) 4 q (omega arith)

-- a number that is there
pub value_read : (w at : ℕ) (bs : List ℕ) → at + w ≤ length bs → value_of (number_at w bs at) ≡ number (field w at bs)
unfolding value_at
value_read w at bs h = rw (le-leb (at + w) (length bs) h) refl
