-- What a stored ID is, and what a granted code is: the total-erase code where bit 126 permits it, or the latched ID. Assumes nothing.
use mathlib.Core.List.{List, ◌++◌}
use mathlib.Core.Bool.{Bool, true, false, ◌||◌}
use Rattle.std.specs.Prelude.{None, Option, Some}
use mathlib.Core.Path.{◌≡◌, refl, sym, ap, ◌∙◌}
use Prim.Native.Nat.{ℕ, ◌+◌, ◌≤◌}
use native.Mathlib.Omega.{arith}
use lib.ListN.{length, take, drop, get_or, length-append, length-drop}
use lib.Seq.{length-take-le, take-append-le}
use borrow.Author.Tests.{not-false}
use Rattle.verdict.specs.Check.{first_fault, NoneApplies}
use Rattle.verdict.proofs.FirstFault.{clear}
use Rattle.profile.specs.declared.Area.{Area}
use Rattle.profile.specs.declared.Spot.{Spot}
use Rattle.numbers.specs.Same.{same}
use Rattle.numbers.proofs.Same.{same_eq}
use Rattle.numbers.proofs.There.{entry_there}
use Rattle.id_code.specs.Identity.{config_from, no_id, id_at, id_of, bit127, erase_code, total_erase, id_checks}

-- sixteen bytes, for every image
pub id_length : (areas : List Area) (image : List ℕ) → length (id_of areas image) ≡ 16
unfolding id_of id_at
id_length areas image = at (config_from 0 areas)
  where
    at : (place : Option Spot) → length (id_at place image) ≡ 16
    at None = refl
    at (Some spot) =
        let enough : 16 ≤ length (drop spot.base image ++ no_id) = rw length-append (omega arith) in
        length-take-le 16 (drop spot.base image ++ no_id) enough

-- an image that is long enough has them all
pub id_whole : (spot : Spot) (image : List ℕ) → spot.base + 16 ≤ length image → id_at (Some spot) image ≡ take 16 (drop spot.base image)
unfolding id_at
id_whole spot image h =
    let enough : 16 ≤ length (drop spot.base image) = rw length-drop (omega arith) in
    take-append-le 16 (drop spot.base image) no_id enough

-- an ID has a first byte: bits 127 and 126 are its
pub first_there : (id : List ℕ) → length id ≡ 16 → (d : ℕ) → get_or id 0 d ≡ get_or id 0 0
first_there id h d = entry_there id 0 d 0 (omega arith)

-- 41h has bit 127 clear
pub erase_unset : (code : List ℕ) → same code erase_code ≡ true → bit127 code ≡ false
unfolding bit127
erase_unset code e = ap bit127 (same_eq code erase_code e)

-- what a granted code shows
pub record Admitted (id code : List ℕ) : Type 0 where
  pub unlocked : bit127 id ≡ true
  pub known : (total_erase id code || same code id) ≡ true

pub admitted : (id code : List ℕ) → first_fault (id_checks id code) ≡ None → Admitted id code
unfolding id_checks NoneApplies
admitted id code g =
    let n = clear (id_checks id code) g in
    record { unlocked = not-false _ n.0; known = not-false _ n.1.0 }

-- where one of two tests holds, and not the first
either : (s t : Bool) → (s || t) ≡ true → s ≡ false → t ≡ true
either true t e f = let z : ◌≡◌ {A = ℕ} 0 1 = cc in absurd (omega arith)
either false t e f = e

-- the total-erase code is never granted as an ID, only as a total erase
pub erase_granted : (id code : List ℕ) → first_fault (id_checks id code) ≡ None → same code erase_code ≡ true → total_erase id code ≡ true
erase_granted id code g e = by (total_erase id code) refl
  where
    by : (t : Bool) → total_erase id code ≡ t → t ≡ true
    by true p = refl
    by false p =
        let a = admitted id code g in
        let k = same_eq code id (either _ _ a.known p) in
        sym (erase_unset code e) ∙ ap bit127 k ∙ a.unlocked

-- any other code that is granted is the latched ID
pub id_granted : (id code : List ℕ) → first_fault (id_checks id code) ≡ None → same code erase_code ≡ false → code ≡ id
unfolding total_erase
id_granted id code g e =
    let a = admitted id code g in
    let p : total_erase id code ≡ false = rw e refl in
    same_eq code id (either _ _ a.known p)
