-- A profile's bytes read back as that profile, and 156 bytes are those of the profile in them. Assumes nothing.
use mathlib.Core.List.{List, [], ◌∷◌, ◌++◌, append_assoc}
use mathlib.Core.Path.{◌≡◌, refl, sym, ap, ◌∙◌}
use Prim.Native.Nat.{ℕ, zero, suc, ◌+◌, ◌*◌, ◌≤◌, ◌<◌}
use native.Mathlib.Omega.{arith}
use lib.ListN.{length, take, drop, get_or, length-append}
use lib.Seq.{drop-append-add, get_or-append-add}
use borrow.Author.Tests.{eq-eqb}
use Rattle.numbers.specs.Bytes.{bytes_of, AllBytes}
use Rattle.profile.specs.declared.Area.{Area}
use Rattle.profile.specs.declared.Profile.{Profile}
use Rattle.packet_messages.specs.Messages.{area_message}
use Rattle.packet_fields.specs.Fields.{four_at, bytes_from}
use Rattle.profile_bytes.specs.Profile.{area_at, areas_from, fields_in, profile_in, table_bytes, profile_bytes}
use Rattle.profile_bytes.specs.Formed.{FormedArea}
use Rattle.packet_fields.proofs.Spelled.{spelled}
use Rattle.packet_fields.proofs.FieldLaws.{two_back, four_back, back_two, back_four, from_append}

-- numbers within their widths
unfoldable pub FormedTable : List Area → Type 0
FormedTable [] = Unit {0}
FormedTable (a ∷ more) = FormedArea a × FormedTable more

pub record Formed (p : Profile) : Type 0 where
  pub eight : length p.areas ≡ 8
  pub table : FormedTable p.areas
  pub noa : p.noa < 256
  pub sci : p.sci < 4294967296
  pub rmb : p.rmb < 4294967296
  pub typ : p.typ < 256
  pub bfv : p.bfv < 65536
  pub low : p.window.low < 4294967296
  pub high : p.window.high < 4294967296

area_length_lem : (a : Area) → length (area_message a) ≡ 17
unfolding area_message bytes_of
area_length_lem a = refl

-- an area behind other bytes
module _ (pre rest : List ℕ) (a : Area) where
  abbrev behind : List ℕ
  behind = pre ++ (area_message a ++ rest)

  behind_length : length behind ≡ length pre + (17 + length rest)
  behind_length =
      length-append pre (area_message a ++ rest) ∙ ap (λ (k : ℕ). length pre + k) (length-append (area_message a) rest ∙ ap (λ (k : ℕ). k + length rest) (area_length_lem a))

  number_back : (n k : ℕ) → k ≤ 13 → n < 4294967296 → take 4 (drop k (area_message a ++ rest)) ≡ bytes_of 4 n → four_at behind (length pre + k) ≡ n
  number_back n k b h e =
      four_back n (length pre + k) behind (omega (arith, behind_length)) h (ap (take 4) (drop-append-add pre (area_message a ++ rest) k) ∙ e)

  area_back : FormedArea a → area_at behind (length pre) ≡ a
  unfolding area_message bytes_of
  area_back f =
      let z : length pre ≡ length pre + 0 = omega arith in
      let k : get_or behind (length pre) 0 ≡ a.koa = ap (λ (i : ℕ). get_or behind i 0) z ∙ get_or-append-add pre (area_message a ++ rest) 0 0 in
      rw
      (k, number_back a.sad 1 (omega arith) f.sad refl, number_back a.ead 5 (omega arith) f.ead refl, number_back a.eau 9 (omega arith) f.eau refl, number_back a.wau 13 (omega arith) f.wau refl)
      refl

-- the table behind other bytes
table_back : (areas : List Area) (pre : List ℕ) (n at : ℕ) → FormedTable areas → length areas ≡ n → length pre ≡ at → areas_from n at (pre ++ table_bytes areas) ≡ areas
unfolding FormedTable areas_from table_bytes
table_back [] pre zero at f h e = refl
table_back [] pre (suc n) at f h e = absurd (omega arith)
table_back (a ∷ more) pre zero at f h e = absurd (omega arith)
table_back (a ∷ more) pre (suc n) at f h e =
    let bs : List ℕ = pre ++ (area_message a ++ table_bytes more) in
    let p : area_at bs at ≡ a = ap (λ (i : ℕ). area_at bs i) (sym e) ∙ area_back pre (table_bytes more) a f.0 in
    let l : length (pre ++ area_message a) ≡ at + 17 = omega (arith, length-append pre (area_message a), area_length_lem a) in
    let q : areas_from n (at + 17) bs ≡ more =
    ap (areas_from n (at + 17)) (sym (append_assoc pre (area_message a) (table_bytes more)))
    ∙ table_back more (pre ++ area_message a) n (at + 17) f.1 (omega arith) l in
    ap (λ (x : Area). x ∷ areas_from n (at + 17) bs) p ∙ ap (λ (t : List Area). a ∷ t) q

-- what stands before the table
abbrev head_bytes : Profile → List ℕ
head_bytes p =
    (p.noa ∷ p.typ ∷ []) ++ bytes_of 2 p.bfv ++ bytes_of 4 p.sci ++ bytes_of 4 p.rmb ++ bytes_of 4 p.window.low ++ bytes_of 4 p.window.high

head_length_lem : (p : Profile) → length (head_bytes p) ≡ 20
unfolding bytes_of
head_length_lem p = refl

profile_bytes_lem : (p : Profile) → length (profile_bytes p) ≡ 20 + length (table_bytes p.areas)
unfolding profile_bytes
profile_bytes_lem p = omega (arith, head_length_lem p, length-append (head_bytes p) (table_bytes p.areas))

table_length : (areas : List Area) → length (table_bytes areas) ≡ length areas * 17
unfolding table_bytes
table_length [] = refl
table_length (a ∷ more) = omega (arith, length-append (area_message a) (table_bytes more), area_length_lem a, table_length more)

pub profile_length_lem : (p : Profile) → length p.areas ≡ 8 → length (profile_bytes p) ≡ 156
profile_length_lem p h = omega (arith, profile_bytes_lem p, table_length p.areas)

fields_back : (p : Profile) → Formed p → fields_in (profile_bytes p) ≡ p
unfolding fields_in profile_bytes bytes_of
fields_back p f =
    let bs : List ℕ = profile_bytes p in
    let l : length bs ≡ 156 = profile_length_lem p f.eight in
    let t : areas_from 8 20 bs ≡ p.areas = table_back p.areas (head_bytes p) 8 20 f.table f.eight (head_length_lem p) in
    rw
    (t, two_back p.bfv 2 bs (omega arith) f.bfv refl, four_back p.sci 4 bs (omega arith) f.sci refl, four_back p.rmb 8 bs (omega arith) f.rmb refl, four_back p.window.low 12 bs (omega arith) f.low refl, four_back p.window.high 16 bs (omega arith) f.high refl)
    refl

pub profile_read_back : (p : Profile) → Formed p → profile_in (profile_bytes p) ≡ p
unfolding profile_in
profile_read_back p f = rw (eq-eqb _ _ (profile_length_lem p f.eight)) (fields_back p f)

from_one : (at : ℕ) (bs : List ℕ) → bytes_from 1 at bs ≡ get_or bs at 0 ∷ []
unfolding bytes_from
from_one at bs = refl

-- bytes that were read
module _ (bs : List ℕ) (t : AllBytes bs) where
  area_written : (at : ℕ) → at + 17 ≤ length bs → area_message (area_at bs at) ≡ bytes_from 17 at bs
  unfolding area_message
  area_written at h =
      rw
      (from_append 13 4 at bs, from_append 9 4 at bs, from_append 5 4 at bs, from_append 1 4 at bs, from_one at bs, back_four (at + 1) bs t (omega arith), back_four (at + 5) bs t (omega arith), back_four (at + 9) bs t (omega arith), back_four (at + 13) bs t (omega arith))
      refl

  table_written : (n at : ℕ) → at + n * 17 ≤ length bs → table_bytes (areas_from n at bs) ≡ bytes_from (n * 17) at bs
  unfolding areas_from table_bytes bytes_from
  table_written zero at h = refl
  table_written (suc n) at h =
      let e : suc n * 17 ≡ 17 + n * 17 = omega arith in
      ap (λ (k : List ℕ). k ++ table_bytes (areas_from n (at + 17) bs)) (area_written at (omega arith))
      ∙ ap (λ (k : List ℕ). bytes_from 17 at bs ++ k) (table_written n (at + 17) (omega arith))
      ∙ sym (from_append 17 (n * 17) at bs)
      ∙ ap (λ (k : ℕ). bytes_from k at bs) (sym e)

  parts : length bs ≡ 156
      → (get_or bs 0 0 ∷ get_or bs 1 0 ∷ []) ++ bytes_from 2 2 bs ++ bytes_from 4 4 bs ++ bytes_from 4 8 bs ++ bytes_from 4 12 bs ++ bytes_from 4 16 bs
      ++ bytes_from 136 20 bs
      ≡ bs
  unfolding bytes_from
  parts h = spelled 156 bs h

  fields_written_back : length bs ≡ 156 → profile_bytes (fields_in bs) ≡ bs
  unfolding profile_bytes fields_in
  fields_written_back h =
      rw
      (back_two 2 bs t (omega arith), back_four 4 bs t (omega arith), back_four 8 bs t (omega arith), back_four 12 bs t (omega arith), back_four 16 bs t (omega arith), table_written 8 20 (omega arith))
      (parts h)

  pub profile_written_back : length bs ≡ 156 → profile_bytes (profile_in bs) ≡ bs
  unfolding profile_in
  profile_written_back h = rw (eq-eqb _ _ h) (fields_written_back h)
