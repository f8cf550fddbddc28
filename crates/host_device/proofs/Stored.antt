-- Bytes that are stored one part behind the other: the image they leave, what is still blank, and that they read back. Assumes nothing.
use mathlib.Core.List.{List, [], ◌∷◌, ◌++◌, append-nil}
use mathlib.Core.Logic.{inr, ⊎_elim}
use mathlib.Core.Path.{◌≡◌, refl, sym, ap, ◌∙◌}
use Prim.Native.Nat.{ℕ, ◌+◌, ◌-◌, ◌≤◌, ◌<◌}
use native.Mathlib.Omega.{arith}
use lib.ListN.{length, take, drop, get_or, replicate, length-append, length-take, length-drop, get_or-replicate, length-replicate, take-append-drop, drop_of_length-le, get_or-append}
use lib.Seq.{take_all, take_at, drop_at, length-take-le, ext_get_or}
use Rattle.profile.specs.declared.Area.{Area}
use Rattle.profile.specs.declared.Spot.{Spot}
use Rattle.profile.specs.Areas.{size_of, total_of}
use Rattle.profile.specs.Places.{place_of, offset_in}
use Rattle.profile.proofs.Places.{area_below_total}
use Rattle.flash.specs.Effects.{Effect, along, changed, storing, stored, fetched}
use Rattle.flash_blank.proofs.Found.{AllBlank}
use Rattle.flash.proofs.Lists.{below, get_d_behind}
use Rattle.flash.proofs.Along.{length_along}
use Rattle.flash.proofs.Writes.{storing_in, storing_only}
use Rattle.std.specs.Prelude.{Some}
use Rattle.flash.proofs.ByAddress.{changed_length, stored_in, stored_out, stored_length, fetched_at_lem, fetched_length}

-- an effect that is no effect on any byte
module _ (f : Effect) (quiet : (x b : ℕ) → f x b ≡ b) where
  -- on bytes in a row
  along_quiet : (x : ℕ) (l : List ℕ) → along f x l ≡ l
  unfolding along
  along_quiet x [] = refl
  along_quiet x (b ∷ bs) = rw (quiet x b, along_quiet (x + 1) bs) refl

  -- and on the image
  changed_quiet : (areas : List Area) (image : List ℕ) → changed f areas image ≡ image
  unfolding changed
  changed_quiet [] image = refl
  changed_quiet (a ∷ more) image =
      rw (along_quiet a.sad (take (size_of a) image), changed_quiet more (drop (size_of a) image)) (take-append-drop (size_of a) image)

-- no bytes stored are no change
pub stored_none : (areas : List Area) (s : ℕ) (image : List ℕ) → stored areas s [] image ≡ image
unfolding stored
stored_none areas s image =
    changed_quiet (storing s [])
    (λ x b. ⊎_elim (λ (h : x < s). (storing_only s []).under x b h) (λ (h : s ≤ x). (storing_only s []).over x b (omega arith)) (below x s))
    areas image

-- a list of no length is empty
no_length : (l : List ℕ) → length l ≡ 0 → l ≡ []
no_length [] e = refl
no_length (b ∷ bs) e = absurd (omega arith)

-- two parts that are as long as those of a list at place n
module _ (n : ℕ) (p r l : List ℕ) (e : length p ≡ length (take n l)) (f : length r ≡ length (drop n l)) where
  -- the first reaches up to n
  first_part : take n (p ++ r) ≡ p
  first_part =
      ⊎_elim
      (λ (h : length l < n).
      let z : r ≡ [] = no_length r (f ∙ length-drop n l ∙ omega arith) in
      let s : length p ≤ n = omega (arith, length-take n l) in
      rw (z, append-nil) (take_all n p s))
      (λ (h : n ≤ length l). take_at p r n (e ∙ length-take-le n l h))
      (below (length l) n)

  -- the second stands behind it
  second_part : drop n (p ++ r) ≡ r
  second_part =
      ⊎_elim
      (λ (h : length l < n).
      let z : r ≡ [] = no_length r (f ∙ length-drop n l ∙ omega arith) in
      let s : length p ≤ n = omega (arith, length-take n l) in
      rw (z, append-nil) (drop_of_length-le p s))
      (λ (h : n ≤ length l). drop_at p r n (e ∙ length-take-le n l h))
      (below (length l) n)

-- one effect behind another, and an effect that is both
module _ (f g both : Effect) (is : (x b : ℕ) → both x b ≡ f x (g x b)) where
  -- on bytes in a row they come to the same
  along_both : (x : ℕ) (l : List ℕ) → along both x l ≡ along f x (along g x l)
  unfolding along
  along_both x [] = refl
  along_both x (b ∷ bs) = rw (is x b, along_both (x + 1) bs) refl

  -- and on the image
  changed_both : (areas : List Area) (image : List ℕ) → changed both areas image ≡ changed f areas (changed g areas image)
  unfolding changed
  changed_both [] image = refl
  changed_both (a ∷ more) image =
      let p = along g a.sad (take (size_of a) image) in
      let r = changed g more (drop (size_of a) image) in
      let e : length p ≡ length (take (size_of a) image) = length_along g a.sad (take (size_of a) image) in
      let k : length r ≡ length (drop (size_of a) image) = changed_length g more (drop (size_of a) image) in
      let front : take (size_of a) (p ++ r) ≡ p = first_part (size_of a) p r image e k in
      let rest : drop (size_of a) (p ++ r) ≡ r = second_part (size_of a) p r image e k in
      rw (front, rest, along_both a.sad (take (size_of a) image), changed_both more (drop (size_of a) image)) refl

-- a byte at an address, where two parts are stored one behind the other
module _ (s : ℕ) (xs ys : List ℕ) (x b : ℕ) where
  -- is the byte of the joined bytes
  both_parts : storing s (xs ++ ys) x b ≡ storing (s + length xs) ys x (storing s xs x b)
  both_parts =
      let n : length (xs ++ ys) ≡ length xs + length ys = length-append xs ys in
      ⊎_elim
      (λ (h : x < s).
      (storing_only s (xs ++ ys)).under x b h ∙ sym ((storing_only (s + length xs) ys).under x _ (omega arith) ∙ (storing_only s xs).under x b h))
      (λ (h : s ≤ x). ⊎_elim
      (λ (i : x < s + length xs).
      storing_in s (xs ++ ys) x b h (omega arith)
      ∙ get_or-append xs ys 0xFF (x - s) (omega arith)
      ∙ sym ((storing_only (s + length xs) ys).under x _ i ∙ storing_in s xs x b h i))
      (λ (i : s + length xs ≤ x). ⊎_elim
      (λ (j : x < s + length xs + length ys).
      let d : x - s - length xs ≡ x - (s + length xs) = omega arith in
      storing_in s (xs ++ ys) x b h (omega arith)
      ∙ get_d_behind xs ys (x - s) 0xFF (omega arith)
      ∙ ap (λ (k : ℕ). get_or ys k 0xFF) d
      ∙ sym (storing_in (s + length xs) ys x _ i j))
      (λ (j : s + length xs + length ys ≤ x).
      (storing_only s (xs ++ ys)).over x b (omega arith) ∙ sym ((storing_only (s + length xs) ys).over x _ j ∙ (storing_only s xs).over x b i))
      (below x (s + length xs + length ys)))
      (below x (s + length xs)))
      (below x s)

-- stored in two parts is stored at once
pub stored_parts : (areas : List Area) (s : ℕ) (xs ys image : List ℕ)
    → stored areas s (xs ++ ys) image ≡ stored areas (s + length xs) ys (stored areas s xs image)
unfolding stored
stored_parts areas s xs ys image = changed_both (storing (s + length xs) ys) (storing s xs) (storing s (xs ++ ys)) (both_parts s xs ys) areas image

-- the addresses of an area from s to e, inclusive, hold FFh
abbrev pub BlankFrom : Spot → List ℕ → ℕ → ℕ → Type 0
BlankFrom spot image s e = (x : ℕ) → s ≤ x → x ≤ e → get_or image (offset_in spot x) 0 ≡ 0xFF

-- addresses of one area
module _ (areas : List Area) (spot : Spot) (same : (x : ℕ) → spot.area.sad ≤ x → x ≤ spot.area.ead → place_of areas x ≡ Some spot) where
  module _ (s e : ℕ) (low : spot.area.sad ≤ s) (order : s ≤ e) (high : e ≤ spot.area.ead) (image : List ℕ)
      (whole : length image ≡ total_of areas) where
    start_place : place_of areas s ≡ Some spot
    start_place = same s low (omega arith)

    -- the image has the byte of each address of the range
    pub in_image : (x : ℕ) → s ≤ x → x ≤ e → offset_in spot x < length image
    in_image x from to = omega (arith, area_below_total areas s spot start_place)

    end_in_image : offset_in spot e < length image
    end_in_image = in_image e order (omega arith)

    -- blank bytes that are fetched say so of each address
    pub blank_fetched : fetched areas s (e + 1 - s) image ≡ replicate (e + 1 - s) 0xFF → BlankFrom spot image s e
    blank_fetched b x from to =
        let l : length (fetched areas s (e + 1 - s) image) ≡ e + 1 - s = ap length b ∙ length-replicate (e + 1 - s) 0xFF in
        let at : offset_in spot s + (x - s) ≡ offset_in spot x = omega arith in
        let inside : x - s < e + 1 - s = omega arith in
        let fetch : get_or (fetched areas s (e + 1 - s) image) (x - s) 0 ≡ get_or image (offset_in spot s + (x - s)) 0 =
        fetched_at_lem areas s (e + 1 - s) image spot start_place (x - s) 0 (rw l inside) in
        rw (← at, ← fetch, b) (get_or-replicate (e + 1 - s) (x - s) 0xFF 0 inside)

    -- and addresses that are blank are fetched so
    pub fetched_blank : (n : ℕ) → s + n ≤ e + 1 → BlankFrom spot image s e → AllBlank (fetched areas s n image)
    fetched_blank n most b k h =
        let l : length (fetched areas s n image) ≡ n = fetched_length areas s n image spot start_place (omega (arith, end_in_image)) in
        let at : offset_in spot s + k ≡ offset_in spot (s + k) = omega arith in
        fetched_at_lem areas s n image spot start_place k 0 h ∙ ap (λ (k : ℕ). get_or image k 0) at ∙ b (s + k) (omega arith) (omega arith)

    -- what is stored before an address leaves those from there on blank
    pub still_blank : (vs : List ℕ) → BlankFrom spot image s e → BlankFrom spot (stored areas s vs image) (s + length vs) e
    still_blank vs b x from to =
        stored_out areas image x spot (same x (omega arith) (omega arith)) (in_image x (omega arith) to) 0 s vs (inr from) ∙ b x (omega arith) to

    -- what was stored reads back
    pub reads_stored : (vs : List ℕ) → length vs ≡ e + 1 - s → fetched areas s (length vs) (stored areas s vs image) ≡ vs
    reads_stored vs n =
        let after = stored areas s vs image in
        let l : length after ≡ length image = stored_length areas s vs image in
        let c : length (fetched areas s (length vs) after) ≡ length vs =
        fetched_length areas s (length vs) after spot start_place (omega (arith, end_in_image)) in
        ext_get_or 0xFF (fetched areas s (length vs) after) vs c
        (λ k h.
        let at : offset_in spot s + k ≡ offset_in spot (s + k) = omega arith in
        let back : s + k - s ≡ k = omega arith in
        let there : offset_in spot (s + k) < length image = in_image (s + k) (omega arith) (omega arith) in
        fetched_at_lem areas s (length vs) after spot start_place k 0xFF h
        ∙ ap (λ (j : ℕ). get_or after j 0xFF) at
        ∙ stored_in areas image (s + k) spot (same (s + k) (omega arith) (omega arith)) there 0xFF s vs (omega arith) (omega arith)
        ∙ ap (λ (j : ℕ). get_or vs j 0xFF) back)
