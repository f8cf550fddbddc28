-- An effect on the image goes area by area: at each area it changes that area's bytes in place. Assumes nothing.
use mathlib.Core.List.{List, [], ◌∷◌, ◌++◌, append_assoc}
use mathlib.Core.Logic.{⊎_elim}
use mathlib.Core.Path.{◌≡◌, refl, sym, ap, ◌∙◌}
use Prim.Native.Nat.{ℕ, zero, suc, ◌+◌, ◌-◌, ◌≤◌, ◌<◌}
use native.Mathlib.Omega.{arith}
use lib.ListN.{length, take, drop, get_or, length-append, length-take, length-drop, get_or-append, take-append-drop}
use lib.Seq.{take-add, drop-drop, length_front, length-take-le, get_or-take, get_or-drop, ext_get_or}
use Rattle.numbers.proofs.Copied.{part_count}
use Rattle.profile.specs.declared.Area.{Area}
use Rattle.profile.specs.Areas.{size_of}
use Rattle.flash.specs.Effects.{Effect, along, changed}
use Rattle.flash.specs.Meets.{Meets, Only}
use Rattle.flash.proofs.Lists.{below, get_d_behind, take_front, drop_front, replaced, replaced_length, replaced_before, replaced_in, replaced_behind}

-- an effect keeps the length, and gives each byte by its address
pub length_along : (f : Effect) (x : ℕ) (l : List ℕ) → length (along f x l) ≡ length l
unfolding along
length_along f x [] = refl
length_along f x (b ∷ bs) = ap suc (length_along f (x + 1) bs)

pub get_d_along : (f : Effect) (x : ℕ) (l : List ℕ) (k d : ℕ) → k < length l → get_or (along f x l) k d ≡ f (x + k) (get_or l k d)
unfolding along
get_d_along f x [] k d h = absurd (omega arith)
get_d_along f x (b ∷ bs) zero d h =
    let e : x ≡ x + 0 = omega arith in
    ap (λ (y : ℕ). f y b) e
get_d_along f x (b ∷ bs) (suc k) d h =
    let e : x + 1 + k ≡ x + suc k = omega arith in
    get_d_along f (x + 1) bs k d (omega arith) ∙ ap (λ (y : ℕ). f y (get_or bs k d)) e

module _ (f : Effect) (a : Area) (base : ℕ) (image : List ℕ) where
  -- the area's bytes, changed, with all before them
  passed : List ℕ
  passed = take base image ++ along f a.sad (take (size_of a) (drop base image))

  -- the image with the bytes of one area changed
  pub in_area : List ℕ
  in_area = passed ++ drop (base + size_of a) image

  passed_length : length passed ≡ length (take (base + size_of a) image)
  unfolding passed
  passed_length =
      rw (take-add, length-append, length-append, length_along) refl

  pub in_area_length : length in_area ≡ length image
  unfolding in_area
  in_area_length = length_front image passed (base + size_of a) passed_length

  -- the effect on this area and the areas behind it
  pub changed_next : (more : List Area)
      → take base image ++ changed f (a ∷ more) (drop base image) ≡ take (base + size_of a) in_area ++ changed f more (drop (base + size_of a) in_area)
  unfolding changed in_area passed
  changed_next more =
      rw (take_front (base + size_of a) passed image passed_length, drop_front (base + size_of a) passed image passed_length, drop-drop)
      (sym (append_assoc (take base image) (along f a.sad (take (size_of a) (drop base image))) (changed f more (drop (base + size_of a) image))))

  passed_count : (k : ℕ) → k < base + size_of a → k < length image → k < length passed
  passed_count k h w = omega (arith, passed_length, length-take (base + size_of a) image)

  -- the bytes of the image, by their places
  pub in_area_before : (k d : ℕ) → k < base → k < length image → get_or in_area k d ≡ get_or image k d
  unfolding in_area passed
  in_area_before k d h w =
      let s : k < length (take base image) = omega (arith, length-take base image) in
      get_or-append passed (drop (base + size_of a) image) d k (passed_count k (omega arith) w)
      ∙ get_or-append (take base image) (along f a.sad (take (size_of a) (drop base image))) d k s
      ∙ get_or-take base image k d h

  pub in_area_in : (k d : ℕ) → base ≤ k → k < base + size_of a → k < length image → get_or in_area k d ≡ f (a.sad + (k - base)) (get_or image k d)
  unfolding in_area passed
  in_area_in k d h i w =
      let b : length (take base image) ≡ base = length-take-le base image (omega arith) in
      let j : k - base < length (take (size_of a) (drop base image)) = omega (arith, length-take (size_of a) (drop base image), length-drop base image) in
      let e : base + (k - base) ≡ k = omega arith in
      get_or-append passed (drop (base + size_of a) image) d k (passed_count k i w)
      ∙ get_d_behind (take base image) (along f a.sad (take (size_of a) (drop base image))) k d (omega arith)
      ∙ ap (λ (m : ℕ). get_or (along f a.sad (take (size_of a) (drop base image))) (k - m) d) b
      ∙ get_d_along f a.sad (take (size_of a) (drop base image)) (k - base) d j
      ∙ ap (f (a.sad + (k - base)))
      (get_or-take (size_of a) (drop base image) (k - base) d (omega arith) ∙ get_or-drop base image (k - base) d ∙ ap (λ (m : ℕ). get_or image m d) e)

  pub in_area_behind : (k d : ℕ) → base + size_of a ≤ k → k < length image → get_or in_area k d ≡ get_or image k d
  unfolding in_area
  in_area_behind k d h w =
      let n : length passed ≡ base + size_of a = passed_length ∙ length-take-le (base + size_of a) image (omega arith) in
      let e : base + size_of a + (k - length passed) ≡ k = omega arith in
      get_d_behind passed (drop (base + size_of a) image) k d (omega arith)
      ∙ get_or-drop (base + size_of a) image (k - length passed) d
      ∙ ap (λ (m : ℕ). get_or image m d) e

-- so it is enough to replace the part, where the range and the area meet
module _ (f : Effect) (a : Area) (base s t lo hi : ℕ) (image new : List ℕ) (only : Only f s t) (m : Meets a base (length image) s t lo hi) (n : length new ≡ hi - lo)
    (is : (k : ℕ) → lo ≤ k → k < hi → get_or new (k - lo) 255 ≡ f (a.sad + (k - base)) (get_or image k 255)) where
  -- a place whose byte the effect leaves alone, where it is one of the area's
  quiet : (k : ℕ) → k < length image → (base ≤ k → k < base + size_of a → f (a.sad + (k - base)) (get_or image k 255) ≡ get_or image k 255)
      → get_or image k 255 ≡ get_or (in_area f a base image) k 255
  quiet k w same =
      ⊎_elim
      (λ (i : k < base). sym (in_area_before f a base image k 255 i w))
      (λ (i : base ≤ k). ⊎_elim
      (λ (j : k < base + size_of a). sym (in_area_in f a base image k 255 i j w ∙ same i j))
      (λ (j : base + size_of a ≤ k). sym (in_area_behind f a base image k 255 j w))
      (below k (base + size_of a)))
      (below k base)

  in_part : (k : ℕ) → lo ≤ k → k < hi → k < length image → get_or new (k - lo) 255 ≡ get_or (in_area f a base image) k 255
  in_part k h i w = is k h i ∙ sym (in_area_in f a base image k 255 (m.area k h i).0 (m.area k h i).1 w)

  same_places : (k : ℕ) → k < length image → get_or (replaced lo hi new image) k 255 ≡ get_or (in_area f a base image) k 255
  same_places k w =
      ⊎_elim
      (λ (h : k < lo). replaced_before lo hi new image m.order m.fits n k 255 h ∙ quiet k w (λ i j. only.under (a.sad + (k - base)) (get_or image k 255) (m.under k i h)))
      (λ (h : lo ≤ k). ⊎_elim
      (λ (i : k < hi). replaced_in lo hi new image m.order m.fits n k 255 h i ∙ in_part k h i w)
      (λ (i : hi ≤ k). replaced_behind lo hi new image m.order m.fits n k 255 i ∙ quiet k w (λ g j. only.over (a.sad + (k - base)) (get_or image k 255) (m.over k i w g j)))
      (below k hi))
      (below k lo)

  pub part_changed : replaced lo hi new image ≡ in_area f a base image
  part_changed =
      let l : length (replaced lo hi new image) ≡ length image = replaced_length lo hi new image m.order m.fits n in
      ext_get_or 255 (replaced lo hi new image) (in_area f a base image) (l ∙ sym (in_area_length f a base image))
      (λ k w. same_places k (omega arith))

-- the part as the effect leaves its bytes, the first of which has an address
module _ (f : Effect) (a : Area) (base s t lo hi : ℕ) (image : List ℕ) (only : Only f s t) (m : Meets a base (length image) s t lo hi) where
  abbrev part : List ℕ
  part = take (hi - lo) (drop lo image)

  pub part_along : (new : List ℕ) → lo < hi → new ≡ along f (a.sad + (lo - base)) part → replaced lo hi new image ≡ in_area f a base image
  part_along new w e =
      let b = m.area lo (omega arith) w in
      let c = part_count lo hi image m.fits in
      part_changed f a base s t lo hi image new only m (ap length e ∙ length_along f (a.sad + (lo - base)) part ∙ c)
      (λ k h i.
      let j : k - lo < length part = omega arith in
      let x : a.sad + (lo - base) + (k - lo) ≡ a.sad + (k - base) = omega arith in
      let p : lo + (k - lo) ≡ k = omega arith in
      ap (λ (l : List ℕ). get_or l (k - lo) 255) e
      ∙ get_d_along f (a.sad + (lo - base)) part (k - lo) 255 j
      ∙ ap (λ (y : ℕ). f y (get_or part (k - lo) 255)) x
      ∙ ap (f (a.sad + (k - base))) (get_or-take (hi - lo) (drop lo image) (k - lo) 255 (omega arith) ∙ get_or-drop lo image (k - lo) 255 ∙ ap (λ (q : ℕ). get_or image q 255) p))

  -- no part, no change
  pub part_none : hi ≤ lo → image ≡ in_area f a base image
  unfolding replaced
  part_none h =
      let e : hi - lo ≡ 0 = omega arith in
      let r : replaced lo hi [] image ≡ image = rw e (take-append-drop lo image) in
      sym r ∙ part_changed f a base s t lo hi image [] only m (sym e) (λ k i j. absurd (omega arith))

  -- where the part lies
  pub part_from : lo < hi → s ≤ a.sad + (lo - base)
  part_from w = (m.range lo (omega arith) w).0

  pub part_to : lo < hi → a.sad + (lo - base) + length part ≤ t
  part_to w =
      let b = m.area lo (omega arith) w in
      let r = m.range (hi - 1) (omega arith) (omega arith) in
      omega (arith, part_count lo hi image m.fits)
