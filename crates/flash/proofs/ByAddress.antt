-- What the effects and a fetch come to, byte by byte. Assumes nothing.
use mathlib.Core.Bool.{Bool, true, false}
use mathlib.Core.List.{List, [], ◌∷◌}
use mathlib.Core.Logic.{◌⊎◌, inl, inr, ⊎_elim}
use mathlib.Core.Path.{◌≡◌, refl, ap, subst, ◌∙◌}
use Prim.Native.Nat.{ℕ, ◌+◌, ◌-◌, ◌≤◌, ◌<◌, min}
use native.Mathlib.Nat.{min-le_left, lt_of_lt_of_le}
use native.Mathlib.Omega.{arith}
use lib.ListN.{length, take, drop, get_or, length-append, length-take, length-drop, replicate, length-replicate, get_or-replicate, get_or-append}
use lib.Seq.{length-take-le, get_or-take, get_or-drop}
use Rattle.profile.proofs.Places.{found_inside, area_below_total}
use Rattle.profile.proofs.Table.{inside_bounds}
use Rattle.profile.specs.declared.Area.{Area}
use Rattle.profile.specs.declared.Spot.{Spot}
use Rattle.profile.specs.Areas.{size_of, total_of, inside}
use Rattle.profile.specs.Places.{place_from, place_of, offset_in}
use Rattle.flash.specs.Effects.{Effect, along, changed, erasing, storing, erased, stored, blanked, fetched_at, fetched}
use Rattle.flash.specs.Meets.{Only}
use Rattle.flash.proofs.Along.{length_along, get_d_along}
use Rattle.flash.proofs.Lists.{get_d_behind}
use Rattle.std.specs.Prelude.{Option, Some, None}
use Rattle.flash.proofs.Writes.{erasing_in, erasing_only, storing_in, storing_only}

-- an effect keeps the image's length
pub changed_length : (f : Effect) (areas : List Area) (image : List ℕ) → length (changed f areas image) ≡ length image
unfolding changed
changed_length f [] image = refl
changed_length f (a ∷ more) image =
    let h = changed_length f more (drop (size_of a) image) in
    length-append (along f a.sad (take (size_of a) image)) (changed f more (drop (size_of a) image))
    ∙ rw (length_along, h, length-take, length-drop) (omega arith)

-- a place is found in the first area, or behind it
abbrev Here : ℕ → Area → ℕ → Spot → Type 0
Here base a x spot = (inside a x ≡ true) × (record { area = a; base = base } ≡ spot)

found_by_lem : (base : ℕ) (a : Area) (more : List Area) (x : ℕ) (spot : Spot) (t : Bool) → inside a x ≡ t → place_from base (a ∷ more) x ≡ Some spot
    → Here base a x spot ⊎ (place_from (base + size_of a) more x ≡ Some spot)
unfolding place_from
found_by_lem base a more x spot true t e =
    let f : Some (record { area = a; base = base }) ≡ Some spot = rw t at e in
    inl (t, cc)
found_by_lem base a more x spot false t e = inr (rw t at e)

found_in : (base : ℕ) (a : Area) (more : List Area) (x : ℕ) (spot : Spot) → place_from base (a ∷ more) x ≡ Some spot
    → Here base a x spot ⊎ (place_from (base + size_of a) more x ≡ Some spot)
found_in base a more x spot e = found_by_lem base a more x spot (inside a x) refl e

found_nowhere : (base x : ℕ) (spot : Spot) → place_from base [] x ≡ Some spot → ⊥
unfolding place_from
found_nowhere base x spot e = let z : ◌≡◌ {A = ℕ} 0 1 = cc in omega arith

-- it stands at or behind the place where the search began
found_above : (base : ℕ) (areas : List Area) (x : ℕ) (spot : Spot) → place_from base areas x ≡ Some spot → base ≤ spot.base
found_above base [] x spot e = absurd (found_nowhere base x spot e)
found_above base (a ∷ more) x spot e =
    ⊎_elim
    (λ (h : Here base a x spot). let b : base ≡ spot.base = ap (λ (q : Spot). q.base) h.1 in omega arith)
    (λ (h : place_from (base + size_of a) more x ≡ Some spot). let b = found_above (base + size_of a) more x spot h in omega arith)
    (found_in base a more x spot e)

-- the byte at place k behind base is the one at address x, where x has its place there
abbrev Changed_at : Effect → ℕ → List Area → ℕ → ℕ → Type 0
Changed_at f base areas x d =
    (image : List ℕ) (k : ℕ) (spot : Spot) → place_from base areas x ≡ Some spot → base + k ≡ offset_in spot x → k < length image
    → get_or (changed f areas image) k d ≡ f x (get_or image k d)

changed_here : (f : Effect) (base : ℕ) (a : Area) (more : List Area) (x d : ℕ) (image : List ℕ) (k : ℕ) (spot : Spot) → Here base a x spot → base + k ≡ offset_in spot x → k < length image
    → get_or (changed f (a ∷ more) image) k d ≡ f x (get_or image k d)
unfolding changed
changed_here f base a more x d image k spot h e w =
    let b = inside_bounds a x h.0 in
    let o : offset_in (record { area = a; base = base }) x ≡ offset_in spot x = ap (λ (q : Spot). offset_in q x) h.1 in
    let i : k < size_of a = omega arith in
    let y : a.sad + k ≡ x = omega arith in
    let j : k < length (take (size_of a) image) = rw length-take (omega arith) in
    get_or-append (along f a.sad (take (size_of a) image)) (changed f more (drop (size_of a) image)) d k (rw length_along j)
    ∙ get_d_along f a.sad (take (size_of a) image) k d j
    ∙ ap (λ (z : ℕ). f z (get_or (take (size_of a) image) k d)) y
    ∙ ap (f x) (get_or-take (size_of a) image k d i)

changed_later : (f : Effect) (base : ℕ) (a : Area) (more : List Area) (x d : ℕ) → Changed_at f (base + size_of a) more x d
    → (image : List ℕ) (k : ℕ) (spot : Spot) → place_from (base + size_of a) more x ≡ Some spot → base + k ≡ offset_in spot x → k < length image
    → get_or (changed f (a ∷ more) image) k d ≡ f x (get_or image k d)
unfolding changed
changed_later f base a more x d later image k spot h e w =
    let b = found_above (base + size_of a) more x spot h in
    let s : size_of a ≤ k = omega arith in
    let n : length (along f a.sad (take (size_of a) image)) ≡ size_of a = length_along f a.sad (take (size_of a) image) ∙ length-take-le (size_of a) image (omega arith) in
    let j : base + size_of a + (k - size_of a) ≡ offset_in spot x = omega arith in
    let m : k - size_of a < length (drop (size_of a) image) = rw length-drop (omega arith) in
    let g : size_of a + (k - size_of a) ≡ k = omega arith in
    get_d_behind (along f a.sad (take (size_of a) image)) (changed f more (drop (size_of a) image)) k d (omega arith)
    ∙ ap (λ (z : ℕ). get_or (changed f more (drop (size_of a) image)) (k - z) d) n
    ∙ later (drop (size_of a) image) (k - size_of a) spot h j m
    ∙ ap (f x) (get_or-drop (size_of a) image (k - size_of a) d ∙ ap (λ (z : ℕ). get_or image z d) g)

changed_from : (f : Effect) (base : ℕ) (areas : List Area) (x d : ℕ) → Changed_at f base areas x d
changed_from f base [] x d image k spot e o w = absurd (found_nowhere base x spot e)
changed_from f base (a ∷ more) x d image k spot e o w =
    ⊎_elim
    (λ (h : Here base a x spot). changed_here f base a more x d image k spot h o w)
    (λ (h : place_from (base + size_of a) more x ≡ Some spot). changed_later f base a more x d (changed_from f (base + size_of a) more x d) image k spot h o w)
    (found_in base a more x spot e)

-- an address whose place is found, and whose byte the image has
module _ (areas : List Area) (image : List ℕ) (x : ℕ) (spot : Spot) (p : place_of areas x ≡ Some spot) (w : offset_in spot x < length image) (d : ℕ) where
  -- the effect, whatever it is, is on the byte at that address
  pub changed_at : (f : Effect) → get_or (changed f areas image) (offset_in spot x) d ≡ f x (get_or image (offset_in spot x) d)
  changed_at f = changed_from f 0 areas x d image (offset_in spot x) spot p (omega arith) w

  -- outside its range an effect changes nothing
  pub unchanged_at : (f : Effect) (s t : ℕ) → Only f s t → (x < s) ⊎ (t ≤ x) → get_or (changed f areas image) (offset_in spot x) d ≡ get_or image (offset_in spot x) d
  unchanged_at f s t only out =
      changed_at f ∙ ⊎_elim (only.under x (get_or image (offset_in spot x) d)) (only.over x (get_or image (offset_in spot x) d)) out

  -- a stored byte reads back at its address
  pub stored_in : (s : ℕ) (vs : List ℕ) → s ≤ x → x < s + length vs → get_or (stored areas s vs image) (offset_in spot x) d ≡ get_or vs (x - s) 0xFF
  unfolding stored
  stored_in s vs h i = changed_at (storing s vs) ∙ storing_in s vs x (get_or image (offset_in spot x) d) h i

  pub stored_out : (s : ℕ) (vs : List ℕ) → (x < s) ⊎ (s + length vs ≤ x) → get_or (stored areas s vs image) (offset_in spot x) d ≡ get_or image (offset_in spot x) d
  unfolding stored
  stored_out s vs out = unchanged_at (storing s vs) s (s + length vs) (storing_only s vs) out

  -- an erased address reads FFh
  pub erased_in : (s e : ℕ) → s ≤ x → x ≤ e → get_or (erased areas s e image) (offset_in spot x) d ≡ 0xFF
  unfolding erased
  erased_in s e h i = changed_at (erasing s e) ∙ erasing_in s e x (get_or image (offset_in spot x) d) h (omega arith)

  pub erased_out : (s e : ℕ) → (x < s) ⊎ (e < x) → get_or (erased areas s e image) (offset_in spot x) d ≡ get_or image (offset_in spot x) d
  unfolding erased
  erased_out s e out = unchanged_at (erasing s e) s (e + 1) (erasing_only s e) (⊎_elim (λ (h : x < s). inl h) (λ (h : e < x). inr (omega arith)) out)

-- total erase
pub blanked_at : (image : List ℕ) (k d : ℕ) → k < length image → get_or (blanked image) k d ≡ 0xFF
unfolding blanked
blanked_at image k d h = get_or-replicate (length image) k 0xFF d h

-- so do the three effects that there are
pub stored_length : (areas : List Area) (s : ℕ) (vs image : List ℕ) → length (stored areas s vs image) ≡ length image
unfolding stored
stored_length areas s vs image = changed_length (storing s vs) areas image

pub erased_length : (areas : List Area) (s e : ℕ) (image : List ℕ) → length (erased areas s e image) ≡ length image
unfolding erased
erased_length areas s e image = changed_length (erasing s e) areas image

pub blanked_length : (image : List ℕ) → length (blanked image) ≡ length image
unfolding blanked
blanked_length image = length-replicate (length image) 0xFF

-- a total erase leaves nothing of what an image held: of two with one length it makes the same
pub blanked_alike : (image image' : List ℕ) → length image ≡ length image' → blanked image ≡ blanked image'
unfolding blanked
blanked_alike image image' e = ap (λ (n : ℕ). replicate n 0xFF) e

-- a fetch from an address whose place is found
module _ (areas : List Area) (x n : ℕ) (image : List ℕ) (spot : Spot) (p : place_of areas x ≡ Some spot) where
  fetched_is : fetched areas x n image ≡ take n (drop (offset_in spot x) image)
  unfolding fetched fetched_at
  fetched_is = ap (λ (q : Option Spot). fetched_at q x n image) p

  -- each byte is the image's, at the place of its address
  pub fetched_at_lem : (k d : ℕ) → k < length (fetched areas x n image) → get_or (fetched areas x n image) k d ≡ get_or image (offset_in spot x + k) d
  fetched_at_lem k d h =
      let l = drop (offset_in spot x) image in
      let i : k < min n (length l) = subst (λ (c : ℕ). k < c) (ap length fetched_is ∙ length-take n l) h in
      ap (λ (q : List ℕ). get_or q k d) fetched_is
      ∙ get_or-take n l k d (lt_of_lt_of_le i (min-le_left n (length l)))
      ∙ get_or-drop (offset_in spot x) image k d

  -- there are as many as were asked for, where the image goes so far
  pub fetched_length : offset_in spot x + n ≤ length image → length (fetched areas x n image) ≡ n
  fetched_length h =
      let j : n ≤ length (drop (offset_in spot x) image) = rw length-drop (omega arith) in
      ap length fetched_is ∙ length-take-le n (drop (offset_in spot x) image) j

  -- an image of the areas' length goes as far as the area
  pub fetched_whole : length image ≡ total_of areas → x + n ≤ spot.area.ead + 1 → length (fetched areas x n image) ≡ n
  fetched_whole l h =
      let b = inside_bounds spot.area x (found_inside 0 areas x spot p) in
      fetched_length (omega (arith, area_below_total areas x spot p))

  -- where the area has so many left, its end makes no difference
  pub fetched_within : x + n ≤ spot.area.ead + 1 → fetched areas x n image ≡ take (min n (spot.area.ead + 1 - x)) (drop (offset_in spot x) image)
  fetched_within h =
      let e : n ≡ min n (spot.area.ead + 1 - x) = omega arith in
      fetched_is ∙ ap (λ (m : ℕ). take m (drop (offset_in spot x) image)) e

pub fetched_nowhere : (areas : List Area) (x n : ℕ) (image : List ℕ) → place_of areas x ≡ None → fetched areas x n image ≡ []
unfolding fetched fetched_at
fetched_nowhere areas x n image p = ap (λ (q : Option Spot). fetched_at q x n image) p

-- wherever it starts, a fetch gives no more bytes than were asked for
pub fetched_most : (areas : List Area) (x n : ℕ) (image : List ℕ) → length (fetched areas x n image) ≤ n
unfolding fetched fetched_at
fetched_most areas x n image = by_place (place_of areas x)
  where
    by_place : (place : Option Spot) → length (fetched_at place x n image) ≤ n
    by_place None = omega arith
    by_place (Some spot) = rw length-take (omega arith)
