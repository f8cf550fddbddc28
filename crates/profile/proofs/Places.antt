-- Where addresses stand in the image: below its length, no two at one place, and an area's addresses together where the areas ascend. Assumes nothing.
use mathlib.Core.Bool.{Bool, true, false, and-false}
use mathlib.Core.List.Memᴰ
use mathlib.Core.List.{List, [], ◌∷◌, Memᴰ}
use mathlib.Core.Logic.{◌⊎◌, inl, inr}
use mathlib.Core.Path.{◌≡◌, refl, sym, ap, subst, ◌∙◌}
use Prim.Native.Nat.{ℕ, ◌+◌, ◌≤◌, ◌<◌}
use native.Mathlib.Omega.{arith}
use borrow.Author.Tests.{le-leb, lt-leb}
use Rattle.profile.specs.declared.Area.{Area}
use Rattle.profile.specs.declared.Spot.{Spot}
use Rattle.profile.specs.Areas.{size_of, tally, total_of, inside}
use Rattle.profile.specs.Places.{place_from, place_of, offset_in, PlacedBelow, Bounded}
use Rattle.std.specs.Prelude.{Option, Some, None}
use Rattle.profile.proofs.Table.{inside_bounds}

-- an address between an area's ends lies in it
pub inside_within : (a : Area) (x : ℕ) → a.sad ≤ x → x ≤ a.ead → inside a x ≡ true
unfolding inside
inside_within a x h k = rw (le-leb a.sad x h) (le-leb x a.ead k)

pub inside_not : (a : Area) (x : ℕ) → a.ead < x → inside a x ≡ false
unfolding inside
inside_not a x h = simp (lt-leb x a.ead h, and-false)

abbrev spot_at : ℕ → Area → Spot
spot_at base a = record { area = a; base = base }

-- how an address was found: in the first area, or behind it
abbrev Found : ℕ → List Area → ℕ → Spot → Type 0
Found base [] x spot = ⊥
Found base (a ∷ more) x spot = ((inside a x ≡ true) × (spot_at base a ≡ spot)) ⊎ ((inside a x ≡ false) × Found (base + size_of a) more x spot)

found : (base : ℕ) (areas : List Area) (x : ℕ) (spot : Spot) → place_from base areas x ≡ Some spot → Found base areas x spot
unfolding place_from
found base [] x spot e = let z : ◌≡◌ {A = ℕ} 0 1 = cc in absurd (omega arith)
found base (a ∷ more) x spot e = go (inside a x) refl (found (base + size_of a) more x spot)
  where
    go : (t : Bool) → inside a x ≡ t → (place_from (base + size_of a) more x ≡ Some spot → Found (base + size_of a) more x spot) → Found base (a ∷ more) x spot
    go true i later =
        let here : Some (spot_at base a) ≡ Some spot = rw i at e in
        let it : spot_at base a ≡ spot = cc in
        inl (i, it)
    go false i later = inr (i, later (rw i at e))

-- an address lies in the area where it was found
inside_found : (base : ℕ) (areas : List Area) (x : ℕ) (spot : Spot) → Found base areas x spot → inside spot.area x ≡ true
inside_found base [] x spot x3 = elim x3 [ ]
inside_found base (a ∷ more) x spot (inl here) = subst (λ (s : Spot). inside s.area x ≡ true) here.1 here.0
inside_found base (a ∷ more) x spot (inr later) = inside_found (base + size_of a) more x spot later.1

pub found_inside : (base : ℕ) (areas : List Area) (x : ℕ) (spot : Spot) → place_from base areas x ≡ Some spot → inside spot.area x ≡ true
found_inside base areas x spot e = inside_found base areas x spot (found base areas x spot e)

-- the bounds of a place: those of its area, and that of its base
pub bounded : (areas : List Area) (x : ℕ) (r : Option Spot) → r ≡ place_of areas x → PlacedBelow r → Bounded x r
bounded areas x (Some spot) e b =
    let ends = inside_bounds spot.area x (found_inside 0 areas x spot (sym e)) in
    (ends.0, ends.1, b)
bounded areas x None e b = tt

-- an address that lies in one of the areas has a place
pub has_place : (base : ℕ) (areas : List Area) (x : ℕ) (a : Area) → Memᴰ a areas → inside a x ≡ true → place_from base areas x ≡ None → ⊥
unfolding place_from
has_place base [] x a m i e = Memᴰ.not-nil m
has_place base (b ∷ more) x a m i e = go (inside b x) refl (Memᴰ.cases_cons m) (has_place (base + size_of b) more x a)
  where
    go : (t : Bool) → inside b x ≡ t → (a ≡ b) ⊎ Memᴰ a more → (Memᴰ a more → inside a x ≡ true → place_from (base + size_of b) more x ≡ None → ⊥) → ⊥
    go true j w later =
        let here : Some (spot_at base b) ≡ None = rw j at e in
        let z : ◌≡◌ {A = ℕ} 0 1 = cc in
        omega arith
    go false j (inl same) later =
        let both : true ≡ false = sym i ∙ ap (λ (k : Area). inside k x) same ∙ j in
        let z : ◌≡◌ {A = ℕ} 0 1 = cc in
        omega arith
    go false j (inr n) later = later n i (rw j at e)

found_member : (base : ℕ) (areas : List Area) (x : ℕ) (spot : Spot) → Found base areas x spot → Memᴰ spot.area areas
found_member base [] x spot x3 = elim x3 [ ]
found_member base (a ∷ more) x spot (inl here) = Memᴰ.head (ap (λ (s : Spot). s.area) (sym here.1))
found_member base (a ∷ more) x spot (inr later) = Memᴰ.tail (found_member (base + size_of a) more x spot later.1)

-- where one address of an area was found in it, the area's other addresses have a place
pub area_has_place : (base : ℕ) (areas : List Area) (x y : ℕ) (spot : Spot) → place_from base areas x ≡ Some spot → inside spot.area y ≡ true
    → place_from base areas y ≡ None → ⊥
area_has_place base areas x y spot e = has_place base areas y spot.area (found_member base areas x spot (found base areas x spot e))

-- a place in these areas: behind the bytes before them, and before the bytes behind them
record Between (base behind : ℕ) (spot : Spot) (x : ℕ) : Type 0 where
  from : base ≤ spot.base
  below : offset_in spot x < behind

between : (base : ℕ) (areas : List Area) (x : ℕ) (spot : Spot) → Found base areas x spot → Between base (base + total_of areas) spot x
unfolding tally
between base [] x spot x3 = elim x3 [ ]
between base (a ∷ more) x spot (inl here) =
    let b = inside_bounds a x here.0 in
    subst (λ (s : Spot). Between base (base + total_of (a ∷ more)) s x) here.1 (record { from = omega arith; below = omega arith })
between base (a ∷ more) x spot (inr later) =
    let w = between (base + size_of a) more x spot later.1 in
    record { from = omega arith; below = omega arith }

-- every place lies below the image's length
pub below_total : (areas : List Area) (x : ℕ) (spot : Spot) → place_of areas x ≡ Some spot → offset_in spot x < total_of areas
below_total areas x spot e = omega (arith, (between 0 areas x spot (found 0 areas x spot e)).below)

-- and so does the end of the area in which an address was found: the image has all of it
area_between : (base : ℕ) (areas : List Area) (x : ℕ) (spot : Spot) → Found base areas x spot → spot.base + size_of spot.area ≤ base + total_of areas
unfolding tally
area_between base [] x spot x3 = elim x3 [ ]
area_between base (a ∷ more) x spot (inl here) = subst (λ (s : Spot). s.base + size_of s.area ≤ base + total_of (a ∷ more)) here.1 (omega arith)
area_between base (a ∷ more) x spot (inr later) = omega (arith, area_between (base + size_of a) more x spot later.1)

pub area_below_total : (areas : List Area) (x : ℕ) (spot : Spot) → place_of areas x ≡ Some spot → spot.base + size_of spot.area ≤ total_of areas
area_below_total areas x spot e = omega (arith, area_between 0 areas x spot (found 0 areas x spot e))

-- an address of the first area, and one that was found behind it
apart : (base : ℕ) (a : Area) (more : List Area) (x y : ℕ) (s t : Spot) → (inside a x ≡ true) × (spot_at base a ≡ s) → Found (base + size_of a) more y t
    → offset_in s x ≡ offset_in t y → ⊥
apart base a more x y s t f g e =
    let b = inside_bounds a x f.0 in
    let w = between (base + size_of a) more y t g in
    let p : offset_in (spot_at base a) x ≡ offset_in t y = ap (λ (r : Spot). offset_in r x) f.1 ∙ e in
    omega arith

same_address : (base : ℕ) (areas : List Area) (x y : ℕ) (s t : Spot) → Found base areas x s → Found base areas y t → offset_in s x ≡ offset_in t y → x ≡ y
same_address base [] x y s t x5 _ e = elim x5 [ ]
same_address base (a ∷ more) x y s t (inl f) (inl g) e =
    let b = inside_bounds a x f.0 in
    let d = inside_bounds a y g.0 in
    let p : offset_in (spot_at base a) x ≡ offset_in (spot_at base a) y = ap (λ (r : Spot). offset_in r x) f.1 ∙ e ∙ sym (ap (λ (r : Spot). offset_in r y) g.1) in
    omega arith
same_address base (a ∷ more) x y s t (inl f) (inr g) e = absurd (apart base a more x y s t f g.1 e)
same_address base (a ∷ more) x y s t (inr f) (inl g) e = absurd (apart base a more y x t s g f.1 (sym e))
same_address base (a ∷ more) x y s t (inr f) (inr g) e = same_address (base + size_of a) more x y s t f.1 g.1 e

-- two addresses never have the same place
pub one_place : (base : ℕ) (areas : List Area) (x y : ℕ) (s t : Spot) → place_from base areas x ≡ Some s → place_from base areas y ≡ Some t
    → offset_in s x ≡ offset_in t y → x ≡ y
one_place base areas x y s t e f = same_address base areas x y s t (found base areas x s e) (found base areas y t f)

-- areas that ascend: each starts above the last address before it, and does not end before it starts
unfoldable pub Above : ℕ → List Area → Type 0
Above low [] = Unit {0}
Above low (a ∷ more) = (low ≤ a.sad) × (a.sad ≤ a.ead) × Above (a.ead + 1) more

found_above : (low base : ℕ) (areas : List Area) (x : ℕ) (spot : Spot) → Above low areas → Found base areas x spot → low ≤ spot.area.sad
unfolding Above
found_above low base [] x spot h x4 = elim x4 [ ]
found_above low base (a ∷ more) x spot h (inl here) = subst (λ (s : Spot). low ≤ s.area.sad) here.1 h.0
found_above low base (a ∷ more) x spot h (inr later) =
    let up = found_above (a.ead + 1) (base + size_of a) more x spot h.2 later.1 in
    omega arith

found_again : (low base : ℕ) (areas : List Area) (x y : ℕ) (spot : Spot) → Above low areas → Found base areas x spot → inside spot.area y ≡ true
    → place_from base areas y ≡ Some spot
unfolding Above place_from
found_again low base [] x y spot h x5 i = elim x5 [ ]
found_again low base (a ∷ more) x y spot h (inl here) i =
    let j : inside a y ≡ true = subst (λ (s : Spot). inside s.area y ≡ true) (sym here.1) i in
    rw j (ap Some here.1)
found_again low base (a ∷ more) x y spot h (inr later) i =
    let up = found_above (a.ead + 1) (base + size_of a) more x spot h.2 later.1 in
    let b = inside_bounds spot.area y i in
    rw (inside_not a y (omega arith)) (found_again (a.ead + 1) (base + size_of a) more x y spot h.2 later.1 i)

-- where the areas ascend, an area's addresses are all found in it
pub same_area : (low base : ℕ) (areas : List Area) (x y : ℕ) (spot : Spot) → Above low areas → place_from base areas x ≡ Some spot → inside spot.area y ≡ true
    → place_from base areas y ≡ Some spot
same_area low base areas x y spot h e = found_again low base areas x y spot h (found base areas x spot e)

-- the same, with the area's ends in place of the test
pub whole_area : (low base : ℕ) (areas : List Area) (x : ℕ) (spot : Spot) → Above low areas → place_from base areas x ≡ Some spot
    → (y : ℕ) → spot.area.sad ≤ y → y ≤ spot.area.ead → place_from base areas y ≡ Some spot
whole_area low base areas x spot h e y from to = same_area low base areas x y spot h e (inside_within spot.area y from to)
