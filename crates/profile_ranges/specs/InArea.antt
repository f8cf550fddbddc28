-- What a granted range of addresses is: it lies in one area, and a change of it is made of whole units inside the window.
use Rattle.std.specs.Prelude.{true, List, ◌≡◌, ℕ, ◌+◌, ◌%◌, ◌≤◌, ◌<◌, Some}
use Rattle.profile.specs.declared.Area.{Area}
use Rattle.profile.specs.declared.Window.{Window}
use Rattle.profile.specs.declared.Spot.{Spot}
use Rattle.profile.specs.Places.{place_of}
use Rattle.profile_ranges.specs.declared.Purpose.{Purpose}
use Rattle.profile_ranges.specs.declared.Purpose.TheVariants.{Erase, Write, Read}
use Rattle.profile_ranges.specs.Ranges.{limited}

-- the address is found in area a
pub record StartsIn (areas : List Area) (s : ℕ) (a : Area) : Type 0 where
  pub base : ℕ
  pub found : place_of areas s ≡ Some (record { area = a; base = base })

-- the range lies in the area in which its start is found
pub record InArea (areas : List Area) (s e : ℕ) (spot : Spot) : Type 0 where
  pub found : place_of areas s ≡ Some spot
  pub ordered : s ≤ e
  pub starts : spot.area.sad ≤ s
  pub ends : e ≤ spot.area.ead

-- whole units, inside the window where it limits
pub record Changeable (w : Window) (koa unit s e : ℕ) : Type 0 where
  pub nonzero : unit ≡ 0 → ⊥
  pub first : s % unit ≡ 0
  pub behind : (e + 1) % unit ≡ 0
  pub above : limited w koa ≡ true → w.low ≤ s
  pub below : limited w koa ≡ true → e < w.high

-- what each purpose asks of a range in area a
abbrev pub Allowed : Purpose → Window → Area → ℕ → ℕ → Type 0
Allowed Erase w a s e = Changeable w a.koa a.eau s e
Allowed Write w a s e = Changeable w a.koa a.wau s e
Allowed Read w a s e = Unit {0}

-- the range lies in an area that allows it
pub record Lies (areas : List Area) (w : Window) (purpose : Purpose) (s e : ℕ) : Type 0 where
  pub spot : Spot
  pub in_area : InArea areas s e spot
  pub allowed : Allowed purpose w spot.area s e
