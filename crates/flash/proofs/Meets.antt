-- The places at which a range of addresses and an area meet, found by counting bytes below the ends. Assumes nothing.
use mathlib.Core.Path.{◌≡◌}
use Prim.Native.Nat.{ℕ, ◌+◌, ◌-◌, ◌≤◌, ◌<◌, min}
use native.Mathlib.Omega.{arith}
use Rattle.profile.specs.declared.Area.{Area}
use Rattle.profile.specs.Areas.{size_of}
use Rattle.flash.specs.Meets.{Meets, bytes_below}

module _ (a : Area) (y : ℕ) where
  pub below_most : bytes_below a y ≤ size_of a
  unfolding bytes_below
  below_most = omega arith

  pub below_is : (j : ℕ) → j < bytes_below a y → a.sad + j < y
  unfolding bytes_below
  below_is j h = omega arith

  pub below_not : (j : ℕ) → j < size_of a → bytes_below a y ≤ j → y ≤ a.sad + j
  unfolding bytes_below
  below_not j h i = omega arith

-- the part that the code lends
pub meets : (a : Area) (base n s t lo hi : ℕ) → lo ≡ min (base + bytes_below a s) hi → hi ≡ min (base + bytes_below a t) n → Meets a base n s t lo hi
meets a base n s t lo hi el eh =
    let m : bytes_below a t ≤ size_of a = below_most a t in
    record {
      order = omega arith;
      fits = omega arith;
      area = λ k h i. (omega arith, omega arith);
      range = λ k h i. (below_not a s (k - base) (omega arith) (omega arith), below_is a t (k - base) (omega arith));
      under = λ k h i. below_is a s (k - base) (omega arith);
      over = λ k h i g j. below_not a t (k - base) (omega arith) (omega arith);
    }
