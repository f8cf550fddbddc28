-- The places at which a range of addresses and an area meet: what is asked of the part of the image that an effect changes.
use Rattle.std.specs.Prelude.{List, ◌≡◌, ℕ, ◌+◌, ◌-◌, ◌≤◌, ◌<◌, min, length}
use Rattle.std.specs.Borrow.{MutBor}
use Rattle.profile.specs.declared.Area.{Area}
use Rattle.profile.specs.Areas.{size_of}
use Rattle.flash.specs.Effects.{Effect, along}

-- how many of the area's bytes stand below an address
unfoldable pub bytes_below : Area → ℕ → ℕ
bytes_below a y = min y (a.ead + 1) - a.sad

-- the addresses from s up to, not including, t, of those of the area at place base of an image of n bytes, stand at the places from lo up to, not including, hi
pub record Meets (a : Area) (base n s t lo hi : ℕ) : Type 0 where
  pub order : lo ≤ hi
  pub fits : hi ≤ n
  -- a place in the part is one of the area's, and its address is in the range
  pub area : (k : ℕ) → lo ≤ k → k < hi → (base ≤ k) × (k < base + size_of a)
  pub range : (k : ℕ) → lo ≤ k → k < hi → (s ≤ a.sad + (k - base)) × (a.sad + (k - base) < t)
  -- the addresses of the area's other places are not
  pub under : (k : ℕ) → base ≤ k → k < lo → a.sad + (k - base) < s
  pub over : (k : ℕ) → hi ≤ k → k < n → base ≤ k → k < base + size_of a → t ≤ a.sad + (k - base)

-- an effect that leaves each address outside the range alone
pub record Only (f : Effect) (s t : ℕ) : Type 0 where
  pub under : (x b : ℕ) → x < s → f x b ≡ b
  pub over : (x b : ℕ) → t ≤ x → f x b ≡ b

-- what a call leaves of a part of the image whose first byte has an address: where the part lies in the range, what the effect makes of it
abbrev pub Does : (MutBor (List ℕ) → ℕ → MutBor (List ℕ) → Type 0) → Effect → ℕ → ℕ → Type 0
Does Leaves f s t = (part : MutBor (List ℕ)) (at : ℕ) (after : MutBor (List ℕ)) → s ≤ at → at + length part.now ≤ t → Leaves part at after
    → after.now ≡ along f at part.now
