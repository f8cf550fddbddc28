-- No area has an address from 2^32 on, so what is stored there changes nothing. Assumes nothing.
use mathlib.Core.List.{List, [], ◌∷◌}
use mathlib.Core.Path.{◌≡◌, refl}
use Prim.Native.Nat.{ℕ, zero, suc, ◌+◌, ◌-◌, ◌≤◌, ◌<◌, min}
use native.Mathlib.Omega.{arith}
use lib.ListN.{length, take, drop, get_or, length-take, take-append-drop}
use Rattle.profile.proofs.Beyond.{EndsBelow}
use Rattle.profile.specs.declared.Area.{Area}
use Rattle.profile.specs.declared.Profile.{Profile}
use Rattle.profile.specs.Areas.{entries, areas_of, no_area, size_of}
use Rattle.flash.specs.Effects.{Effect, along, changed, storing, stored}
use Rattle.flash.specs.Meets.{Only}
use Rattle.flash.proofs.Writes.{storing_only}

-- an effect on addresses from s on, and bytes whose last address e is below
module _ (f : Effect) (s t : ℕ) (only : Only f s t) where
  along_below : (e x : ℕ) (bs : List ℕ) → e < s → length bs ≤ e + 1 - x → along f x bs ≡ bs
  unfolding along
  along_below e x [] h w = refl
  along_below e x (b ∷ bs) h w = rw (only.under x b (omega arith), along_below e (x + 1) bs h (omega arith)) refl

  changed_below : (table : List Area) → EndsBelow s table → (n i : ℕ) (image : List ℕ) → changed f (entries i n table) image ≡ image
  unfolding changed entries
  changed_below table below zero i image = refl
  changed_below table below (suc n) i image =
      let a = get_or table i no_area in
      let w : length (take (size_of a) image) ≤ a.ead + 1 - a.sad = rw length-take (omega arith) in
      rw (along_below a.ead a.sad (take (size_of a) image) (below i) w, changed_below table below n (i + 1) (drop (size_of a) image))
      (take-append-drop (size_of a) image)

pub stored_beyond : (p : Profile) (x : ℕ) (vs image : List ℕ) → EndsBelow 4294967296 p.areas → 4294967296 ≤ x → stored (areas_of p) x vs image ≡ image
unfolding stored
stored_beyond p x vs image below h =
    changed_below (storing x vs) x (x + length vs) (storing_only x vs) p.areas (λ i. let b = below i in omega arith) (min p.noa 8) 0 image
