-- The loop over the areas: what is done of an effect on the image, and what is left. Assumes nothing.
use mathlib.Core.List.{List, ◌++◌}
use mathlib.Core.Path.{◌≡◌, sym, ap, ◌∙◌}
use Prim.Native.Nat.{ℕ, ◌+◌, ◌≤◌, ◌<◌}
use lib.ListN.{length, take, drop, get_or, take-append-drop, drop_of_length-le}
use Rattle.profile.proofs.Table.{areas_next}
use Rattle.profile.specs.declared.Area.{Area}
use Rattle.profile.specs.Areas.{no_area, size_of}
use Rattle.flash.specs.Effects.{Effect, changed}
use Rattle.flash.proofs.Along.{in_area, changed_next}

-- before area i, at place base: the bytes before that place are done, those from there on are left
pub record Walked (f : Effect) (areas : List Area) (image₀ image : List ℕ) (base i : ℕ) : Type 0 where
  pub rest : changed f areas image₀ ≡ take base image ++ changed f (drop i areas) (drop base image)

module _ (f : Effect) (areas : List Area) (image₀ : List ℕ) where
  -- a turn changes the bytes of one area
  pub walk_next : (image image' : List ℕ) (base i size : ℕ) → Walked f areas image₀ image base i → i < length areas
      → size ≡ size_of (get_or areas i no_area)
      → image' ≡ in_area f (get_or areas i no_area) base image → Walked f areas image₀ image' (base + size) (i + 1)
  walk_next image image' base i size w h s e =
      let a = get_or areas i no_area in
      record {
        rest =
            w.rest
            ∙ ap (λ (l : List Area). take base image ++ changed f l (drop base image)) (areas_next areas i h)
            ∙ rw (e, s) (changed_next f a base image (drop (i + 1) areas));
      }

  pub walk_end : (image : List ℕ) (base i : ℕ) → Walked f areas image₀ image base i → length areas ≤ i → image ≡ changed f areas image₀
  unfolding changed
  walk_end image base i w h =
      sym
      (w.rest
      ∙ ap (λ (l : List Area). take base image ++ changed f l (drop base image)) (drop_of_length-le areas h)
      ∙ take-append-drop base image)
