-- What acts do to the image. Assumes nothing.
use mathlib.Core.List.{List}
use mathlib.Core.Path.{◌≡◌, refl, sym, ap, ◌∙◌}
use Prim.Native.Nat.{ℕ, ◌≤◌, min}
use lib.ListN.{length, take}
use lib.Seq.{take_all}
use Rattle.profile.specs.declared.Area.{Area}
use Rattle.flash.specs.declared.Act.{Act}
use Rattle.flash.specs.declared.Act.TheVariants.{Nothing, EraseRange, EraseAll, Store}
use Rattle.flash.specs.Acts.{performed}
use Rattle.flash.specs.Effects.{stored}
use Rattle.flash.proofs.Clip.{take_most}
use Rattle.flash.proofs.ByAddress.{erased_length, blanked_length, stored_length}

-- every act keeps the image's length
pub performed_length : (areas : List Area) (act : Act) (bytes image : List ℕ) → length (performed areas act bytes image) ≡ length image
unfolding performed
performed_length areas Nothing bytes image = refl
performed_length areas (EraseRange s e) bytes image = erased_length areas s e image
performed_length areas EraseAll bytes image = blanked_length image
performed_length areas (Store x n) bytes image = stored_length areas x (take n bytes) image

pub performed_nothing : (areas : List Area) (bytes image : List ℕ) → performed areas Nothing bytes image ≡ image
unfolding performed
performed_nothing areas bytes image = refl

-- an act that stores at least as many bytes as there are stores them all
pub performed_all : (areas : List Area) (x n : ℕ) (bytes image : List ℕ) → length bytes ≤ n → performed areas (Store x n) bytes image ≡ stored areas x bytes image
unfolding performed
performed_all areas x n bytes image h = ap (λ (vs : List ℕ). stored areas x vs image) (take_all n bytes h)

-- the code stores no more bytes than there are
pub performed_cut : (areas : List Area) (x n k : ℕ) (bytes image : List ℕ) → k ≡ min n (length bytes) → stored areas x (take k bytes) image ≡ performed areas (Store x n) bytes image
unfolding performed
performed_cut areas x n k bytes image e = ap (λ (vs : List ℕ). stored areas x vs image) (rw e (take_most n bytes))

-- what the code did for the act that it found, it did for the act that was asked for
pub performed_as : (areas : List Area) (bytes image : List ℕ) {act found : Act} {after : List ℕ} → act ≡ found → after ≡ performed areas found bytes image
    → after ≡ performed areas act bytes image
performed_as areas bytes image e f = f ∙ ap (λ (q : Act). performed areas q bytes image) (sym e)
