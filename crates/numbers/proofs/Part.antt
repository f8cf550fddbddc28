-- No second part meets the promise, and a part's bytes are as many of the slice's as it has. Assumes nothing.
use mathlib.Core.List.{List, [], ◌∷◌}
use mathlib.Core.Path.{◌≡◌, refl, sym, ap, ◌∙◌}
use Prim.Native.Nat.{ℕ, zero, suc}
use lib.ListN.{length, take, drop}
use denote.Ref.{Bor}
use Rattle.numbers.specs.Part.{PartAt}

-- two parts of one slice, from one place on and with the same contents, have the same bytes in the same memory
pub part_once : {s r r' : Bor (List ℕ)} {from : ℕ} {contents : List ℕ} → PartAt s from contents r → PartAt s from contents r'
    → (r.now ≡ r'.now) × ((r.ref_ptr.0 ≡ r'.ref_ptr.0) × (r.ref_ptr.1 ≡ r'.ref_ptr.1))
part_once p p' = (p.bytes ∙ sym p'.bytes, (p.block ∙ sym p'.block, p.start ∙ sym p'.start))

-- as many as a part has, from where it begins
take_own : (m : ℕ) (l : List ℕ) → take (length (take m l)) l ≡ take m l
take_own zero l = refl
take_own (suc m) [] = refl
take_own (suc m) (x ∷ l) = ap (λ (k : List ℕ). x ∷ k) (take_own m l)

-- what was taken from a place on stands at that place
pub part_there : (m at : ℕ) (s part : List ℕ) → take m (drop at s) ≡ part → part ≡ take (length part) (drop at s)
part_there m at s part e = rw (← e) (sym (take_own m (drop at s)))
