-- What the walks over a packet's bytes need. Assumes nothing.
use Rattle.std.proofs.Common.{◌≡◌, ℕ, ◌+◌, ◌%◌, ◌<◌, ◌≤◌, Bool, true, false, cond, ◌&&◌, fold, sym, [], mod-lt, mod-eq_of_lt, ltb, leb, List, ◌∷◌, length, refl, ap, ◌∙◌, add_assoc, arith, le-ltb, lt-ltb, leb-false, leb-true}
use native.Mathlib.Nat.{mod-add-mod}
use Rattle.numbers.specs.Bytes.{number, field, number_at, value_at}
use Rattle.packet.specs.declared.Kind.{Kind}
use Rattle.packet.specs.declared.Kind.TheVariants.{Command, Data}
use Rattle.std.specs.Prelude.{Some, None}
use Rattle.packet.specs.Packet.{longest_of, permitted, length_of, sum_of}

-- a sum modulo 256, one byte after the other
sum_fold : (t : ℕ) (l : List ℕ) → t < 256 → fold (λ t b. (t + b) % 256) t l ≡ (t + sum_of l) % 256
unfolding sum_of
sum_fold t [] h = let z : t + 0 ≡ t = omega arith in sym (ap (λ (n : ℕ). n % 256) z ∙ mod-eq_of_lt h)
sum_fold t (b ∷ bs) h =
    sum_fold ((t + b) % 256) bs (mod-lt (t + b) (omega arith))
    ∙ mod-add-mod (t + b) 256 (sum_of bs)
    ∙ ap (λ (n : ℕ). n % 256) (add_assoc t b (sum_of bs))

pub sum_all : (l : List ℕ) → fold (λ t b. (t + b) % 256) 0 l ≡ sum_of l % 256
sum_all l = let z : 0 + sum_of l ≡ sum_of l = omega arith in sum_fold 0 l (omega arith) ∙ ap (λ (n : ℕ). n % 256) z

-- and over a list that is the same
pub summed : {t : ℕ} {some all : List ℕ} → t ≡ sum_of some % 256 → some ≡ all → t ≡ sum_of all % 256
summed e h = e ∙ ap (λ (l : List ℕ). sum_of l % 256) h

-- from what cannot be, anything
pub impossible : {A : Type 0} → ◌≡◌ {A = ℕ} 0 1 → A
impossible z = absurd (omega arith)

-- both tests of a pair hold
pub both : (s t : Bool) → (s && t) ≡ true → (s ≡ true) × (t ≡ true)
both true t e = (refl, e)
both false t e = impossible (cc)

-- the range of a length
pub permitted_least : (kind : Kind) (n : ℕ) → permitted kind n ≡ true → 1 ≤ n
unfolding permitted
permitted_least kind n e = leb-true 1 n (both (leb 1 n) (leb n (longest_of kind)) e).0

pub permitted_most : (kind : Kind) (n : ℕ) → permitted kind n ≡ true → n ≤ longest_of kind
unfolding permitted
permitted_most kind n e = leb-true n (longest_of kind) (both (leb 1 n) (leb n (longest_of kind)) e).1

pub longest_most : (kind : Kind) → longest_of kind ≤ 1025
longest_most Command = omega arith
longest_most Data = omega arith

-- for either kind
pub permitted_below : (kind : Kind) (n : ℕ) → permitted kind n ≡ true → n ≤ 1025
permitted_below kind n e = omega (arith, permitted_most kind n e, longest_most kind)

-- what an answer that depends on a test says of the test
pub cut_test : (t : Bool) (n : ℕ) → cond t (Some n) None ≡ None → t ≡ false
cut_test true n e = impossible (cc)
cut_test false n e = refl

pub read_test : (t : Bool) (m n : ℕ) → cond t (Some m) None ≡ Some n → (t ≡ true) × (n ≡ m)
read_test true m n e = (refl, cc)
read_test false m n e = impossible (cc)

-- the length bytes are not both there
pub length_cut : (q : List ℕ) → number_at 2 q 1 ≡ None → ltb (length q) 3 ≡ true
unfolding value_at
length_cut q e = lt-ltb (length q) 3 (leb-false 3 (length q) (cut_test (leb 3 (length q)) (number (field 2 1 q)) e))

-- they are, and say the length
pub length_there : (q : List ℕ) (n : ℕ) → number_at 2 q 1 ≡ Some n → ltb (length q) 3 ≡ false
unfolding value_at
length_there q n e = le-ltb (length q) 3 (leb-true 3 (length q) (read_test (leb 3 (length q)) (number (field 2 1 q)) n e).0)

pub length_read : (q : List ℕ) (n : ℕ) → number_at 2 q 1 ≡ Some n → n ≡ length_of q
unfolding value_at length_of
length_read q n e = (read_test (leb 3 (length q)) (number (field 2 1 q)) n e).1
