-- Bytes that come before the last of a packet only add to it: it stays incomplete. Assumes nothing.
use mathlib.Core.Bool.{Bool, true, false}
use mathlib.Core.List.{List, [], ◌∷◌, ◌++◌, append-nil}
use mathlib.Core.Path.{◌≡◌, refl, sym, ap, subst, ◌∙◌}
use Prim.Native.Nat.{ℕ, ◌+◌, ◌-◌, ◌≤◌, ◌<◌, min}
use native.Mathlib.Nat.{min-le_left, min-le_right, le-min}
use native.Mathlib.Omega.{arith}
use lib.Dec.{ltb}
use lib.ListN.{length, take, drop, get_or, set, replicate, length-append, length-drop, length-replicate, get_or-append}
use lib.Seq.{paste, take-append-le, drop-append-le, take-add, length-take-le, paste-zero, paste-suc}
use borrow.Author.Tests.{lt-ltb, le-ltb, ltb-true, ltb-false, eq-eqb, ne_eqb}
use Rattle.numbers.specs.Bytes.{number_at}
use Rattle.numbers.proofs.Copied.{part_count, pasted}
use Rattle.packet.specs.declared.Kind.{Kind}
use Rattle.packet.specs.declared.Progress.TheVariants.{Partial}
use Rattle.packet.specs.Packet.{length_of, permitted, progress_of, is_partial}
use Rattle.packet.proofs.Laws.{length_cut, length_there, length_read}
use Rattle.packet.proofs.Gathering.{Held, held, partial}
use Rattle.packet.proofs.Partial.{is_partial_lem, partial_few}
use Rattle.std.specs.Prelude.{Some, None}
use Rattle.packet_gather.specs.Gather.{lack_of, open_of, gain_of, Holds}

-- how many bytes are lacking before the last
lack_short : (q : List ℕ) → length q < 3 → lack_of q ≡ 0
unfolding lack_of
lack_short q h = simp (lt-ltb _ _ h)

lack_long : (q : List ℕ) → 3 ≤ length q → lack_of q ≡ length_of q + 4 - length q
unfolding lack_of
lack_long q h = simp (le-ltb _ _ h)

-- the same, by what the length bytes were read as
pub lack_cut : (q : List ℕ) → number_at 2 q 1 ≡ None → 0 ≡ lack_of q
lack_cut q e = sym (lack_short q (ltb-true (length q) 3 (length_cut q e)))

pub lack_read : (q : List ℕ) (n : ℕ) → number_at 2 q 1 ≡ Some n → n + 4 - length q ≡ lack_of q
lack_read q n e = ap (λ (k : ℕ). k + 4 - length q) (length_read q n e) ∙ sym (lack_long q (ltb-false (length q) 3 (length_there q n e)))

-- where any is lacking, the length has come
record Lacks (q : List ℕ) : Type 0 where
  known : 3 ≤ length q
  count : length q + lack_of q ≡ length_of q + 4

lacks : (q : List ℕ) → 1 ≤ lack_of q → Lacks q
lacks q h = go (ltb (length q) 3) refl
  where
    go : (t : Bool) → ltb (length q) 3 ≡ t → Lacks q
    go true e = absurd (omega (arith, lack_short q (ltb-true (length q) 3 e)))
    go false e =
        let k : 3 ≤ length q = ltb-false (length q) 3 e in
        record { known = k; count = omega (arith, lack_long q k) }

-- more bytes leave the length as it is
same_says : (q more : List ℕ) → 3 ≤ length q → length_of (q ++ more) ≡ length_of q
unfolding length_of
same_says q more h =
    let l : 2 ≤ length (drop 1 q) = rw length-drop (omega arith) in
    rw (drop-append-le 1 q more (omega arith), take-append-le 2 (drop 1 q) more l) refl

-- a packet stays incomplete
partial_more : (kind : Kind) (q bs : List ℕ) → progress_of kind q ≡ Partial → length bs ≤ lack_of q → progress_of kind (q ++ bs) ≡ Partial
partial_more kind q [] e h = ap (progress_of kind) (append-nil q) ∙ e
partial_more kind q (b ∷ bs) e h =
    let l : Lacks q = lacks q (omega arith) in
    let k : Held kind q = held kind q e in
    let s : length_of (q ++ b ∷ bs) ≡ length_of q = same_says q (b ∷ bs) l.known in
    let some : 0 < length q = omega (arith, l.known) in
    partial kind (q ++ b ∷ bs) (record {
      start = λ n. get_or-append q (b ∷ bs) 0 0 some ∙ k.start some;
      permits = λ n. rw s (k.permits l.known);
      count = λ n. omega (arith, s, l.count, length-append q (b ∷ bs));
    })

-- and so was every beginning of it
front_partial : (kind : Kind) (q bs : List ℕ) → progress_of kind (q ++ bs) ≡ Partial → progress_of kind q ≡ Partial
front_partial kind q bs e =
    let k : Held kind (q ++ bs) = held kind (q ++ bs) e in
    let n : length (q ++ bs) ≡ length q + length bs = length-append q bs in
    partial kind q (record {
      start = λ some. sym (get_or-append q bs 0 0 some) ∙ k.start (omega arith);
      permits = λ long. subst (λ (l : ℕ). permitted kind l ≡ true) (same_says q bs long) (k.permits (omega arith));
      count = λ long. let c = k.count (omega arith) in omega (arith, c, n, same_says q bs long);
    })

-- the same by the test, which is what held bytes are known by
pub still_held : (kind : Kind) (q bs : List ℕ) → is_partial (progress_of kind q) ≡ true → length bs ≤ lack_of q → is_partial (progress_of kind (q ++ bs)) ≡ true
still_held kind q bs e h = ap is_partial (partial_more kind q bs (is_partial_lem (progress_of kind q) e) h)

pub front_held : (kind : Kind) (q bs : List ℕ) → is_partial (progress_of kind (q ++ bs)) ≡ true → is_partial (progress_of kind q) ≡ true
front_held kind q bs e = ap is_partial (front_partial kind q bs (is_partial_lem (progress_of kind (q ++ bs)) e))

-- no packet lacks more than a longest one has
pub lack_few : (kind : Kind) (q : List ℕ) → is_partial (progress_of kind q) ≡ true → length q + lack_of q < 1030
lack_few kind q e =
    let more : List ℕ = replicate (lack_of q) 0 in
    let n : length more ≡ lack_of q = length-replicate (lack_of q) 0 in
    omega (arith, length-append q more, n, partial_few kind (q ++ more) (still_held kind q more e (omega (arith, n))))

-- how many bytes of bs can be gained, by the tests
module _ (kind : Kind) (bs : List ℕ) where
  pub open_few : length bs < 3 → 0 ≡ open_of kind bs
  unfolding open_of
  open_few h = simp (lt-ltb _ _ h)

  pub open_none : 3 ≤ length bs → is_partial (progress_of kind (take 3 bs)) ≡ false → 0 ≡ open_of kind bs
  unfolding open_of
  open_none h e = simp (le-ltb _ _ h, e)

  pub open_some : 3 ≤ length bs → is_partial (progress_of kind (take 3 bs)) ≡ true → lack_of (take 3 bs) + 3 ≡ open_of kind bs
  unfolding open_of
  open_some h e = simp (le-ltb _ _ h, e)

module _ (kind : Kind) (q bs : List ℕ) where
  pub gain_more : (length q ≡ 0 → ⊥) → lack_of q ≡ gain_of kind q bs
  unfolding gain_of
  gain_more e = simp (ne_eqb _ _ e)

  pub gain_first : length q ≡ 0 → open_of kind bs ≡ gain_of kind q bs
  unfolding gain_of
  gain_first e = simp (eq-eqb _ _ e)

-- the first n bytes of bs, to rc from a place on
module _ (rc bs : List ℕ) (at n : ℕ) (room : at + n ≤ length rc) (there : n ≤ length bs) where
  abbrev part : List ℕ
  part = take (at + n - at) (drop at rc)

  pub as_many : length part ≡ length (take n bs)
  as_many =
      let k : at + n - at ≡ n = omega arith in
      part_count at (at + n) rc room ∙ k ∙ sym (length-take-le n bs there)

  pub placed : (new : List ℕ) → new ≡ take n bs ++ drop (length (take n bs)) part
      → take at rc ++ (new ++ drop (at + n - at) (drop at rc)) ≡ paste rc at bs n
  placed new f = pasted at (at + n) rc room (omega arith) (take n bs) new as_many f

-- one byte
pub placed_one : (rc bs : List ℕ) (at n : ℕ) → n ≡ 1 → at + n ≤ length rc → n ≤ length bs → set rc at (get_or bs 0 0) ≡ paste rc at bs n
placed_one rc bs at n e room there =
    let k : at + 0 ≡ at = omega arith in
    ap (λ (l : List ℕ). set l at (get_or bs 0 0)) (paste-zero rc at bs)
    ∙ ap (λ (j : ℕ). set (paste rc at bs 0) j (get_or bs 0 0)) (sym k)
    ∙ paste-suc rc at bs 0 0 (omega arith) (omega arith)
    ∙ ap (λ (j : ℕ). paste rc at bs j) (sym e)

-- three bytes that begin a packet, and as many as lack of it then
module _ (kind : Kind) (bs : List ℕ) (n : ℕ) where
  begun_partial : is_partial (progress_of kind (take 3 bs)) ≡ true → 3 ≤ n → n ≤ lack_of (take 3 bs) + 3 → n ≤ length bs
      → is_partial (progress_of kind (take n bs)) ≡ true
  begun_partial e low high there =
      let k : 3 + (n - 3) ≡ n = omega arith in
      let rest : List ℕ = take (n - 3) (drop 3 bs) in
      let split : take n bs ≡ take 3 bs ++ rest = sym (ap (λ (j : ℕ). take j bs) k) ∙ take-add 3 (n - 3) bs in
      let few : n - 3 ≤ length (drop 3 bs) = omega (arith, length-drop 3 bs) in
      let count : length rest ≡ n - 3 = length-take-le (n - 3) (drop 3 bs) few in
      ap (λ (l : List ℕ). is_partial (progress_of kind l)) split ∙ still_held kind (take 3 bs) rest e (omega (arith, count))

  opened_partial : n ≡ min (open_of kind bs) (length bs) → is_partial (progress_of kind []) ≡ true → is_partial (progress_of kind (take n bs)) ≡ true
  opened_partial e f = go (ltb (length bs) 3) refl
    where
      below : n ≤ open_of kind bs
      below = let h : min (open_of kind bs) (length bs) ≤ open_of kind bs = min-le_left _ _ in omega arith

      there : n ≤ length bs
      there = let h : min (open_of kind bs) (length bs) ≤ length bs = min-le_right _ _ in omega arith

      none : n ≡ 0 → is_partial (progress_of kind (take n bs)) ≡ true
      none z = rw z f

      begun : 3 ≤ length bs → (t : Bool) → is_partial (progress_of kind (take 3 bs)) ≡ t → is_partial (progress_of kind (take n bs)) ≡ true
      begun long false g = none (omega (arith, below, open_none kind bs long g))
      begun long true g =
          let o : lack_of (take 3 bs) + 3 ≡ open_of kind bs = open_some kind bs long g in
          let low : 3 ≤ min (open_of kind bs) (length bs) = le-min (omega (arith, o)) long in
          begun_partial g (omega arith) (omega (arith, o, below)) there

      go : (t : Bool) → ltb (length bs) 3 ≡ t → is_partial (progress_of kind (take n bs)) ≡ true
      go true g = none (omega (arith, below, open_few kind bs (ltb-true (length bs) 3 g)))
      go false g = begun (ltb-false (length bs) 3 g) (is_partial (progress_of kind (take 3 bs))) refl

  -- what is gained is held
  gained_held : (q : List ℕ) → n ≡ min (gain_of kind q bs) (length bs) → is_partial (progress_of kind q) ≡ true → is_partial (progress_of kind (q ++ take n bs)) ≡ true
  gained_held [] e f = opened_partial (e ∙ ap (λ (k : ℕ). min k (length bs)) (sym (gain_first kind [] bs refl))) f
  gained_held (x ∷ q) e f =
      let some : length (x ∷ q) ≡ 0 → ⊥ = λ z. omega arith in
      let g : lack_of (x ∷ q) ≡ gain_of kind (x ∷ q) bs = gain_more kind (x ∷ q) bs some in
      let low : min (gain_of kind (x ∷ q) bs) (length bs) ≤ gain_of kind (x ∷ q) bs = min-le_left _ _ in
      let high : min (gain_of kind (x ∷ q) bs) (length bs) ≤ length bs = min-le_right _ _ in
      let count : length (take n bs) ≡ n = length-take-le n bs (omega arith) in
      still_held kind (x ∷ q) (take n bs) f (omega (arith, count, g, low))

-- n bytes of bs are taken
module _ (kind : Kind) (at : ℕ) (rc bs : List ℕ) (holds : Holds kind at rc) (n : ℕ) (e : n ≡ min (gain_of kind (take at rc) bs) (length bs)) where
  abbrev q : List ℕ
  q = take at rc

  pub taken_there : n ≤ length bs
  taken_there = let h : min (gain_of kind q bs) (length bs) ≤ length bs = min-le_right _ _ in omega arith

  pub held_count : length q ≡ at
  held_count = length-take-le at rc holds.inside

  pub taken_count : length (take n bs) ≡ n
  taken_count = length-take-le n bs taken_there

  pub taken_held : is_partial (progress_of kind (q ++ take n bs)) ≡ true
  taken_held = gained_held kind bs n q e holds.fits

  -- a buffer for a longest packet has room for them
  pub taken_room : at + n ≤ length rc
  taken_room =
      let f : length (q ++ take n bs) < 1030 = partial_few kind (q ++ take n bs) taken_held in
      omega (arith, length-append q (take n bs), held_count, taken_count, holds.room)
