-- What copying and summing bytes, and building a packet from a buffer's front, need. Assumes nothing.
use Rattle.std.proofs.Common.{◌≡◌, ℕ, ◌+◌, ◌-◌, ◌%◌, ◌^◌, ◌<◌, ◌≤◌, true, leb, fold, List, [], ◌∷◌, ◌++◌, length, get_or, take, drop, set, sym, refl, ap, ◌∙◌, append_assoc, add-one, arith, length-append, length-drop, length-set, take_all, take-suc, drop-drop, take-suc-set, drop_at, le-leb}
use lib.Seq.{sets, sets-eq, take-append_seam}
use Rattle.numbers.specs.Bytes.{bytes_of, field, with_number}
use Rattle.packet.specs.declared.Kind.{Kind}
use Rattle.packet.specs.Packet.{start_of, longest_of, permitted, sum_of, lack, counted, frame}
use Rattle.packet.specs.Frame.{front, has_room}
use Rattle.packet.proofs.Laws.{sum_all}

-- one byte more is copied
pub copy_next : (to from : List ℕ) (i : ℕ) → i < length to → i < length from → take i to ≡ take i from
    → take (i + 1) (set to i (get_or from i 0)) ≡ take (i + 1) from
copy_next to from i h k e = rw (add-one i, take-suc-set to i (get_or from i 0) h, take-suc from i 0 k, e) refl

-- all bytes are copied
pub copy_end : (to from : List ℕ) (i : ℕ) → length to ≡ length from → length from ≤ i → take i to ≡ take i from → to ≡ from
copy_end to from i l h e =
    let k : length to ≤ i = omega arith in
    sym (take_all i to k) ∙ e ∙ take_all i from h

-- all bytes are summed: t is the whole sum
pub sum_end : (l : List ℕ) (i t : ℕ) → length l ≤ i → t ≡ fold (λ t b. (t + b) % 256) 0 (take i l) → t ≡ sum_of l % 256
sum_end l i t h e = e ∙ ap (λ (k : List ℕ). fold (λ t b. (t + b) % 256) 0 k) (take_all i l h) ∙ sum_all l

-- start byte, length, COM or RES
pub head_put : (kind : Kind) (b after : List ℕ) (start code m : ℕ) → start ≡ start_of kind → 4 ≤ length b → after ≡ with_number 2 m 1 (set b 0 start)
    → set after 3 code ≡ front (start_of kind ∷ bytes_of 2 m ++ code ∷ []) b
unfolding with_number bytes_of front
head_put kind b after start code m s h e =
    let t : leb 3 (length (set b 0 start)) ≡ true = le-leb 3 (length (set b 0 start)) (rw (length-set b 0 start) (omega arith)) in
    rw (← s, e, t) (sets-eq (start ∷ bytes_of 2 m ++ code ∷ []) b 0 h)

-- a sum modulo 256 in two parts
pub sum_parts : (bs : List ℕ) (d t s : ℕ) → t ≡ sum_of bs % 256 → s ≡ (t + d) % 2 ^ 8 → s ≡ sum_of (d ∷ bs) % 256
unfolding sum_of
sum_parts bs d t s e f = omega arith

-- SUM and ETX, where v with a sum s makes 0
pub end_put : (b bs : List ℕ) (end s v : ℕ) → s ≡ sum_of bs % 256 → (v + s) % 2 ^ 8 ≡ 0 → v < 256
    → set (set b end v) (end + 1) 0x03 ≡ sets b end (lack bs ∷ 0x03 ∷ [])
unfolding lack
end_put b bs end s v e z h =
    let w : v ≡ (256 - sum_of bs % 256) % 256 = omega arith in
    rw (add-one end, w) refl

module _ (p b : List ℕ) where
  -- a part behind the front is written as a whole
  pub front_part : (n k : ℕ) (vs : List ℕ) → n ≡ length p → k ≡ length vs
      → take n (front p b) ++ (vs ++ drop k (drop n (front p b))) ≡ front (p ++ vs) b
  unfolding front
  front_part n k vs e f =
      let rest : List ℕ = drop (length p) b in
      rw (e, f, take-append_seam p rest, drop_at p rest (length p) refl, drop-drop (length vs) (length p) b, length-append p vs)
      (sym (append_assoc p vs (drop (length p + length vs) b)))

  -- bytes are stored behind the front
  pub front_sets : (n : ℕ) (vs : List ℕ) → n ≡ length p → n + length vs ≤ length b → sets (front p b) n vs ≡ front (p ++ vs) b
  unfolding front
  front_sets n vs e h =
      let l : n + length vs ≤ length (front p b) = rw (length-append p (drop (length p) b), length-drop (length p) b) (omega arith) in
      sets-eq vs (front p b) n l
      ∙ append_assoc (take n (front p b)) vs (drop (n + length vs) (front p b))
      ∙ ap (λ (rest : List ℕ). take n (front p b) ++ (vs ++ rest)) (sym (drop-drop (length vs) n (front p b)))
      ∙ front_part n (length vs) vs e refl

-- the sum of the bytes behind COM or RES stands for them
lack_rest : (bytes : List ℕ) (d x y z : ℕ) → d ≡ sum_of bytes % 256 → lack (d ∷ x ∷ y ∷ z ∷ []) ≡ lack (x ∷ y ∷ z ∷ bytes)
unfolding lack sum_of
lack_rest bytes d x y z e = omega arith

-- a list with SUM and ETX behind its first n bytes, where d is the sum of the bytes behind COM or RES
abbrev ended : List ℕ → ℕ → ℕ → List ℕ
ended l n d = sets l n (lack (d ∷ field 3 1 l) ∷ 0x03 ∷ [])

-- a list with n bytes in place of those behind its first four
abbrev with_bytes : List ℕ → ℕ → List ℕ → List ℕ
with_bytes l n bytes = take 4 l ++ (bytes ++ drop (n + 4 - 4) (drop 4 l))

module _ (kind : Kind) where
  -- bytes behind start byte, length, COM or RES make the contents
  bytes_put : (b bytes : List ℕ) (code : ℕ)
      → with_bytes (front (start_of kind ∷ bytes_of 2 (length bytes + 1) ++ code ∷ []) b) (length bytes) bytes
      ≡ front (start_of kind ∷ counted (code ∷ bytes)) b
  unfolding bytes_of
  bytes_put b bytes code =
      let n : ℕ = length bytes in
      let p : List ℕ = start_of kind ∷ bytes_of 2 (n + 1) ++ code ∷ [] in
      let k : n + 4 - 4 ≡ n = omega arith in
      let q : p ++ bytes ≡ start_of kind ∷ counted (code ∷ bytes) = rw (add-one n) refl in
      front_part p b 4 (n + 4 - 4) bytes refl k ∙ ap (λ (l : List ℕ). front l b) q

  -- SUM and ETX behind the contents make the packet
  frame_ended : (b bytes : List ℕ) (code n d : ℕ) → n ≡ length bytes + 4 → length bytes + 6 ≤ length b → d ≡ sum_of bytes % 256
      → ended (front (start_of kind ∷ counted (code ∷ bytes)) b) n d ≡ front (frame kind (code ∷ bytes)) b
  unfolding frame front bytes_of
  frame_ended b bytes code n d e h s =
      let contents : List ℕ = (code ∷ bytes) in
      let p : List ℕ = start_of kind ∷ counted contents in
      let f : lack (d ∷ field 3 1 (front p b)) ≡ lack (counted contents) = lack_rest bytes d _ _ code s in
      let k : n ≡ length p = omega arith in
      rw f (front_sets p b n (lack (counted contents) ∷ 0x03 ∷ []) k (omega arith))

  -- head, bytes and end of a packet
  pub frame_put : (b head copied after bytes : List ℕ) (code d : ℕ) → length bytes + 6 ≤ length b
      → head ≡ front (start_of kind ∷ bytes_of 2 (length bytes + 1) ++ code ∷ []) b
      → copied ≡ bytes
      → d ≡ sum_of bytes % 256
      → after ≡ ended (with_bytes head (length bytes) copied) (length bytes + 4) d
      → after ≡ front (frame kind (code ∷ bytes)) b
  frame_put b head copied after bytes code d h eh ec ed ea =
      let n : ℕ = length bytes in
      ea
      ∙ ap (λ (l : List ℕ). ended (with_bytes l n copied) (n + 4) d) eh
      ∙ ap (λ (m : List ℕ). ended (with_bytes (front (start_of kind ∷ bytes_of 2 (n + 1) ++ code ∷ []) b) n m) (n + 4) d) ec
      ∙ ap (λ (l : List ℕ). ended l (n + 4) d) (bytes_put b bytes code)
      ∙ frame_ended b bytes code (n + 4) d refl h ed

  -- contents that the kind permits, and a buffer with room for their packet
  pub room : (contents b : List ℕ) → 1 ≤ length contents → length contents ≤ longest_of kind → length contents + 5 ≤ length b → has_room kind contents b ≡ true
  unfolding has_room permitted
  room contents b h k l = simp (le-leb 1 (length contents) h, le-leb (length contents) (longest_of kind) k, le-leb (length contents + 5) (length b) l)
