-- The state's parts, put one after the other into 33 bytes, are all of them. Assumes nothing.
use mathlib.Core.List.{List, [], ◌∷◌, ◌++◌}
use mathlib.Core.Path.{◌≡◌, refl, sym, ap, ◌∙◌}
use Prim.Native.Nat.{ℕ, ◌+◌, ◌%◌, ◌≤◌}
use native.Mathlib.Omega.{arith}
use lib.ListN.{length, take, drop, set, length-set}
use lib.Seq.{sets, length-sets, paste, take_all}
use borrow.Author.Tests.{le-leb}
use Rattle.numbers.specs.Bytes.{bytes_of, with_number}
use Rattle.numbers.proofs.Copied.{part_count, pasted}
use Rattle.baud.specs.declared.LineSetting.{LineSetting}
use Rattle.state.specs.declared.Range.{Range}
use Rattle.state.specs.declared.Stage.{Stage}
use Rattle.state.specs.declared.State.{State}
use Rattle.packet_fields.specs.Fields.{bytes_from}
use Rattle.state_bytes.specs.State.{stage_number, pulses_of, range_of, stage_bytes, state_bytes}
use Rattle.packet_fields.proofs.Spelled.{spelled}
use Rattle.state_bytes.proofs.Wrap.{wrapped}

-- a number where there is room for it
with_room : (w n at : ℕ) (l : List ℕ) → at + w ≤ length l → with_number w n at l ≡ sets l at (bytes_of w n)
unfolding with_number
with_room w n at l h = rw (le-leb (at + w) (length l) h) refl

pub stage_put : (stage : Stage) (l l₁ l₂ : List ℕ) (n pulses : ℕ) (r : Range) → length l ≡ 33
    → n ≡ stage_number stage → pulses ≡ pulses_of stage → r ≡ range_of stage
    → l₁ ≡ with_number 4 r.next 2 (set (set l 0 n) 1 pulses)
    → l₂ ≡ with_number 4 r.left 6 l₁
    → l₂ ≡ sets l 0 (stage_bytes stage)
unfolding bytes_of
stage_put stage l l₁ l₂ n pulses r h e f g p q =
    let m : List ℕ = set (set l 0 n) 1 pulses in
    let b : length m ≡ 33 = length-set (set l 0 n) 1 pulses ∙ length-set l 0 n ∙ h in
    let u : l₁ ≡ sets m 2 (bytes_of 4 r.next) = p ∙ with_room 4 r.next 2 m (omega arith) in
    let d : length l₁ ≡ 33 = ap length u ∙ length-sets m 2 (bytes_of 4 r.next) ∙ b in
    let v : l₂ ≡ sets l₁ 6 (bytes_of 4 r.left) = q ∙ with_room 4 r.left 6 l₁ (omega arith) in
    v ∙ ap (λ (k : List ℕ). sets k 6 (bytes_of 4 r.left)) u ∙ rw (e, f, g) refl

-- the ID, copied over the sixteen bytes from place 10 on
pub id_put : (id d new : List ℕ) → length d ≡ 33 → length id ≡ 16 → new ≡ id ++ drop (length id) (take 16 (drop 10 d))
    → take 10 d ++ (new ++ drop 16 (drop 10 d)) ≡ paste d 10 id 16
id_put id d new h k e =
    let o : 26 ≤ length d = omega arith in
    let f : id ≡ take 16 id = sym (take_all 16 id (omega arith)) in
    pasted 10 26 d o (omega arith) id new (part_count 10 26 d o ∙ sym k) e ∙ ap (λ (s : List ℕ). take 10 d ++ s ++ drop 26 d) f

pub line_put : (line : LineSetting) (held : ℕ) (l l₁ : List ℕ) → length l ≡ 33
    → l₁ ≡ with_number 4 (held % 4294967296) 29 (set (set (set l 26 line.abcs) 27 line.brr) 28 line.mddr)
    → l₁ ≡ sets l 26 ((line.abcs ∷ line.brr ∷ line.mddr ∷ []) ++ bytes_of 4 held)
line_put line held l l₁ h p =
    let m : List ℕ = set (set (set l 26 line.abcs) 27 line.brr) 28 line.mddr in
    let b : length m ≡ 33 =
    length-set (set (set l 26 line.abcs) 27 line.brr) 28 line.mddr ∙ length-set (set l 26 line.abcs) 27 line.brr ∙ length-set l 26 line.abcs ∙ h in
    p ∙ with_room 4 (held % 4294967296) 29 m (omega arith) ∙ ap (λ (k : List ℕ). sets m 29 k) (wrapped 4 held)

pub state_put : (st : State) (l l₁ l₂ l₃ : List ℕ) → length l ≡ 33 → length st.id ≡ 16
    → l₁ ≡ sets l 0 (stage_bytes st.stage)
    → l₂ ≡ paste l₁ 10 st.id 16
    → l₃ ≡ sets l₂ 26 ((st.line.abcs ∷ st.line.brr ∷ st.line.mddr ∷ []) ++ bytes_of 4 st.held)
    → l₃ ≡ state_bytes st
unfolding bytes_of bytes_from state_bytes
state_put st l l₁ l₂ l₃ h i p q r =
    let tail : List ℕ = (st.line.abcs ∷ st.line.brr ∷ st.line.mddr ∷ []) ++ bytes_of 4 st.held in
    let fill : List ℕ → List ℕ → List ℕ = λ a id. sets (paste (sets a 0 (stage_bytes st.stage)) 10 id 16) 26 tail in
    r
    ∙ ap (λ (k : List ℕ). sets k 26 tail) q
    ∙ ap (λ (k : List ℕ). sets (paste k 10 st.id 16) 26 tail) p
    ∙ ap (λ (k : List ℕ). fill k st.id) (sym (spelled 33 l h))
    ∙ ap (λ (k : List ℕ). fill (bytes_from 33 0 l) k) (sym (spelled 16 st.id i))
    ∙ ap (λ (k : List ℕ). stage_bytes st.stage ++ k ++ (st.line.abcs ∷ st.line.brr ∷ st.line.mddr ∷ []) ++ bytes_of 4 st.held) (spelled 16 st.id i)
