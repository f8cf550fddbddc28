-- A state's bytes read back as that state, and bytes that are a state are that state's. Assumes nothing.
use mathlib.Core.Bool.{Bool, true, false, ◌&&◌, cond}
use mathlib.Core.List.{List, [], ◌∷◌, ◌++◌}
use Rattle.std.specs.Prelude.{Some, Option, None}
use mathlib.Core.Path.{◌≡◌, refl, sym, ap, ◌∙◌}
use Prim.Native.Nat.{ℕ, ◌<◌}
use native.Mathlib.Omega.{arith}
use lib.Dec.{eqb}
use lib.ListN.{length, get_or}
use borrow.Author.Tests.{eqb-true}
use Rattle.numbers.specs.Bytes.{bytes_of, AllBytes}
use Rattle.baud.specs.declared.LineSetting.{LineSetting}
use Rattle.state.specs.declared.Pulse.TheVariants.{Zero, One, Acknowledged}
use Rattle.state.specs.declared.Range.{Range}
use Rattle.state.specs.declared.Stage.{Stage}
use Rattle.state.specs.declared.Stage.TheVariants.{Setting, Authentication, Command, Writing, Reading}
use Rattle.state.specs.declared.State.{State}
use Rattle.packet_fields.specs.Fields.{four_at, bytes_from}
use Rattle.state_bytes.specs.State.{state_length, stage_number, pulses_of, range_of, state_bytes, setting_in, stage_of, stage_in, state_with, state_by, state_in}
use Rattle.packet_fields.proofs.Spelled.{spelled}
use Rattle.packet_fields.proofs.FieldLaws.{four_back, back_four}

-- a state whose numbers are within their widths
pub record Formed (st : State) : Type 0 where
  pub sixteen : length st.id ≡ 16
  pub latched : AllBytes st.id
  pub abcs : st.line.abcs < 256
  pub brr : st.line.brr < 256
  pub mddr : st.line.mddr < 256
  pub next : (range_of st.stage).next < 4294967296
  pub left : (range_of st.stage).left < 4294967296
  pub held : st.held < 4294967296

pub state_length_lem : (st : State) → length st.id ≡ 16 → length (state_bytes st) ≡ 33
unfolding state_bytes bytes_of bytes_from
state_length_lem st h =
    ap (λ (k : List ℕ). length (state_bytes (record { stage = st.stage; id = k; line = st.line; held = st.held }))) (sym (spelled 16 st.id h))

-- a state whose ID is given entry by entry
module _ (stage : Stage) (l : List ℕ) (line : LineSetting) (n : ℕ) where
  abbrev spelt : State
  spelt = record { stage = stage; id = bytes_from 16 0 l; line = line; held = n }

  next_back : (range_of stage).next < 4294967296 → four_at (state_bytes spelt) 2 ≡ (range_of stage).next
  unfolding state_bytes bytes_of bytes_from
  next_back h = four_back (range_of stage).next 2 (state_bytes spelt) (omega arith) h refl

  left_back : (range_of stage).left < 4294967296 → four_at (state_bytes spelt) 6 ≡ (range_of stage).left
  unfolding state_bytes bytes_of bytes_from
  left_back h = four_back (range_of stage).left 6 (state_bytes spelt) (omega arith) h refl

  held_back : n < 4294967296 → four_at (state_bytes spelt) 29 ≡ n
  unfolding state_bytes bytes_of bytes_from
  held_back h = four_back n 29 (state_bytes spelt) (omega arith) h refl

  with_back : n < 4294967296 → state_with (state_bytes spelt) stage ≡ spelt
  unfolding state_bytes bytes_of bytes_from state_with
  with_back h = rw (held_back h) refl

  stage_read : (range_of stage).next < 4294967296 → (range_of stage).left < 4294967296
      → stage_in (state_bytes spelt) ≡ stage_of (stage_number stage) (pulses_of stage) (range_of stage)
  unfolding state_bytes bytes_of bytes_from stage_in
  stage_read h k = rw (next_back h, left_back k) refl

stage_back : (stage : Stage) → stage_of (stage_number stage) (pulses_of stage) (range_of stage) ≡ Some stage
unfolding stage_of
stage_back (Setting Zero) = refl
stage_back (Setting One) = refl
stage_back (Setting Acknowledged) = refl
stage_back Authentication = refl
stage_back Command = refl
stage_back (Writing r) = refl
stage_back (Reading r) = refl

state_spelt : (stage : Stage) (l : List ℕ) (line : LineSetting) (n : ℕ) → (range_of stage).next < 4294967296 → (range_of stage).left < 4294967296 → n < 4294967296
    → state_in (state_bytes (spelt stage l line n)) ≡ Some (spelt stage l line n)
state_spelt stage l line n h k f =
    ap (state_by (state_bytes (spelt stage l line n))) (stage_read stage l line n h k ∙ stage_back stage)
    ∙ ap Some (with_back stage l line n f)

-- what reading back asks: the entries of the ID and of the line setting may be any numbers
pub state_reads : (st : State) → length st.id ≡ 16 → (range_of st.stage).next < 4294967296 → (range_of st.stage).left < 4294967296
    → st.held < 4294967296 → state_in (state_bytes st) ≡ Some st
state_reads st sixteen next left held =
    let e : bytes_from 16 0 st.id ≡ st.id = spelled 16 st.id sixteen in
    rw e at (state_spelt st.stage st.id st.line st.held next left held)

pub state_read_back : (st : State) → Formed st → state_in (state_bytes st) ≡ Some st
state_read_back st f = state_reads st f.sixteen f.next f.left f.held

-- what a test that led to a stage says
picked : (t : Bool) {a b v : Option Stage} {P : Type 0} → cond t a b ≡ v → (t ≡ true → a ≡ v → P) → (t ≡ false → b ≡ v → P) → P
picked true h taken left = taken refl h
picked false h taken left = left refl h

no_stage : {stage : Stage} {P : Type 0} → None ≡ Some stage → P
no_stage e = let z : ◌≡◌ {A = ℕ} 0 1 = cc in absurd (omega arith)

-- bytes in which a stage is found are as many as a state has
pub found_length : (bs : List ℕ) (stage : Stage) → stage_in bs ≡ Some stage → length bs ≡ state_length
unfolding stage_in
found_length bs stage h = picked (eqb (length bs) state_length) h (λ t _. eqb-true (length bs) state_length t) (λ _ e. no_stage e)

both : (a b : Bool) → (a && b) ≡ true → (a ≡ true) × (b ≡ true)
both true b h = (refl, h)
both false b h = let z : ◌≡◌ {A = ℕ} 0 1 = cc in absurd (omega arith)

-- the numbers that a stage was told by are its own
record Told (n pulses : ℕ) (r : Range) (stage : Stage) : Type 0 where
  number : stage_number stage ≡ n
  low : pulses_of stage ≡ pulses
  range : range_of stage ≡ r

module _ (n pulses : ℕ) (r : Range) (stage : Stage) where
  told_as_lem : (s : Stage) → Some s ≡ Some stage → stage_number s ≡ n → pulses_of s ≡ pulses → range_of s ≡ r → Told n pulses r stage
  told_as_lem s e a b d =
      let k : stage ≡ s = cc in
      record { number = ap stage_number k ∙ a; low = ap pulses_of k ∙ b; range = ap range_of k ∙ d }

  no_range : (eqb r.next 0 && eqb r.left 0) ≡ true → record { next = 0; left = 0 } ≡ r
  no_range h =
      let t = both (eqb r.next 0) (eqb r.left 0) h in
      let a : r.next ≡ 0 = eqb-true r.next 0 t.0 in
      let b : r.left ≡ 0 = eqb-true r.left 0 t.1 in
      ap (λ (x : ℕ). record { next = x; left = 0 }) (sym a) ∙ ap (λ (y : ℕ). record { next = r.next; left = y }) (sym b)

  setting_told : n ≡ 0 → record { next = 0; left = 0 } ≡ r → setting_in pulses ≡ Some stage → Told n pulses r stage
  setting_told z d h =
      picked (eqb pulses 0) h (λ t e. told_as_lem (Setting Zero) e (sym z) (sym (eqb-true pulses 0 t)) d) (λ _ h₁.
      picked (eqb pulses 1) h₁ (λ t e. told_as_lem (Setting One) e (sym z) (sym (eqb-true pulses 1 t)) d) (λ _ h₂.
      picked (eqb pulses 2) h₂ (λ t e. told_as_lem (Setting Acknowledged) e (sym z) (sym (eqb-true pulses 2 t)) d) (λ _ e.
      no_stage e)))

  plain_told : pulses ≡ 0 → record { next = 0; left = 0 } ≡ r → cond (eqb n 1) (Some Authentication) (cond (eqb n 2) (Some Command) None) ≡ Some stage
      → Told n pulses r stage
  plain_told z d h =
      picked (eqb n 1) h (λ t e. told_as_lem Authentication e (sym (eqb-true n 1 t)) (sym z) d) (λ _ h₁.
      picked (eqb n 2) h₁ (λ t e. told_as_lem Command e (sym (eqb-true n 2 t)) (sym z) d) (λ _ e.
      no_stage e))

  stage_told : stage_of n pulses r ≡ Some stage → Told n pulses r stage
  unfolding stage_of
  stage_told h =
      picked (eqb n 0) h
      (λ t h₁. picked (eqb r.next 0 && eqb r.left 0) h₁ (λ d e. setting_told (eqb-true n 0 t) (no_range d) e) (λ _ e. no_stage e))
      (λ _ h₁.
      picked (eqb pulses 0) h₁
      (λ p h₂.
      let z : 0 ≡ pulses = sym (eqb-true pulses 0 p) in
      picked (eqb n 3) h₂ (λ t e. told_as_lem (Writing r) e (sym (eqb-true n 3 t)) z refl) (λ _ h₃.
      picked (eqb n 4) h₃ (λ t e. told_as_lem (Reading r) e (sym (eqb-true n 4 t)) z refl) (λ _ h₄.
      picked (eqb r.next 0 && eqb r.left 0) h₄ (λ d e. plain_told (sym z) (no_range d) e) (λ _ e. no_stage e))))
      (λ _ e. no_stage e))

-- bytes that are a state
module _ (bs : List ℕ) (t : AllBytes bs) where
  parts : length bs ≡ 33
      → (get_or bs 0 0 ∷ get_or bs 1 0 ∷ []) ++ bytes_from 4 2 bs ++ bytes_from 4 6 bs ++ bytes_from 16 10 bs
      ++ (get_or bs 26 0 ∷ get_or bs 27 0 ∷ get_or bs 28 0 ∷ []) ++ bytes_from 4 29 bs
      ≡ bs
  unfolding bytes_from
  parts h = spelled 33 bs h

  stage_written : (stage : Stage) → length bs ≡ 33 → Told (get_or bs 0 0) (get_or bs 1 0) (record { next = four_at bs 2; left = four_at bs 6 }) stage
      → state_bytes (state_with bs stage) ≡ bs
  unfolding state_bytes state_with
  stage_written stage h d =
      rw (d.number, d.low, d.range, back_four 2 bs t (omega arith), back_four 6 bs t (omega arith), back_four 29 bs t (omega arith)) (parts h)

  stage_in_written : (stage : Stage) → stage_in bs ≡ Some stage → state_bytes (state_with bs stage) ≡ bs
  unfolding stage_in
  stage_in_written stage h =
      picked (eqb (length bs) 33) h
      (λ l e. stage_written stage (eqb-true (length bs) 33 l) (stage_told (get_or bs 0 0) (get_or bs 1 0) (record { next = four_at bs 2; left = four_at bs 6 }) stage e))
      (λ _ e. no_stage e)

  pub state_written_back : (st : State) → state_in bs ≡ Some st → state_bytes st ≡ bs
  state_written_back st e = by (stage_in bs) refl e
    where
      by : (s : Option Stage) → stage_in bs ≡ s → state_by bs s ≡ Some st → state_bytes st ≡ bs
      by None h k = let z : ◌≡◌ {A = ℕ} 0 1 = cc in absurd (omega arith)
      by (Some stage) h k = let j : st ≡ state_with bs stage = cc in ap state_bytes j ∙ stage_in_written stage h
