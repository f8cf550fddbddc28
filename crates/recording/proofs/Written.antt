-- Records that are written read back, and all that is written can be read. Assumes nothing.
use mathlib.Core.Bool.{Bool, true, false, ◌&&◌, cond}
use mathlib.Core.List.{List, [], ◌∷◌, ◌++◌, append_assoc}
use mathlib.Core.Path.{◌≡◌, refl, sym, ap, ◌∙◌}
use Prim.Native.Nat.{ℕ, ◌+◌, ◌-◌, ◌≤◌}
use native.Mathlib.Omega.{arith}
use lib.ListN.{length, length-append}
use lib.Seq.{get_or-append-add, drop-append_seam, drop-append-add, take-append_seam}
use lib.Dec.{leb, eqb}
use borrow.Author.Tests.{le-leb, leb-true, eqb-true}
use Rattle.numbers.specs.Bytes.{bytes_of, field}
use Rattle.numbers.specs.Same.{same}
use Rattle.numbers.proofs.RoundTrip.{number_back}
use Rattle.recording.specs.declared.Direction.{Direction}
use Rattle.recording.specs.declared.Part.{Part}
use Rattle.recording.specs.declared.Found.TheVariants.{Is}
use Rattle.recording.specs.declared.Ended.TheVariants.{Whole}
use Rattle.recording.specs.Format.{mark, head_length, direction_number, directed_of, length_allowed, entry, Record, host, device, reset, direction_of, payload, entry_of, written, AllFormed}
use Rattle.recording.specs.Recording.{direction_at, count_at, found_at, bytes_in, record_by, records_from, records_of, stop_from, readable, ended_by, extent_of}
use Rattle.recording.proofs.Laws.{directed_back, bytes_there, direction_known, found_end}
use Rattle.recording.proofs.Reading.{Over, records_next, records_over, stop_next, stop_over, whole_ends}

pub entry_length : (direction : ℕ) (bytes : List ℕ) → length (entry direction bytes) ≡ head_length + length bytes
unfolding entry bytes_of
entry_length direction bytes = omega arith

-- as many bytes as are allowed can be counted in two
pub allowed_most : (direction n : ℕ) → length_allowed direction n ≡ true → n ≤ 1030
unfolding length_allowed
allowed_most direction n = by (eqb direction 0x52)
  where
    both : (a : Bool) → a && leb n 1030 ≡ true → n ≤ 1030
    both true e = leb-true n 1030 e
    both false e = let z : ◌≡◌ {A = ℕ} 0 1 = cc in absurd (omega arith)

    by : (t : Bool) → cond t (eqb n 0) (leb 1 n && leb n 1030) ≡ true → n ≤ 1030
    by true e = let z : n ≡ 0 = eqb-true n 0 e in omega arith
    by false e = both (leb 1 n) e

-- a record's bytes behind p and before q
module _ (p : List ℕ) (d : Direction) (bytes q : List ℕ) (allowed : length_allowed (direction_number d) (length bytes) ≡ true) where
  abbrev whole : List ℕ
  whole = p ++ (entry (direction_number d) bytes ++ q)

  abbrev there : Part
  there = record { from = length p + head_length; to = length p + head_length + length bytes }

  whole_length : length whole ≡ length p + head_length + length bytes + length q
  whole_length = simp (length-append, entry_length) (omega arith)

  entry_mark : same (field 2 (length p) whole) mark ≡ true
  unfolding entry same
  entry_mark = rw (drop-append_seam p (entry (direction_number d) bytes ++ q)) refl

  entry_direction : direction_at whole (length p) ≡ direction_number d
  unfolding entry
  entry_direction = get_or-append-add p (entry (direction_number d) bytes ++ q) 2 0

  entry_count : count_at whole (length p) ≡ length bytes
  unfolding count_at entry bytes_of
  entry_count =
      let most : length bytes ≤ 1030 = allowed_most (direction_number d) (length bytes) allowed in
      rw (drop-append-add p (entry (direction_number d) bytes ++ q) 3) (number_back 2 (length bytes) (omega arith))

  pub entry_found : found_at whole (length p) ≡ Is d there
  entry_found =
      let n = whole_length in
      let at = length p in
      let behind : at + head_length + count_at whole at ≤ length whole = rw entry_count (omega arith) in
      sym (direction_known whole at (λ e. omega arith) (le-leb (at + 2) (length whole) (omega arith)) entry_mark (le-leb (at + 3) (length whole) (omega arith)) d
      (ap directed_of entry_direction ∙ directed_back d))
      ∙ sym (bytes_there whole at d (le-leb (at + head_length) (length whole) (omega arith)) (ap (length_allowed (direction_number d)) entry_count ∙ allowed)
      (le-leb (at + head_length + count_at whole at) (length whole) behind))
      ∙ ap (λ (k : ℕ). Is d (record { from = at + head_length; to = at + head_length + k })) entry_count

  pub entry_bytes : bytes_in there whole ≡ bytes
  unfolding entry bytes_of
  entry_bytes =
      let e : length p + head_length + length bytes - (length p + head_length) ≡ length bytes = omega arith in
      rw (e, drop-append-add p (entry (direction_number d) bytes ++ q) 5) (take-append_seam bytes q)

  pub entry_end : length (p ++ entry (direction_number d) bytes) ≡ there.to
  entry_end = simp (length-append, entry_length) (omega arith)

-- a record is what its direction and its bytes make
pub record_again : (r : Record) → record_by (direction_of r) (payload r) ≡ r
record_again (host bytes) = refl
record_again (device bytes) = refl
record_again reset = refl

past_all : (p : List ℕ) → length p ≡ length (p ++ [])
past_all p = simp length-append (omega arith)

over_end : (p : List ℕ) → Over (found_at (p ++ []) (length p))
over_end p n =
    let w : ended_by (found_at (p ++ []) (length p)) ≡ Whole = sym (ap ended_by (found_end (p ++ []) (length p) (past_all p))) in
    let z : ◌≡◌ {A = ℕ} 0 1 = cc in
    omega arith

pub reads_from : (p : List ℕ) (rs : List Record) → AllFormed rs → records_from (p ++ written rs) (length p) ≡ rs
unfolding written AllFormed
reads_from p [] c = records_over (p ++ []) (length p) (over_end p)
reads_from p (r ∷ rs) c =
    let s : List ℕ = p ++ (entry_of r ++ written rs) in
    let rest : records_from (p ++ entry_of r ++ written rs) (length (p ++ entry_of r)) ≡ rs = reads_from (p ++ entry_of r) rs c.1 in
    records_next s (length p) (direction_of r) _ (entry_found p (direction_of r) (payload r) (written rs) c.0)
    ∙ rw (entry_bytes p (direction_of r) (payload r) (written rs) c.0) (ap (λ (x : Record). x ∷ records_from s (length p + head_length + length (payload r))) (record_again r))
    ∙ ap (λ (l : List Record). r ∷ l) (rw (append_assoc p (entry_of r) (written rs), entry_end p (direction_of r) (payload r) (written rs) c.0) at rest)

pub readable_from : (p : List ℕ) (rs : List Record) → AllFormed rs → stop_from (p ++ written rs) (length p) ≡ length (p ++ written rs)
unfolding written AllFormed
readable_from p [] c = stop_over (p ++ []) (length p) (over_end p) ∙ past_all p
readable_from p (r ∷ rs) c =
    let s : List ℕ = p ++ (entry_of r ++ written rs) in
    let rest : stop_from (p ++ entry_of r ++ written rs) (length (p ++ entry_of r)) ≡ length (p ++ entry_of r ++ written rs) = readable_from (p ++ entry_of r) rs c.1 in
    stop_next s (length p) (direction_of r) _ (entry_found p (direction_of r) (payload r) (written rs) c.0)
    ∙ (rw (append_assoc p (entry_of r) (written rs), entry_end p (direction_of r) (payload r) (written rs) c.0) at rest)

module _ (rs : List Record) (formed : AllFormed rs) where
  pub reads_back : records_of (written rs) ≡ rs
  reads_back = reads_from [] rs formed

  -- to the end
  pub reads_whole : extent_of (written rs) ≡ record { count = length (written rs); ended = Whole }
  reads_whole =
      let stop : readable (written rs) ≡ length (written rs) = readable_from [] rs formed in
      let w : ended_by (found_at (written rs) (readable (written rs))) ≡ Whole = whole_ends (written rs) 0 stop in
      rw (w, stop) refl
