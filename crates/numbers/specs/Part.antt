-- A part of a lent slice: its bytes, and where in the slice's own memory they stand.
use Rattle.std.specs.Prelude.{List, ◌≡◌, ℕ, ◌+◌}
use Rattle.std.specs.Borrow.{Bor}

-- r is the part of the slice s that starts at place `from` and has these bytes
pub record PartAt (s : Bor (List ℕ)) (from : ℕ) (contents : List ℕ) (r : Bor (List ℕ)) : Type 0 where
  pub bytes : r.now ≡ contents
  -- the memory is that of s, and the part starts so many bytes behind the start of s
  pub block : r.ref_ptr.0 ≡ s.ref_ptr.0
  pub start : r.ref_ptr.1 ≡ s.ref_ptr.1 + from
