-- A packet that was built lies within the buffer, and is as long as the answer says. Assumes nothing.
use Rattle.std.proofs.Common.{List, ◌≡◌, ℕ, ◌≤◌, arith, length, take, length-take-le, sym}
use Rattle.host_request.specs.declared.Request.{Request}
use Rattle.host_request.specs.Build.{Builds}
use Rattle.std.specs.Prelude.{Result, Ok}
use Rattle.host_request.specs.declared.Unbuilt.{Unbuilt}
use Rattle.host_request.proofs.Outcome.{built_room, built_keeps_length}

module _ (r : Request) (bytes before after : List ℕ) (x : Result ℕ Unbuilt) (n : ℕ) (b : Builds r bytes before after x) (e : x ≡ Ok n) where
  pub within : n ≤ length after
  within = let h : n ≤ length before = built_room r bytes before after x b n e in let k : length after ≡ length before = built_keeps_length r bytes before after x b n e in omega arith

  pub part_length : n ≡ length (take n after)
  part_length = sym (length-take-le n after within)
