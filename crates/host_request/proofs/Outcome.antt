-- What building answers and leaves, exactly: one outcome, the packet at the front, nothing changed behind it, nothing at all where it is refused.
-- Assumes nothing.
use mathlib.Core.Bool.{not}
use mathlib.Core.List.{List, [], ◌∷◌, ◌++◌}
use mathlib.Core.Logic.{◌↔◌}
use Rattle.std.specs.Prelude.{Option, None, Some, Result, Ok, Err}
use mathlib.Core.Path.{◌≡◌, refl, sym, ap, ◌∙◌}
use Prim.Native.Nat.{ℕ, ◌≤◌}
use native.Mathlib.Omega.{arith}
use lib.ListN.{length, take, drop, length-append, length-drop}
use lib.Seq.{take_at, drop_at}
use lib.Dec.{leb}
use borrow.Author.Tests.{leb-true, le-leb, not-false}
use Rattle.verdict.specs.Check.{Check, ◌gives◌, first_fault, NoneApplies, IsFirst}
use Rattle.verdict.proofs.FirstFault.{clear, clear_left, fault_right, grants, first, first_found}
use Rattle.verdict.proofs.OneAnswer.{one_answer}
use Rattle.packet.specs.Frame.{front}
use Rattle.packet.proofs.Laws.{impossible}
use Rattle.host_request.specs.declared.Request.{Request}
use Rattle.host_request.specs.declared.Unbuilt.{Unbuilt}
use Rattle.host_request.specs.declared.Unbuilt.TheVariants.{NoRoom}
use Rattle.host_request.specs.Request.{packet_for, request_checks, build_checks}
use Rattle.host_request.specs.Build.{built_by, placed_by, Builds}

-- no second outcome meets the promise
pub builds_once : {request : Request} {bytes before after after' : List ℕ} {x x' : Result ℕ Unbuilt} → Builds request bytes before after x
    → Builds request bytes before after' x' → (x ≡ x') × (after ≡ after')
builds_once a b = (one_answer a.answers b.answers, one_answer a.leaves b.leaves)

module _ (r : Request) (bytes before after : List ℕ) (x : Result ℕ Unbuilt) (b : Builds r bytes before after x) where
  abbrev checks : List (Check Unbuilt)
  checks = build_checks r bytes (length before)

  -- refused exactly by the first fault
  pub unbuilt_exactly : (why : Unbuilt) → (x ≡ Err why) ↔ IsFirst checks why
  unbuilt_exactly why = (
    λ e. first checks why (by (first_fault checks) (sym b.answers ∙ e)),
    λ i. b.answers ∙ ap (λ (o : Option Unbuilt). built_by o (packet_for r bytes)) (first_found checks why i),
  )
    where
      by : (o : Option Unbuilt) → built_by o (packet_for r bytes) ≡ Err why → o ≡ Some why
      by None e = impossible (cc)
      by (Some other) e = let k : other ≡ why = cc in ap Some k

  -- and then the buffer is as it was
  pub unbuilt_leaves : (why : Unbuilt) → x ≡ Err why → after ≡ before
  unbuilt_leaves why e =
      b.leaves ∙ ap (λ (o : Option Unbuilt). placed_by o (packet_for r bytes) before) (first_found checks why ((unbuilt_exactly why).0 e))

  -- built exactly where no fault applies, and then the answer is the packet's length
  pub built_exactly : (n : ℕ) → (x ≡ Ok n) ↔ (NoneApplies checks × (n ≡ length (packet_for r bytes)))
  built_exactly n = (
    λ e. let told = by (first_fault checks) (sym b.answers ∙ e) in (clear checks told.0, told.1),
    λ h. b.answers ∙ ap (λ (o : Option Unbuilt). built_by o (packet_for r bytes)) (grants checks h.0) ∙ ap Ok (sym h.1),
  )
    where
      by : (o : Option Unbuilt) → built_by o (packet_for r bytes) ≡ Ok n → (o ≡ None) × (n ≡ length (packet_for r bytes))
      by None e = (refl, cc)
      by (Some why) e = impossible (cc)

  module _ (n : ℕ) (e : x ≡ Ok n) where
    -- what was built can be built
    pub built_buildable : first_fault (request_checks r (length bytes)) ≡ None
    unfolding build_checks
    built_buildable = clear_left (request_checks r (length bytes)) _ (grants checks ((built_exactly n).0 e).0)

    -- its packet had room
    pub built_room : n ≤ length before
    unfolding build_checks request_checks NoneApplies
    built_room = rw ((built_exactly n).0 e).1 (leb-true _ _ (not-false _ ((built_exactly n).0 e).0.1.1.0))

    -- the packet, and behind it what stood there
    fronted : after ≡ packet_for r bytes ++ drop n before
    unfolding front
    fronted =
        b.leaves ∙ ap (λ (o : Option Unbuilt). placed_by o (packet_for r bytes) before) (grants checks ((built_exactly n).0 e).0)
        ∙ ap (λ (k : ℕ). packet_for r bytes ++ drop k before) (sym ((built_exactly n).0 e).1)

    -- the bytes up to the answer are the packet
    pub built_front : take n after ≡ packet_for r bytes
    built_front = ap (take n) fronted ∙ take_at (packet_for r bytes) (drop n before) n (sym ((built_exactly n).0 e).1)

    -- those behind it are as they were
    pub built_rest : drop n after ≡ drop n before
    built_rest = ap (drop n) fronted ∙ drop_at (packet_for r bytes) (drop n before) n (sym ((built_exactly n).0 e).1)

    -- and there are no more or fewer of them
    pub built_keeps_length : length after ≡ length before
    built_keeps_length =
        ap length fronted ∙ length-append (packet_for r bytes) (drop n before)
        ∙ omega (arith, ((built_exactly n).0 e).1, length-drop n before, built_room)

  -- a request that can be built is built wherever there is room for its packet
  pub buildable_built : first_fault (request_checks r (length bytes)) ≡ None → length (packet_for r bytes) ≤ length before
      → x ≡ Ok (length (packet_for r bytes))
  unfolding build_checks first_fault
  buildable_built buildable room =
      let fits : first_fault ((not (leb (length (packet_for r bytes)) (length before)) gives NoRoom) ∷ []) ≡ None = rw (le-leb _ _ room) refl in
      b.answers ∙ ap (λ (o : Option Unbuilt). built_by o (packet_for r bytes)) (fault_right (request_checks r (length bytes)) _ buildable ∙ fits)
