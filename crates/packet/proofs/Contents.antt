-- The payload as a part of the receive buffer, and where it stands there. Assumes nothing.
use Rattle.std.proofs.Common.{◌≡◌, ℕ, zero, suc, ◌+◌, ◌-◌, ◌<◌, ◌≤◌, Bool, true, false, leb, List, [], ◌∷◌, length, take, drop, sym, refl, ◌∙◌, arith, length-take-le, take-take, le-leb, leb-false, leb-true}
use borrow.Author.Tests.{lt-leb}
use Rattle.numbers.proofs.Part.{part_there}
use Rattle.packet.specs.Packet.{length_of, good, payload_of, payload_at}
use Rattle.packet.proofs.Laws.{permitted_least}
use Rattle.packet.proofs.Gathering.{good_is}

-- a part that ends within the first n is a part of the whole
part_of_front : (at m n : ℕ) (l : List ℕ) → at + m ≤ n → take m (drop at (take n l)) ≡ take m (drop at l)
part_of_front zero m n l h = take-take m n l (omega arith)
part_of_front (suc at) m zero l h = absurd (omega arith)
part_of_front (suc at) m (suc n) [] h = refl
part_of_front (suc at) m (suc n) (x ∷ l) h = part_of_front at m n l (omega arith)

module _ (receive : List ℕ) (n : ℕ) where
  -- no such packet: the bytes are not there, or are not good
  pub payload_short : length receive < n → [] ≡ payload_of receive n
  unfolding payload_of
  payload_short h = simp (lt-leb _ _ h)

  pub payload_none : n ≤ length receive → good (take n receive) ≡ false → [] ≡ payload_of receive n
  unfolding payload_of
  payload_none h g = simp (le-leb _ _ h, g)

  pub payload_at_short : length receive < n → payload_at receive n ≡ 0
  unfolding payload_at
  payload_at_short h = simp (lt-leb _ _ h)

  pub payload_at_none : n ≤ length receive → good (take n receive) ≡ false → payload_at receive n ≡ 0
  unfolding payload_at
  payload_at_none h g = simp (le-leb _ _ h, g)

  module _ (h : n ≤ length receive) (g : good (take n receive) ≡ true) where
    counted : n ≡ length_of (take n receive) + 5
    counted = sym (length-take-le n receive h) ∙ (good_is (take n receive) g).is.count

    -- start byte, length bytes, COM or RES, SUM and ETX
    pub payload_room : 6 ≤ n
    payload_room =
        let i = good_is (take n receive) g in
        omega (arith, counted, permitted_least i.kind (length_of (take n receive)) i.is.permits)

    pub payload_part : take (n - 2 - 3) (drop 3 receive) ≡ payload_of receive n
    unfolding payload_of
    payload_part =
        let k : n - 2 - 3 ≡ length_of (take n receive) = omega (arith, counted) in
        simp (le-leb _ _ h, g, k) (sym (part_of_front 3 (length_of (take n receive)) n receive (omega (arith, counted))))

    pub payload_at_part : payload_at receive n ≡ 3
    unfolding payload_at
    payload_at_part = simp (le-leb _ _ h, g)

  -- the payload's bytes are the buffer's own from there on
  pub payload_there : payload_of receive n ≡ take (length (payload_of receive n)) (drop (payload_at receive n) receive)
  payload_there = by (leb n (length receive)) refl (good (take n receive)) refl
    where
      by : (t : Bool) → leb n (length receive) ≡ t → (g : Bool) → good (take n receive) ≡ g
          → payload_of receive n ≡ take (length (payload_of receive n)) (drop (payload_at receive n) receive)
      by false t g e = part_there 0 (payload_at receive n) receive (payload_of receive n) (payload_short (leb-false n (length receive) t))
      by true t false e = part_there 0 (payload_at receive n) receive (payload_of receive n) (payload_none (leb-true n (length receive) t) e)
      by true t true e =
          let h : n ≤ length receive = leb-true n (length receive) t in
          rw (payload_at_part h e) (part_there (n - 2 - 3) 3 receive (payload_of receive n) (payload_part h e))
