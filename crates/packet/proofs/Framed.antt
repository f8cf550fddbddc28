-- What a caller may rely on who has a packet built: one answer, the packet at the front, nothing changed behind it, an answer within the buffer.
-- Assumes nothing.
use Rattle.std.proofs.Common.{◌≡◌, ℕ, ◌+◌, ◌≤◌, true, false, leb, List, ◌++◌, length, take, drop, sym, refl, ◌∙◌, arith, length-append, length-drop, take_at, drop_at, leb-true}
use Rattle.std.specs.Prelude.{Option, Some, None}
use mathlib.Core.Bool.{and-eq-true_iff}
use Rattle.verdict.proofs.OneAnswer.{one_answer}
use Rattle.packet.specs.declared.Kind.{Kind}
use Rattle.packet.specs.declared.Kind.TheVariants.{Data}
use Rattle.packet.specs.Packet.{longest_of, permitted, frame}
use Rattle.packet.specs.Frame.{longest_packet, longest_data, front, has_room, Framed}
use Rattle.packet.proofs.Frames.{frame_length}
use Rattle.packet.proofs.Laws.{cut_test, read_test}

-- the longest packet is one of data: COM or RES is counted and is no data byte
pub longest : (longest_packet ≡ longest_of Data + 5) × (longest_data + 1 ≡ longest_of Data)
longest = (refl, refl)

module _ (kind : Kind) where
  -- two answers that meet the promise are the same
  pub framed_once : (contents before : List ℕ) {after after' : List ℕ} {r r' : Option ℕ} → Framed kind contents before after r → Framed kind contents before after' r'
      → (after ≡ after') × (r ≡ r')
  framed_once contents before p p' = (one_answer p.leaves p'.leaves, one_answer p.answers p'.answers)

  -- what the test for room says
  pub room_length : (contents before : List ℕ) → has_room kind contents before ≡ true → length contents + 5 ≤ length before
  unfolding has_room
  room_length contents before h =
      let n : ℕ = length contents in
      leb-true (n + 5) (length before) ((and-eq-true_iff (permitted kind n) (leb (n + 5) (length before))).0 h).1

  module _ (contents before after : List ℕ) where
    -- with room: the answer is the packet's length
    pub answered : (r : Option ℕ) → has_room kind contents before ≡ true → Framed kind contents before after r → r ≡ Some (length contents + 5)
    answered r h p = rw h at p.answers

    -- without room: there is no packet, and nothing is written
    pub none_framed : (r : Option ℕ) → has_room kind contents before ≡ false → Framed kind contents before after r → (after ≡ before) × (r ≡ None)
    none_framed r h p = (rw h at p.leaves, rw h at p.answers)

    -- no packet is answered only where there is no room
    pub none_refused : Framed kind contents before after None → has_room kind contents before ≡ false
    none_refused p = cut_test (has_room kind contents before) (length contents + 5) (sym p.answers)

  -- a length is answered: there was room, the packet stands at the front, and what is behind it keeps its values
  module _ (contents before after : List ℕ) (n : ℕ) (p : Framed kind contents before after (Some n)) where
    length_said : (has_room kind contents before ≡ true) × (n ≡ length contents + 5)
    length_said = read_test (has_room kind contents before) (length contents + 5) n (sym p.answers)

    pub some_roomy : has_room kind contents before ≡ true
    some_roomy = length_said.0

    pub packet_length : n ≡ length contents + 5
    packet_length = length_said.1

    frame_fits : length (frame kind contents) ≡ n
    frame_fits = frame_length kind contents ∙ sym packet_length

    fronted : after ≡ frame kind contents ++ drop n before
    unfolding front
    fronted = rw (some_roomy, frame_fits) at p.leaves

    pub packet_first : take n after ≡ frame kind contents
    packet_first = rw fronted (take_at (frame kind contents) (drop n before) n frame_fits)

    pub rest_kept : drop n after ≡ drop n before
    rest_kept = rw fronted (drop_at (frame kind contents) (drop n before) n frame_fits)

    -- the answer lies within the buffer
    pub answer_within : n ≤ length before
    answer_within =
        let k : length contents + 5 ≤ length before = room_length contents before some_roomy in
        omega (arith, packet_length)

    pub length_kept : length after ≡ length before
    length_kept = rw (fronted, length-append (frame kind contents) (drop n before), length-drop n before, frame_fits) (omega (arith, answer_within))
