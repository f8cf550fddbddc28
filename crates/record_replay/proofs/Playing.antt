-- One record further: what is left to play and where reading stops are the same, and the next landing place stays in reach. Assumes nothing.
use mathlib.Core.Bool.{Bool, true, false, cond}
use mathlib.Core.List.{List}
use mathlib.Core.Path.{◌≡◌, refl, sym, ap, subst, ◌∙◌}
use Prim.Native.Nat.{ℕ, ◌+◌, ◌-◌, ◌^◌, ◌≤◌, ◌<◌}
use native.Mathlib.Omega.{arith}
use lib.ListN.{length, drop, get_or, length-take, length-drop}
use lib.Seq.{length-take-le}
use lib.Dec.{leb}
use borrow.Author.Tests.{leb-true}
use Rattle.numbers.specs.Bytes.{number, field, value_at, AllBytes}
use Rattle.numbers.proofs.RoundTrip.{number_below, are_bytes, all_drop, all_take}
use Rattle.profile.specs.declared.Profile.{Profile}
use Rattle.profile.specs.Areas.{areas_of}
use Rattle.packet_fields.specs.Fields.{value_of, four_at}
use Rattle.recording.specs.declared.Direction.{Direction}
use Rattle.recording.specs.declared.Direction.TheVariants.{Host, Device, Reset}
use Rattle.recording.specs.declared.Part.{Part}
use Rattle.recording.specs.declared.Found.{Found}
use Rattle.recording.specs.declared.Found.TheVariants.{Is}
use Rattle.recording.specs.declared.Ended.{Ended}
use Rattle.recording.specs.declared.Extent.{Extent}
use Rattle.recording.specs.Format.{Record}
use Rattle.recording.specs.Recording.{found_at, bytes_in, records_of, stop_from, readable, ended_by, extent_of}
use Rattle.recording.proofs.Reading.{found_lies, records_next, stop_next, Over, records_over, stop_over, extent_is}
use Rattle.record_exchange.specs.Exchange.{data_told, exchange_read, CanMove}
use Rattle.record_exchange.specs.Line.{Entry, exchange, exchanges_from, exchanges_of}
use Rattle.record_exchange.proofs.Landings.{lands}
use Rattle.record_exchange.proofs.Tapes.{tape_back, stray_unseen}
use Rattle.record_replay.specs.declared.Head.{Head}
use Rattle.record_replay.specs.Replay.{Tape, entry_replay, replay_from, replay}
use Rattle.std.specs.Prelude.{Option, Some, None}
use Rattle.record_replay.specs.Post.{LandsBelow, played_from, WaitsBefore, HeadIn, Advanced, Played}

-- four bytes make a u32
four_low : (q : List ℕ) → AllBytes q → four_at q 4 ≤ 4294967295
unfolding four_at value_at
four_low q h = by (leb 8 (length q)) refl
  where
    by : (t : Bool) → leb 8 (length q) ≡ t → value_of (cond t (Some (number (field 4 4 q))) None) ≤ 4294967295
    by true e =
        let w : 8 ≤ length q = leb-true 8 (length q) e in
        let d : 4 ≤ length (drop 4 q) = rw length-drop (omega arith) in
        let k : length (field 4 4 q) ≡ 4 = length-take-le 4 (drop 4 q) d in
        let n : number (field 4 4 q) < 4294967296 =
        subst (λ (m : ℕ). number (field 4 4 q) < 256 ^ m) k (number_below (field 4 4 q) (all_take 4 (drop 4 q) (all_drop 4 q h))) in
        omega arith
    by false e = omega arith

-- a higher bound
low_more : (n m : ℕ) (landing : Option ℕ) → n ≤ m → LandsBelow landing n → LandsBelow landing m
low_more n m None k h = tt
low_more n m (Some x) k h = omega arith

-- a request moves the landing place by its own length at most, or to a u32
data_low : (q : List ℕ) (n m : ℕ) (landing : Option ℕ) → n + length q ≤ m → LandsBelow landing n → LandsBelow (data_told q landing).landing m
unfolding data_told
data_low q n m None k h = tt
data_low q n m (Some x) k h = omega arith

exchange_low : (q reply : List ℕ) (n m : ℕ) (landing : Option ℕ) → AllBytes q → 4294967295 ≤ m → n + length q ≤ m → LandsBelow landing n
    → LandsBelow (exchange_read q reply landing).landing m
exchange_low q reply n m landing bytes u k h =
    let f : four_at q 4 ≤ 4294967295 = four_low q bytes in
    lands (λ (l : Option ℕ). LandsBelow l m) q landing (low_more n m landing (omega arith) h) (omega arith) (data_low q n m landing k h) reply

-- what a head says of its landing place
waits_low : (w : Option Part) (landing : Option ℕ) (at n : ℕ) → WaitsBefore w landing at → 4294967295 + at ≤ n → LandsBelow landing n
waits_low None landing at n h k = low_more (4294967295 + at) n landing k h
waits_low (Some part) landing at n h k =
    let a : part.from ≤ part.to = h.0 in
    let b : part.to ≤ at = h.1 in
    low_more (4294967295 + part.from) n landing (omega arith) h.2

-- the part that waits
pub waited : {n : ℕ} {head : Head} {request : Part} → HeadIn n head → head.waiting ≡ Some request → WaitsBefore (Some request) head.landing head.at
waited {n} {head} h e = subst (λ (w : Option Part). WaitsBefore w head.landing head.at) e h.waits

part_length : (part : Part) (s : List ℕ) → length (bytes_in part s) ≤ part.to - part.from
part_length part s = rw length-take (omega arith)

-- a landing place of at most n can be moved by k where both are small enough
pub can_move : (landing : Option ℕ) (n k : ℕ) → LandsBelow landing n → n + k ≤ 18446744073709551615 → CanMove landing k
can_move None n k h b = tt
can_move (Some x) n k h b = omega arith

-- the head behind a record
abbrev behind : Part → Option ℕ → Option Part → Head
behind part landing waiting = record { at = part.to; landing = landing; waiting = waiting }

module _ (p : Profile) (s im : List ℕ) (head : Head) (stands : HeadIn (length s) head) (part : Part) where
  module _ (direction : Direction) (e : found_at s head.at ≡ Is direction part) where
    -- one record further
    advanced : (after : List ℕ) (landing : Option ℕ) (waiting : Option Part)
        → played_from p s after (behind part landing waiting) ≡ played_from p s im head → WaitsBefore waiting landing part.to
        → Advanced p s im after head (behind part landing waiting)
    advanced after landing waiting plays waits =
        let l = found_lies s head.at direction part e in
        record {
          plays = plays;
          stops = sym (stop_next s head.at direction part e);
          stands = record { inside = l.fits; waits = waits };
          further = omega arith;
        }

    -- where nothing waits behind it, and the landing place stays
    passed : played_from p s im (behind part head.landing None) ≡ played_from p s im head → Advanced p s im im head (behind part head.landing None)
    passed plays =
        let l = found_lies s head.at direction part e in
        advanced im head.landing None plays
        (waits_low head.waiting head.landing head.at (4294967295 + part.to) stands.waits (omega arith))

  -- what the host sent waits
  pub host_next : found_at s head.at ≡ Is Host part → Advanced p s im im head (behind part head.landing (Some part))
  unfolding exchanges_from
  host_next e =
      let l = found_lies s head.at Host part e in
      advanced Host e im head.landing (Some part) (rw (records_next s head.at Host part e))
      (l.order, omega arith, waits_low head.waiting head.landing head.at (4294967295 + part.from) stands.waits (omega arith))

  pub reset_next : found_at s head.at ≡ Is Reset part → Advanced p s im im head (behind part head.landing None)
  unfolding exchanges_from replay_from entry_replay
  reset_next e = passed Reset e (rw (records_next s head.at Reset part e))

  -- what the device sent unasked
  pub device_alone : found_at s head.at ≡ Is Device part → head.waiting ≡ None → Advanced p s im im head (behind part head.landing None)
  unfolding exchanges_from
  device_alone e w = passed Device e (rw (records_next s head.at Device part e, w))

  -- what the device answered
  pub device_answers : (request : Part) (next : Option ℕ) (after : List ℕ) → found_at s head.at ≡ Is Device part → head.waiting ≡ Some request
      → ((i : ℕ) → get_or s i 0 < 256)
      → record { image = after; landing = next }
      ≡ entry_replay (areas_of p) (exchange (bytes_in request s) (bytes_in part s)) (record { image = im; landing = head.landing })
      → Advanced p s im after head (behind part next None)
  unfolding exchanges_from replay_from entry_replay
  device_answers request next after e w bytes t =
      let l = found_lies s head.at Device part e in
      let q = bytes_in request s in
      let h : WaitsBefore (Some request) head.landing head.at = waited stands w in
      let o : request.from ≤ request.to = h.0 in
      let b : request.to ≤ head.at = h.1 in
      let n : length q ≤ request.to - request.from = part_length request s in
      let all : AllBytes q = all_take (request.to - request.from) (drop request.from s) (all_drop request.from s (are_bytes s bytes)) in
      let low = exchange_low q (bytes_in part s) (4294967295 + request.from) (4294967295 + part.to) head.landing all (omega arith) (omega arith) h.2 in
      advanced Device e after next None (rw (records_next s head.at Device part e, w, t)) (rw (ap (λ (u : Tape). u.landing) t) low)

-- what playing promises of a line's own record and of strays follows from the image
pub played : (p : Profile) (s im₀ im : List ℕ) (r : Extent) → im ≡ replay (areas_of p) im₀ (exchanges_of (records_of s)) → r ≡ extent_of s → Played p s im₀ im r
played p s im₀ im r e n =
    let gives : List Entry → List ℕ = λ es. replay (areas_of p) im₀ es in
    record {
      image = e;
      read = n;
      own = λ es f i. e ∙ ap (λ (l : List ℕ). gives (exchanges_of (records_of l))) i ∙ ap gives (tape_back es f);
      strays = λ a b stray h i. e ∙ ap (λ (l : List Record). gives (exchanges_of l)) i ∙ ap gives (stray_unseen a b stray h);
    }

-- a recording that was played from the start up to a head
pub record Plays (p : Profile) (s im₀ im : List ℕ) (head : Head) : Type 0 where
  pub same : played_from p s im head ≡ played_from p s im₀ (record { at = 0; landing = None; waiting = None })
  pub stops : stop_from s head.at ≡ readable s
  pub stands : HeadIn (length s) head
  pub kept : length im ≡ length im₀

pub plays_start : (p : Profile) (s im : List ℕ) → Plays p s im im (record { at = 0; landing = None; waiting = None })
plays_start p s im = record { same = refl; stops = refl; stands = record { inside = omega arith; waits = tt }; kept = refl }

pub plays_next : {p : Profile} {s im₀ im after : List ℕ} {head next : Head} → Plays p s im₀ im head → Advanced p s im after head next → length after ≡ length im
    → Plays p s im₀ after next
plays_next h a k = record { same = a.plays ∙ h.same; stops = a.stops ∙ h.stops; stands = a.stands; kept = k ∙ h.kept }

-- where no record stands nothing is left to play
pub plays_over : {p : Profile} {s im₀ im : List ℕ} {head : Head} {found : Found} {ended : Ended} → Plays p s im₀ im head → found ≡ found_at s head.at
    → Over found → ended ≡ ended_by found → Played p s im₀ im (record { count = head.at; ended = ended })
unfolding replay replay_from exchanges_from
plays_over {p} {s} {im₀} {im} {head} h e n i =
    let over : Over (found_at s head.at) = rw e at n in
    played p s im₀ im _ (ap (λ (t : Tape). t.image) (rw (records_over s head.at over) at h.same))
    (rw (i, e) (sym (extent_is s head.at (sym h.stops ∙ stop_over s head.at over))))
