-- The demands for callers in C, proved. Assumes nothing.
use mathlib.Core.List.{List, ◌++◌}
use Rattle.std.specs.Prelude.{Option, Some, Ok, Err}
use mathlib.Core.Logic.{◌↔◌}
use mathlib.Core.Path.{◌≡◌, refl, sym, ap, subst, ◌∙◌}
use Prim.Native.Nat.{ℕ}
use lib.ListN.{length}
use Rattle.verdict.specs.Check.{Check, first_fault}
use Rattle.profile.specs.Areas.{areas_of}
use Rattle.profile_bytes.specs.Profile.{profile_in}
use Rattle.state.specs.declared.State.{State}
use Rattle.state.specs.State.{fresh_state, zero_state}
use Rattle.state_bytes.specs.State.{state_in, state_bytes, state_over}
use Rattle.recording.specs.declared.Ended.TheVariants.{Not}
use Rattle.recording.specs.Recording.{records_of, extent_of, ended_number}
use Rattle.recording.proofs.Reading.{stops_over}
use Rattle.recording.proofs.Numbers.{ended_once}
use Rattle.record_exchange.specs.Line.{exchanges_of}
use Rattle.record_replay.specs.Replay.{replay}
use Rattle.device_calls.specs.declared.Row.{Row}
use Rattle.device_calls.specs.Calls.{buffers, row_number, number_of, start_rows, feed_rows, refusal_of, start_refusal, started_at, Refusal}
use Rattle.device_steps.specs.Feed.{Delivery}
use Rattle.interface.specs.Calls.{LentBytes, state_rows, feeding_rows, starting_refusal, feeding_refusal}
use Rattle.interface.specs.Post.{Numbers, StartedBytes, ResetBytes, reset_over, delivery_of, RanBytes, UnfedBytes, FedBytes, FeedsBytes}
use Rattle.interface_replay.specs.Post.{image_by, extent_by, Replayed}
use Rattle.interface_record.proofs.Tells.{record_told, end_told, fault_told, place_stays, reading_answered, written_told, unwritten_told, written_place, writing_answered}
use Rattle.demands.specs.Outside.{NumberedBy, Outside}
use Rattle.demands.proofs.Rows.{by_rows, refusal_once}

-- a number tells its refusal
pub zero_accepts : (refusal : Refusal) → number_of refusal ≡ 0 → refusal ≡ Ok tt
zero_accepts refusal e = refusal_once refusal (Ok tt) e

numbered_by : (rows : List (Check Row)) {n : ℕ} → n ≡ number_of (refusal_of (first_fault rows)) → NumberedBy rows n
numbered_by rows e =
    let x : Refusal = refusal_of (first_fault rows) in
    let b = by_rows rows {refusal = refusal_of (first_fault rows)} refl in
    record {
      accepted = (λ h. b.accepted.0 (zero_accepts x (sym e ∙ h)), λ n. e ∙ ap number_of (b.accepted.1 n));
      refused = λ row. (λ h. (b.refused row).0 (refusal_once x (Err row) (sym e ∙ h)), λ f. e ∙ ap number_of ((b.refused row).1 f));
    }

-- what goes by a refusal, where it is accepted and where it is not
module _ {A : Type 0} (at : Refusal → A) (refusal : Refusal) {n : ℕ} (e : n ≡ number_of refusal) where
  where_accepted : n ≡ 0 → at refusal ≡ at (Ok tt)
  where_accepted z = ap at (zero_accepts refusal (sym e ∙ z))

  where_refused : (a : A) → ((row : Row) → at (Err row) ≡ a) → (n ≡ 0 → ⊥) → at refusal ≡ a
  where_refused a same z = by refusal e
    where
      by : (x : Refusal) → n ≡ number_of x → at x ≡ a
      by (Ok tt) k = absurd (z k)
      by (Err row) k = same row

-- feeding
module _ (profile input : List ℕ) (before after : LentBytes) (r : Numbers) (f : FeedsBytes profile input before after r) where
  abbrev d : Delivery
  d = delivery_of profile before input

  fed_number : (x : Refusal) → FedBytes x d input before after r → r.number ≡ number_of x
  fed_number (Ok tt) g = ap (λ (k : Numbers). k.number) g.is
  fed_number (Err row) g = ap (λ (k : Numbers). k.number) g.is

  number_is : r.number ≡ number_of (feeding_refusal profile before)
  number_is = fed_number (feeding_refusal profile before) f

  fed_accepted : r.number ≡ 0 → RanBytes d input before after r
  fed_accepted z = subst (λ (x : Refusal). FedBytes x d input before after r) (zero_accepts (feeding_refusal profile before) (sym number_is ∙ z)) f

  fed_refused : (row : Row) → r.number ≡ row_number row → UnfedBytes row before after r
  fed_refused row z = subst (λ (x : Refusal). FedBytes x d input before after r) (refusal_once (feeding_refusal profile before) (Err row) (sym number_is ∙ z)) f

pub same_rows : (profile : List ℕ) (l : LentBytes) (st : State) → state_in l.state ≡ Some st
    → feeding_rows profile l ≡ feed_rows (profile_in profile) st (buffers l.image l.receive l.reply)
unfolding feeding_rows feed_rows
same_rows profile l st e =
    ap (λ (x : Option State). start_rows (profile_in profile) (length l.image) ++ state_rows (profile_in profile) x l.receive (length l.reply)) e

-- starting and resetting
module _ (profile image before after : List ℕ) (r : ℕ) where
  abbrev begins : Refusal
  begins = starting_refusal profile (length image) (length before)

  abbrev started : Refusal → List ℕ
  started x = state_over (started_at x (profile_in profile) zero_state) before

  start_accepted : StartedBytes profile (length image) before after r → r ≡ 0 → after ≡ state_over (fresh_state (profile_in profile)) before
  start_accepted s z = s.state ∙ where_accepted started begins s.number z

  start_refused : StartedBytes profile (length image) before after r → (r ≡ 0 → ⊥) → after ≡ state_over zero_state before
  start_refused s z = s.state ∙ where_refused started begins s.number (state_over zero_state before) (λ row. refl) z

  abbrev over : Refusal → List ℕ
  over x = reset_over x (profile_in profile) before

  reset_accepted : ResetBytes profile (length image) before after r → r ≡ 0 → after ≡ state_bytes (fresh_state (profile_in profile))
  reset_accepted s z = s.state ∙ where_accepted over begins s.number z

  reset_refused : ResetBytes profile (length image) before after r → (r ≡ 0 → ⊥) → after ≡ before
  reset_refused s z = s.state ∙ where_refused over begins s.number before (λ row. refl) z

-- replaying
module _ (profile recording before after : List ℕ) (r read ended : ℕ) (s : Replayed profile recording before after r read ended) where
  abbrev begun : Refusal
  begun = start_refusal (profile_in profile) (length before)

  abbrev image : Refusal → List ℕ
  image x = image_by x profile recording before

  abbrev count : Refusal → ℕ
  count x = (extent_by x recording).count

  abbrev why : Refusal → ℕ
  why x = ended_number (extent_by x recording).ended

  replay_accepted : r ≡ 0 → (after ≡ replay (areas_of (profile_in profile)) before (exchanges_of (records_of recording)))
      × (read ≡ (extent_of recording).count) × (ended ≡ ended_number (extent_of recording).ended)
  replay_accepted z = (
    s.image ∙ where_accepted image begun s.number z,
    s.count ∙ where_accepted count begun s.number z,
    s.why ∙ where_accepted why begun s.number z,
  )

  replay_refused : (r ≡ 0 → ⊥) → (after ≡ before) × (read ≡ 0) × (ended ≡ 0)
  replay_refused z = (
    s.image ∙ where_refused image begun s.number before (λ row. refl) z,
    s.count ∙ where_refused count begun s.number 0 (λ row. refl) z,
    s.why ∙ where_refused why begun s.number 0 (λ row. refl) z,
  )

  -- reading never ends with nothing told
  replay_ended : (ended ≡ 0) ↔ (r ≡ 0 → ⊥)
  replay_ended = (λ e z. stops_over recording 0 (ended_once _ Not (sym (replay_accepted z).2 ∙ e)), λ z. (replay_refused z).2)

pub outside : Outside
outside =
    record {
      start = λ profile image before after r s. numbered_by _ s.number;
      start_accepted = start_accepted;
      start_refused = start_refused;
      reset = λ profile image before after r s. numbered_by _ s.number;
      reset_accepted = reset_accepted;
      reset_refused = reset_refused;
      feed = λ profile input before after r f. numbered_by _ (number_is profile input before after r f);
      feed_accepted = fed_accepted;
      feed_refused = fed_refused;
      same_rows = same_rows;
      replays = λ profile recording before after r read ended s. numbered_by _ s.number;
      replay_accepted = replay_accepted;
      replay_refused = replay_refused;
      replay_ended = replay_ended;
      read_record = record_told;
      read_end = end_told;
      read_fault = fault_told;
      read_stays = place_stays;
      write_record = written_told;
      write_fault = unwritten_told;
      write_stays = written_place;
      read_answers = reading_answered;
      write_answers = writing_answered;
    }
