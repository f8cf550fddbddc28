-- A script record by record: what the records so far have done, and what all of them leave. Assumes nothing.
use mathlib.Core.List.{List, [], ◌∷◌}
use mathlib.Core.Path.{◌≡◌, refl, sym, ap, ◌∙◌}
use Prim.Native.Nat.{ℕ}
use lib.ListN.{length}
use Rattle.profile.specs.declared.Profile.{Profile}
use Rattle.state.specs.declared.State.{State}
use Rattle.device_calls.specs.Calls.{Lent}
use Rattle.device_calls.specs.Ready.{Ready}
use Rattle.device_steps.specs.Step.{Machine, machine_of}
use Rattle.device.proofs.Turns.{machine_eq}
use Rattle.recording.specs.declared.Direction.{Direction}
use Rattle.recording.specs.declared.Part.{Part}
use Rattle.recording.specs.declared.Found.{Found}
use Rattle.recording.specs.declared.Found.TheVariants.{Is}
use Rattle.recording.specs.declared.Ended.{Ended}
use Rattle.recording.specs.Format.{Record, host, device, reset}
use Rattle.recording.specs.Recording.{found_at, bytes_in, record_by, records_from, records_of, stop_from, readable, ended_by}
use Rattle.recording.proofs.Reading.{Over, records_next, records_over, stop_next, stop_over, extent_is}
use Rattle.record_history.specs.History.{machine_after, buffer_after, calls_of}
use Rattle.record_driver.specs.Stands.{Stands, calls_at}
use Rattle.record_driver.specs.Post.{DroveOn}
use Rattle.std.specs.Prelude.{Ok}
use Rattle.record_driver.proofs.Called.{stands_at}

-- a record, and those behind it
module _ (p : Profile) (m : Machine) where
  machine_first : (r : Record) (more : List Record) → machine_after p m (calls_of (r ∷ more)) ≡ machine_after p (machine_after p m (calls_of (r ∷ []))) (calls_of more)
  unfolding machine_after calls_of
  machine_first (host bytes) more = refl
  machine_first (device bytes) more = refl
  machine_first reset more = refl

  buffer_first : (buffer : List ℕ) (r : Record) (more : List Record)
      → buffer_after p m (calls_of (r ∷ more)) buffer ≡ buffer_after p (machine_after p m (calls_of (r ∷ []))) (calls_of more) (buffer_after p m (calls_of (r ∷ [])) buffer)
  unfolding machine_after buffer_after calls_of
  buffer_first buffer (host bytes) more = refl
  buffer_first buffer (device bytes) more = refl
  buffer_first buffer reset more = refl

-- what the records before a place have done: the rest goes on from there
pub record Playing (p : Profile) (l₀ : Lent) (s : List ℕ) (st₀ : State) (l : Lent) (st : State) (at : ℕ) : Type 0 where
  pub ready : Ready p st l
  pub image : length l.image ≡ length l₀.image
  pub receive : length l.receive ≡ length l₀.receive
  pub reply : length l.reply ≡ length l₀.reply
  pub machine : machine_after p (machine_of st₀ l₀) (calls_of (records_of s)) ≡ machine_after p (machine_of st l) (calls_of (records_from s at))
  pub replies : buffer_after p (machine_of st₀ l₀) (calls_of (records_of s)) l₀.reply ≡ buffer_after p (machine_of st l) (calls_of (records_from s at)) l.reply
  pub read : readable s ≡ stop_from s at

-- before the first record
pub playing_none : {p : Profile} {l : Lent} {s : List ℕ} {st : State} → Ready p st l → Playing p l s st l st 0
playing_none r =
    record { ready = r; image = refl; receive = refl; reply = refl; machine = refl; replies = refl; read = refl }

module _ {p : Profile} {l₀ : Lent} {s : List ℕ} {st₀ : State} {l : Lent} {st : State} {at : ℕ} (t : Playing p l₀ s st₀ l st at) where
  abbrev m : Machine
  m = machine_of st l

  -- no record stands here
  pub played_all : {found : Found} {ended : Ended} → found ≡ found_at s at → Over found → ended ≡ ended_by found
      → DroveOn p (machine_of st₀ l₀) s l₀ l (record { refusal = Ok tt; state = st; read = record { count = at; ended = ended } })
  unfolding machine_after buffer_after calls_of
  played_all e n i =
      let over : Over (found_at s at) = rw e at n in
      let none : records_from s at ≡ [] = records_over s at over in
      record {
        refusal = refl;
        stands =
            stands_at t.ready
            (t.machine ∙ ap (λ (rs : List Record). machine_after p m (calls_of rs)) none)
            (t.replies ∙ ap (λ (rs : List Record). buffer_after p m (calls_of rs) l.reply) none);
        read = rw (i, e) (sym (extent_is s at (t.read ∙ stop_over s at over)));
      }

  -- a record, and what follows it
  pub playing_on : {direction : Direction} {part : Part} {st' : State} {after : Lent} → found_at s at ≡ Is direction part
      → Stands p (machine_after p m (calls_at s direction part)) (buffer_after p m (calls_at s direction part) l.reply) st' after
      → length after.image ≡ length l.image → length after.receive ≡ length l.receive → length after.reply ≡ length l.reply
      → Playing p l₀ s st₀ after st' part.to
  playing_on {direction} {part} {st'} {after} e left a b c =
      let r : Record = record_by direction (bytes_in part s) in
      let next : records_from s at ≡ r ∷ records_from s part.to = records_next s at direction part e in
      let now : machine_after p m (calls_of (r ∷ [])) ≡ machine_of st' after =
      sym (machine_eq (machine_of st' after) (machine_after p m (calls_of (r ∷ []))) left.image left.held left.state) in
      record {
        ready = left.ready;
        image = a ∙ t.image;
        receive = b ∙ t.receive;
        reply = c ∙ t.reply;
        machine =
            t.machine
            ∙ ap (λ (rs : List Record). machine_after p m (calls_of rs)) next
            ∙ machine_first p m r (records_from s part.to)
            ∙ rw now refl;
        replies =
            t.replies
            ∙ ap (λ (rs : List Record). buffer_after p m (calls_of rs) l.reply) next
            ∙ buffer_first p m l.reply r (records_from s part.to)
            ∙ rw (now, left.reply) refl;
        read = t.read ∙ stop_next s at direction part e;
      }
