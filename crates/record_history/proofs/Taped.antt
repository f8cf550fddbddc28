-- The recording that the line's own record makes: each request and reply in it has as many bytes as a record may, and playing it gives the
-- flash. Assumes nothing.
use mathlib.Core.Bool.{true, ◌&&◌}
use mathlib.Core.List.{List, [], ◌∷◌, ◌++◌}
use mathlib.Core.Logic.{⊎_elim}
use mathlib.Core.Path.{◌≡◌, refl, sym, ◌∙◌}
use Prim.Native.Nat.{ℕ, ◌+◌, ◌≤◌, ◌<◌}
use native.Mathlib.Omega.{arith}
use lib.ListN.{length, length-append}
use lib.Dec.{leb}
use borrow.Author.Tests.{le-leb}
use Rattle.profile.specs.declared.Profile.{Profile}
use Rattle.profile_rules.specs.Rules.{Accepted}
use Rattle.packet.specs.Frame.{longest_packet}
use Rattle.recording.specs.declared.Ended.TheVariants.{Whole}
use Rattle.recording.specs.declared.Extent.{Extent}
use Rattle.recording.specs.Format.{host, device, length_allowed, written, Formed, AllFormed}
use Rattle.record_exchange.specs.Line.{Entry, exchange, restart, taped}
use Rattle.record_exchange.proofs.Tapes.{tape_whole}
use Rattle.record_replay.specs.Post.{Played}
use Rattle.device_steps.specs.Step.{Machine, step_of}
use Rattle.device_steps.specs.Fits.{FitMachine}
use Rattle.device_steps.specs.Records.{heard_with, Brings}
use Rattle.device_steps.proofs.Kept.{fresh_fits, still_fits, held_short}
use Rattle.device_steps.proofs.Replies.{IsPacket, packet_least, packet_most, brings_or, packet_step}
use Rattle.record_history.specs.History.{Call, deliver, again, fresh_of, hearing, machine_after, entries_at, heard_record, record_of}
use Rattle.record_history.proofs.Lasting.{hearing_fits}
use Rattle.record_history.proofs.Recorded.{entry_asked, entry_unasked}
use Rattle.record_history.proofs.Replayed.{replayed}

-- bytes that are some, and no more than a longest packet has, may stand in a record of either side
brief_formed : (bytes : List ℕ) → 1 ≤ length bytes → length bytes ≤ longest_packet → Formed (host bytes) × Formed (device bytes)
unfolding length_allowed
brief_formed bytes some few =
    let e : leb 1 (length bytes) && leb (length bytes) longest_packet ≡ true = rw (le-leb 1 (length bytes) some, le-leb (length bytes) longest_packet few) refl in
    (e, e)

formed_append : (es fs : List Entry) → AllFormed (taped es) → AllFormed (taped fs) → AllFormed (taped (es ++ fs))
unfolding AllFormed taped
formed_append [] fs a b = b
formed_append (exchange q reply ∷ es) fs a b = (a.0, (a.1.0, formed_append es fs a.1.1 b))
formed_append (restart ∷ es) fs a b = (a.0, formed_append es fs a.1 b)

-- one byte: a request is what is held and the byte, its reply is a packet
entries_formed : (p : Profile) (m : Machine) (b : ℕ) → FitMachine p m → AllFormed (taped (entries_at p m b))
unfolding AllFormed taped
entries_formed p m b f = ⊎_elim asked (λ n. rw (entry_unasked p m b n) tt) (brings_or m b)
  where
    asked : Brings m b → AllFormed (taped (entries_at p m b))
    asked h =
        let held : length m.held < longest_packet = held_short p m f in
        let request : length (heard_with m b) ≡ length m.held + 1 = simp length-append (omega arith) in
        let packet : IsPacket (step_of p m b).reply = packet_step p m b h in
        rw (entry_asked p m b h) (
          (brief_formed (heard_with m b) (omega arith) (omega arith)).0,
          ((brief_formed (step_of p m b).reply (omega (arith, packet_least packet)) (packet_most packet)).1, tt),
        )

heard_formed : (p : Profile) → Accepted p → (m : Machine) (bs : List ℕ) → FitMachine p m → AllFormed (taped (heard_record p m bs))
unfolding AllFormed taped heard_record
heard_formed p accepted m [] f = tt
heard_formed p accepted m (b ∷ bs) f =
    formed_append (entries_at p m b) (heard_record p (step_of p m b).machine bs) (entries_formed p m b f)
    (heard_formed p accepted (step_of p m b).machine bs (still_fits p accepted m b f))

-- a history
pub record_formed : (p : Profile) → Accepted p → (m : Machine) (calls : List Call) → FitMachine p m → AllFormed (taped (record_of p m calls))
unfolding AllFormed length_allowed taped record_of
record_formed p accepted m [] f = tt
record_formed p accepted m (deliver bs ∷ more) f =
    formed_append (heard_record p m bs) (record_of p (hearing p m bs) more) (heard_formed p accepted m bs f)
    (record_formed p accepted (hearing p m bs) more (hearing_fits p accepted m bs f))
record_formed p accepted m (again ∷ more) f = (refl, record_formed p accepted (fresh_of p m.image) more (fresh_fits p m.image))

module _ (p : Profile) (accepted : Accepted p) (image : List ℕ) (calls : List Call) where
  pub own_formed : AllFormed (taped (record_of p (fresh_of p image) calls))
  own_formed = record_formed p accepted (fresh_of p image) calls (fresh_fits p image)

  -- whoever plays it on the starting image gets the flash, and has read it to the end
  pub own_recording : (after : List ℕ) (r : Extent) → Played p (written (taped (record_of p (fresh_of p image) calls))) image after r
      → (after ≡ (machine_after p (fresh_of p image) calls).image)
      × (r ≡ record { count = length (written (taped (record_of p (fresh_of p image) calls))); ended = Whole })
  own_recording after r played =
      let es : List Entry = record_of p (fresh_of p image) calls in
      (played.own es own_formed refl ∙ sym (replayed p image calls), played.read ∙ tape_whole es own_formed)
