-- What holds of each byte of a line; which replies are packets; the record of a line, and that nothing else is one. Assumes nothing.
use mathlib.Core.List.{List, [], ◌∷◌, ◌++◌}
use mathlib.Core.Logic.{⊎_elim, ◌↔◌}
use mathlib.Core.Path.{◌≡◌, refl, sym, ap, ◌∙◌}
use Prim.Native.Nat.{ℕ, ◌≤◌}
use native.Mathlib.Omega.{arith}
use lib.ListN.{length}
use borrow.Author.Tests.{le-leb}
use Rattle.profile.specs.declared.Profile.{Profile}
use Rattle.packet.specs.declared.Kind.TheVariants.{Data}
use Rattle.packet.specs.Packet.{permitted, good, length_of}
use Rattle.packet.proofs.Laws.{permitted_least}
use Rattle.packet.proofs.Frames.{frame_good}
use Rattle.packet.proofs.Gathering.{good_is}
use Rattle.state.specs.Awaits.{awaits_of}
use Rattle.record_exchange.specs.Line.{Entry, restart}
use Rattle.device_steps.specs.Step.{Machine, step_of}
use Rattle.device_steps.specs.Records.{Brings}
use Rattle.device_steps.proofs.Replies.{IsPacket, unbrought, brings_or, unasked_few, quiet_step, packet_step}
use Rattle.record_history.specs.History.{Call, deliver, again, fresh_of, hearing, machine_after, entries_at, heard_record, record_of}
use Rattle.record_history.proofs.Cut.{record_append}
use Rattle.record_history.proofs.Recorded.{entry_asked, entry_unasked, reset_recorded, record_continued, delivery_record, byte_record}
use Rattle.demands.specs.Line.{IsReply, EachIn, EachByte, IsRecord}

-- a packet that was built is whole and good
pub packet_good : {reply : List ℕ} → IsPacket reply → IsReply reply
unfolding permitted
packet_good r =
    let least : 1 ≤ length r.contents = r.least in
    let most : length r.contents ≤ 1025 = r.most in
    ap good r.is ∙ frame_good Data r.contents (simp (le-leb 1 (length r.contents) least, le-leb (length r.contents) 1025 most))

-- a good packet has six bytes at least
pub good_least : (q : List ℕ) → IsReply q → 6 ≤ length q
good_least q g =
    let k = good_is q g in
    let least : 1 ≤ length_of q = permitted_least k.kind (length_of q) k.is.permits in
    omega (arith, k.is.count)

module _ (p : Profile) (m : Machine) (b : ℕ) where
  pub answered_exactly : Brings m b ↔ IsReply (step_of p m b).reply
  answered_exactly =
      (λ h. packet_good (packet_step p m b h), λ g. ⊎_elim (λ h. h) (λ n. absurd (none n g)) (brings_or m b))
    where
      none : (Brings m b → ⊥) → IsReply (step_of p m b).reply → ⊥
      none n g =
          let u = unbrought m b n in
          let least : 6 ≤ length (step_of p m b).reply = good_least (step_of p m b).reply g in
          let most : length (step_of p m b).reply ≤ 1 = unasked_few (awaits_of m.state.stage) (step_of p m b).reply (quiet_step p m b u.0 u.1) in
          omega arith

-- what holds of each byte
module _ {P Q : Machine → ℕ → Type 0} (h : (m : Machine) (b : ℕ) → P m b → Q m b) (p : Profile) where
  each_in : (m : Machine) (bs : List ℕ) → EachIn P p m bs → EachIn Q p m bs
  unfolding EachIn
  each_in m [] k = tt
  each_in m (b ∷ bs) k = (h m b k.0, each_in (step_of p m b).machine bs k.1)

  pub each_byte : (m : Machine) (calls : List Call) → EachByte P p m calls → EachByte Q p m calls
  unfolding EachByte
  each_byte m [] k = tt
  each_byte m (deliver bs ∷ more) k = (each_in m bs k.0, each_byte (hearing p m bs) more k.1)
  each_byte m (again ∷ more) k = each_byte (fresh_of p m.image) more k

pub silent_exactly : (p : Profile) (m : Machine) (calls : List Call)
    → EachByte (λ k b. Brings k b → ⊥) p m calls ↔ EachByte (λ k b. IsReply (step_of p k b).reply → ⊥) p m calls
silent_exactly p m calls =
    (each_byte (λ k b n g. n ((answered_exactly p k b).1 g)) p m calls, each_byte (λ k b n h. n ((answered_exactly p k b).0 h)) p m calls)

-- the line's record has these properties
pub record_is : (p : Profile) → IsRecord p (record_of p)
unfolding record_of heard_record
record_is p =
    record {
      asked = λ m b h. byte_record p m b ∙ entry_asked p m b h;
      unasked = λ m b n. byte_record p m b ∙ entry_unasked p m b n;
      resets = reset_recorded p;
      none = λ m. refl;
      empty = λ m. refl;
      joined = λ m bs cs.
          delivery_record p m (bs ++ cs)
          ∙ record_append p m bs cs
          ∙ ap (λ (es : List Entry). es ++ heard_record p (hearing p m bs) cs) (sym (delivery_record p m bs))
          ∙ ap (λ (es : List Entry). record_of p m (deliver bs ∷ []) ++ es) (sym (delivery_record p (hearing p m bs) cs));
      continued = record_continued p;
    }

-- nothing else is the record
module _ (p : Profile) (f : Machine → List Call → List Entry) (is : IsRecord p f) where
  byte_once : (m : Machine) (b : ℕ) → f m (deliver (b ∷ []) ∷ []) ≡ entries_at p m b
  byte_once m b =
      ⊎_elim (λ h. is.asked m b h ∙ sym (entry_asked p m b h)) (λ n. is.unasked m b n ∙ sym (entry_unasked p m b n)) (brings_or m b)

  delivery_once : (m : Machine) (bs : List ℕ) → f m (deliver bs ∷ []) ≡ heard_record p m bs
  unfolding heard_record hearing
  delivery_once m [] = is.empty m
  delivery_once m (b ∷ bs) =
      let s : Machine = (step_of p m b).machine in
      is.joined m (b ∷ []) bs
      ∙ ap (λ (es : List Entry). es ++ f s (deliver bs ∷ [])) (byte_once m b)
      ∙ ap (λ (es : List Entry). entries_at p m b ++ es) (delivery_once s bs)

  pub record_once : (m : Machine) (calls : List Call) → f m calls ≡ record_of p m calls
  unfolding record_of machine_after
  record_once m [] = is.none m
  record_once m (deliver bs ∷ more) =
      let s : Machine = hearing p m bs in
      is.continued m (deliver bs ∷ []) more
      ∙ ap (λ (es : List Entry). es ++ f s more) (delivery_once m bs)
      ∙ ap (λ (es : List Entry). heard_record p m bs ++ es) (record_once s more)
  record_once m (again ∷ more) =
      let s : Machine = fresh_of p m.image in
      is.continued m (again ∷ []) more
      ∙ ap (λ (es : List Entry). es ++ f s more) (is.resets m)
      ∙ ap (λ (es : List Entry). restart ∷ es) (record_once s more)
