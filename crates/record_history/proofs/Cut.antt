-- A delivery may be cut anywhere: the machine, the replies and the record stay the same; and a feed hears the bytes that it consumes. Assumes nothing.
use mathlib.Core.List.{List, [], ◌∷◌, ◌++◌, append_assoc}
use mathlib.Core.Path.{◌≡◌, refl, sym, ap, ◌∙◌}
use Prim.Native.Nat.{ℕ, suc, ◌+◌}
use native.Mathlib.Numerals.{add-one}
use lib.ListN.{length, take, drop, take-append-drop}
use Rattle.profile.specs.declared.Profile.{Profile}
use Rattle.packet.specs.Frame.{front}
use Rattle.record_exchange.specs.Line.{Entry}
use Rattle.device_steps.specs.Step.{Machine, step_of}
use Rattle.device_steps.specs.Feed.{Delivery, feed_of}
use Rattle.device_steps.proofs.Delivered.{later, at_once, nothing, by_reply}
use Rattle.record_history.specs.History.{Call, deliver, hearing, machine_after, entries_at, heard_record, record_of, replies_over, buffer_after}

-- bytes in two parts
pub hearing_append : (p : Profile) (m : Machine) (a b : List ℕ) → hearing p m (a ++ b) ≡ hearing p (hearing p m a) b
unfolding hearing
hearing_append p m [] b = refl
hearing_append p m (x ∷ a) b = hearing_append p (step_of p m x).machine a b

pub record_append : (p : Profile) (m : Machine) (a b : List ℕ) → heard_record p m (a ++ b) ≡ heard_record p m a ++ heard_record p (hearing p m a) b
unfolding hearing heard_record
record_append p m [] b = refl
record_append p m (x ∷ a) b =
    let s : Machine = (step_of p m x).machine in
    ap (λ (es : List Entry). entries_at p m x ++ es) (record_append p s a b)
    ∙ sym (append_assoc (entries_at p m x) (heard_record p s a) (heard_record p (hearing p s a) b))

pub replies_append : (p : Profile) (m : Machine) (a b buffer : List ℕ)
    → replies_over p m (a ++ b) buffer ≡ replies_over p (hearing p m a) b (replies_over p m a buffer)
unfolding hearing replies_over
replies_append p m [] b buffer = refl
replies_append p m (x ∷ a) b buffer = replies_append p (step_of p m x).machine a b (front (step_of p m x).reply buffer)

-- a history with a delivery in two parts
module _ (p : Profile) (m : Machine) (a b : List ℕ) (more : List Call) where
  pub cut_anywhere : machine_after p m (deliver (a ++ b) ∷ more) ≡ machine_after p m (deliver a ∷ deliver b ∷ more)
  unfolding machine_after
  cut_anywhere = ap (λ (k : Machine). machine_after p k more) (hearing_append p m a b)

  pub cut_record : record_of p m (deliver (a ++ b) ∷ more) ≡ record_of p m (deliver a ∷ deliver b ∷ more)
  unfolding record_of
  cut_record =
      let there : Machine = hearing p (hearing p m a) b in
      ap (λ (k : Machine). heard_record p m (a ++ b) ++ record_of p k more) (hearing_append p m a b)
      ∙ ap (λ (es : List Entry). es ++ record_of p there more) (record_append p m a b)
      ∙ append_assoc (heard_record p m a) (heard_record p (hearing p m a) b) (record_of p there more)

  pub cut_buffer : (buffer : List ℕ) → buffer_after p m (deliver (a ++ b) ∷ more) buffer ≡ buffer_after p m (deliver a ∷ deliver b ∷ more) buffer
  unfolding buffer_after
  cut_buffer buffer =
      ap (λ (k : Machine). buffer_after p k more (replies_over p m (a ++ b) buffer)) (hearing_append p m a b)
      ∙ ap (λ (l : List ℕ). buffer_after p (hearing p (hearing p m a) b) more l) (replies_append p m a b buffer)

-- what a delivery leaves is what the bytes that it consumed leave
pub record Hears (p : Profile) (m : Machine) (bs : List ℕ) (d : Delivery) : Type 0 where
  pub machine : d.machine ≡ hearing p m (take d.consumed bs)
  pub replies : (buffer : List ℕ) → front d.reply buffer ≡ replies_over p m (take d.consumed bs) buffer

front_empty : (reply buffer : List ℕ) → length reply ≡ 0 → front reply buffer ≡ buffer
unfolding front
front_empty reply buffer e = ap (λ (l : List ℕ). front l buffer) (nothing reply e)

-- one byte more
module _ (p : Profile) (m : Machine) (b : ℕ) (bs : List ℕ) where
  hears_later : length (step_of p m b).reply ≡ 0 → Hears p (step_of p m b).machine bs (feed_of p (step_of p m b).machine bs)
      → Hears p m (b ∷ bs) (later 1 (feed_of p (step_of p m b).machine bs))
  unfolding hearing replies_over
  hears_later e h =
      let n : ℕ = (feed_of p (step_of p m b).machine bs).consumed in
      let k : n + 1 ≡ suc n = add-one n in
      record {
        machine = h.machine ∙ sym (ap (λ (i : ℕ). hearing p m (take i (b ∷ bs))) k);
        replies = λ buffer.
            h.replies buffer
            ∙ sym
            (ap (λ (i : ℕ). replies_over p m (take i (b ∷ bs)) buffer) k
            ∙ ap (λ (l : List ℕ). replies_over p (step_of p m b).machine (take n bs) l) (front_empty (step_of p m b).reply buffer e));
      }

  hears_once : Hears p m (b ∷ bs) (at_once (step_of p m b))
  unfolding hearing replies_over
  hears_once = record { machine = refl; replies = λ buffer. refl }

pub feed_heard : (p : Profile) (m : Machine) (bs : List ℕ) → Hears p m bs (feed_of p m bs)
unfolding feed_of hearing replies_over front
feed_heard p m [] = record { machine = refl; replies = λ buffer. refl }
feed_heard p m (b ∷ bs) =
    by_reply p m b bs (Hears p m (b ∷ bs)) (λ e. hears_later p m b bs e (feed_heard p (step_of p m b).machine bs)) (λ h. hears_once p m b bs)

module _ (p : Profile) (m : Machine) (bs : List ℕ) where
  pub feed_hears : (feed_of p m bs).machine ≡ hearing p m (take (feed_of p m bs).consumed bs)
  feed_hears = (feed_heard p m bs).machine

  pub feed_replies : (buffer : List ℕ) → front (feed_of p m bs).reply buffer ≡ replies_over p m (take (feed_of p m bs).consumed bs) buffer
  feed_replies buffer = (feed_heard p m bs).replies buffer

  -- and the bytes that it left unread go on from there
  pub hears_on : hearing p m bs ≡ hearing p (feed_of p m bs).machine (drop (feed_of p m bs).consumed bs)
  hears_on =
      let n : ℕ = (feed_of p m bs).consumed in
      sym (ap (λ (l : List ℕ). hearing p m l) (take-append-drop n bs))
      ∙ hearing_append p m (take n bs) (drop n bs)
      ∙ sym (ap (λ (k : Machine). hearing p k (drop n bs)) feed_hears)

  pub replies_on : (buffer : List ℕ)
      → replies_over p m bs buffer ≡ replies_over p (feed_of p m bs).machine (drop (feed_of p m bs).consumed bs) (front (feed_of p m bs).reply buffer)
  replies_on buffer =
      let n : ℕ = (feed_of p m bs).consumed in
      sym (ap (λ (l : List ℕ). replies_over p m l buffer) (take-append-drop n bs))
      ∙ replies_append p m (take n bs) (drop n bs) buffer
      ∙ sym (ap (λ (k : Machine). replies_over p k (drop n bs) (replies_over p m (take n bs) buffer)) feed_hears)
      ∙ sym (ap (λ (l : List ℕ). replies_over p (feed_of p m bs).machine (drop n bs) l) (feed_replies buffer))
