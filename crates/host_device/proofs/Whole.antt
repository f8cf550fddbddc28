-- A packet that is delivered whole, to a device that holds nothing and awaits its kind, is taken whole and answered as its stage says.
-- Assumes nothing.
use mathlib.Core.Bool.{true}
use mathlib.Core.List.{List, [], ◌∷◌, ◌++◌, append_assoc}
use mathlib.Core.Logic.{inl}
use mathlib.Core.Path.{◌≡◌, refl, ap, subst, ◌∙◌}
use Prim.Native.Nat.{ℕ, suc}
use native.Mathlib.Numerals.{add-one}
use native.Mathlib.Omega.{arith}
use lib.ListN.{length}
use Rattle.verdict.specs.Check.{first_fault, verdict_of, Verdict}
use Rattle.profile.specs.declared.Profile.{Profile}
use Rattle.profile.specs.Areas.{areas_of}
use Rattle.packet.specs.declared.Kind.{Kind}
use Rattle.packet.specs.declared.Progress.{Progress}
use Rattle.packet.specs.declared.Progress.TheVariants.{Partial, Complete}
use Rattle.packet.specs.Packet.{progress_of, is_complete}
use Rattle.packet.proofs.There.{complete_least}
use Rattle.packet.proofs.Gathering.{held_until}
use Rattle.packet_fields.specs.declared.Com.{Com}
use Rattle.packet_fields.specs.declared.Com.TheVariants.{Inquiry, Erase, Write, Read, Authenticate, Baud, Signature, Area, Unknown}
use Rattle.packet_fields.specs.Fields.{com_of, code_at, info_of}
use Rattle.state.specs.declared.Awaited.{Awaited}
use Rattle.state.specs.declared.Awaited.TheVariants.{Packet}
use Rattle.state.specs.declared.Range.{Range}
use Rattle.state.specs.declared.Stage.{Stage}
use Rattle.state.specs.declared.Stage.TheVariants.{Setting, Authentication, Command, Writing, Reading}
use Rattle.state.specs.declared.State.{State}
use Rattle.state.specs.Awaits.{awaits_of}
use Rattle.state.specs.State.{with_held}
use Rattle.check_command.specs.Commands.{own_checks, known_checks, command_checks}
use Rattle.check_transfer.specs.Transfer.{write_checks, next_checks}
use Rattle.answer_command.specs.Grants.{entered, grant_of, decided, answer_command}
use Rattle.answer_transfer.specs.Transfers.{read_packet, write_decided, answer_write, next_decided, answer_next}
use Rattle.device_steps.specs.Step.{Machine, Step, settled, holding, answer_of, heard, step_in, step_of}
use Rattle.device_steps.specs.Feed.{Delivery, feed_of}
use Rattle.device_steps.specs.Records.{progress_in, completes}
use Rattle.device_steps.proofs.Delivered.{later, at_once, feed_quiet, feed_reply}
use Rattle.std.specs.Prelude.{Ok, Err}
use Rattle.device_steps.proofs.Replies.{IsPacket, packet_step, packet_least}

-- how many bytes were held plays no part in an answer
module _ (p : Profile) (image : List ℕ) (n : ℕ) (st : State) (q : List ℕ) where
  -- the state with another count
  abbrev counting : State
  counting = with_held n st

  -- a command's own checks
  own_unheld : (cmd : Com) → own_checks p counting cmd q ≡ own_checks p st cmd q
  unfolding own_checks
  own_unheld Inquiry = refl
  own_unheld Erase = refl
  own_unheld Write = refl
  own_unheld Read = refl
  own_unheld Authenticate = refl
  own_unheld Baud = refl
  own_unheld Signature = refl
  own_unheld Area = refl
  own_unheld Unknown = refl

  -- all of its checks
  checks_unheld : command_checks p counting q ≡ command_checks p st q
  unfolding command_checks known_checks
  checks_unheld = rw (own_unheld (com_of (code_at q))) refl

  -- what it does when it is granted
  grant_unheld : (cmd : Com) → grant_of p image counting q cmd ≡ grant_of p image st q cmd
  unfolding grant_of entered read_packet
  grant_unheld Inquiry = refl
  grant_unheld Erase = refl
  grant_unheld Write = refl
  grant_unheld Read = refl
  grant_unheld Authenticate = refl
  grant_unheld Baud = refl
  grant_unheld Signature = refl
  grant_unheld Area = refl
  grant_unheld Unknown = refl

  -- or refused
  decided_unheld : (v : Verdict) → decided p image counting q v ≡ decided p image st q v
  unfolding decided
  decided_unheld (Ok tt) = grant_unheld (com_of (code_at q))
  decided_unheld (Err reason) = refl

  -- a command's answer
  command_unheld : answer_command p image counting q ≡ answer_command p image st q
  unfolding answer_command
  command_unheld = rw checks_unheld (decided_unheld (verdict_of (first_fault (command_checks p st q))))

  -- a data packet's, in a write
  write_unheld : (r : Range) (v : Verdict) → write_decided counting r q v ≡ write_decided st r q v
  unfolding write_decided
  write_unheld r (Ok tt) = refl
  write_unheld r (Err reason) = refl

  -- a request's for the next packet of a read
  next_unheld : (r : Range) (v : Verdict) → next_decided p image counting r v ≡ next_decided p image st r v
  unfolding next_decided read_packet
  next_unheld r (Ok tt) = refl
  next_unheld r (Err reason) = refl

  -- whatever the stage
  pub answer_unheld : (stage : Stage) → answer_of p image counting stage q ≡ answer_of p image st stage q
  unfolding answer_write answer_next
  answer_unheld (Setting u) = command_unheld
  answer_unheld Authentication = command_unheld
  answer_unheld Command = command_unheld
  answer_unheld (Writing r) = write_unheld r (verdict_of (first_fault (write_checks (areas_of p) image r q)))
  answer_unheld (Reading r) = next_unheld r (verdict_of (first_fault (next_checks q)))

-- what a device does with a complete packet
abbrev pub settled_by : Profile → Machine → List ℕ → Step
settled_by p m q = settled p m (info_of q) (answer_of p m.image m.state m.state.stage q)

-- a delivery of n bytes that ends with such a packet
abbrev pub whole_of : Profile → Machine → List ℕ → ℕ → Delivery
whole_of p m q n = record { machine = (settled_by p m q).machine; reply = (settled_by p m q).reply; consumed = n }

-- a machine that holds nothing, and counts nothing
pub unheld_is : (m : Machine) → m.held ≡ [] → m.state.held ≡ 0 → m ≡ (holding [] m).machine
unheld_is m e c =
    ap (λ (l : List ℕ). record { image = m.image; held = l; state = m.state }) e
    ∙ ap (λ (n : ℕ). record { image = m.image; held = []; state = with_held n m.state }) c

-- a device that awaits a kind of packet
module _ (p : Profile) (kind : Kind) (m : Machine) (awaits : awaits_of m.state.stage ≡ Packet kind) where
  -- one byte more than are held
  module _ (q : List ℕ) (b : ℕ) where
    abbrev k : Machine
    k = (holding q m).machine

    -- it is heard as what it makes of them
    next_step : (x : Progress) → progress_of kind (q ++ b ∷ []) ≡ x → step_of p k b ≡ heard p k (q ++ b ∷ []) x
    unfolding step_of step_in
    next_step x e = ap (λ (a : Awaited). step_in p k a b) awaits ∙ ap (heard p k (q ++ b ∷ [])) e

    -- if more are to come, it is held too
    part_step : progress_of kind (q ++ b ∷ []) ≡ Partial → step_of p k b ≡ holding (q ++ b ∷ []) m
    unfolding heard
    part_step e = next_step Partial e

    -- if it is the last, the packet is answered
    module _ (complete : progress_of kind (q ++ b ∷ []) ≡ Complete) where
      -- what the last byte does
      last_step : step_of p k b ≡ settled_by p m (q ++ b ∷ [])
      unfolding heard
      last_step =
          next_step Complete complete
          ∙ ap (settled p m (info_of (q ++ b ∷ []))) (answer_unheld p m.image (length q) m.state (q ++ b ∷ []) m.state.stage)

      -- that byte completes it
      last_completes : completes k b ≡ true
      unfolding completes progress_in
      last_completes = ap (λ (a : Awaited). is_complete (progress_in a (q ++ b ∷ []))) awaits ∙ ap is_complete complete

      -- the answer is one packet
      last_packet : IsPacket (settled_by p m (q ++ b ∷ [])).reply
      last_packet = subst (λ (s : Step). IsPacket s.reply) last_step (packet_step p k b (inl last_completes))

      -- and the delivery ends there
      last_feed : feed_of p k (b ∷ []) ≡ whole_of p m (q ++ b ∷ []) 1
      last_feed = feed_reply p k b [] (rw last_step (omega (arith, packet_least last_packet))) ∙ ap at_once last_step

  -- the rest of a packet, behind the bytes of it that are held
  rest_delivered : (q : List ℕ) (b : ℕ) (more : List ℕ) → progress_of kind (q ++ b ∷ more) ≡ Complete
      → feed_of p (holding q m).machine (b ∷ more) ≡ whole_of p m (q ++ b ∷ more) (suc (length more))
  rest_delivered q b [] e = last_feed q b e
  rest_delivered q b (c ∷ more) e =
      let split : (q ++ b ∷ []) ++ c ∷ more ≡ q ++ b ∷ c ∷ more = append_assoc q (b ∷ []) (c ∷ more) in
      let f : progress_of kind ((q ++ b ∷ []) ++ c ∷ more) ≡ Complete = ap (progress_of kind) split ∙ e in
      let s : step_of p (holding q m).machine b ≡ holding (q ++ b ∷ []) m = part_step q b (held_until kind (q ++ b ∷ []) c more f) in
      feed_quiet p (holding q m).machine b (c ∷ more) (ap (λ (x : Step). length x.reply) s)
      ∙ ap (λ (x : Step). later 1 (feed_of p x.machine (c ∷ more))) s
      ∙ ap (later 1) (rest_delivered (q ++ b ∷ []) c more f)
      ∙ ap (λ (l : List ℕ). later 1 (whole_of p m l (suc (length more)))) split
      ∙ ap (whole_of p m (q ++ b ∷ c ∷ more)) (add-one (suc (length more)))

  -- its reply is one packet
  rest_answered : (q : List ℕ) (b : ℕ) (more : List ℕ) → progress_of kind (q ++ b ∷ more) ≡ Complete → IsPacket (settled_by p m (q ++ b ∷ more)).reply
  rest_answered q b [] e = last_packet q b e
  rest_answered q b (c ∷ more) e =
      let split : (q ++ b ∷ []) ++ c ∷ more ≡ q ++ b ∷ c ∷ more = append_assoc q (b ∷ []) (c ∷ more) in
      subst (λ (l : List ℕ). IsPacket (settled_by p m l).reply) split (rest_answered (q ++ b ∷ []) c more (ap (progress_of kind) split ∙ e))

  -- of a whole packet too
  pub whole_answered : (q : List ℕ) → progress_of kind q ≡ Complete → IsPacket (settled_by p m q).reply
  whole_answered [] e = absurd (omega (arith, complete_least kind [] e))
  whole_answered (b ∷ q) e = rest_answered [] b q e

  module _ (idle : m.held ≡ []) (count : m.state.held ≡ 0) where
    -- it is taken whole, and settled as its stage says
    pub whole_delivered : (q : List ℕ) → progress_of kind q ≡ Complete → feed_of p m q ≡ whole_of p m q (length q)
    whole_delivered [] e = absurd (omega (arith, complete_least kind [] e))
    whole_delivered (b ∷ q) e = ap (λ (k : Machine). feed_of p k (b ∷ q)) (unheld_is m idle count) ∙ rest_delivered [] b q e
