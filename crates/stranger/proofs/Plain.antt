-- Before the command stage any delivery leads to a state that is no write and no read, with an ID of 16 bytes. Assumes nothing.
use mathlib.Core.Bool.{Bool, true, false}
use mathlib.Core.List.{List, [], ◌∷◌, ◌++◌}
use mathlib.Core.Path.{◌≡◌, refl, sym, ap, subst}
use Prim.Native.Nat.{ℕ}
use lib.ListN.{length}
use lib.Dec.{eqb}
use Rattle.profile.specs.declared.Profile.{Profile}
use Rattle.profile.specs.Areas.{areas_of}
use Rattle.id_code.specs.Identity.{id_of, is_none}
use Rattle.id_code.proofs.Codes.{id_length}
use Rattle.packet.specs.declared.Kind.TheVariants.{Command as CommandPacket}
use Rattle.packet.specs.declared.Progress.{Progress}
use Rattle.packet.specs.declared.Progress.TheVariants.{Astray, Partial, Unfit, Complete, Excess}
use Rattle.packet.specs.Packet.{progress_of}
use Rattle.packet.proofs.Laws.{impossible}
use Rattle.state.specs.declared.Pulse.{Pulse}
use Rattle.state.specs.declared.Pulse.TheVariants.{Zero, One, Acknowledged}
use Rattle.state.specs.declared.Stage.{Stage}
use Rattle.state.specs.declared.Stage.TheVariants.{Setting, Authentication, Command, Writing, Reading}
use Rattle.state.specs.declared.State.{State}
use Rattle.state.specs.State.{fresh_state}
use Rattle.state.specs.Awaits.{awaits_of}
use Rattle.answer.specs.Answer.{Answer}
use Rattle.answer_command.proofs.Unseen.{authentication_answers}
use Rattle.answer_waking.specs.Wake.{awake, wake_of}
use Rattle.device_steps.specs.Step.{Machine, early_of, answer_of, heard, step_in, step_of}
use Rattle.device_steps.specs.Feed.{Delivery, feed_of}
use Rattle.device_steps.proofs.Delivered.{feed_none, by_reply}
use Rattle.device_steps.proofs.Settles.{either}
use Rattle.stranger.specs.Alike.{is_shut, Shut}
use Rattle.stranger.proofs.Bytes.{byte_quiet}

-- no write and no read
abbrev pub is_plain : Stage → Bool
is_plain (Setting pulse) = true
is_plain Authentication = true
is_plain Command = true
is_plain (Writing r) = false
is_plain (Reading r) = false

pub record Plain (st : State) : Type 0 where
  pub sixteen : length st.id ≡ 16
  pub stage : is_plain st.stage ≡ true

shut_plain : (g : Stage) → is_shut g ≡ true → is_plain g ≡ true
shut_plain (Setting pulse) h = refl
shut_plain Authentication h = refl
shut_plain Command h = refl
shut_plain (Writing r) h = impossible (cc)
shut_plain (Reading r) h = impossible (cc)

abbrev PlainAfter : Answer → Type 0
PlainAfter a = Plain a.state

-- waking up keeps the ID or latches one
wake_plain : (p : Profile) (image : List ℕ) (st : State) (pulse : Pulse) (b : ℕ) → length st.id ≡ 16 → PlainAfter (wake_of p image st pulse b)
unfolding wake_of awake
wake_plain p image st Zero b h =
    either PlainAfter _ _ (eqb b 0x00) (record { sixteen = h; stage = refl }) (record { sixteen = h; stage = refl })
wake_plain p image st One b h =
    either PlainAfter _ _ (eqb b 0x00) (record { sixteen = h; stage = refl }) (record { sixteen = h; stage = refl })
wake_plain p image st Acknowledged b h =
    either PlainAfter _ _ (eqb b 0x55)
    (record {
      sixteen = id_length (areas_of p) image;
      stage = either (λ (g : Stage). is_plain g ≡ true) Command Authentication (is_none (id_of (areas_of p) image)) refl refl;
    })
    (either PlainAfter _ _ (eqb b 0x00) (record { sixteen = h; stage = refl }) (record { sixteen = h; stage = refl }))

-- one byte
module _ (p : Profile) (m : Machine) (h : length m.state.id ≡ 16) where
  -- bytes of a command that come in authentication stage
  heard_plain : (q : List ℕ) (g : Progress) → m.state.stage ≡ Authentication → Plain (heard p m q g).machine.state
  unfolding heard fresh_state
  heard_plain q Astray e = record { sixteen = h; stage = ap is_plain e }
  heard_plain q Partial e = record { sixteen = h; stage = ap is_plain e }
  heard_plain q Unfit e = record { sixteen = h; stage = ap (λ (g : Stage). is_plain (early_of g).1) e }
  heard_plain q Complete e =
      subst (λ (g : Stage). PlainAfter (answer_of p m.image m.state g q)) (sym e)
      (authentication_answers p m.state q e PlainAfter (record { sixteen = refl; stage = refl }) (record { sixteen = h; stage = refl })
      (λ reason. record { sixteen = h; stage = ap is_plain e }) m.image)
  heard_plain q Excess e = record { sixteen = h; stage = ap is_plain e }

  plain_in : (b : ℕ) (g : Stage) → m.state.stage ≡ g → is_shut g ≡ true → Plain (step_in p m (awaits_of g) b).machine.state
  unfolding step_in
  plain_in b (Setting pulse) e k = wake_plain p m.image m.state pulse b h
  plain_in b Authentication e k = heard_plain (m.held ++ b ∷ []) (progress_of CommandPacket (m.held ++ b ∷ [])) e
  plain_in b Command e k = impossible (cc)
  plain_in b (Writing r) e k = impossible (cc)
  plain_in b (Reading r) e k = impossible (cc)

  byte_plain : (b : ℕ) → Shut m → Plain (step_of p m b).machine.state
  unfolding step_of
  byte_plain b k = plain_in b m.state.stage refl k

-- a delivery, up to its first answer
pub feed_plain : (p : Profile) (m : Machine) (bs : List ℕ) → length m.state.id ≡ 16 → Shut m → Plain (feed_of p m bs).machine.state
feed_plain p m [] h k = rw feed_none (record { sixteen = h; stage = shut_plain m.state.stage k })
feed_plain p m (b ∷ bs) h k =
    let s : Plain (step_of p m b).machine.state = byte_plain p m h b k in
    by_reply p m b bs (λ (d : Delivery). Plain d.machine.state)
    (λ quiet. feed_plain p (step_of p m b).machine bs s.sixteen (byte_quiet p m b k quiet))
    (λ answered. s)
