-- Words for the statements about a line: its bytes one by one, the replies that it brings, its record.
use Rattle.std.specs.Prelude.{true, cond, List, [], ◌∷◌, ◌++◌, ◌≡◌, ℕ}
use Rattle.profile.specs.declared.Profile.{Profile}
use Rattle.packet.specs.Packet.{good}
use Rattle.record_exchange.specs.Line.{Entry, exchange, restart}
use Rattle.device_steps.specs.Step.{Machine, step_of}
use Rattle.device_steps.specs.Records.{heard_with, Brings}
use Rattle.record_history.specs.History.{Call, deliver, again, fresh_of, hearing, machine_after}

-- a reply packet: one whole packet with right ETX and SUM; what answers a wake-up is none
abbrev pub IsReply : List ℕ → Type 0
IsReply reply = good reply ≡ true

-- something holds of each byte that is delivered, and of the machine that hears it
unfoldable pub EachIn : (Machine → ℕ → Type 0) → Profile → Machine → List ℕ → Type 0
EachIn P p m [] = Unit {0}
EachIn P p m (b ∷ bs) = P m b × EachIn P p (step_of p m b).machine bs

-- and of each byte of a whole line
unfoldable pub EachByte : (Machine → ℕ → Type 0) → Profile → Machine → List Call → Type 0
EachByte P p m [] = Unit {0}
EachByte P p m (deliver bs ∷ more) = EachIn P p m bs × EachByte P p (hearing p m bs) more
EachByte P p m (again ∷ more) = EachByte P p (fresh_of p m.image) more

-- those of some replies that are packets
unfoldable pub packets_in : List (List ℕ) → List (List ℕ)
packets_in [] = []
packets_in (reply ∷ more) = cond (good reply) (reply ∷ packets_in more) (packets_in more)

-- the replies in a record
unfoldable pub answers_in : List Entry → List (List ℕ)
answers_in [] = []
answers_in (exchange q reply ∷ more) = reply ∷ answers_in more
answers_in (restart ∷ more) = answers_in more

-- what it is to be the record of every line: each byte that brings a request leaves an entry with what is held and the byte, and its reply; no
-- other byte leaves one; each reset leaves its own; one call after the other, one byte after the other
pub record IsRecord (p : Profile) (f : Machine → List Call → List Entry) : Type 0 where
  pub asked : (m : Machine) (b : ℕ) → Brings m b → f m (deliver (b ∷ []) ∷ []) ≡ exchange (heard_with m b) (step_of p m b).reply ∷ []
  pub unasked : (m : Machine) (b : ℕ) → (Brings m b → ⊥) → f m (deliver (b ∷ []) ∷ []) ≡ []
  pub resets : (m : Machine) → f m (again ∷ []) ≡ restart ∷ []
  pub none : (m : Machine) → f m [] ≡ []
  pub empty : (m : Machine) → f m (deliver [] ∷ []) ≡ []
  pub joined : (m : Machine) (bs cs : List ℕ) → f m (deliver (bs ++ cs) ∷ []) ≡ f m (deliver bs ∷ []) ++ f (hearing p m bs) (deliver cs ∷ [])
  pub continued : (m : Machine) (first later : List Call) → f m (first ++ later) ≡ f m first ++ f (machine_after p m first) later
