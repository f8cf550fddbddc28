-- What a byte in setting is answered, by one byte and by none. Assumes nothing.
use mathlib.Core.Bool.{Bool, true, false, cond}
use mathlib.Core.List.{List, [], ◌∷◌}
use mathlib.Core.Path.{◌≡◌, refl, ap}
use Prim.Native.Nat.{ℕ}
use native.Mathlib.Omega.{arith}
use lib.ListN.{set}
use lib.Dec.{eqb}
use Rattle.profile.specs.declared.Profile.{Profile}
use Rattle.profile.specs.Areas.{areas_of}
use Rattle.id_code.specs.Identity.{id_of, is_none}
use Rattle.packet.specs.Frame.{Roomy, front}
use Rattle.flash.specs.declared.Act.TheVariants.{Nothing}
use Rattle.state.specs.declared.Pulse.{Pulse}
use Rattle.state.specs.declared.Pulse.TheVariants.{Zero, One, Acknowledged}
use Rattle.state.specs.declared.Stage.TheVariants.{Setting, Authentication, Command}
use Rattle.state.specs.declared.State.{State}
use Rattle.state.specs.State.{with_id}
use Rattle.answer.specs.declared.Answered.{Answered}
use Rattle.answer.specs.Answer.{Answer, moved, Answers}
use Rattle.answer.proofs.Sending.{answers_as}
use Rattle.answer_waking.specs.Wake.{awake, woken, goes, wake_of}

-- nothing, and one byte, at the front of a buffer
pub front_nothing : (before : List ℕ) → before ≡ front [] before
unfolding front
front_nothing before = refl

pub front_one : (b : ℕ) (before : List ℕ) → Roomy before → set before 0 b ≡ front (b ∷ []) before
unfolding front
front_one b [] h = absurd (omega arith)
front_one b (x ∷ rest) h = refl

-- setting goes on without an answer
pub went : {a : Answer} {r : Answered} {before : List ℕ} (st : State) (pulse : Pulse) → goes st pulse [] ≡ a
    → r ≡ record { act = Nothing; state = moved (Setting pulse) st; count = 0 } → Answers a r before before
went {before = before} st pulse e s =
    answers_as e (rw s (record { act = refl; state = refl; count = refl; reply = front_nothing before }))

-- what holds of both sides of a test holds of the side that it picks
either : (P : Answer → Type 0) (a b : Answer) (t : Bool) → P a → P b → P (cond t a b)
either P a b true h k = h
either P a b false h k = k

-- no byte of the flash changes on waking up
pub wake_act : (p : Profile) (image : List ℕ) (st : State) (pulse : Pulse) (b : ℕ) → (wake_of p image st pulse b).act ≡ Nothing
unfolding wake_of
wake_act p image st Zero b = either (λ (a : Answer). a.act ≡ Nothing) _ _ (eqb b 0x00) refl refl
wake_act p image st One b = either (λ (a : Answer). a.act ≡ Nothing) _ _ (eqb b 0x00) refl refl
wake_act p image st Acknowledged b =
    either (λ (a : Answer). a.act ≡ Nothing) _ _ (eqb b 0x55) refl (either (λ (a : Answer). a.act ≡ Nothing) _ _ (eqb b 0x00) refl refl)

-- of the image, waking up sees the ID and nothing else
awake_alike : (p : Profile) (image image' : List ℕ) → id_of (areas_of p) image ≡ id_of (areas_of p) image' → (st : State) → awake p image st ≡ awake p image' st
unfolding awake
awake_alike p image image' e st = ap (λ (id : List ℕ). with_id id (moved (cond (is_none id) Command Authentication) st)) e

pub wake_alike : (p : Profile) (image image' : List ℕ) → id_of (areas_of p) image ≡ id_of (areas_of p) image' → (st : State) (pulse : Pulse) (b : ℕ)
    → wake_of p image st pulse b ≡ wake_of p image' st pulse b
unfolding wake_of
wake_alike p image image' e st Zero b = refl
wake_alike p image image' e st One b = refl
wake_alike p image image' e st Acknowledged b =
    ap
    (λ (next : State). cond (eqb b 0x55) (woken next (0xC3 ∷ [])) (cond (eqb b 0x00) (goes st Acknowledged []) (goes st Zero [])))
    (awake_alike p image image' e st)
