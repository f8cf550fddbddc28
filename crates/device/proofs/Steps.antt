-- What one byte leaves in the lent buffers: each case of it leaves what the step defines, and a state that fits. Assumes nothing.
use mathlib.Core.Bool.{true}
use mathlib.Core.List.{List, [], ◌∷◌, ◌++◌}
use mathlib.Core.Path.{◌≡◌, refl, sym, ap, subst, ◌∙◌}
use Prim.Native.Nat.{ℕ, ◌+◌, ◌≤◌, ◌<◌}
use native.Mathlib.Numerals.{add-one}
use native.Mathlib.Omega.{arith}
use lib.ListN.{length, take, set, length-append, length-set}
use lib.Seq.{take-suc-set, length-take-le}
use Rattle.profile.specs.declared.Profile.{Profile}
use Rattle.profile.specs.Areas.{areas_of}
use Rattle.profile_ranges.specs.declared.Purpose.TheVariants.{Write as ToWrite, Read as ToRead}
use Rattle.packet.specs.declared.Kind.{Kind}
use Rattle.packet.specs.declared.Progress.{Progress}
use Rattle.packet.specs.declared.Progress.TheVariants.{Astray, Partial, Unfit, Complete, Excess}
use Rattle.packet.specs.Packet.{progress_of}
use Rattle.packet.specs.Frame.{Roomy, front}
use Rattle.packet_fields.specs.Fields.{info_of}
use Rattle.flash.specs.declared.Act.{Act}
use Rattle.flash.specs.declared.Act.TheVariants.{Nothing}
use Rattle.flash.specs.Acts.{performed}
use Rattle.state.specs.declared.Awaited.{Awaited}
use Rattle.state.specs.declared.Awaited.TheVariants.{WakeUp, Packet}
use Rattle.state.specs.declared.Pulse.{Pulse}
use Rattle.state.specs.declared.Stage.{Stage}
use Rattle.state.specs.declared.Stage.TheVariants.{Setting, Authentication, Command, Writing, Reading}
use Rattle.state.specs.declared.State.{State}
use Rattle.state.specs.Awaits.{awaits_of}
use Rattle.state.specs.State.{window_of, with_held}
use Rattle.state.specs.Fits.{stage_fits}
use Rattle.state.specs.Fit.{Fit}
use Rattle.answer.specs.declared.Answered.{Answered}
use Rattle.answer.specs.Answer.{Answer, Answers}
use Rattle.answer_waking.specs.Wake.{wake_of}
use Rattle.answer_waking.proofs.Woken.{front_nothing, wake_act}
use Rattle.device_calls.specs.Calls.{Lent, buffers}
use Rattle.device_calls.specs.Ready.{Ready}
use Rattle.device_steps.specs.Step.{Machine, machine_of, Step, settled, holding, refused_early, answer_of, heard, step_in, step_of}
use Rattle.device_steps.specs.Fits.{FitMachine}
use Rattle.device_steps.proofs.Going.{going}
use Rattle.device_steps.proofs.Kept.{machine_fits, state_fits, still_fits, held_short}
use Rattle.device.specs.Steps.{RangeIn, acted, Stood}

-- the bytes held, after the store of one more
pub held_more : (rc : List ℕ) (n b : ℕ) → n < length rc → take (n + 1) (set rc n b) ≡ take n rc ++ b ∷ []
held_more rc n b h = rw add-one (take-suc-set rc n b h)

held_length : (rc : List ℕ) (n b : ℕ) → n < length rc → length (take n rc ++ b ∷ []) ≡ n + 1
held_length rc n b h = rw (length-append, length-take-le n rc (omega arith)) refl

pub more_length : (rc : List ℕ) (n b : ℕ) → n < length rc → n + 1 ≡ length (take (n + 1) (set rc n b))
more_length rc n b h = sym (ap length (held_more rc n b h) ∙ held_length rc n b h)

-- the range of a stage that fits has addresses of 32 bits
pub range_in : (p : Profile) (st : State) (rc : List ℕ) → Fit p st rc → RangeIn st.stage
unfolding stage_fits
range_in p st rc f = go st.stage f.stage
  where
    go : (g : Stage) → stage_fits (areas_of p) (window_of p st) g ≡ true → RangeIn g
    go (Setting u) e = tt
    go Authentication e = tt
    go Command e = tt
    go (Writing r) e = (going (areas_of p) (window_of p st) ToWrite r e).in_reach
    go (Reading r) e = (going (areas_of p) (window_of p st) ToRead r e).in_reach

-- what is known of a stage is known of it by another name
pub range_at : (stage g : Stage) → stage ≡ g → RangeIn stage → RangeIn g
range_at stage g e r = subst RangeIn e r

pub answer_at : (p : Profile) (image : List ℕ) (st : State) (q : List ℕ) {g : Stage} → st.stage ≡ g → answer_of p image st g q ≡ answer_of p image st st.stage q
answer_at p image st q e = ap (λ (k : Stage). answer_of p image st k q) (sym e)

-- an act that was performed, with the data bytes that were found
pub performed_as : (p : Profile) (im₀ : List ℕ) {act act' : Act} {bytes bytes' im : List ℕ} → act ≡ act' → bytes ≡ bytes'
    → im ≡ performed (areas_of p) act bytes im₀ → im ≡ performed (areas_of p) act' bytes' im₀
performed_as p im₀ {act' = act'} {bytes = bytes} e f h =
    h ∙ ap (λ (a : Act). performed (areas_of p) a bytes im₀) e ∙ ap (λ (x : List ℕ). performed (areas_of p) act' x im₀) f

-- the buffers after the act was performed
pub stood_done : {s : Step} {p : Profile} {l : Lent} {r : Answered} (image : List ℕ) (n : ℕ) {im bytes receive reply : List ℕ}
    → Stood s p l (acted p image r.act n receive reply) r → bytes ≡ info_of (take n receive) → im ≡ performed (areas_of p) r.act bytes image
    → Stood s p l (buffers im receive reply) r
stood_done {s} {p} {l} {r} image n {receive = receive} {reply = reply} k e h =
    subst (λ (x : List ℕ). Stood s p l (buffers x receive reply) r) (sym (performed_as p image refl e h)) k

module _ (p : Profile) (st : State) (l : Lent) (b : ℕ) (ready : Ready p st l) where
  abbrev m : Machine
  m = machine_of st l

  abbrev s : Step
  s = step_of p m b

  next_fits : FitMachine p s.machine
  next_fits = still_fits p ready.profile m b (machine_fits p st l ready.fit)

  -- what is left fits, whatever the case was
  stood : (after : Lent) (r : Answered) → Roomy after.receive → r.state ≡ s.machine.state → after.image ≡ s.machine.image
      → take r.state.held after.receive ≡ s.machine.held → r.count ≡ length s.reply → after.reply ≡ front s.reply l.reply
      → Stood s p l after r
  stood after r long state image held count reply =
      let rc : List ℕ = after.receive in
      let m' : Machine = s.machine in
      let t : take m'.state.held rc ≡ m'.held = subst (λ (x : State). take x.held rc ≡ m'.held) state held in
      let h : length m'.held < 1030 = held_short p m' next_fits in
      let c : m'.state.held ≡ length m'.held = next_fits.count in
      let i : m'.state.held ≤ length rc = omega (arith, h, c, long) in
      record {
        state = state;
        image = image;
        held = held;
        count = count;
        reply = reply;
        fit = subst (λ (x : State). Fit p x rc) (sym state) (state_fits p m' rc next_fits t i);
      }

  -- an answer, whose act was performed, and after which nothing is held
  stood_settled : (bytes : List ℕ) (a : Answer) (after : Lent) (r : Answered) → Roomy after.receive → s ≡ settled p m bytes a
      → Answers a r l.reply after.reply → after.image ≡ performed (areas_of p) a.act bytes l.image → Stood s p l after r
  stood_settled bytes a after r long e k i =
      let z : a.state.held ≡ 0 = subst (λ (j : Step). j.machine.state.held ≡ length j.machine.held) e next_fits.count in
      let h : r.state.held ≡ 0 = ap (λ (j : State). j.held) k.state ∙ z in
      stood after r long
      (k.state ∙ ap (λ (j : Step). j.machine.state) (sym e))
      (i ∙ ap (λ (j : Step). j.machine.image) (sym e))
      (ap (λ (j : ℕ). take j after.receive) h ∙ ap (λ (j : Step). j.machine.held) (sym e))
      (k.count ∙ ap (λ (j : Step). length j.reply) (sym e))
      (k.reply ∙ ap (λ (j : Step). front j.reply l.reply) (sym e))

  -- no answer, and the bytes q are held
  stood_holding : (q : List ℕ) (j : ℕ) (rc : List ℕ) (r : Answered) → Roomy rc → s ≡ holding q m → j ≡ length q → take j rc ≡ q
      → r ≡ record { act = Nothing; state = with_held j st; count = 0 } → Stood s p l (buffers l.image rc l.reply) r
  stood_holding q j rc r long e n t k =
      let is : r.state ≡ with_held j st = ap (λ (x : Answered). x.state) k in
      stood (buffers l.image rc l.reply) r long
      (is ∙ ap (λ (i : ℕ). with_held i st) n ∙ ap (λ (i : Step). i.machine.state) (sym e))
      (ap (λ (i : Step). i.machine.image) (sym e))
      (ap (λ (x : State). take x.held rc) is ∙ t ∙ ap (λ (i : Step). i.machine.held) (sym e))
      (ap (λ (x : Answered). x.count) k ∙ ap (λ (i : Step). length i.reply) (sym e))
      (front_nothing l.reply ∙ ap (λ (i : Step). front i.reply l.reply) (sym e))

  step_at : {a : Awaited} → awaits_of st.stage ≡ a → s ≡ step_in p m a b
  unfolding step_of
  step_at e = ap (λ (a : Awaited). step_in p m a b) e

  -- nothing is to be performed
  still : (bytes : List ℕ) {act : Act} → act ≡ Nothing → l.image ≡ performed (areas_of p) act bytes l.image
  unfolding performed
  still bytes e = ap (λ (a : Act). performed (areas_of p) a bytes l.image) (sym e)

  idle : {r : Answered} {rc reply : List ℕ} → r.act ≡ Nothing → Stood s p l (buffers l.image rc reply) r → Stood s p l (acted p l.image r.act (st.held + 1) rc reply) r
  idle {r} {rc} {reply} e k = subst (λ (x : List ℕ). Stood s p l (buffers x rc reply) r) (still (info_of (take (st.held + 1) rc)) e) k

  -- a byte of waking up
  pub stood_waking : (u : Pulse) (r : Answered) (after : List ℕ) → awaits_of st.stage ≡ WakeUp u → Answers (wake_of p l.image st u b) r l.reply after
      → Stood s p l (acted p l.image r.act (st.held + 1) l.receive after) r
  unfolding step_in
  stood_waking u r after e k =
      idle (k.act ∙ wake_act p l.image st u b)
      (stood_settled [] (wake_of p l.image st u b) (buffers l.image l.receive after) r ready.receive (step_at e) k (still [] (wake_act p l.image st u b)))

  -- fewer bytes are held than the longest packet has
  pub few : st.held < 1030
  few = let f : FitMachine p m = machine_fits p st l ready.fit in omega (arith, f.count, held_short p m f)

  -- the receive buffer has room for one byte more
  pub room : st.held < length l.receive
  room = omega (arith, few, ready.receive)

  -- a byte where a packet is awaited, by what the bytes are to a packet
  module _ (kind : Kind) (g : Progress) (awaits : awaits_of st.stage ≡ Packet kind)
      (told : g ≡ progress_of kind (take (st.held + 1) (set l.receive st.held b))) where
    abbrev stored : List ℕ
    stored = set l.receive st.held b

    abbrev q : List ℕ
    q = take st.held l.receive ++ b ∷ []

    -- the buffers once its act is performed
    abbrev after_act : Answered → List ℕ → Lent
    after_act r reply = acted p l.image r.act (st.held + 1) stored reply

    still_long : Roomy stored
    still_long = rw length-set ready.receive

    heard_as : (v : Progress) → g ≡ v → s ≡ heard p m q v
    unfolding step_in
    heard_as v e = step_at awaits ∙ ap (heard p m q) (ap (progress_of kind) (sym (held_more l.receive st.held b room)) ∙ sym told ∙ e)

    -- a byte that starts no packet, and one that could not be there
    pub stood_astray : (r : Answered) → g ≡ Astray → r ≡ record { act = Nothing; state = with_held 0 st; count = 0 } → Stood s p l (after_act r l.reply) r
    unfolding heard
    stood_astray r e h = idle (ap (λ (x : Answered). x.act) h) (stood_holding [] 0 stored r still_long (heard_as Astray e) refl refl h)

    pub stood_excess : (r : Answered) → g ≡ Excess → r ≡ record { act = Nothing; state = with_held 0 st; count = 0 } → Stood s p l (after_act r l.reply) r
    unfolding heard
    stood_excess r e h = idle (ap (λ (x : Answered). x.act) h) (stood_holding [] 0 stored r still_long (heard_as Excess e) refl refl h)

    pub stood_partial : (r : Answered) → g ≡ Partial → r ≡ record { act = Nothing; state = with_held (st.held + 1) st; count = 0 }
        → Stood s p l (after_act r l.reply) r
    unfolding heard
    stood_partial r e h =
        idle (ap (λ (x : Answered). x.act) h)
        (stood_holding q (st.held + 1) stored r still_long (heard_as Partial e) (sym (held_length l.receive st.held b room))
        (held_more l.receive st.held b room) h)

    pub stood_unfit : (r : Answered) (after : List ℕ) → g ≡ Unfit → Answers (refused_early st) r l.reply after → Stood s p l (after_act r after) r
    unfolding heard
    stood_unfit r after e k =
        idle k.act (stood_settled [] (refused_early st) (buffers l.image stored after) r still_long (heard_as Unfit e) k (still [] refl))

    pub stood_complete : (r : Answered) (after : List ℕ) → g ≡ Complete
        → Answers (answer_of p l.image st st.stage (take (st.held + 1) stored)) r l.reply after → Stood s p l (after_act r after) r
    unfolding heard
    stood_complete r after e k =
        let same : take (st.held + 1) stored ≡ q = held_more l.receive st.held b room in
        let a : Answer = answer_of p l.image st st.stage q in
        let told : Answers a r l.reply after = subst (λ (i : List ℕ). Answers (answer_of p l.image st st.stage i) r l.reply after) same k in
        stood_settled (info_of q) a (after_act r after) r still_long (heard_as Complete e) told (performed_as p l.image told.act (ap info_of same) refl)
