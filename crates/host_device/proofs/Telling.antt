-- What the judge says tells what the device did: it passed exactly what was granted, and a code was told exactly where the device refused with it.
-- Assumes nothing.
use mathlib.Core.List.{List}
use mathlib.Core.Logic.{◌↔◌}
use mathlib.Core.Path.{◌≡◌, refl, sym, ap, ◌∙◌}
use Prim.Native.Nat.{ℕ}
use Rattle.profile.specs.declared.Profile.{Profile}
use Rattle.packet.proofs.Laws.{impossible}
use Rattle.device_steps.specs.Step.{Machine}
use Rattle.host_request.specs.declared.Request.{Request}
use Rattle.host_request.specs.Request.{packet_for}
use Rattle.host_judge.specs.declared.Judgement.{Judgement}
use Rattle.host_judge.specs.declared.Judgement.TheVariants.{Passed, Refused as RefusedWith}
use Rattle.host_judge.specs.Reply.{judgement_of}
use Rattle.host_device.specs.Agreement.{Sent, verdict_in, told_as, RefusedFor, sending}
use Rattle.verdict.specs.Check.{Verdict}
use Rattle.std.specs.Prelude.{Ok, Err}
use Rattle.host_device.proofs.Agreement.{agrees}

-- only a grant is told as passed
told_passed : (v : Verdict) → told_as v ≡ Passed → v ≡ Ok tt
told_passed (Ok tt) e = refl
told_passed (Err reason) e = impossible (cc)

-- only a refusal with that code is told as refused with it
told_refused : (v : Verdict) (code : ℕ) → told_as v ≡ RefusedWith code → RefusedFor v code
told_refused (Ok tt) code e = impossible (cc)
told_refused (Err reason) code e = record { reason = reason; is = refl; coded = cc }

-- a request that was sent
module _ (p : Profile) (m : Machine) (r : Request) (bytes : List ℕ) (s : Sent p m r bytes) where
  -- what the judge says of the device's reply
  abbrev said : Judgement
  said = judgement_of r (sending p m r bytes).reply

  -- what the device's checks say of the packet
  abbrev verdict : Verdict
  verdict = verdict_in p m.image m.state m.state.stage (packet_for r bytes)

  -- the two agree
  told : said ≡ told_as verdict
  told = (agrees p m r bytes s).judged

  -- passed exactly where it was granted
  pub passed_granted : (said ≡ Passed) ↔ (verdict ≡ Ok tt)
  passed_granted = (λ e. told_passed verdict (sym told ∙ e), λ e. told ∙ ap told_as e)

  -- refused with a code exactly where the device refused for a reason that has it
  pub refused_for : (code : ℕ) → (said ≡ RefusedWith code) ↔ RefusedFor verdict code
  refused_for code = (λ e. told_refused verdict code (sym told ∙ e), λ f. told ∙ ap told_as f.is ∙ ap RefusedWith f.coded)
