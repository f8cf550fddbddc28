-- The host's end, proved. Assumes nothing.
use mathlib.Core.List.{List, []}
use mathlib.Core.Path.{◌≡◌, refl, sym, ap, subst, ◌∙◌}
use Prim.Native.Nat.{ℕ}
use lib.ListN.{length, take, drop}
use lib.Seq.{take-append_seam}
use Rattle.profile.specs.declared.Profile.{Profile}
use Rattle.packet.specs.Packet.{progress_of}
use Rattle.packet.specs.Frame.{front}
use Rattle.state.specs.declared.State.{State}
use Rattle.device_calls.specs.Calls.{Lent}
use Rattle.device_calls.specs.Ready.{Ready}
use Rattle.device_calls.proofs.Rows.{rows_ready}
use Rattle.device_steps.specs.Step.{Machine, machine_of}
use Rattle.device_steps.specs.Feed.{Delivery, feed_of}
use Rattle.device.specs.declared.Fed.{Fed}
use Rattle.device.specs.Post.{Ran, Feeds}
use Rattle.host_request.specs.declared.Request.{Request}
use Rattle.host_request.specs.Request.{packet_for, InWidth}
use Rattle.host_request.specs.Build.{Builds}
use Rattle.host_request.proofs.Packets as packets
use Rattle.host_request.proofs.Outcome as outcome
use Rattle.host_judge.specs.Reply.{from_mark, judged_at, judgement_of}
use Rattle.host_judge.specs.Judge.{Heard, fresh_judge, hearing_of}
use Rattle.host_judge.specs.Meaning.{joined}
use Rattle.host_judge.proofs.Verdicts as verdicts
use Rattle.host_judge.proofs.Exactly as exactly
use Rattle.host_judge.proofs.Collected as collected
use Rattle.host_device.specs.Agreement.{InStep, Sent, verdict_in, told_as, sending}
use Rattle.host_device.proofs.Agreement.{agrees}
use Rattle.host_device.proofs.Telling as telling
use Rattle.host_device.proofs.Known.{sci_known, area_known}
use Rattle.host_device.proofs.Writing.{within}
use Rattle.demands.specs.Host.{HostEnd}
use Rattle.std.specs.Prelude.{Ok}
use Rattle.demands.proofs.Rows.{feed_refusal_lem, feed_ran}

-- a call that was accepted, with a packet that was built for a device which holds nothing and awaits it
module _ (p : Profile) (st : State) (request : Request) (bytes buffer packet : List ℕ) (n : ℕ) (before after : Lent) (r : Fed)
    (width : InWidth request) (step : InStep request st.stage) (idle : st.held ≡ 0)
    (b : Builds request bytes buffer packet (Ok n)) (f : Feeds p st (take n packet) before after r) (accepted : r.refusal ≡ Ok tt) where
  abbrev m : Machine
  m = machine_of st before

  abbrev d : Delivery
  d = sending p m request bytes

  ready : Ready p st before
  ready = rows_ready p st before (sym (feed_refusal_lem f) ∙ accepted)

  none_held : m.held ≡ []
  none_held = ap (λ (k : ℕ). take k before.receive) idle

  -- it is the request that the device awaits
  sent : Sent p m request bytes
  sent =
      record {
        profile = ready.profile;
        image = ready.image;
        fits = record { count = idle ∙ sym (ap length none_held); held = ready.fit.held; stage = ready.fit.stage };
        idle = none_held;
        step = step;
        width = width;
        buildable = outcome.built_buildable request bytes buffer packet (Ok n) b n refl;
      }

  -- what was fed is its packet, so what was left is its delivery
  ran : Ran d (packet_for request bytes) before after r
  ran = subst (λ (q : List ℕ). Ran (feed_of p m q) q before after r) (outcome.built_front request bytes buffer packet (Ok n) b n refl) (feed_ran f accepted)

  consumed : r.consumed ≡ n
  consumed = ap (λ (x : Fed). x.consumed) ran.is ∙ (agrees p m request bytes sent).consumed ∙ sym ((outcome.built_exactly request bytes buffer packet (Ok n) b n).0 refl).1

  count : r.count ≡ length d.reply
  count = ap (λ (x : Fed). x.count) ran.is

  -- the reply stands at the front of its buffer
  back : take r.count after.reply ≡ d.reply
  unfolding front
  back =
      ap (λ (k : ℕ). take k after.reply) count
      ∙ ap (take (length d.reply)) ran.reply
      ∙ take-append_seam d.reply (drop (length d.reply) before.reply)

  taken : (hearing_of (fresh_judge request) (take r.count after.reply)).count ≡ r.count
  taken =
      ap (λ (q : List ℕ). (hearing_of (fresh_judge request) q).count) back ∙ (agrees p m request bytes sent).taken ∙ sym count

  judged : (hearing_of (fresh_judge request) (take r.count after.reply)).judge.judgement
      ≡ told_as (verdict_in p before.image st st.stage (packet_for request bytes))
  judged =
      verdicts.judge_says request (take r.count after.reply)
      ∙ ap (judgement_of request) back
      ∙ (agrees p m request bytes sent).judged

pub host_end : HostEnd
unfolding judgement_of judged_at from_mark joined progress_of
host_end =
    record {
      building =
          record {
            built = outcome.built_exactly;
            placed = λ request bytes before after r b n e.
                (outcome.built_front request bytes before after r b n e, outcome.built_rest request bytes before after r b n e);
            refused = outcome.unbuilt_exactly;
            unwritten = outcome.unbuilt_leaves;
            once = λ request bytes before after after' r r'. outcome.builds_once;
            whole = λ request bytes e.
                let w = packets.packet_whole request bytes e in (w.0, w.2, packets.packet_contents request bytes e);
            known = packets.packet_command;
          };
      judging =
          record {
            begins = λ request. refl;
            says = verdicts.cuts_say;
            means = exactly.means_exactly;
            one_number = exactly.judgement_one_number;
            all = verdicts.taken_all;
            first = verdicts.taken_first;
            final = λ j bytes e.
                let h = verdicts.taken_none j bytes e in (ap (λ (x : Heard). x.judge) h, ap (λ (x : Heard). x.count) h);
            told = collected.told_exactly;
          };
      together =
          record {
            agrees = agrees;
            passed = telling.passed_granted;
            refused = telling.refused_for;
            calls = λ p st request bytes buffer packet n before after r w s i b f e. (
              consumed p st request bytes buffer packet n before after r w s i b f e,
              taken p st request bytes buffer packet n before after r w s i b f e,
              judged p st request bytes buffer packet n before after r w s i b f e,
            );
            sci = sci_known;
            area = area_known;
            within = within;
          };
    }
