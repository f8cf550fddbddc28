-- A permitted write into blank flash comes to its end as planned, within the limit on packets. Assumes nothing.
use mathlib.Core.List.{List, []}
use mathlib.Core.Path.{◌≡◌, refl, sym, ap, ◌∙◌}
use Prim.Native.Nat.{ℕ, suc, ◌+◌, ◌-◌, ◌%◌, ◌<◌}
use native.Mathlib.Nat.{div-add-mod', zero-mod}
use native.Mathlib.Omega.{arith}
use lib.ListN.{length, take}
use lib.Seq.{take-length}
use Rattle.profile.specs.declared.Profile.{Profile}
use Rattle.profile.specs.Areas.{areas_of}
use Rattle.flash.specs.Effects.{stored}
use Rattle.state.specs.declared.Stage.{Stage}
use Rattle.state.specs.declared.Stage.TheVariants.{Command, Writing}
use Rattle.state.specs.State.{window_of}
use Rattle.answer_command.specs.Grants.{span_of}
use Rattle.device_steps.specs.Step.{Machine}
use Rattle.device_steps.specs.Feed.{Delivery}
use Rattle.host_request.specs.declared.Request.TheVariants.{Write}
use Rattle.host_request.specs.Request.{packet_for}
use Rattle.host_judge.specs.Reply.{judgement_of}
use Rattle.host_plan.specs.declared.Plan.{Plan}
use Rattle.host_plan.specs.Plan.{whole_plan, sent_up_to, command_of, size_for}
use Rattle.host_plan.proofs.Laws.{plan_exactly, command_follows}
use Rattle.host_device.specs.Agreement.{sending}
use Rattle.host_device.specs.Writing.{PassesOn, machine_behind, CarriedOut, one_sent, Blank, unit_for, parts_of, Within}
use Rattle.host_device.proofs.Whole.{unheld_is}
use Rattle.host_device.proofs.Replies.{status_passes}
use Rattle.host_device.proofs.Stored.{stored_none, blank_fetched, reads_stored, BlankFrom}
use Rattle.host_device.proofs.Target.{Target, target, target_planned}
use Rattle.host_device.proofs.Grants.{idle_in, granted_to, command_delivered}
use Rattle.host_device.proofs.Carried.{carried_as, same_range, carried_from}

-- where the unit divides 1,024 a packet may be full
pub full_size : (unit : ℕ) → 1024 % unit ≡ 0 → size_for unit ≡ 1024
full_size unit d = omega (arith, div-add-mod' 1024 unit)

module _ (p : Profile) (m : Machine) (s e : ℕ) (bytes : List ℕ) (b : Blank p m s e bytes) where
  -- the range that is written
  t : Target p s e
  t = target p b.profile (window_of p m.state) s e b.permitted

  abbrev unit : ℕ
  unit = unit_for p s

  abbrev plan : Plan
  plan = whole_plan s e unit (length bytes)

  -- each of its addresses is blank
  blank_from_lem : BlankFrom t.spot m.image s e
  blank_from_lem = blank_fetched (areas_of p) t.spot t.same s e t.low t.order t.high m.image b.image b.blank

  -- the device, which awaits commands and holds nothing
  abbrev start : Machine
  start = idle_in Command m.state m.image

  -- is the one that there is
  start_is : m ≡ start
  start_is = unheld_is m b.idle b.count ∙ ap (λ (stage : Stage). idle_in stage m.state m.image) b.stage

  -- the device behind the write
  abbrev final : Machine
  final = idle_in Command m.state (stored (areas_of p) s bytes m.image)

  -- the device behind the command
  abbrev begun : Machine
  begun = idle_in (Writing (span_of s e)) m.state m.image

  -- the command is granted
  first_delivered : sending p start (Write s e) [] ≡ granted_to begun (packet_for (Write s e) [])
  first_delivered =
      command_delivered p m.image m.state s e (omega (arith, t.order, t.high, t.top)) (omega (arith, t.high, t.top)) b.permitted

  -- and its reply passes
  command_passes : PassesOn p start bytes (command_of plan)
  command_passes =
      record {
        consumed = ap (λ (d : Delivery). d.consumed) first_delivered;
        passed = ap (λ (d : Delivery). judgement_of (Write s e) d.reply) first_delivered ∙ status_passes (Write s e) 0x13 refl refl;
      }

  -- then all of the data is sent
  data_carried : CarriedOut p bytes (sent_up_to 0 plan) begun (parts_of (length bytes) (size_for unit)) final
  data_carried =
      let at : s + 0 ≡ s = omega arith in
      let left : length bytes - 0 ≡ e + 1 - s = omega (arith, b.amount) in
      let all : length bytes - 0 ≡ length bytes = omega arith in
      let range : record { next = s + 0; left = length bytes - 0 } ≡ span_of s e = same_range at left in
      let from : idle_in (Writing (record { next = s + 0; left = length bytes - 0 })) m.state (stored (areas_of p) s [] m.image) ≡ begun =
      rw (range, stored_none (areas_of p) s m.image) refl in
      let to : idle_in Command m.state (stored (areas_of p) s (take (length bytes) bytes) m.image) ≡ final = rw (take-length bytes) refl in
      let some : 0 < length bytes = omega (arith, b.amount, t.order) in
      carried_as from (ap (λ (n : ℕ). parts_of n (size_for unit)) all) to
      (carried_from p s e t m.state m.image b.image bytes b.amount blank_from_lem (length bytes) 0 some (zero-mod unit) (omega arith))

  -- so the plan is carried out
  all_carried : CarriedOut p bytes plan m (suc (parts_of (length bytes) (size_for unit))) final
  all_carried =
      let n = parts_of (length bytes) (size_for unit) in
      let leads : machine_behind p start bytes (command_of plan) ≡ begun = ap (λ (d : Delivery). d.machine) first_delivered in
      carried_as (sym start_is) refl refl
      (one_sent plan start final n (command_of plan) (command_follows plan refl) command_passes (carried_as (sym leads) refl refl data_carried))

  -- it is carried out as planned, and the flash holds the bytes
  pub within : Within p m s e bytes
  within =
      let n = parts_of (length bytes) (size_for unit) in
      let one : suc n ≡ 1 + n = omega arith in
      record {
        plan = plan;
        planned = (plan_exactly s e unit (length bytes) plan).1 (target_planned p s e (length bytes) t b.amount, refl);
        packets = suc n;
        after = final;
        carried = all_carried;
        exactly = one;
        limit = λ d. let same : n ≡ parts_of (length bytes) 1024 = ap (parts_of (length bytes)) (full_size unit d) in omega arith;
        holds = reads_stored (areas_of p) t.spot t.same s e t.low t.order t.high m.image b.image bytes b.amount;
        image = refl;
        state = refl;
        nothing = refl;
      }
