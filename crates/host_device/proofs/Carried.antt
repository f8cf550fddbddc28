-- The data of a planned write, packet by packet, into blank flash. Assumes nothing.
use mathlib.Core.List.{List, ◌++◌}
use mathlib.Core.Logic.{⊎_elim}
use mathlib.Core.Path.{◌≡◌, refl, sym, ap, subst, ◌∙◌}
use Prim.Native.Nat.{ℕ, zero, suc, ◌+◌, ◌-◌, ◌%◌, ◌≤◌, ◌<◌}
use native.Mathlib.Nat.{div-eq_of_lt}
use native.Mathlib.Omega.{arith}
use lib.ListN.{length, take, drop, length-drop}
use lib.Seq.{length-take-le, take-add}
use Rattle.profile.specs.declared.Profile.{Profile}
use Rattle.profile.specs.Areas.{areas_of, total_of}
use Rattle.flash.specs.Effects.{fetched, stored}
use Rattle.flash.proofs.ByAddress.{stored_length}
use Rattle.flash_blank.proofs.Found.{AllBlank}
use Rattle.state.specs.declared.Range.{Range}
use Rattle.state.specs.declared.Stage.{Stage}
use Rattle.state.specs.declared.Stage.TheVariants.{Command, Writing}
use Rattle.state.specs.declared.State.{State}
use Rattle.check_transfer.specs.Transfer.{unit_before}
use Rattle.answer_transfer.specs.Transfers.{after}
use Rattle.answer_transfer.proofs.After.{after_all, after_some}
use Rattle.device_steps.specs.Step.{Machine}
use Rattle.device_steps.specs.Feed.{Delivery}
use Rattle.host_request.specs.declared.Request.TheVariants.{WriteData}
use Rattle.host_request.specs.Request.{packet_for}
use Rattle.host_judge.specs.Reply.{judgement_of}
use Rattle.host_plan.specs.declared.Plan.{Plan}
use Rattle.host_plan.specs.Plan.{whole_plan, sent_up_to, data_of, piece_of, size_for}
use Rattle.host_plan.specs.Pieces.{Piece}
use Rattle.host_plan.proofs.Laws.{data_follows, nothing_follows}
use Rattle.host_plan.proofs.Units.{at_most, units_behind, units_left, size_some, size_most, size_units, InUnits, piece_count, count_units, data_piece, parts_more}
use Rattle.host_device.specs.Agreement.{sending}
use Rattle.host_device.specs.Writing.{PassesOn, machine_behind, CarriedOut, all_sent, one_sent, unit_for, parts_of}
use Rattle.host_device.proofs.Replies.{status_passes}
use Rattle.host_device.proofs.Stored.{BlankFrom, stored_parts, fetched_blank, still_blank}
use Rattle.host_device.proofs.Target.{Target, target_unit}
use Rattle.host_device.proofs.Grants.{idle_in, granted_to, data_delivered}

-- the same write, with its machines and its count written otherwise
pub carried_as : {p : Profile} {bytes : List ℕ} {plan : Plan} {m m' after after' : Machine} {n n' : ℕ} → m ≡ m' → n ≡ n' → after ≡ after'
    → CarriedOut p bytes plan m n after → CarriedOut p bytes plan m' n' after'
carried_as {p} {bytes} {plan} {m} {m'} {after} {after'} {n} {n'} start count end c =
    subst (λ (k : Machine). CarriedOut p bytes plan k n' after') start
    (subst (λ (k : ℕ). CarriedOut p bytes plan m k after') count (subst (λ (k : Machine). CarriedOut p bytes plan m n k) end c))

-- a range by its numbers
pub same_range : {a b c d : ℕ} → a ≡ b → c ≡ d → ◌≡◌ {A = Range} (record { next = a; left = c }) (record { next = b; left = d })
same_range {a} {b} {c} {d} at left = cc

-- a write of these bytes into an image that is blank there, from a state on
module _ (p : Profile) (s e : ℕ) (t : Target p s e) (st : State) (image : List ℕ) (whole : length image ≡ total_of (areas_of p)) (bytes : List ℕ)
    (amount : length bytes ≡ e + 1 - s) (blank : BlankFrom t.spot image s e) where
  abbrev unit : ℕ
  unit = unit_for p s

  abbrev size : ℕ
  size = size_for unit

  -- where i bytes of it are done: the plan, what is left of the range, the image
  abbrev pub plan_at : ℕ → Plan
  plan_at i = sent_up_to i (whole_plan s e unit (length bytes))

  abbrev pub rest_at : ℕ → Range
  rest_at i = record { next = s + i; left = length bytes - i }

  abbrev pub image_at : ℕ → List ℕ
  image_at i = stored (areas_of p) s (take i bytes) image

  -- the machine then, and at the end
  abbrev pub writing_at : ℕ → Machine
  writing_at i = idle_in (Writing (rest_at i)) st (image_at i)

  abbrev pub finished : Machine
  finished = idle_in Command st (image_at (length bytes))

  -- whole units are done, and some are left
  module _ (i : ℕ) (more : i < length bytes) (done : i % unit ≡ 0) where
    -- the plan sends whole units
    in_units : InUnits unit (plan_at i)
    in_units =
        let all : length bytes % unit ≡ 0 =
        ap (λ (n : ℕ). n % unit) amount ∙ units_left unit (e + 1) s (omega (arith, t.order)) t.behind t.first in
        record {
          some = size_some unit t.some t.short;
          most = size_most unit t.some t.short;
          units = size_units unit t.some t.short;
          order = omega arith;
          whole = units_left unit (length bytes) i (omega arith) all done;
        }

    -- how many bytes the next packet has, and which
    abbrev count : ℕ
    count = piece_count (plan_at i)

    abbrev piece : List ℕ
    piece = piece_of (data_of (plan_at i)) bytes

    -- so whole units are done behind the packet
    next_units : (i + count) % unit ≡ 0
    next_units = units_behind unit i count done ∙ count_units unit (plan_at i) in_units

    -- the packet has the next bytes
    piece_is : piece ≡ take count (drop i bytes)
    piece_is =
        let n : i + count - i ≡ count = omega arith in
        ap (λ (k : ℕ). take k (drop i bytes)) n

    -- as many as were counted
    piece_length : length piece ≡ count
    piece_length = ap length piece_is ∙ length-take-le count (drop i bytes) (rw length-drop (omega arith))

    -- those before it are as many as are done
    done_length : length (take i bytes) ≡ i
    done_length = length-take-le i bytes (omega arith)

    -- its target ends on a boundary of the unit
    on_boundary : (s + i + length piece) % unit_before (areas_of p) (s + i + length piece) ≡ 0
    on_boundary =
        let some = in_units.some in
        let last = target_unit p s e t (s + i + length piece - 1) (omega (arith, piece_length)) (omega (arith, piece_length, t.order)) in
        let sum : s + i + length piece ≡ s + (i + count) = omega (arith, piece_length) in
        ap (λ (u : ℕ). (s + i + length piece) % u) last ∙ ap (λ (k : ℕ). k % unit) sum ∙ units_behind unit s (i + count) t.first ∙ next_units

    -- its target is still blank
    blank_there : AllBlank (fetched (areas_of p) (s + i) (length piece) (image_at i))
    blank_there =
        let kept : length (image_at i) ≡ total_of (areas_of p) = stored_length (areas_of p) s (take i bytes) image ∙ whole in
        let still = still_blank (areas_of p) t.spot t.same s e t.low t.order t.high image whole (take i bytes) blank in
        let left : BlankFrom t.spot (image_at i) (s + i) e = subst (λ (n : ℕ). BlankFrom t.spot (image_at i) (s + n) e) done_length still in
        fetched_blank (areas_of p) t.spot t.same (s + i) e (omega (arith, t.low)) (omega (arith, t.order)) t.high (image_at i) kept
        (length piece) (omega (arith, piece_length, t.order)) left

    -- the image behind it
    next_image : stored (areas_of p) (s + i) piece (image_at i) ≡ image_at (i + count)
    next_image =
        ap (λ (n : ℕ). stored (areas_of p) (s + n) piece (image_at i)) (sym done_length)
        ∙ sym (stored_parts (areas_of p) s (take i bytes) piece image)
        ∙ ap (λ (l : List ℕ). stored (areas_of p) s (take i bytes ++ l) image) piece_is
        ∙ ap (λ (l : List ℕ). stored (areas_of p) s l image) (sym (take-add i count bytes))

    -- the machine before the packet, and behind it
    abbrev here : Machine
    here = writing_at i

    abbrev there : Machine
    there = idle_in (after Writing (rest_at i) count) st (image_at (i + count))

    -- it is granted and stored
    piece_delivered : sending p here WriteData piece ≡ granted_to there (packet_for WriteData piece)
    piece_delivered =
        let h : Piece unit (data_of (plan_at i)) = data_piece unit (plan_at i) in_units more in
        data_delivered p (image_at i) st (rest_at i) piece (omega (arith, piece_length, h.some)) (omega (arith, piece_length, in_units.most))
        (omega (arith, piece_length)) on_boundary blank_there
        ∙ rw (piece_length, next_image) refl

    -- and its reply passes
    piece_passes : PassesOn p here bytes (data_of (plan_at i))
    piece_passes =
        record {
          consumed = ap (λ (d : Delivery). d.consumed) piece_delivered;
          passed = ap (λ (d : Delivery). judgement_of WriteData d.reply) piece_delivered ∙ status_passes WriteData 0x13 refl refl;
        }

    -- a packet more than for what is left behind it
    one_more_piece : (final : Machine)
        → CarriedOut p bytes (plan_at (i + count)) there (parts_of (length bytes - i - count) size) final
        → CarriedOut p bytes (plan_at i) here (parts_of (length bytes - i) size) final
    one_more_piece final rest =
        let n = parts_of (length bytes - i - count) size in
        let follows = data_follows (plan_at i) refl more in
        let leads : machine_behind p here bytes (data_of (plan_at i)) ≡ there = ap (λ (d : Delivery). d.machine) piece_delivered in
        carried_as refl (sym (parts_more (length bytes - i) size in_units.some (omega arith))) refl
        (one_sent (plan_at i) here final n (data_of (plan_at i)) follows piece_passes (carried_as (sym leads) refl refl rest))

    -- the last packet
    last_piece : length bytes ≤ i + count → CarriedOut p bytes (plan_at i) here (parts_of (length bytes - i) size) finished
    last_piece end =
        let all : i + count ≡ length bytes = omega arith in
        let final : there ≡ finished =
        ap (λ (stage : Stage). idle_in stage st (image_at (i + count))) (sym (after_all Writing (rest_at i) count (omega arith)))
        ∙ ap (λ (n : ℕ). idle_in Command st (image_at n)) all in
        let few : length bytes - i - count + (size - 1) < size = omega (arith, in_units.some) in
        let over = all_sent (plan_at (i + count)) there (nothing_follows (plan_at (i + count)) refl end) in
        one_more_piece finished (carried_as refl (sym (div-eq_of_lt few)) final over)

    -- a packet with more behind it
    next_piece : (final : Machine) → i + count < length bytes
        → CarriedOut p bytes (plan_at (i + count)) (writing_at (i + count)) (parts_of (length bytes - (i + count)) size) final
        → CarriedOut p bytes (plan_at i) here (parts_of (length bytes - i) size) final
    next_piece final on rest =
        let at : s + (i + count) ≡ s + i + count = omega arith in
        let left : length bytes - (i + count) ≡ length bytes - i - count = omega arith in
        let stage = after_some Writing (rest_at i) count {rest = rest_at (i + count)} (λ k. omega arith) (same_range at left) in
        one_more_piece final
        (carried_as (ap (λ (g : Stage). idle_in g st (image_at (i + count))) stage) (ap (λ (k : ℕ). parts_of k size) left) refl rest)

  -- all that is left, from a place on
  pub carried_from : (fuel i : ℕ) → i < length bytes → i % unit ≡ 0 → length bytes - i ≤ fuel
      → CarriedOut p bytes (plan_at i) (writing_at i) (parts_of (length bytes - i) size) finished
  carried_from zero i more done h = absurd (omega arith)
  carried_from (suc fuel) i more done h =
      ⊎_elim
      (λ (end : length bytes ≤ i + count i more done). last_piece i more done end)
      (λ (on : i + count i more done < length bytes).
      next_piece i more done finished on
      (carried_from fuel (i + count i more done) on (next_units i more done) (omega (arith, (in_units i more done).some))))
      (at_most (length bytes) (i + count i more done))
