-- The definitions are total, so they have an answer also for what never comes. None of these answers decides anything on an accepted call: where a machine
-- fits, its profile is accepted, and its image has the profile's length, each byte, entry and unit that is looked at is there. Assumes nothing.
use mathlib.Core.Bool.{true}
use mathlib.Core.List.{List, [], ◌∷◌, ◌++◌}
use Rattle.std.specs.Prelude.{None, Some, Ok}
use mathlib.Core.Path.{◌≡◌, sym, ap, ◌∙◌}
use Prim.Native.Nat.{ℕ, ◌+◌, ◌-◌, ◌≤◌, ◌<◌, min}
use native.Mathlib.Omega.{arith}
use lib.ListN.{length, take, drop, get_or, length-drop}
use lib.Seq.{length-take-le, take_all}
use borrow.Author.Tests.{leb-false}
use Rattle.numbers.proofs.There.{entry_there}
use Rattle.verdict.specs.Check.{first_fault, NoneApplies}
use Rattle.verdict.proofs.FirstFault.{clear}
use Rattle.baud.proofs.Exact.{granted_fits}
use Rattle.baud.proofs.Divisors.{Divides, divides}
use Rattle.profile.specs.declared.Area.{Area}
use Rattle.profile.specs.declared.Profile.{Profile}
use Rattle.profile.specs.declared.Spot.{Spot}
use Rattle.profile.specs.Areas.{areas_of, no_area, total_of}
use Rattle.profile.specs.Places.{place_of}
use Rattle.profile.proofs.Table.{areas_there}
use Rattle.profile_rules.specs.Rules.{Accepted}
use Rattle.profile_rules.proofs.Accepted.{sound}
use Rattle.profile_ranges.specs.declared.Purpose.{Purpose}
use Rattle.profile_ranges.specs.declared.Purpose.TheVariants.{Erase as ToErase, Write as ToWrite, Read as ToRead}
use Rattle.profile_ranges.proofs.Granted.{granted_placed}
use Rattle.packet.specs.declared.Kind.{Kind}
use Rattle.packet.specs.declared.Progress.TheVariants.{Complete, Excess}
use Rattle.packet.specs.Packet.{progress_of, is_complete, etx_of}
use Rattle.packet.proofs.Laws.{impossible}
use Rattle.packet.proofs.Gathering.{is_complete_lem}
use Rattle.packet.proofs.Partial.{is_partial_lem}
use Rattle.packet.proofs.There.{complete_least, etx_there, no_excess}
use Rattle.packet_fields.specs.declared.Com.TheVariants.{Erase, Read, Baud, Area as AreaCommand, Unknown}
use Rattle.packet_fields.specs.Fields.{com_of, code_at, info_count, info_of, sad_of, ead_of, brt_of, area_number_of}
use Rattle.packet_fields.proofs.Laws.{code_there, info_whole}
use Rattle.id_code.specs.Identity.{config_from, id_of, id_at}
use Rattle.id_code.proofs.Codes.{id_whole}
use Rattle.flash.specs.Effects.{fetched}
use Rattle.state.specs.declared.Awaited.{Awaited}
use Rattle.state.specs.declared.Awaited.TheVariants.{WakeUp, Packet}
use Rattle.state.specs.declared.Pulse.{Pulse}
use Rattle.state.specs.declared.Range.{Range}
use Rattle.state.specs.declared.Stage.{Stage}
use Rattle.state.specs.declared.Stage.TheVariants.{Setting, Writing, Reading}
use Rattle.state.specs.declared.State.{State}
use Rattle.state.specs.State.{window_of}
use Rattle.state.specs.Awaits.{awaits_of, held_fits}
use Rattle.state.specs.Fits.{stage_fits}
use Rattle.check_command.specs.Commands.{area_number_checks, own_checks, command_checks}
use Rattle.check_command.proofs.Granted.{granted_form, own_of, granted_erase, granted_read}
use Rattle.check_transfer.specs.Transfer.{unit_before}
use Rattle.check_transfer.proofs.Boundary.{unit_there as unit-permitted}
use Rattle.check_transfer.proofs.There.{part_whole}
use Rattle.answer_command.specs.Grants.{span_of}
use Rattle.answer_transfer.specs.Transfers.{read_count}
use Rattle.device_calls.specs.Calls.{Lent, feed_refusal}
use Rattle.device_calls.specs.Ready.{Ready}
use Rattle.device_calls.proofs.Rows.{rows_ready}
use Rattle.device_steps.specs.Step.{Machine, machine_of}
use Rattle.device_steps.specs.Feed.{feed_of}
use Rattle.device_steps.specs.Records.{is_unfit, progress_in, heard_with, completes, refuses}
use Rattle.device_steps.specs.Fits.{FitMachine}
use Rattle.device_steps.proofs.Config.{config_there}
use Rattle.device_steps.proofs.Going.{above, Going, going, spanned}
use Rattle.device_steps.proofs.Kept.{feed_fits, feed_length, machine_fits}

-- what the laws below ask for, every machine that an accepted call meets has: before its first byte, and behind any of them
pub record Met (p : Profile) (m : Machine) : Type 0 where
  pub profile : Accepted p
  pub fits : FitMachine p m
  pub image : length m.image ≡ total_of (areas_of p)

pub met : (p : Profile) (st : State) (l : Lent) → feed_refusal p st l ≡ Ok tt → (bs : List ℕ) → Met p (feed_of p (machine_of st l) bs).machine
met p st l e bs =
    let r : Ready p st l = rows_ready p st l e in
    record {
      profile = r.profile;
      fits = feed_fits p r.profile (machine_of st l) bs (machine_fits p st l r.fit);
      image = feed_length p (machine_of st l) bs ∙ r.image;
    }

-- a request that is complete: every byte of it that is looked at
pub record PacketThere (q : List ℕ) : Type 0 where
  pub least : 6 ≤ length q
  pub start : (d : ℕ) → get_or q 0 d ≡ get_or q 0 0
  pub code : (d : ℕ) → get_or q 3 d ≡ code_at q
  pub etx : (d : ℕ) → get_or q (length q - 1) d ≡ etx_of q
  -- its information, and as many data bytes of it as are stored
  pub info : length (info_of q) ≡ info_count q
  pub stored : take (info_count q) (info_of q) ≡ info_of q

there : (kind : Kind) (q : List ℕ) → progress_of kind q ≡ Complete → PacketThere q
there kind q c =
    let least : 6 ≤ length q = complete_least kind q c in
    let info : length (info_of q) ≡ info_count q = info_whole q least in
    record {
      least = least;
      start = λ d. entry_there q 0 d 0 (omega arith);
      code = code_there q least;
      etx = etx_there kind q c;
      info = info;
      stored = take_all (info_count q) (info_of q) (omega arith);
    }

-- a byte that comes
module _ (m : Machine) (b : ℕ) where
  abbrev q : List ℕ
  q = heard_with m b

  pub packet_there : completes m b ≡ true → PacketThere q
  unfolding completes progress_in
  packet_there c = by (awaits_of m.state.stage) c
    where
      by : (a : Awaited) → is_complete (progress_in a q) ≡ true → PacketThere q
      by (WakeUp u) e = impossible (cc)
      by (Packet kind) e = there kind q (is_complete_lem (progress_of kind q) e)

  -- setting completes no packet and refuses no length, so the clauses that it has for them are never asked
  pub setting_completes_none : (u : Pulse) → m.state.stage ≡ Setting u → completes m b ≡ true → ⊥
  unfolding completes progress_in
  setting_completes_none u e c =
      let f : is_complete (progress_in (awaits_of (Setting u)) q) ≡ true = ap (λ (s : Stage). is_complete (progress_in (awaits_of s) q)) (sym e) ∙ c in
      impossible (cc)

  pub setting_refuses_none : (u : Pulse) → m.state.stage ≡ Setting u → refuses m b ≡ true → ⊥
  unfolding refuses progress_in
  setting_refuses_none u e c =
      let f : is_unfit (progress_in (awaits_of (Setting u)) q) ≡ true = ap (λ (s : Stage). is_unfit (progress_in (awaits_of s) q)) (sym e) ∙ c in
      impossible (cc)

-- held bytes that fit and one more are never more than a packet
held_excess : (a : Awaited) (held : List ℕ) (b : ℕ) → held_fits a held ≡ true → progress_in a (held ++ b ∷ []) ≡ Excess → ⊥
unfolding held_fits progress_in
held_excess (WakeUp u) held b h e = impossible (cc)
held_excess (Packet kind) held b h e = no_excess kind held b (is_partial_lem (progress_of kind held) h) e

pub never_excess : (p : Profile) (m : Machine) (b : ℕ) → FitMachine p m → progress_in (awaits_of m.state.stage) (heard_with m b) ≡ Excess → ⊥
never_excess p m b f = held_excess (awaits_of m.state.stage) m.held b f.held

-- a write or a read that is under way
module _ (p : Profile) (accepted : Accepted p) (m : Machine) (fits : FitMachine p m) where
  writes : (r : Range) → m.state.stage ≡ Writing r → Going (areas_of p) (window_of p m.state) ToWrite r
  unfolding stage_fits
  writes r e = going (areas_of p) (window_of p m.state) ToWrite r (ap (stage_fits (areas_of p) (window_of p m.state)) (sym e) ∙ fits.stage)

  reads : (r : Range) → m.state.stage ≡ Reading r → Going (areas_of p) (window_of p m.state) ToRead r
  unfolding stage_fits
  reads r e = going (areas_of p) (window_of p m.state) ToRead r (ap (stage_fits (areas_of p) (window_of p m.state)) (sym e) ∙ fits.stage)

  -- every address that is left to write has a place, so no byte of a packet is dropped
  pub target_placed : (r : Range) → m.state.stage ≡ Writing r → (x : ℕ) → r.next ≤ x → x < r.next + r.left → place_of (areas_of p) x ≡ None → ⊥
  target_placed r e x from to =
      let g : Going (areas_of p) (window_of p m.state) ToWrite r = writes r e in
      granted_placed (areas_of p) (window_of p m.state) ToWrite r.next (r.next + r.left - 1) g.permits x from (omega arith)

  -- the unit of the last byte of a packet that is no longer than what is left: no remainder by 0 is taken
  pub unit_there : (r : Range) → m.state.stage ≡ Writing r → (count : ℕ) → 1 ≤ count → count ≤ r.left → 1 ≤ unit_before (areas_of p) (r.next + count)
  unit_there r e count some most =
      let g : Going (areas_of p) (window_of p m.state) ToWrite r = writes r e in
      unit-permitted (areas_of p) (above 0 (areas_of p) (sound p accepted).areas) (window_of p m.state) r.next (r.next + r.left - 1) count
      g.permits some (omega arith)

  module _ (whole : length m.image ≡ total_of (areas_of p)) where
    front_whole : (purpose : Purpose) (r : Range) → Going (areas_of p) (window_of p m.state) purpose r → (count : ℕ) → count ≤ r.left
        → length (fetched (areas_of p) r.next count m.image) ≡ count
    front_whole purpose r g count most =
        part_whole (areas_of p) (above 0 (areas_of p) (sound p accepted).areas) (window_of p m.state) purpose r.next (r.next + r.left - 1) g.permits
        m.image whole r.next count (omega arith) (omega arith)

    -- a packet of a read has as many bytes as it says: the next one, and the first one of a command that is granted
    pub read_whole : (r : Range) → m.state.stage ≡ Reading r → length (fetched (areas_of p) r.next (read_count r) m.image) ≡ read_count r
    read_whole r e = front_whole ToRead r (reads r e) (read_count r) (omega arith)

    pub first_whole : (q : List ℕ) → first_fault (command_checks p m.state q) ≡ None → com_of (code_at q) ≡ Read
        → length (fetched (areas_of p) (sad_of q) (read_count (span_of (sad_of q) (ead_of q))) m.image) ≡ read_count (span_of (sad_of q) (ead_of q))
    first_whole q granted e =
        let r : Range = span_of (sad_of q) (ead_of q) in
        let g = spanned (areas_of p) (sound p accepted).areas (window_of p m.state) ToRead (sad_of q) (ead_of q) (granted_read p m.state q granted e) in
        front_whole ToRead r g (read_count r) (omega arith)

    -- the blank check sees all of a packet's target
    pub target_whole : (r : Range) → m.state.stage ≡ Writing r → (count : ℕ) → count ≤ r.left
        → length (fetched (areas_of p) r.next count m.image) ≡ count
    target_whole r e = front_whole ToWrite r (writes r e)

-- a command that is granted
module _ (p : Profile) (st : State) (q : List ℕ) (granted : first_fault (command_checks p st q) ≡ None) where
  pub unknown_not_granted : com_of (code_at q) ≡ Unknown → ⊥
  unknown_not_granted = (granted_form p st q granted).known

  -- every address that is erased has a place
  pub erase_placed : com_of (code_at q) ≡ Erase → (x : ℕ) → sad_of q ≤ x → x ≤ ead_of q → place_of (areas_of p) x ≡ None → ⊥
  erase_placed e = granted_placed (areas_of p) (window_of p st) ToErase (sad_of q) (ead_of q) (granted_erase p st q granted e)

  -- an area's number is one of the areas', and the table, an array of eight entries, has its entry
  pub area_below : com_of (code_at q) ≡ AreaCommand → area_number_of q < p.noa
  unfolding own_checks area_number_checks NoneApplies
  area_below e = leb-false p.noa (area_number_of q) (clear (area_number_checks p.noa q) (own_of p st q granted AreaCommand e)).0

  pub area_there : Accepted p → length p.areas ≡ 8 → com_of (code_at q) ≡ AreaCommand → (d : Area)
      → get_or p.areas (area_number_of q) d ≡ get_or p.areas (area_number_of q) no_area
  area_there accepted eight e d =
      let below : area_number_of q < p.noa = area_below e in
      let most : p.noa ≤ 8 = (sound p accepted).at_most_eight in
      entry_there p.areas (area_number_of q) d no_area (omega arith)

  -- the setting of a rate divides by no 0
  pub rate_divides : Accepted p → com_of (code_at q) ≡ Baud → Divides p.sci (brt_of q)
  unfolding own_checks
  rate_divides accepted e =
      let some : brt_of q ≡ 0 → ⊥ = (granted_fits p.sci p.rmb (brt_of q) (own_of p st q granted Baud e)).nonzero in
      divides p.sci (brt_of q) (sound p accepted).has_clock (omega arith)

-- an accepted profile: the setting of a fresh device divides by no 0, and the areas are NOA of the table's eight entries
module _ (p : Profile) (accepted : Accepted p) where
  pub fresh_divides : Divides p.sci 9600
  fresh_divides = divides p.sci 9600 (sound p accepted).has_clock (omega arith)

  pub all_areas : length p.areas ≡ 8 → areas_of p ≡ take p.noa p.areas
  all_areas eight =
      let most : p.noa ≤ 8 = (sound p accepted).at_most_eight in
      let n : min p.noa 8 ≡ p.noa = omega arith in
      areas_there p eight ∙ ap (λ (k : ℕ). take k p.areas) n

-- the ID is sixteen bytes of the image
pub record IdThere (areas : List Area) (image : List ℕ) : Type 0 where
  pub spot : Spot
  pub found : config_from 0 areas ≡ Some spot
  pub is : id_of areas image ≡ take 16 (drop spot.base image)
  pub count : length (take 16 (drop spot.base image)) ≡ 16

pub id_there : (p : Profile) → Accepted p → (image : List ℕ) → length image ≡ total_of (areas_of p) → IdThere (areas_of p) image
unfolding id_of
id_there p accepted image whole =
    let s = sound p accepted in
    let c = config_there 0 (areas_of p) (omega (arith, s.one_config)) s.no_small_config in
    let k : 16 ≤ length (drop c.spot.base image) = rw length-drop (omega (arith, c.enough)) in
    record {
      spot = c.spot;
      found = c.found;
      is = ap (λ place. id_at place image) c.found ∙ id_whole c.spot image (omega (arith, c.enough));
      count = length-take-le 16 (drop c.spot.base image) k;
    }
