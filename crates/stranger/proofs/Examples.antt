-- What does not end the claim, and devices that are told apart: by the stored ID before the command stage, by a read in it, and behind a reset out of
-- it, where one write was OK on one device and E2h on the other. Computed. Assumes nothing.
use mathlib.Core.List.{List, [], ◌∷◌, ◌++◌}
use mathlib.Core.Path.{◌≡◌, refl, sym, ap, subst, ◌∙◌}
use Prim.Native.Nat.{ℕ}
use native.Mathlib.Omega.{arith}
use lib.ListN.{length, get_or, replicate}
use Rattle.numbers.specs.Bytes.{number, value_at, bytes_of}
use Rattle.numbers.specs.Same.{same}
use Rattle.verdict.specs.Check.{first_fault}
use Rattle.profile.specs.Areas.{entries, inside, tally}
use Rattle.profile.specs.Places.{place_from}
use Rattle.profile_rules.specs.Rules.{Accepted, profile_checks, head_checks, area_checks, table_checks, tail_checks, unit_fits, config, small_config}
use Rattle.profile_ranges.specs.Ranges.{unit_checks, limited, window_checks, change_checks, purpose_checks, end_checks, range_checks}
use Rattle.id_code.specs.Identity.{config_from, id_at, id_of, is_none, bit127, bit126, total_erase, id_checks}
use Rattle.packet.specs.Packet.{permitted, length_of, measured_of, progress_of, sum_of, ending_checks, ends_well, lack, frame}
use Rattle.packet_fields.specs.Fields.{com_in, com_of, four_at}
use Rattle.flash.specs.Acts.{performed}
use Rattle.flash.specs.Effects.{along, changed, storing, stored, blanked, fetched_at, fetched}
use Rattle.flash_blank.specs.Blank.{searched_from, searched}
use Rattle.state.specs.declared.Stage.TheVariants.{Command}
use Rattle.state.specs.State.{fresh_state}
use Rattle.state.specs.Awaits.{awaits_of}
use Rattle.state.specs.Fits.{stage_fits}
use Rattle.check_command.specs.Commands.{form_checks, own_checks, known_checks, command_checks}
use Rattle.check_transfer.specs.Transfer.{amount_checks, units_checks, target_checks, write_checks}
use Rattle.answer.specs.Answer.{moved}
use Rattle.answer_command.specs.Grants.{entered, grant_of, decided, answer_command}
use Rattle.answer_transfer.specs.Transfers.{read_packet, write_decided, answer_write}
use Rattle.answer_waking.specs.Wake.{awake, wake_of}
use Rattle.device_steps.specs.Step.{Machine, heard, step_in, step_of}
use Rattle.device_steps.specs.Feed.{feed_of}
use Rattle.device_steps.specs.Fits.{FitMachine}
use Rattle.device_steps.proofs.Settles.{empty_fits}
use Rattle.device_steps.proofs.Kept.{fresh_fits}
use Rattle.record_history.specs.History.{Call, deliver, again, fresh_of, hearing, machine_after}
use Rattle.stranger.specs.Alike.{Shut}
use Rattle.stranger.specs.Seen.{seen_of}
use Rattle.stranger.specs.Example.{tiny, id_with, tiny_image, tiny_line, tiny_seen}
use Rattle.stranger.specs.Apart.{replies_seen, ByTheId, ByCommands, NotAgain}
use Rattle.stranger.proofs.Calls.{fresh_shut}

tiny_accepted : Accepted tiny
unfolding Accepted first_fault profile_checks head_checks area_checks table_checks tail_checks unit_fits config small_config entries tally
tiny_accepted = refl

-- waking up, and authenticating by the ID that starts with C0h and ends with FFh
abbrev authenticates : List Call
authenticates =
    deliver (0x00 ∷ 0x00 ∷ [])
    ∷ deliver (0x55 ∷ [])
    ∷ deliver (0x01 ∷ 0x00 ∷ 0x11 ∷ 0x30 ∷ id_with 0xC0 0xFF ++ 0x03 ∷ 0x03 ∷ [])
    ∷ []

-- what comes back: 00h, C3h, then OK or DBh
abbrev answers_ok : List (List ℕ)
answers_ok = (0x00 ∷ []) ∷ (0xC3 ∷ []) ∷ (0x81 ∷ 0x00 ∷ 0x02 ∷ 0x30 ∷ 0x00 ∷ 0xCE ∷ 0x03 ∷ []) ∷ []

abbrev answers_db : List (List ℕ)
answers_db = (0x00 ∷ []) ∷ (0xC3 ∷ []) ∷ (0x81 ∷ 0x00 ∷ 0x02 ∷ 0xB0 ∷ 0xDB ∷ 0x73 ∷ 0x03 ∷ []) ∷ []

-- what comes back from a device that tiny_image these
abbrev back : ℕ → ℕ → ℕ → ℕ → List (List ℕ)
back first four seven last = replies_seen tiny (fresh_of tiny (tiny_image 0x00 first four seven last)) authenticates

-- by the ID: its own; another; the same as the first with another byte behind it; one that ends otherwise
authenticated : (back 0xC0 0xFF 0xFF 0xFF ≡ answers_ok)
    × (back 0xC1 0xFF 0xFF 0xFF ≡ answers_db)
    × (back 0xC0 0xFF 0xFF 0x00 ≡ answers_ok)
    × (back 0xC0 0x00 0x00 0x00 ≡ answers_db)
unfolding seen_of feed_of step_of step_in heard wake_of awake id_of config_from id_at is_none same answer_command decided grant_of entered total_erase bit126 id_checks bit127
    command_checks known_checks form_checks own_checks com_of com_in fresh_state performed
    entries inside place_from first_fault progress_of measured_of length_of permitted ending_checks sum_of lack frame number value_at bytes_of
authenticated = (refl, refl, refl, refl)

-- a byte of a reply
abbrev byte_of : ℕ → ℕ → List (List ℕ) → ℕ
byte_of reply place replies = get_or (get_or replies reply []) place 0

in_or_out : answers_ok ≡ answers_db → ⊥
in_or_out e = let z : ◌≡◌ {A = ℕ} 0x00 0xDB = ap (byte_of 2 4) e in absurd (omega arith)

-- everything that does not end the claim, whatever the user byte is
pub goes_on : (user : ℕ) → seen_of tiny (fresh_of tiny (tiny_image user 0xC0 0xFF 0xFF 0xFF)) tiny_line ≡ tiny_seen
unfolding seen_of feed_of step_of step_in heard wake_of awake id_of config_from id_at is_none same answer_command decided grant_of entered total_erase bit126 id_checks bit127
    command_checks known_checks form_checks own_checks com_of com_in fresh_state performed blanked
    entries inside place_from first_fault progress_of measured_of length_of permitted ending_checks sum_of lack frame number value_at bytes_of
goes_on user = refl

pub id_tells : ByTheId
unfolding entries tally
id_tells =
    record {
      apart =
          record {
            profile = tiny;
            first = fresh_of tiny (tiny_image 0x00 0xC0 0xFF 0xFF 0xFF);
            second = fresh_of tiny (tiny_image 0x00 0xC1 0xFF 0xFF 0xFF);
            accepted = tiny_accepted;
            fits = fresh_fits tiny (tiny_image 0x00 0xC0 0xFF 0xFF 0xFF);
            whole = refl;
            whole' = refl;
            state = refl;
            held = refl;
            calls = authenticates;
            differ = λ e. in_or_out (sym authenticated.0 ∙ e ∙ authenticated.1);
          };
      shut = fresh_shut tiny (tiny_image 0x00 0xC0 0xFF 0xFF 0xFF);
    }

-- a device in the command stage, with this user byte, and a read of it
abbrev inside_with : ℕ → Machine
inside_with user = record { image = tiny_image user 0xC0 0xFF 0xFF 0xFF; held = []; state = moved Command (fresh_state tiny) }

abbrev reads : List Call
reads = deliver (0x01 ∷ 0x00 ∷ 0x09 ∷ 0x15 ∷ replicate 8 0x00 ++ 0xE2 ∷ 0x03 ∷ []) ∷ []

-- the byte comes back
reads_back : (user : ℕ) → byte_of 0 4 (replies_seen tiny (inside_with user) reads) ≡ user
unfolding seen_of feed_of step_of step_in heard answer_command decided grant_of read_packet fetched fetched_at
    command_checks known_checks form_checks own_checks com_of com_in four_at fresh_state performed range_checks end_checks purpose_checks change_checks unit_checks window_checks limited
    entries inside place_from first_fault progress_of measured_of length_of permitted ending_checks sum_of lack frame number value_at bytes_of
reads_back user = refl

pub commands_tell : ByCommands
unfolding id_of config_from id_at stage_fits fresh_state entries tally
commands_tell =
    record {
      apart =
          record {
            profile = tiny;
            first = inside_with 0x00;
            second = inside_with 0x01;
            accepted = tiny_accepted;
            fits = record { count = refl; held = empty_fits (awaits_of Command); stage = refl };
            whole = refl;
            whole' = refl;
            state = refl;
            held = refl;
            calls = reads;
            differ = λ e. let z : ◌≡◌ {A = ℕ} 0x00 0x01 = sym (reads_back 0x00) ∙ ap (byte_of 0 4) e ∙ reads_back 0x01 in absurd (omega arith);
          };
      alike = record { state = refl; held = refl; stored = record { size = refl; id = refl } };
    }

-- in the command stage 00h is written into the second unit; then a reset
abbrev rewrites : List Call
rewrites =
    deliver (0x01 ∷ 0x00 ∷ 0x09 ∷ 0x13 ∷ 0x01 ∷ 0x00 ∷ 0x00 ∷ 0x14 ∷ 0x01 ∷ 0x00 ∷ 0x00 ∷ 0x1F ∷ 0xAF ∷ 0x03 ∷ [])
    ∷ deliver (0x81 ∷ 0x00 ∷ 0x0D ∷ 0x13 ∷ replicate 12 0x00 ++ 0xE0 ∷ 0x03 ∷ [])
    ∷ again
    ∷ []

-- where the unit was blank the ID is another now; where its last byte was not, nothing was stored
rewritten : (last : ℕ) → Machine
rewritten last = machine_after tiny (fresh_of tiny (tiny_image 0x00 0xC0 0xFF 0xFF last)) (authenticates ++ rewrites)

stored_or_not : (rewritten 0xFF ≡ fresh_of tiny (tiny_image 0x00 0xC0 0x00 0x00 0x00)) × (rewritten 0x00 ≡ fresh_of tiny (tiny_image 0x00 0xC0 0xFF 0xFF 0x00))
unfolding rewritten machine_after hearing step_of step_in heard wake_of awake id_of config_from id_at is_none same answer_command decided grant_of entered total_erase bit126 id_checks bit127
    command_checks known_checks form_checks own_checks com_of com_in four_at fresh_state performed range_checks end_checks purpose_checks change_checks unit_checks window_checks limited
    answer_write write_decided write_checks target_checks units_checks amount_checks searched searched_from stored storing changed along fetched fetched_at
    entries inside place_from first_fault progress_of measured_of length_of permitted ending_checks ends_well sum_of lack frame number value_at bytes_of
stored_or_not = (refl, refl)

-- they were alike: the byte is no part of the ID
pub not_again : NotAgain
unfolding id_of config_from id_at entries tally rewritten
not_again =
    record {
      apart =
          record {
            profile = tiny;
            first = rewritten 0xFF;
            second = rewritten 0x00;
            accepted = tiny_accepted;
            fits = subst (FitMachine tiny) (sym stored_or_not.0) (fresh_fits tiny (tiny_image 0x00 0xC0 0x00 0x00 0x00));
            whole = ap (λ (m : Machine). length m.image) stored_or_not.0;
            whole' = ap (λ (m : Machine). length m.image) stored_or_not.1;
            state = ap (λ (m : Machine). m.state) stored_or_not.0 ∙ sym (ap (λ (m : Machine). m.state) stored_or_not.1);
            held = ap (λ (m : Machine). m.held) stored_or_not.0 ∙ sym (ap (λ (m : Machine). m.held) stored_or_not.1);
            calls = authenticates;
            differ =
                λ e.
                in_or_out
                (sym (ap (λ (m : Machine). replies_seen tiny m authenticates) stored_or_not.1 ∙ authenticated.2)
                ∙ sym e
                ∙ ap (λ (m : Machine). replies_seen tiny m authenticates) stored_or_not.0
                ∙ authenticated.3);
          };
      shut = subst Shut (sym stored_or_not.0) (fresh_shut tiny (tiny_image 0x00 0xC0 0x00 0x00 0x00));
      was = fresh_of tiny (tiny_image 0x00 0xC0 0xFF 0xFF 0xFF);
      was' = fresh_of tiny (tiny_image 0x00 0xC0 0xFF 0xFF 0x00);
      alike = record { state = refl; held = refl; stored = record { size = refl; id = refl } };
      was_shut = fresh_shut tiny (tiny_image 0x00 0xC0 0xFF 0xFF 0xFF);
      history = authenticates ++ rewrites;
      came = refl;
      came' = refl;
    }
