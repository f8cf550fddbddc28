-- A device of 37 bytes and a line with everything that does not end the claim: an unread byte, a packet that is cut, a total erase, a reset.
use Rattle.std.specs.Prelude.{List, [], ◌∷◌, ◌++◌, ℕ, replicate}
use Rattle.profile.specs.declared.Profile.{Profile}
use Rattle.profile.specs.Areas.{no_area}
use Rattle.profile.specs.Bench.{on_bench}
use Rattle.state.specs.declared.Pulse.TheVariants.{Acknowledged}
use Rattle.state.specs.declared.Stage.TheVariants.{Setting, Authentication, Command}
use Rattle.state.specs.declared.State.{State}
use Rattle.state.specs.State.{fresh_state, with_id, with_held}
use Rattle.answer.specs.Answer.{moved}
use Rattle.record_history.specs.History.{Call, deliver, again}
use Rattle.stranger.specs.Seen.{Seen}

-- one byte of user flash and 36 of config, in write units of 12: the ID ends within the second
abbrev pub tiny : Profile
tiny =
    on_bench 2
    (record { koa = 0; sad = 0x00000000; ead = 0x00000000; eau = 1; wau = 1 }
    ∷ record { koa = 2; sad = 0x01000008; ead = 0x0100002B; eau = 0; wau = 12 }
    ∷ replicate 6 no_area)

-- the ID: a first byte, eleven 00h and four that are the same
abbrev pub id_with : ℕ → ℕ → List ℕ
id_with first four = first ∷ replicate 11 0x00 ++ replicate 4 four

-- the user byte; the ID; the rest of the second unit, seven bytes and one; the third
abbrev pub tiny_image : ℕ → ℕ → ℕ → ℕ → ℕ → List ℕ
tiny_image user first four seven last = user ∷ id_with first four ++ replicate 7 seven ++ last ∷ replicate 12 0xFF

-- the wake-up, whose third byte is left unread and sent again; the total-erase code in two pieces; a reset; the wake-up, behind which no ID is stored,
-- so that it enters the command stage; and an inquiry, of which nothing is seen any more
abbrev pub tiny_line : List Call
tiny_line =
    deliver (0x00 ∷ 0x00 ∷ 0x55 ∷ [])
    ∷ deliver (0x55 ∷ [])
    ∷ deliver (0x01 ∷ 0x00 ∷ 0x11 ∷ [])
    ∷ deliver (0x30 ∷ 0x41 ∷ 0x4C ∷ 0x65 ∷ 0x52 ∷ 0x41 ∷ 0x53 ∷ 0x45 ∷ replicate 9 0xFF ++ 0xAB ∷ 0x03 ∷ [])
    ∷ again
    ∷ deliver (0x00 ∷ 0x00 ∷ [])
    ∷ deliver (0x55 ∷ [])
    ∷ deliver (0x01 ∷ 0x00 ∷ 0x01 ∷ 0x00 ∷ 0xFF ∷ 0x03 ∷ [])
    ∷ []

-- the fresh state, once it is acknowledged, and authentication stage with an ID latched
abbrev pub tiny_acknowledged : State
tiny_acknowledged = moved (Setting Acknowledged) (fresh_state tiny)

abbrev pub tiny_awake : State
tiny_awake = with_id (id_with 0xC0 0xFF) (moved Authentication (fresh_state tiny))

abbrev pub tiny_seen : List Seen
tiny_seen =
    record { reply = 0x00 ∷ []; consumed = 2; state = tiny_acknowledged; held = [] }
    ∷ record { reply = 0xC3 ∷ []; consumed = 1; state = tiny_awake; held = [] }
    ∷ record { reply = []; consumed = 3; state = with_held 3 tiny_awake; held = 0x01 ∷ 0x00 ∷ 0x11 ∷ [] }
    ∷ record { reply = 0x81 ∷ 0x00 ∷ 0x02 ∷ 0x30 ∷ 0x00 ∷ 0xCE ∷ 0x03 ∷ []; consumed = 19; state = fresh_state tiny; held = [] }
    ∷ record { reply = []; consumed = 0; state = fresh_state tiny; held = [] }
    ∷ record { reply = 0x00 ∷ []; consumed = 2; state = tiny_acknowledged; held = [] }
    ∷ record { reply = 0xC3 ∷ []; consumed = 1; state = with_id (replicate 16 0xFF) (moved Command (fresh_state tiny)); held = [] }
    ∷ []
