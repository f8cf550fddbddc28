-- What building leaves in the lent buffer, and what it answers.
use Rattle.std.specs.Prelude.{cond, List, ◌≡◌, ℕ, ◌+◌, length, Option, None, Some, Result, Ok, Err}
use Rattle.verdict.specs.Check.{first_fault}
use Rattle.packet.specs.declared.Kind.{Kind}
use Rattle.packet.specs.Packet.{frame}
use Rattle.packet.specs.Frame.{front, has_room}
use Rattle.host_request.specs.declared.Request.{Request}
use Rattle.host_request.specs.declared.Unbuilt.{Unbuilt}
use Rattle.host_request.specs.declared.Unbuilt.TheVariants.{NoRoom}
use Rattle.host_request.specs.Request.{packet_for, build_checks}

-- the length of the packet q, or why there is none
abbrev pub built_by : Option Unbuilt → List ℕ → Result ℕ Unbuilt
built_by None q = Ok (length q)
built_by (Some why) q = Err why

-- the buffer: the packet q at its front, or as it was
abbrev pub placed_by : Option Unbuilt → List ℕ → List ℕ → List ℕ
placed_by None q buffer = front q buffer
placed_by (Some why) q buffer = buffer

abbrev pub unbuilt : Request → List ℕ → List ℕ → Option Unbuilt
unbuilt r bytes buffer = first_fault (build_checks r bytes (length buffer))

pub record Builds (request : Request) (bytes before after : List ℕ) (r : Result ℕ Unbuilt) : Type 0 where
  pub answers : r ≡ built_by (unbuilt request bytes before) (packet_for request bytes)
  pub leaves : after ≡ placed_by (unbuilt request bytes before) (packet_for request bytes) before

-- what placing a packet with these contents answers and leaves: no more than what the kind permits, and where there is room
pub record Placed (kind : Kind) (contents before after : List ℕ) (r : Result ℕ Unbuilt) : Type 0 where
  pub answers : r ≡ cond (has_room kind contents before) (Ok (length contents + 5)) (Err NoRoom)
  pub leaves : after ≡ cond (has_room kind contents before) (front (frame kind contents) before) before
