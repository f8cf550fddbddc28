-- Packets that are built: one at the front of a lent buffer, and the buffers that are long enough for any.
use Rattle.std.specs.Prelude.{◌≡◌, ℕ, ◌+◌, ◌≤◌, Bool, cond, ◌&&◌, List, ◌++◌, length, drop, nat_le, Option, Some, None}
use Rattle.packet.specs.declared.Kind.{Kind}
use Rattle.packet.specs.Packet.{permitted, frame}

-- the longest data packet, and the data bytes that it has
abbrev pub longest_packet : ℕ
longest_packet = 1030

abbrev pub longest_data : ℕ
longest_data = 1024

-- a buffer that any packet fits into
abbrev pub Roomy : List ℕ → Type 0
Roomy buffer = longest_packet ≤ length buffer

-- a buffer with bytes at its front
unfoldable pub front : List ℕ → List ℕ → List ℕ
front bytes buffer = bytes ++ drop (length bytes) buffer

-- the kind permits a packet with these contents, and the buffer has room for it
unfoldable pub has_room : Kind → List ℕ → List ℕ → Bool
has_room kind contents buffer = permitted kind (length contents) && nat_le (length contents + 5) (length buffer)

-- what building a packet leaves, and what it answers: the packet's length, where there is one
pub record Framed (kind : Kind) (contents before after : List ℕ) (r : Option ℕ) : Type 0 where
  pub answers : r ≡ cond (has_room kind contents before) (Some (length contents + 5)) None
  pub leaves : after ≡ cond (has_room kind contents before) (front (frame kind contents) before) before
