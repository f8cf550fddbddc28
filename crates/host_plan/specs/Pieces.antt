-- All that a plan sends: its command, then the data in pieces of whole units.
use Rattle.std.specs.Prelude.{List, [], ◌∷◌, ◌++◌, ◌≡◌, ℕ, ◌-◌, ◌%◌, ◌≤◌, Some, None}
use Rattle.packet.specs.Frame.{longest_data}
use Rattle.host_request.specs.declared.Request.TheVariants.{WriteData}
use Rattle.host_plan.specs.declared.Plan.{Plan}
use Rattle.host_plan.specs.declared.Sending.{Sending}
use Rattle.host_plan.specs.Plan.{command_of, following_of, piece_of}

-- the requests of a plan to its end, in order
pub data SendsAll : Plan → List Sending → Type 0 where
  nothing_left : (plan : Plan) → following_of plan ≡ None → SendsAll plan []
  one_more : (plan : Plan) (s : Sending) (more : List Sending) → following_of plan ≡ Some s → SendsAll s.rest more → SendsAll plan (s ∷ more)

-- a data packet of 1 to 1,024 bytes, whole units
pub record Piece (unit : ℕ) (s : Sending) : Type 0 where
  pub request : s.request ≡ WriteData
  pub some : 1 ≤ s.to - s.from
  pub most : s.to - s.from ≤ longest_data
  pub whole : (s.to - s.from) % unit ≡ 0

unfoldable pub AllPieces : ℕ → List Sending → Type 0
AllPieces unit [] = Unit {0}
AllPieces unit (s ∷ more) = Piece unit s × AllPieces unit more

-- the data that goes with requests, joined in their order
unfoldable pub pieces_joined : List Sending → List ℕ → List ℕ
pieces_joined [] bytes = []
pieces_joined (s ∷ more) bytes = piece_of s bytes ++ pieces_joined more bytes

-- a plan comes to its end: the command, then all of the data, none twice, in pieces of whole units
pub record InPieces (unit : ℕ) (plan : Plan) (bytes : List ℕ) : Type 0 where
  pub sent : List Sending
  pub ends : SendsAll plan (command_of plan ∷ sent)
  pub units : AllPieces unit sent
  pub all : pieces_joined sent bytes ≡ bytes
