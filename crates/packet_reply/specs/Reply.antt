-- Replies: status and data packets.
use Rattle.std.specs.Prelude.{cond, List, [], ◌∷◌, ℕ, ◌+◌, ltb, Ok, Err}
use Rattle.verdict.specs.Code.{status_of}
use Rattle.packet.specs.declared.Kind.TheVariants.{Data}
use Rattle.verdict.specs.Check.{Verdict}
use Rattle.packet.specs.Packet.{frame}

-- bit 7 set
abbrev pub marked : ℕ → ℕ
marked n = cond (ltb n 128) (n + 128) n

-- RES: the request's own COM or RES if granted, otherwise with bit 7 set
abbrev pub res_of : ℕ → Verdict → ℕ
res_of request (Ok tt) = request
res_of request (Err reason) = marked request

-- what a status reply holds between length and SUM
abbrev pub status_contents : ℕ → Verdict → List ℕ
status_contents request verdict = res_of request verdict ∷ status_of verdict ∷ []

abbrev pub data_reply : ℕ → List ℕ → List ℕ
data_reply res bytes = frame Data (res ∷ bytes)

-- 81 00 02 RES STS SUM 03
abbrev pub status_reply : ℕ → Verdict → List ℕ
status_reply request verdict = frame Data (status_contents request verdict)
