-- What a reader of status replies may rely on: STS, the length, OK told from refused, the paper's examples. Assumes nothing.
use mathlib.Core.List.{List, [], ◌∷◌, map}
use mathlib.Core.Path.{◌≡◌, refl, sym, ap, ◌∙◌}
use Prim.Native.Nat.{ℕ, ◌<◌}
use native.Mathlib.Omega.{arith}
use lib.ListN.{length, get_or}
use Rattle.numbers.specs.Bytes.{bytes_of}
use Rattle.verdict.specs.declared.Reason.{Reason}
use Rattle.verdict.specs.declared.Reason.TheVariants.{WrongEtx, WrongSum, UnknownCommand, WrongStage, NoSuchArea, DirtyFlash}
use Rattle.verdict.specs.Code.{code_of, status_of}
use Rattle.verdict.proofs.Codes.{code_positive}
use Rattle.packet.specs.Packet.{sum_of, lack, frame}
use Rattle.verdict.specs.Check.{Verdict}
use Rattle.std.specs.Prelude.{Ok, Err}
use Rattle.packet_reply.specs.Reply.{status_reply}

-- STS is the fifth byte
pub status_byte : (request : ℕ) (verdict : Verdict) → get_or (status_reply request verdict) 4 0 ≡ status_of verdict
unfolding frame bytes_of
status_byte request verdict = refl

-- OK and refused never have the same bytes, whatever was asked
pub told_apart : (q q' : ℕ) (reason : Reason) → status_reply q (Ok tt) ≡ status_reply q' (Err reason) → ⊥
told_apart q q' reason e =
    let s : 0 ≡ code_of reason = sym (status_byte q (Ok tt)) ∙ ap (λ (l : List ℕ). get_or l 4 0) e ∙ status_byte q' (Err reason) in
    let k : 0 < code_of reason = code_positive reason in
    omega arith

pub status_length : (request : ℕ) (verdict : Verdict) → length (status_reply request verdict) ≡ 7
unfolding frame bytes_of
status_length request verdict = refl

-- the paper's examples
pub record Example : Type 0 where
  pub request : ℕ
  pub verdict : Verdict
  pub bytes : List ℕ

abbrev pub examples : List Example
examples =
    record { request = 0x00; verdict = Ok tt; bytes = 0x81 ∷ 0x00 ∷ 0x02 ∷ 0x00 ∷ 0x00 ∷ 0xFE ∷ 0x03 ∷ [] }
    ∷ record { request = 0x00; verdict = Err WrongStage; bytes = 0x81 ∷ 0x00 ∷ 0x02 ∷ 0x80 ∷ 0xC3 ∷ 0xBB ∷ 0x03 ∷ [] }
    ∷ record { request = 0x00; verdict = Err WrongSum; bytes = 0x81 ∷ 0x00 ∷ 0x02 ∷ 0x80 ∷ 0xC2 ∷ 0xBC ∷ 0x03 ∷ [] }
    ∷ record { request = 0x00; verdict = Err WrongEtx; bytes = 0x81 ∷ 0x00 ∷ 0x02 ∷ 0x80 ∷ 0xC1 ∷ 0xBD ∷ 0x03 ∷ [] }
    ∷ record { request = 0x55; verdict = Err UnknownCommand; bytes = 0x81 ∷ 0x00 ∷ 0x02 ∷ 0xD5 ∷ 0xC0 ∷ 0x69 ∷ 0x03 ∷ [] }
    ∷ record { request = 0x12; verdict = Ok tt; bytes = 0x81 ∷ 0x00 ∷ 0x02 ∷ 0x12 ∷ 0x00 ∷ 0xEC ∷ 0x03 ∷ [] }
    ∷ record { request = 0x3B; verdict = Err NoSuchArea; bytes = 0x81 ∷ 0x00 ∷ 0x02 ∷ 0xBB ∷ 0xD0 ∷ 0x73 ∷ 0x03 ∷ [] }
    ∷ record { request = 0x13; verdict = Err DirtyFlash; bytes = 0x81 ∷ 0x00 ∷ 0x02 ∷ 0x93 ∷ 0xE2 ∷ 0x89 ∷ 0x03 ∷ [] }
    ∷ record { request = 0x92; verdict = Err UnknownCommand; bytes = 0x81 ∷ 0x00 ∷ 0x02 ∷ 0x92 ∷ 0xC0 ∷ 0xAC ∷ 0x03 ∷ [] }
    ∷ []

pub examples_hold : map (λ (e : Example). status_reply e.request e.verdict) examples ≡ map (λ (e : Example). e.bytes) examples
unfolding frame bytes_of lack sum_of
examples_hold = refl
