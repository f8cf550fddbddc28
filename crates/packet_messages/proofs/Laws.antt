-- Fields written one after the other make the messages. Assumes nothing.
use mathlib.Core.List.{List}
use mathlib.Core.Path.{◌≡◌, refl}
use Prim.Native.Nat.{ℕ}
use lib.ListN.{set, replicate}
use Rattle.numbers.specs.Bytes.{bytes_of, with_number}
use Rattle.profile.specs.declared.Area.{Area}
use Rattle.profile.specs.declared.Profile.{Profile}
use Rattle.packet_messages.specs.Messages.{area_message, signature_message}

pub area_written : (a : Area) (l₁ l₂ l₃ l₄ : List ℕ)
    → l₁ ≡ with_number 4 a.sad 1 (set (replicate 17 0) 0 a.koa)
    → l₂ ≡ with_number 4 a.ead 5 l₁
    → l₃ ≡ with_number 4 a.eau 9 l₂
    → l₄ ≡ with_number 4 a.wau 13 l₃
    → l₄ ≡ area_message a
unfolding with_number bytes_of area_message
area_written a l₁ l₂ l₃ l₄ p q r s = rw (s, r, q, p) refl

pub signature_written : (m : Profile) (l₁ l₂ l₃ : List ℕ)
    → l₁ ≡ with_number 4 m.sci 0 (replicate 12 0)
    → l₂ ≡ with_number 4 m.rmb 4 l₁
    → l₃ ≡ with_number 2 m.bfv 10 (set (set l₂ 8 m.noa) 9 m.typ)
    → l₃ ≡ signature_message m
unfolding with_number bytes_of signature_message
signature_written m l₁ l₂ l₃ p q r = rw (r, q, p) refl
