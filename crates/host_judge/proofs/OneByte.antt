-- What hearing one byte needs: lengths, numbers of requests, places in a reply. Assumes nothing.
use Rattle.std.proofs.Common.{◌≡◌, ℕ, ◌+◌, ◌*◌, ◌<◌, ◌≤◌, Bool, true, false, cond, not, ◌&&◌, eqb, ◌⊎◌, [], ◌∷◌, refl, inl, inr, arith, lt-ltb, eq-eqb, ne_eqb, le-leb}
use borrow.Author.Tests.{lt-leb}
use Rattle.numbers.specs.Bytes.{number}
use Rattle.host_request.specs.declared.Request.{Request}
use Rattle.host_request.specs.declared.Request.TheVariants.{Inquiry, Erase, Write, Read, Authenticate, Baud, Signature, Area, WriteData, Next}
use Rattle.host_request.specs.Request.{number_for}
use Rattle.host_judge.specs.declared.Due.{Due}
use Rattle.host_judge.specs.declared.Judgement.TheVariants.{Passed, Refused, WrongReply}
use Rattle.host_judge.specs.declared.Reply.{Reply}
use Rattle.host_judge.specs.declared.Judge.{Judge}
use Rattle.host_judge.specs.Reply.{due_for, grants, denies, judged_by}
use Rattle.host_judge.specs.Judge.{length_in, is_kept, grown, begun, advanced, finished, heard_byte}

-- the number in two bytes
pub number_of_two : (high low : ℕ) → high * 256 + low ≡ number (high ∷ low ∷ [])
unfolding number
number_of_two high low = omega arith

-- bit 7 of a request's number is clear
pub number_unmarked : (r : Request) → number_for r < 128
number_unmarked Inquiry = omega arith
number_unmarked (Erase s e) = omega arith
number_unmarked (Write s e) = omega arith
number_unmarked (Read s e) = omega arith
number_unmarked Authenticate = omega arith
number_unmarked (Baud brt) = omega arith
number_unmarked Signature = omega arith
number_unmarked (Area n) = omega arith
number_unmarked WriteData = omega arith
number_unmarked (Next left) = omega arith

-- a second test that fails decides
pub and_false : (t : Bool) → (t && false) ≡ false
and_false true = refl
and_false false = refl

-- before the data none is kept
pub none_kept : (y : Reply) → y.count < 4 → is_kept y ≡ false
none_kept y h = simp (lt-leb 4 y.count h)

-- a number is none below it
pub unlike_below : (n k : ℕ) → k < n → eqb n k ≡ false
unlike_below n k h = ne_eqb n k (λ q. omega arith)

-- a judgement, by the tests of the code
pub judged_tests : (r : Request) (n res first : ℕ) (due : Due) (number : ℕ) (g : Bool) → due ≡ due_for r → number ≡ number_for r
    → g ≡ grants due number n res first
    → judged_by r n res first
    ≡ cond g Passed (cond (eqb n 2 && (eqb res (number + 128) && not (eqb first 0x00))) (Refused first) WrongReply)
unfolding judged_by denies
judged_tests r n res first due number g d e h = rw (h, d, e) (simp (lt-ltb (number_for r) 128 (number_unmarked r)))

-- the byte where none of a reply came yet
pub heard_first : (j : Judge) (b : ℕ) → j.reply.count ≡ 0 → heard_byte j b ≡ begun j b
unfolding heard_byte
heard_first j b e = simp (eq-eqb _ _ e)

-- the last byte of a reply
pub heard_last : (j : Judge) (b : ℕ) → 3 ≤ j.reply.count → length_in j.reply + 4 ≤ j.reply.count → heard_byte j b ≡ finished j b
unfolding heard_byte
heard_last j b t l =
    let z : j.reply.count ≡ 0 → ⊥ = λ q. omega arith in
    simp (ne_eqb _ _ z, le-leb _ _ t, le-leb _ _ l)

-- a byte between them
pub heard_between : (j : Judge) (b : ℕ) → (j.reply.count ≡ 0 → ⊥) → (j.reply.count < 3) ⊎ (j.reply.count < length_in j.reply + 4)
    → heard_byte j b ≡ advanced j (grown j.reply b)
unfolding heard_byte
heard_between j b z (inl s) = simp (ne_eqb _ _ z, lt-leb _ _ s)
heard_between j b z (inr s) = simp (ne_eqb _ _ z, lt-leb _ _ s, and_false)
