-- What stands for bytes that are not there decides nothing. Assumes nothing.
use Rattle.std.proofs.Common.{◌≡◌, ℕ, ◌+◌, ◌-◌, ◌≤◌, min, Bool, true, false, cond, eqb, List, sym, refl, ap, ◌∙◌, ⊎_elim, arith, ne_eqb}
use borrow.Author.Tests.{eqb-false}
use Rattle.packet.specs.declared.Kind.TheVariants.{Data as DataPacket}
use Rattle.packet.specs.declared.Progress.TheVariants.{Astray}
use Rattle.packet.specs.Packet.{progress_of}
use Rattle.packet.specs.Frame.{longest_data}
use Rattle.packet.proofs.Laws.{impossible}
use Rattle.host_request.specs.declared.Request.{Request}
use Rattle.host_request.specs.declared.Request.TheVariants.{Inquiry, Erase, Write, Read, Authenticate, Baud, Signature, Area, WriteData, Next}
use Rattle.host_request.specs.Request.{number_for}
use Rattle.host_judge.specs.declared.Due.{Due}
use Rattle.host_judge.specs.declared.Due.TheVariants.{Status, Data, Nothing}
use Rattle.host_judge.specs.declared.Judgement.TheVariants.{Unanswered, WrongReply}
use Rattle.host_judge.specs.Reply.{is_unanswered, read_due, due_for, grants, denies, judged_by, from_mark, judged_at}
use Rattle.host_judge.proofs.Deciding.{Decides, judged_front, front_answers, open_or_front}

-- bytes from the first 81h on start with 81h, so the clause for others never decides
pub never_astray : (bytes : List ℕ) → progress_of DataPacket (from_mark bytes) ≡ Astray → ⊥
unfolding judged_at
never_astray bytes e = ⊎_elim (λ p. let z : ◌≡◌ {A = ℕ} 0 1 = cc in omega arith) by (open_or_front Inquiry bytes)
  where
    by : Decides (from_mark bytes) → ⊥
    by d =
        let q : List ℕ = from_mark bytes in
        let s : Unanswered ≡ _ = sym (ap (judged_at Inquiry q) e) ∙ judged_front Inquiry q d in
        let u : true ≡ false = ap is_unanswered s ∙ front_answers Inquiry q in
        let z : ◌≡◌ {A = ℕ} 0 1 = cc in
        omega arith

-- data that is due is 1 to 1,024 bytes
read_range : (left n : ℕ) → read_due left ≡ Data n → (1 ≤ n) × (n ≤ longest_data)
read_range left n e = by (eqb left 0) refl e
  where
    by : (t : Bool) → eqb left 0 ≡ t → cond t Nothing (Data (min left longest_data)) ≡ Data n → (1 ≤ n) × (n ≤ longest_data)
    by true t e = impossible (cc)
    by false t e = let k : n ≡ min left longest_data = cc in (omega (arith, eqb-false left 0 t), omega arith)

-- whatever the request
pub due_range : (r : Request) (n : ℕ) → due_for r ≡ Data n → (1 ≤ n) × (n ≤ longest_data)
due_range Inquiry n e = impossible (cc)
due_range (Erase s l) n e = impossible (cc)
due_range (Write s l) n e = impossible (cc)
due_range (Read s l) n e = read_range (l + 1 - s) n e
due_range Authenticate n e = impossible (cc)
due_range (Baud brt) n e = impossible (cc)
due_range Signature n e = let k : n ≡ 12 = cc in (omega arith, omega arith)
due_range (Area number) n e = let k : n ≡ 17 = cc in (omega arith, omega arith)
due_range WriteData n e = impossible (cc)
due_range (Next left) n e = read_range left n e

-- a packet with nothing behind RES neither grants nor denies, whatever stands for the byte there
grants_one : (due : Due) (number res first : ℕ) → (due ≡ Data 0 → ⊥) → grants due number 1 res first ≡ false
unfolding grants
grants_one Status number res first h = refl
grants_one (Data n) number res first h = rw (ne_eqb 1 (n + 1) (λ z. h (ap Data (omega arith)))) refl
grants_one Nothing number res first h = refl

-- nor does it for any request, since no request is due no data
pub first_there : (r : Request) (res first : ℕ) → (grants (due_for r) (number_for r) 1 res first ≡ false) × (denies (number_for r) 1 res first ≡ false)
unfolding denies
first_there r res first = (grants_one (due_for r) (number_for r) res first (λ e. omega (arith, (due_range r 0 e).0)), refl)

-- so it is a wrong reply
pub first_there_wrong : (r : Request) (res first : ℕ) → judged_by r 1 res first ≡ WrongReply
unfolding judged_by
first_there_wrong r res first = rw ((first_there r res first).0, (first_there r res first).1) refl
