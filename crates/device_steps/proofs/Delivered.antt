-- How a delivery of bytes is consumed, and that cutting it anywhere makes no difference. Assumes nothing.
use mathlib.Core.List.{List, [], ◌∷◌, ◌++◌}
use mathlib.Core.Path.{◌≡◌, refl, sym, ap, subst, ◌∙◌}
use Prim.Native.Nat.{ℕ, suc, ◌+◌, ◌≤◌, ◌<◌}
use native.Mathlib.Numerals.{add-one}
use native.Mathlib.Omega.{arith}
use lib.ListN.{length, drop, get_or, drop_of_length-le}
use lib.Seq.{drop-cons, drop-drop}
use borrow.Author.Tests.{eq-eqb, ne_eqb}
use Rattle.profile.specs.declared.Profile.{Profile}
use Rattle.device_steps.specs.Step.{Machine, Step, step_of}
use Rattle.device_steps.specs.Feed.{Delivery, feed_of}

-- a delivery behind n bytes that brought no reply
abbrev pub later : ℕ → Delivery → Delivery
later n d = record { machine = d.machine; reply = d.reply; consumed = d.consumed + n }

-- a delivery that ends with its first byte
abbrev pub at_once : Step → Delivery
at_once s = record { machine = s.machine; reply = s.reply; consumed = 1 }

pub later_none : (d : Delivery) → later 0 d ≡ d
later_none d =
    let e : d.consumed + 0 ≡ d.consumed = omega arith in
    ap (λ (n : ℕ). record { machine = d.machine; reply = d.reply; consumed = n }) e

pub later_more : (k n : ℕ) (d : Delivery) → later k (later n d) ≡ later (n + k) d
later_more k n d =
    let e : d.consumed + n + k ≡ d.consumed + (n + k) = omega arith in
    ap (λ (c : ℕ). record { machine = d.machine; reply = d.reply; consumed = c }) e

pub nothing : (l : List ℕ) → length l ≡ 0 → l ≡ []
nothing [] e = refl
nothing (x ∷ l) e = absurd (omega arith)

-- one byte
module _ (p : Profile) (m : Machine) (b : ℕ) (bs : List ℕ) where
  pub feed_quiet : length (step_of p m b).reply ≡ 0 → feed_of p m (b ∷ bs) ≡ later 1 (feed_of p (step_of p m b).machine bs)
  unfolding feed_of
  feed_quiet e = rw (eq-eqb (length (step_of p m b).reply) 0 e) refl

  pub feed_reply : 0 < length (step_of p m b).reply → feed_of p m (b ∷ bs) ≡ at_once (step_of p m b)
  unfolding feed_of
  feed_reply h = rw (ne_eqb (length (step_of p m b).reply) 0 (λ e. omega arith)) refl

  -- what holds of a delivery in both cases holds of it
  pub by_reply : (P : Delivery → Type 0)
      → (length (step_of p m b).reply ≡ 0 → P (later 1 (feed_of p (step_of p m b).machine bs)))
      → (0 < length (step_of p m b).reply → P (at_once (step_of p m b)))
      → P (feed_of p m (b ∷ bs))
  by_reply P quiet answered = by_length (step_of p m b).reply refl
    where
      by_length : (l : List ℕ) → (step_of p m b).reply ≡ l → P (feed_of p m (b ∷ bs))
      by_length [] e = let z : length (step_of p m b).reply ≡ 0 = ap length e in subst P (sym (feed_quiet z)) (quiet z)
      by_length (x ∷ l) e =
          let z : length (step_of p m b).reply ≡ suc (length l) = ap length e in
          let h : 0 < length (step_of p m b).reply = omega arith in
          subst P (sym (feed_reply h)) (answered h)

-- what is consumed
pub feed_none : (p : Profile) (m : Machine) → feed_of p m [] ≡ record { machine = m; reply = []; consumed = 0 }
unfolding feed_of
feed_none p m = refl

pub consumed_most : (p : Profile) (m : Machine) (bs : List ℕ) → (feed_of p m bs).consumed ≤ length bs
consumed_most p m [] = rw feed_none (omega arith)
consumed_most p m (b ∷ bs) =
    let h : (feed_of p (step_of p m b).machine bs).consumed ≤ length bs = consumed_most p (step_of p m b).machine bs in
    by_reply p m b bs (λ (d : Delivery). d.consumed ≤ suc (length bs)) (λ e. omega arith) (λ k. omega arith)

-- without a reply all input is consumed
pub consumed_all : (p : Profile) (m : Machine) (bs : List ℕ) → length (feed_of p m bs).reply ≡ 0 → (feed_of p m bs).consumed ≡ length bs
consumed_all p m [] = λ e. rw feed_none refl
consumed_all p m (b ∷ bs) =
    by_reply p m b bs (λ (d : Delivery). length d.reply ≡ 0 → d.consumed ≡ suc (length bs))
    (λ e k. let h : (feed_of p (step_of p m b).machine bs).consumed ≡ length bs = consumed_all p (step_of p m b).machine bs k in omega arith)
    (λ h k. absurd (omega arith))

-- a reply is brought by a byte
pub consumed_some : (p : Profile) (m : Machine) (bs : List ℕ) → 0 < length (feed_of p m bs).reply → 1 ≤ (feed_of p m bs).consumed
consumed_some p m [] = λ h. let k : length (feed_of p m []).reply ≡ 0 = rw feed_none refl in absurd (omega arith)
consumed_some p m (b ∷ bs) =
    by_reply p m b bs (λ (d : Delivery). 0 < length d.reply → 1 ≤ d.consumed) (λ e k. omega arith) (λ h k. omega arith)

-- cut behind bytes that brought no reply: the rest goes on where they stopped
pub cut_quiet : (p : Profile) (m : Machine) (a b : List ℕ) → length (feed_of p m a).reply ≡ 0
    → feed_of p m (a ++ b) ≡ later (length a) (feed_of p (feed_of p m a).machine b)
cut_quiet p m [] b = λ e. rw feed_none (sym (later_none (feed_of p m b)))
cut_quiet p m (x ∷ a) b =
    let s : Step = step_of p m x in
    by_reply p m x a (λ (d : Delivery). length d.reply ≡ 0 → feed_of p m (x ∷ (a ++ b)) ≡ later (suc (length a)) (feed_of p d.machine b))
    (λ quiet e.
    let rest : Delivery = feed_of p (feed_of p s.machine a).machine b in
    let k : length a + 1 ≡ suc (length a) = add-one (length a) in
    feed_quiet p m x (a ++ b) quiet
    ∙ ap (λ (d : Delivery). later 1 d) (cut_quiet p s.machine a b e)
    ∙ later_more 1 (length a) rest
    ∙ ap (λ (n : ℕ). later n rest) k)
    (λ h e. absurd (omega arith))

-- cut behind a reply: what follows is left unread
pub cut_reply : (p : Profile) (m : Machine) (a b : List ℕ) → 0 < length (feed_of p m a).reply → feed_of p m (a ++ b) ≡ feed_of p m a
cut_reply p m [] b = λ h. let k : length (feed_of p m []).reply ≡ 0 = rw feed_none refl in absurd (omega arith)
cut_reply p m (x ∷ a) b =
    by_reply p m x a (λ (d : Delivery). 0 < length d.reply → feed_of p m (x ∷ (a ++ b)) ≡ d)
    (λ quiet h. feed_quiet p m x (a ++ b) quiet ∙ ap (λ (d : Delivery). later 1 d) (cut_reply p (step_of p m x).machine a b h))
    (λ answered h. feed_reply p m x (a ++ b) answered)

-- where a reply comes from: one byte brings it, behind bytes that brought none
pub record FromByte (p : Profile) (m : Machine) (bs : List ℕ) : Type 0 where
  pub before : List ℕ
  pub byte : ℕ
  pub behind : List ℕ
  pub split : bs ≡ before ++ byte ∷ behind
  pub quiet : length (feed_of p m before).reply ≡ 0
  pub answered : 0 < length (step_of p (feed_of p m before).machine byte).reply

pub from_byte : (p : Profile) (m : Machine) (bs : List ℕ) → 0 < length (feed_of p m bs).reply → FromByte p m bs
from_byte p m [] = λ h. let k : length (feed_of p m []).reply ≡ 0 = rw feed_none refl in absurd (omega arith)
from_byte p m (b ∷ bs) =
    by_reply p m b bs (λ (d : Delivery). 0 < length d.reply → FromByte p m (b ∷ bs))
    (λ quiet h.
    let f : FromByte p (step_of p m b).machine bs = from_byte p (step_of p m b).machine bs h in
    let e : feed_of p m (b ∷ f.before) ≡ later 1 (feed_of p (step_of p m b).machine f.before) = feed_quiet p m b f.before quiet in
    record {
      before = b ∷ f.before;
      byte = f.byte;
      behind = f.behind;
      split = ap (λ (l : List ℕ). b ∷ l) f.split;
      quiet = rw e f.quiet;
      answered = rw e f.answered;
    })
    (λ answered h. record { before = []; byte = b; behind = bs; split = refl; quiet = rw feed_none refl; answered = rw feed_none answered })

-- such a byte ends the delivery: its reply is the delivery's
pub reply_is : (p : Profile) (m : Machine) (bs : List ℕ) (f : FromByte p m bs)
    → feed_of p m bs ≡ later (length f.before) (at_once (step_of p (feed_of p m f.before).machine f.byte))
reply_is p m bs f =
    ap (λ (l : List ℕ). feed_of p m l) f.split
    ∙ cut_quiet p m f.before (f.byte ∷ f.behind) f.quiet
    ∙ ap (λ (d : Delivery). later (length f.before) d) (feed_reply p (feed_of p m f.before).machine f.byte f.behind f.answered)

-- a loop that has fed i bytes and is at machine m: all of the delivery is that of the rest, i bytes later
module _ (p : Profile) (start : Machine) (bs : List ℕ) where
  abbrev pub Reached : ℕ → Machine → Type 0
  Reached i m = feed_of p start bs ≡ later i (feed_of p m (drop i bs))

  pub reached_start : Reached 0 start
  reached_start = sym (later_none (feed_of p start bs))

  -- n bytes that brought no reply
  pub reached_more : (i n : ℕ) (m next : Machine) → Reached i m → feed_of p m (drop i bs) ≡ later n (feed_of p next (drop n (drop i bs))) → Reached (i + n) next
  reached_more i n m next r e =
      let k : n + i ≡ i + n = omega arith in
      r
      ∙ ap (λ (d : Delivery). later i d) e
      ∙ later_more i n (feed_of p next (drop n (drop i bs)))
      ∙ ap (λ (l : List ℕ). later (n + i) (feed_of p next l)) (drop-drop n i bs)
      ∙ ap (λ (j : ℕ). later j (feed_of p next (drop (i + n) bs))) k

  pub reached_quiet : (i : ℕ) (m : Machine) → Reached i m → i < length bs → length (step_of p m (get_or bs i 0)).reply ≡ 0
      → Reached (i + 1) (step_of p m (get_or bs i 0)).machine
  reached_quiet i m r h e =
      let next : Machine = (step_of p m (get_or bs i 0)).machine in
      let k : 1 + i ≡ suc i = omega arith in
      r
      ∙ ap (λ (l : List ℕ). later i (feed_of p m l)) (drop-cons bs i 0 h)
      ∙ ap (λ (d : Delivery). later i d) (feed_quiet p m (get_or bs i 0) (drop (suc i) bs) e)
      ∙ later_more i 1 (feed_of p next (drop (suc i) bs))
      ∙ ap (λ (n : ℕ). later n (feed_of p next (drop (suc i) bs))) k
      ∙ sym (ap (λ (n : ℕ). later n (feed_of p next (drop n bs))) (add-one i))

  pub reached_reply : (i : ℕ) (m : Machine) → Reached i m → i < length bs → 0 < length (step_of p m (get_or bs i 0)).reply
      → feed_of p start bs ≡ later i (at_once (step_of p m (get_or bs i 0)))
  reached_reply i m r h e =
      r
      ∙ ap (λ (l : List ℕ). later i (feed_of p m l)) (drop-cons bs i 0 h)
      ∙ ap (λ (d : Delivery). later i d) (feed_reply p m (get_or bs i 0) (drop (suc i) bs) e)

  pub reached_end : (i : ℕ) (m : Machine) → Reached i m → length bs ≤ i → feed_of p start bs ≡ record { machine = m; reply = []; consumed = i }
  unfolding feed_of
  reached_end i m r h =
      let k : 0 + i ≡ i = omega arith in
      r
      ∙ ap (λ (l : List ℕ). later i (feed_of p m l)) (drop_of_length-le bs h)
      ∙ ap (λ (n : ℕ). record { machine = m; reply = []; consumed = n }) k
