-- What a plan sends: pieces of whole units that are all of the data, none twice, and how many. Assumes nothing.
use mathlib.Core.Bool.{Bool, true, false}
use mathlib.Core.List.{List, [], ◌∷◌, ◌++◌}
use mathlib.Core.Logic.{◌⊎◌, inl, inr, ⊎_elim}
use mathlib.Core.Path.{◌≡◌, refl, sym, ap, subst, ◌∙◌}
use Prim.Native.Nat.{ℕ, zero, suc, ◌+◌, ◌-◌, ◌/◌, ◌%◌, ◌≤◌, ◌<◌, min}
use native.Mathlib.Nat.{zero-add, mod-add-mod, mod-lt, mul-mod_left, div-add-mod', div-eq_of_lt, div-eq-sub-div}
use native.Mathlib.Numerals.{add-one}
use native.Mathlib.Omega.{arith}
use lib.ListN.{length, take, drop, take-append-drop, drop_of_length-le}
use lib.Seq.{drop-drop}
use lib.Dec.{leb, eqb}
use borrow.Author.Tests.{leb-true, leb-false, ltb-false, eqb-true, eqb-false, not-false}
use Rattle.verdict.specs.Check.{NoneApplies}
use Rattle.packet.specs.Frame.{longest_data}
use Rattle.host_plan.specs.declared.Plan.{Plan}
use Rattle.host_plan.specs.declared.Sending.{Sending}
use Rattle.host_plan.specs.Plan.{plan_checks, size_for, whole_plan, plan_of, sent_up_to, piece_end, command_of, data_of}
use Rattle.host_plan.specs.Pieces.{SendsAll, nothing_left, one_more, Piece, AllPieces, pieces_joined, InPieces}
use Rattle.std.specs.Prelude.{Ok}
use Rattle.host_plan.proofs.Laws.{plan_exactly, command_follows, data_follows, nothing_follows}

-- a number is at most another, or above it
pub at_most : (a b : ℕ) → (a ≤ b) ⊎ (b < a)
at_most a b = by (leb a b) refl
  where
    by : (t : Bool) → leb a b ≡ t → (a ≤ b) ⊎ (b < a)
    by true e = inl (leb-true a b e)
    by false e = inr (leb-false a b e)

-- what is left behind whole units
pub units_behind : (unit a b : ℕ) → a % unit ≡ 0 → (a + b) % unit ≡ b % unit
units_behind unit a b d = sym (mod-add-mod a unit b) ∙ ap (λ (k : ℕ). (k + b) % unit) d ∙ ap (λ (k : ℕ). k % unit) (zero-add b)

-- whole units less whole units are whole units
pub units_left : (unit all some : ℕ) → some ≤ all → all % unit ≡ 0 → some % unit ≡ 0 → (all - some) % unit ≡ 0
units_left unit all some h a b =
    let e : some + (all - some) ≡ all = omega arith in
    sym (units_behind unit some (all - some) b) ∙ ap (λ (k : ℕ). k % unit) e ∙ a

-- the smaller of two amounts of whole units is one of them
pub units_lower : (unit a b : ℕ) → a % unit ≡ 0 → b % unit ≡ 0 → min a b % unit ≡ 0
units_lower unit a b d f =
    ⊎_elim
    (λ (h : a ≤ b). let e : min a b ≡ a = omega arith in ap (λ (k : ℕ). k % unit) e ∙ d)
    (λ (h : b < a). let e : min a b ≡ b = omega arith in ap (λ (k : ℕ). k % unit) e ∙ f)
    (at_most a b)

-- the size of a packet is some whole units, and no more than a packet may carry
module _ (unit : ℕ) (some : 1 ≤ unit) (short : unit ≤ longest_data) where
  pub size_some : 1 ≤ size_for unit
  size_some = omega (arith, div-add-mod' longest_data unit, mod-lt longest_data {m = unit} some)

  pub size_most : size_for unit ≤ longest_data
  size_most = omega (arith, div-add-mod' longest_data unit)

  pub size_units : size_for unit % unit ≡ 0
  size_units = mul-mod_left (longest_data / unit) unit

-- of a plan that is under way: whole units are left, and each packet but the last has as many of them as its size says
pub record InUnits (unit : ℕ) (plan : Plan) : Type 0 where
  pub some : 1 ≤ plan.size
  pub most : plan.size ≤ longest_data
  pub units : plan.size % unit ≡ 0
  pub order : plan.from ≤ plan.end
  pub whole : (plan.end - plan.from) % unit ≡ 0

-- how many bytes the next piece has
abbrev pub piece_count : Plan → ℕ
piece_count plan = min (plan.end - plan.from) plan.size

module _ (unit : ℕ) (plan : Plan) (u : InUnits unit plan) where
  pub count_units : piece_count plan % unit ≡ 0
  count_units = units_lower unit (plan.end - plan.from) plan.size u.whole u.units

  pub data_piece : plan.from < plan.end → Piece unit (data_of plan)
  data_piece l =
      let e : piece_end plan - plan.from ≡ piece_count plan = omega arith in
      record {
        request = refl;
        some = omega (arith, u.some);
        most = omega (arith, u.most);
        whole = ap (λ (k : ℕ). k % unit) e ∙ count_units;
      }

  pub still_units : plan.from < plan.end → InUnits unit (sent_up_to (piece_end plan) plan)
  still_units l =
      let e : plan.end - piece_end plan ≡ plan.end - plan.from - piece_count plan = omega arith in
      record {
        some = u.some;
        most = u.most;
        units = u.units;
        order = omega arith;
        whole = ap (λ (k : ℕ). k % unit) e ∙ units_left unit (plan.end - plan.from) (piece_count plan) (omega arith) u.whole count_units;
      }

-- the rest of a plan
record RestInPieces (unit : ℕ) (plan : Plan) (bytes : List ℕ) : Type 0 where
  sent : List Sending
  ends : SendsAll plan sent
  units : AllPieces unit sent
  all : pieces_joined sent bytes ≡ drop plan.from bytes

module _ (unit : ℕ) (bytes : List ℕ) (plan : Plan) (b : plan.begun ≡ true) where
  rest_over : plan.end ≡ length bytes → plan.end ≤ plan.from → RestInPieces unit plan bytes
  unfolding AllPieces pieces_joined
  rest_over long l =
      let none : drop plan.from bytes ≡ [] = drop_of_length-le bytes {i = plan.from} (omega arith) in
      record { sent = []; ends = nothing_left plan (nothing_follows plan b l); units = tt; all = sym none }

  rest_more : InUnits unit plan → plan.from < plan.end → RestInPieces unit (sent_up_to (piece_end plan) plan) bytes → RestInPieces unit plan bytes
  unfolding AllPieces pieces_joined
  rest_more u l r =
      let k : ℕ = piece_end plan - plan.from in
      let e : plan.from + k ≡ piece_end plan = omega arith in
      record {
        sent = data_of plan ∷ r.sent;
        ends = one_more plan (data_of plan) r.sent (data_follows plan b l) r.ends;
        units = (data_piece unit plan u l, r.units);
        all =
            ap (λ (more : List ℕ). take k (drop plan.from bytes) ++ more)
            (r.all ∙ ap (λ (n : ℕ). drop n bytes) (sym e) ∙ sym (drop-drop k plan.from bytes))
            ∙ take-append-drop k (drop plan.from bytes);
      }

rest_in_pieces : (n unit : ℕ) (bytes : List ℕ) (plan : Plan) → InUnits unit plan → plan.begun ≡ true → plan.end ≡ length bytes
    → plan.end - plan.from ≤ n → RestInPieces unit plan bytes
rest_in_pieces zero unit bytes plan u b long h = rest_over unit bytes plan b long (omega arith)
rest_in_pieces (suc n) unit bytes plan u b long h =
    ⊎_elim
    (λ (l : plan.end ≤ plan.from). rest_over unit bytes plan b long l)
    (λ (l : plan.from < plan.end).
    let next = sent_up_to (piece_end plan) plan in
    rest_more unit bytes plan b u l (rest_in_pieces n unit bytes next (still_units unit plan u l) refl long (omega (arith, u.some))))
    (at_most plan.end plan.from)

module _ (s e unit count : ℕ) (n : NoneApplies (plan_checks s e unit count)) where
  -- a plan is made only of whole units that a packet holds
  pub planned_units : (1 ≤ unit) × (unit ≤ longest_data) × (count % unit ≡ 0)
  unfolding plan_checks NoneApplies
  planned_units =
      let first : s % unit ≡ 0 = eqb-true (s % unit) 0 (not-false (eqb (s % unit) 0) n.1.1.1.0) in
      let last : (e + 1) % unit ≡ 0 = eqb-true ((e + 1) % unit) 0 (not-false (eqb ((e + 1) % unit) 0) n.1.1.1.1.0) in
      let amount : count ≡ e + 1 - s = eqb-true count (e + 1 - s) (not-false (eqb count (e + 1 - s)) n.1.1.1.1.1.0) in
      let some : unit ≡ 0 → ⊥ = eqb-false unit 0 n.1.0 in
      let order : s ≤ e = ltb-false e s n.0 in
      (omega arith, ltb-false longest_data unit n.1.1.0, ap (λ (k : ℕ). k % unit) amount ∙ units_left unit (e + 1) s (omega arith) last first)

  pub whole_units : InUnits unit (sent_up_to 0 (whole_plan s e unit count))
  whole_units =
      let u = planned_units in
      let all : count - 0 ≡ count = omega arith in
      record {
        some = size_some unit u.0 u.1;
        most = size_most unit u.0 u.1;
        units = size_units unit u.0 u.1;
        order = omega arith;
        whole = ap (λ (k : ℕ). k % unit) all ∙ u.2;
      }

-- a plan that was made comes to its end in pieces of whole units
pub pieces_units : (s e unit : ℕ) (bytes : List ℕ) (plan : Plan) → plan_of s e unit (length bytes) ≡ Ok plan → InPieces unit plan bytes
pieces_units s e unit bytes plan h =
    let t = (plan_exactly s e unit (length bytes) plan).0 h in
    let whole = whole_plan s e unit (length bytes) in
    let r = rest_in_pieces (length bytes) unit bytes (sent_up_to 0 whole) (whole_units s e unit (length bytes) t.0) refl refl (omega arith) in
    subst (λ (made : Plan). InPieces unit made bytes) (sym t.1)
    (record {
      sent = r.sent;
      ends = one_more whole (command_of whole) r.sent (command_follows whole refl) r.ends;
      units = r.units;
      all = r.all;
    })

-- what a plan sends is one list
pub sends_once : {plan : Plan} {xs ys : List Sending} → SendsAll plan xs → SendsAll plan ys → xs ≡ ys
sends_once (nothing_left plan e) (nothing_left _ f) = refl
sends_once (nothing_left plan e) (one_more _ s more f rest) = let z : ◌≡◌ {A = ℕ} 0 1 = cc in absurd (omega arith)
sends_once (one_more plan s more e rest) (nothing_left _ f) = let z : ◌≡◌ {A = ℕ} 0 1 = cc in absurd (omega arith)
sends_once (one_more plan s more e rest) (one_more _ s' more' f rest') =
    let same : s ≡ s' = cc in
    let again : SendsAll s.rest more' = subst (λ (x : Sending). SendsAll x.rest more') (sym same) rest' in
    ap (λ (x : Sending). x ∷ more) same ∙ ap (λ (l : List Sending). s' ∷ l) (sends_once rest again)

-- a packet more, and so many for what is left then
pub parts_more : (n size : ℕ) → 1 ≤ size → 1 ≤ n → (n + (size - 1)) / size ≡ suc ((n - min n size + (size - 1)) / size)
parts_more n size some left =
    ⊎_elim
    (λ (h : n ≤ size).
    let few : n + (size - 1) - size < size = omega arith in
    let none : n - min n size + (size - 1) < size = omega arith in
    first ∙ ap suc (div-eq_of_lt few ∙ sym (div-eq_of_lt none)))
    (λ (h : size < n).
    let same : n + (size - 1) - size ≡ n - min n size + (size - 1) = omega arith in
    first ∙ ap (λ (k : ℕ). suc (k / size)) same)
    (at_most n size)
  where
    first : (n + (size - 1)) / size ≡ suc ((n + (size - 1) - size) / size)
    first = div-eq-sub-div some (omega arith) ∙ add-one ((n + (size - 1) - size) / size)
