-- What the code's tests and the packet that was placed say of building a request. Assumes nothing.
use mathlib.Core.Bool.{Bool, true, false, not}
use mathlib.Core.List.{List, [], ◌∷◌, ◌++◌}
use mathlib.Core.Logic.{◌⊎◌, inl, inr}
use mathlib.Core.Path.{◌≡◌, refl, sym, ap, ◌∙◌}
use Prim.Native.Nat.{ℕ, ◌≤◌}
use native.Mathlib.Omega.{arith}
use lib.ListN.{length, replicate}
use lib.Dec.{leb, eqb}
use borrow.Author.Tests.{le-leb, leb-true, eqb-true}
use Rattle.numbers.specs.Bytes.{bytes_of, with_number}
use Rattle.verdict.specs.Check.{◌gives◌, first_fault}
use Rattle.packet.specs.declared.Kind.{Kind}
use Rattle.packet.specs.declared.Kind.TheVariants.{Command, Data}
use Rattle.packet.specs.Packet.{longest_of, permitted}
use Rattle.packet.specs.Frame.{has_room, Framed}
use Rattle.packet.proofs.Laws.{both}
use Rattle.packet.proofs.Frames.{frame_length}
use Rattle.host_request.specs.declared.Request.{Request}
use Rattle.host_request.specs.declared.Request.TheVariants.{Inquiry, Erase, Write, Read, Authenticate, Baud, Signature, Area, WriteData, Next}
use Rattle.host_request.specs.declared.Unbuilt.TheVariants.{WrongAmount, NothingLeft, NoRoom}
use Rattle.host_request.specs.Request.{number_for, kind_for, information_for, contents_for, packet_for, enclosable, has_nothing_left, request_checks, build_checks}
use Rattle.std.specs.Option.{ok_or}
use Rattle.std.specs.Prelude.{cond, ◌+◌, Option, Some, None, Result, Ok, Err}
use Rattle.host_request.specs.declared.Unbuilt.{Unbuilt}
use Rattle.host_request.specs.Build.{unbuilt, Builds, Placed}

-- a length within the kind's range is permitted
within_permitted : (kind : Kind) (n : ℕ) → 1 ≤ n → n ≤ longest_of kind → permitted kind n ≡ true
unfolding permitted
within_permitted kind n h k = simp (le-leb 1 n h, le-leb n (longest_of kind) k)

-- so many bytes as may be lent make contents that the kind permits
pub contents_permitted : (r : Request) (bytes : List ℕ) → enclosable r (length bytes) ≡ true
    → permitted (kind_for r) (length (contents_for r bytes)) ≡ true
unfolding enclosable permitted bytes_of
contents_permitted Inquiry bytes e = refl
contents_permitted (Erase sad ead) bytes e = refl
contents_permitted (Write sad ead) bytes e = refl
contents_permitted (Read sad ead) bytes e = refl
contents_permitted Authenticate bytes e =
    within_permitted Command (length (contents_for Authenticate bytes)) (omega arith) (omega (arith, eqb-true (length bytes) 16 e))
contents_permitted (Baud brt) bytes e = refl
contents_permitted Signature bytes e = refl
contents_permitted (Area n) bytes e = refl
contents_permitted WriteData bytes e =
    let most = leb-true (length bytes) 1024 (both (leb 1 (length bytes)) (leb (length bytes) 1024) e).1 in
    within_permitted Data (length (contents_for WriteData bytes)) (omega arith) (omega arith)
contents_permitted (Next left) bytes e = refl

module _ (r : Request) (bytes before : List ℕ) where
  -- not as many bytes as the request has
  pub amount_refused : enclosable r (length bytes) ≡ false → Builds r bytes before before (Err WrongAmount)
  unfolding build_checks request_checks first_fault
  amount_refused e = record { answers = rw e refl; leaves = rw e refl }

  module _ (lent : enclosable r (length bytes) ≡ true) where
    -- a read that is over
    pub over_refused : has_nothing_left r ≡ true → Builds r bytes before before (Err NothingLeft)
    unfolding build_checks request_checks first_fault
    over_refused e = record { answers = rw (lent, e) refl; leaves = rw (lent, e) refl }

    -- contents that the kind permits have room exactly where the packet has
    room_as : (t : Bool) → leb (length (packet_for r bytes)) (length before) ≡ t → has_room (kind_for r) (contents_for r bytes) before ≡ t
    unfolding has_room
    room_as t e = rw (contents_permitted r bytes lent, ← frame_length (kind_for r) (contents_for r bytes)) e

    -- and the room is all that is left to look at
    unbuilt_as : has_nothing_left r ≡ false → (t : Bool) → leb (length (packet_for r bytes)) (length before) ≡ t
        → unbuilt r bytes before ≡ first_fault ((not t gives NoRoom) ∷ [])
    unfolding build_checks request_checks first_fault
    unbuilt_as some_left t e = rw (lent, some_left, e) refl

    -- the packet's contents, placed where there is room
    pub placed_builds : has_nothing_left r ≡ false → (after : List ℕ) (x : Result ℕ Unbuilt) → Placed (kind_for r) (contents_for r bytes) before after x
        → Builds r bytes before after x
    unfolding first_fault
    placed_builds some_left after x p = by (leb (length (packet_for r bytes)) (length before)) refl
      where
        by : (t : Bool) → leb (length (packet_for r bytes)) (length before) ≡ t → Builds r bytes before after x
        by true e = record {
          answers = rw (unbuilt_as some_left true e) (rw (room_as true e, ← frame_length (kind_for r) (contents_for r bytes)) at p.answers);
          leaves = rw (unbuilt_as some_left true e) (rw (room_as true e) at p.leaves);
        }
        by false e = record {
          answers = rw (unbuilt_as some_left false e) (rw (room_as false e) at p.answers);
          leaves = rw (unbuilt_as some_left false e) (rw (room_as false e) at p.leaves);
        }

-- where there is no room for a frame, that is why there is no packet
frame_told : (t : Bool) (n : ℕ) → ok_or (cond t (Some n) None) NoRoom ≡ cond t (Ok n) (Err NoRoom)
frame_told true n = refl
frame_told false n = refl

pub frame_placed : (kind : Kind) (contents before after : List ℕ) (r : Option ℕ) (x : Result ℕ Unbuilt) → Framed kind contents before after r → x ≡ ok_or r NoRoom
    → Placed kind contents before after x
frame_placed kind contents before after r x f e =
    let told = frame_told (has_room kind contents before) (length contents + 5) in
    record { answers = e ∙ ap (λ (o : Option ℕ). ok_or o NoRoom) f.answers ∙ told; leaves = f.leaves }

-- an array of zeros into which two numbers were stored has the bytes of both
pub two_stored : (first both : List ℕ) (m n : ℕ) → first ≡ with_number 4 m 0 (replicate 8 0)
    → both ≡ with_number 4 n 4 first → both ≡ bytes_of 4 m ++ bytes_of 4 n
unfolding with_number bytes_of
two_stored first both m n e f = f ∙ ap (with_number 4 n 4) e

-- no bytes are lent
pub nothing_lent : (bytes : List ℕ) → eqb (length bytes) 0 ≡ true → bytes ≡ []
nothing_lent [] e = refl
nothing_lent (b ∷ bytes) e = absurd (omega (arith, eqb-true (length (b ∷ bytes)) 0 e))

-- requests whose information is what was lent beside them
pub lent_behind : (r : Request) (bytes : List ℕ) → enclosable r (length bytes) ≡ true
    → (r ≡ Inquiry) ⊎ ((r ≡ Authenticate) ⊎ ((r ≡ Signature) ⊎ (r ≡ WriteData))) → bytes ≡ information_for r bytes
unfolding enclosable
lent_behind r bytes lent (inl e) = rw e (nothing_lent bytes (rw e at lent))
lent_behind r bytes lent (inr (inl e)) = rw e refl
lent_behind r bytes lent (inr (inr (inl e))) = rw e (nothing_lent bytes (rw e at lent))
lent_behind r bytes lent (inr (inr (inr e))) = rw e refl

-- requests whose information is a range
pub range_behind : (r : Request) (bytes : List ℕ) (sad ead : ℕ) → (r ≡ Erase sad ead) ⊎ ((r ≡ Write sad ead) ⊎ (r ≡ Read sad ead))
    → bytes_of 4 sad ++ bytes_of 4 ead ≡ information_for r bytes
range_behind r bytes sad ead (inl e) = rw e refl
range_behind r bytes sad ead (inr (inl e)) = rw e refl
range_behind r bytes sad ead (inr (inr e)) = rw e refl

-- an arm of the code: the request's number and information are placed
pub arm_builds : {r : Request} {bytes info before after : List ℕ} {x : Result ℕ Unbuilt} {kind : Kind} {code : ℕ} {lent over : Bool}
    → lent ≡ enclosable r (length bytes) → lent ≡ true → over ≡ has_nothing_left r → over ≡ false
    → kind ≡ kind_for r → code ≡ number_for r → info ≡ information_for r bytes → Placed kind (code ∷ info) before after x
    → Builds r bytes before after x
arm_builds {r} {bytes} {info} {before} {after} {x} t enclosed o left k n i p =
    placed_builds r bytes before (sym t ∙ enclosed) (sym o ∙ left) after x (rw (← k, ← n, ← i) p)
