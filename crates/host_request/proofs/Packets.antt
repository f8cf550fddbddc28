-- What a reader of a request's packet may rely on: it is whole and good, and what stands in it is what was asked. Assumes nothing.
use mathlib.Core.Bool.{true, false}
use mathlib.Core.List.{List, [], ◌∷◌, ◌++◌, append_assoc, append-nil}
use Rattle.std.specs.Prelude.{None}
use mathlib.Core.Path.{◌≡◌, refl, sym, ap, ◌∙◌}
use Prim.Native.Nat.{ℕ, ◌+◌, ◌<◌}
use native.Mathlib.Omega.{arith}
use lib.ListN.{length, take, drop, get_or, length-append}
use lib.Seq.{take_at, drop_at, drop-drop}
use borrow.Author.Tests.{eqb-true, not-false}
use Rattle.numbers.specs.Bytes.{bytes_of}
use Rattle.numbers.proofs.RoundTrip.{bytes_length}
use Rattle.verdict.specs.Check.{first_fault, NoneApplies}
use Rattle.verdict.proofs.FirstFault.{clear}
use Rattle.packet.specs.declared.Kind.{Kind}
use Rattle.packet.specs.declared.Kind.TheVariants.{Command, Data}
use Rattle.packet.specs.declared.Progress.TheVariants.{Complete}
use Rattle.packet.specs.Packet.{start_of, permitted, progress_of, sum_of, ends_well, good, contents_of, lack, counted, frame}
use Rattle.packet.proofs.Laws.{impossible}
use Rattle.packet.proofs.Frames.{frame_length, frame_ends_well, frame_complete, frame_good, frame_contents}
use Rattle.packet_fields.specs.Fields.{com_of, code_at, info_count, info_of, four_at, sad_of, ead_of, brt_of, area_number_of, info_length}
use Rattle.packet_fields.proofs.Laws.{com_back}
use Rattle.packet_fields.proofs.FieldLaws.{four_back}
use Rattle.host_request.specs.declared.Request.{Request}
use Rattle.host_request.specs.declared.Request.TheVariants.{Inquiry, Erase, Write, Read, Authenticate, Baud, Signature, Area, WriteData, Next}
use Rattle.host_request.specs.Request.{com_for, number_for, kind_for, information_for, contents_for, packet_for, enclosable, has_nothing_left, request_checks}
use Rattle.host_request.proofs.Laws.{contents_permitted}

module _ (r : Request) (count : ℕ) (buildable : first_fault (request_checks r count) ≡ None) where
  -- a request that can be built has as many bytes lent as it may have
  pub buildable_lent : enclosable r count ≡ true
  unfolding request_checks NoneApplies
  buildable_lent = not-false _ (clear (request_checks r count) buildable).0

  -- and asks for something that is left
  pub buildable_left : has_nothing_left r ≡ false
  unfolding request_checks NoneApplies
  buildable_left = (clear (request_checks r count) buildable).1.0

-- every request's packet, whether it can be built or not
module _ (r : Request) (bytes : List ℕ) where
  -- start byte, two of length, COM or RES, SUM and ETX come on top of the information
  pub packet_length : length (packet_for r bytes) ≡ length (information_for r bytes) + 6
  packet_length = frame_length (kind_for r) (contents_for r bytes) ∙ omega arith

  -- the packet behind its COM or RES
  packet_behind : drop 4 (packet_for r bytes) ≡ information_for r bytes ++ lack (counted (contents_for r bytes)) ∷ 0x03 ∷ []
  unfolding frame bytes_of
  packet_behind = refl

  -- it starts as its kind does
  pub packet_start : get_or (packet_for r bytes) 0 0 ≡ start_of (kind_for r)
  unfolding frame
  packet_start = refl

  -- COM or RES is the request's number
  pub packet_code : code_at (packet_for r bytes) ≡ number_for r
  unfolding frame bytes_of
  packet_code = refl

  -- what stands between COM or RES and SUM is the request's information
  pub packet_count : info_count (packet_for r bytes) ≡ length (information_for r bytes)
  packet_count = omega (arith, packet_length)

  pub packet_info : info_of (packet_for r bytes) ≡ information_for r bytes
  packet_info = rw (packet_count, packet_behind) (take_at (information_for r bytes) _ (length (information_for r bytes)) refl)

  -- it always says a command that there is: that of the request
  pub packet_com : com_of (code_at (packet_for r bytes)) ≡ com_for r
  packet_com = rw packet_code (com_back (com_for r))

  -- a number of four bytes in the information, whatever stands before and behind it
  packet_number : (before after : List ℕ) (n : ℕ) → n < 4294967296 → information_for r bytes ≡ before ++ (bytes_of 4 n ++ after)
      → four_at (packet_for r bytes) (4 + length before) ≡ n
  packet_number before after n below e =
      let q = packet_for r bytes in
      let end = lack (counted (contents_for r bytes)) ∷ 0x03 ∷ [] in
      let long : length (information_for r bytes) ≡ length before + (4 + length after) =
      ap length e ∙ omega (arith, length-append before (bytes_of 4 n ++ after), length-append (bytes_of 4 n) after, bytes_length 4 n) in
      let behind : drop (4 + length before) q ≡ bytes_of 4 n ++ (after ++ end) =
      sym (drop-drop (length before) 4 q)
      ∙ ap (drop (length before)) (packet_behind ∙ ap (λ (l : List ℕ). l ++ end) e ∙ append_assoc before (bytes_of 4 n ++ after) end)
      ∙ drop_at before ((bytes_of 4 n ++ after) ++ end) (length before) refl
      ∙ append_assoc (bytes_of 4 n) after end in
      four_back n (4 + length before) q (omega (arith, packet_length)) below
      (ap (take 4) behind ∙ take_at (bytes_of 4 n) (after ++ end) 4 (bytes_length 4 n))

  module _ (sad ead : ℕ) (range : information_for r bytes ≡ bytes_of 4 sad ++ bytes_of 4 ead) where
    -- SAD is the first number of a request with a range
    pub packet_sad : sad < 4294967296 → sad_of (packet_for r bytes) ≡ sad
    packet_sad below = packet_number [] (bytes_of 4 ead) sad below range

    -- EAD is the second
    pub packet_ead : ead < 4294967296 → ead_of (packet_for r bytes) ≡ ead
    unfolding bytes_of
    packet_ead below = packet_number (bytes_of 4 sad) [] ead below (range ∙ ap (λ (l : List ℕ). bytes_of 4 sad ++ l) (sym (append-nil (bytes_of 4 ead))))

  -- BRT is the number of a request with one
  pub packet_brt : (brt : ℕ) → information_for r bytes ≡ bytes_of 4 brt → brt < 4294967296 → brt_of (packet_for r bytes) ≡ brt
  packet_brt brt e below = packet_number [] [] brt below (e ∙ sym (append-nil (bytes_of 4 brt)))

  -- the area's number is the request's one byte
  pub packet_area : (n : ℕ) → information_for r bytes ≡ n ∷ [] → area_number_of (packet_for r bytes) ≡ n
  unfolding frame bytes_of
  packet_area n e = ap (λ (l : List ℕ). get_or (l ++ lack (counted (contents_for r bytes)) ∷ 0x03 ∷ []) 0 0) e

-- a request that can be built
module _ (r : Request) (bytes : List ℕ) (buildable : first_fault (request_checks r (length bytes)) ≡ None) where
  -- its kind permits what it holds
  permits : permitted (kind_for r) (length (contents_for r bytes)) ≡ true
  permits = contents_permitted r bytes (buildable_lent r (length bytes) buildable)

  -- its packet is one whole packet of its kind, with right ETX and SUM
  pub packet_whole : (progress_of (kind_for r) (packet_for r bytes) ≡ Complete)
      × (ends_well (packet_for r bytes) ≡ true) × (good (packet_for r bytes) ≡ true)
  packet_whole = (
    frame_complete (kind_for r) (contents_for r bytes) permits,
    frame_ends_well (kind_for r) (contents_for r bytes),
    frame_good (kind_for r) (contents_for r bytes) permits,
  )

  -- and its payload is the request's contents
  pub packet_contents : contents_of (packet_for r bytes) ≡ contents_for r bytes
  packet_contents = frame_contents (kind_for r) (contents_for r bytes) permits

-- a command has as much information as its COM asks for
information_length : (r : Request) (bytes : List ℕ) → enclosable r (length bytes) ≡ true → kind_for r ≡ Command
    → length (information_for r bytes) ≡ info_length (com_for r)
unfolding enclosable bytes_of
information_length Inquiry bytes e k = refl
information_length (Erase sad ead) bytes e k = refl
information_length (Write sad ead) bytes e k = refl
information_length (Read sad ead) bytes e k = refl
information_length Authenticate bytes e k = eqb-true (length bytes) 16 e
information_length (Baud brt) bytes e k = refl
information_length Signature bytes e k = refl
information_length (Area n) bytes e k = refl
information_length WriteData bytes e k = impossible (cc)
information_length (Next left) bytes e k = impossible (cc)

-- so neither an unknown command nor a wrong length ever applies to it
pub packet_command : (r : Request) (bytes : List ℕ) → first_fault (request_checks r (length bytes)) ≡ None → kind_for r ≡ Command
    → (com_of (code_at (packet_for r bytes)) ≡ com_for r) × (info_count (packet_for r bytes) ≡ info_length (com_for r))
packet_command r bytes buildable k =
    (packet_com r bytes, packet_count r bytes ∙ information_length r bytes (buildable_lent r (length bytes) buildable) k)

-- the one packet that asks for the next part of a read, however much is left
pub next_bytes : (left : ℕ) (bytes : List ℕ) → packet_for (Next left) bytes ≡ 0x81 ∷ 0x00 ∷ 0x02 ∷ 0x15 ∷ 0x00 ∷ 0xE9 ∷ 0x03 ∷ []
unfolding frame bytes_of lack sum_of
next_bytes left bytes = refl

-- kinds with one start byte are one kind
start_once : (kind other : Kind) → start_of kind ≡ start_of other → kind ≡ other
start_once Command Command e = refl
start_once Command Data e = absurd (omega arith)
start_once Data Command e = absurd (omega arith)
start_once Data Data e = refl

-- equal packets: the same kind, the same number, the same information
pub packets_differ : (r r' : Request) (bytes bytes' : List ℕ) → packet_for r bytes ≡ packet_for r' bytes'
    → (kind_for r ≡ kind_for r') × (number_for r ≡ number_for r') × (information_for r bytes ≡ information_for r' bytes')
packets_differ r r' bytes bytes' e = (
  start_once (kind_for r) (kind_for r') (sym (packet_start r bytes) ∙ ap (λ (q : List ℕ). get_or q 0 0) e ∙ packet_start r' bytes'),
  sym (packet_code r bytes) ∙ ap code_at e ∙ packet_code r' bytes',
  sym (packet_info r bytes) ∙ ap info_of e ∙ packet_info r' bytes',
)
