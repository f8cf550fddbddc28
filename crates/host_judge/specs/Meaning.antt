-- What the verdicts mean, said of the bytes that came back, and what a caller has who gives the judge its bytes in parts. Nothing here judges: the
-- laws in proofs/Exactly and proofs/Collected are said in these words.
use Rattle.std.specs.Prelude.{◌≡◌, ℕ, ◌-◌, ◌<◌, true, false, List, [], ◌∷◌, ◌++◌, length, take, drop, ◌≢◌, slice_index}
use Rattle.numbers.specs.Bytes.{number}
use Rattle.packet.specs.declared.Kind.TheVariants.{Data as DataPacket}
use Rattle.packet.specs.declared.Progress.TheVariants.{Partial, Complete}
use Rattle.packet.specs.Packet.{start_of, permitted, progress_of, ends_well, frame}
use Rattle.packet_reply.specs.Reply.{marked}
use Rattle.host_request.specs.declared.Request.{Request}
use Rattle.host_request.specs.Request.{number_for}
use Rattle.host_judge.specs.declared.Due.{Due}
use Rattle.host_judge.specs.declared.Due.TheVariants.{Status, Data, Nothing}
use Rattle.host_judge.specs.declared.Judgement.{Judgement}
use Rattle.host_judge.specs.declared.Judgement.TheVariants.{Unanswered, Passed, Refused, WrongReply}
use Rattle.host_judge.specs.declared.Judge.{Judge}
use Rattle.host_judge.specs.declared.Taken.{Taken}
use Rattle.host_judge.specs.Reply.{due_for}
use Rattle.host_judge.specs.Judge.{taken_of}

-- bytes without 81h
abbrev pub Quiet : List ℕ → Type 0
Quiet noise = (i : ℕ) → i < length noise → slice_index noise i ≢ start_of DataPacket

-- the first packet among the bytes is q: before it there is no 81h
pub record FirstPacket (bytes q : List ℕ) : Type 0 where
  pub noise : List ℕ
  pub more : List ℕ
  pub parts : bytes ≡ noise ++ (q ++ more)
  pub quiet : Quiet noise

-- no packet but part of one: behind the noise there is nothing, or its first bytes
pub record OnlyPart (bytes : List ℕ) : Type 0 where
  pub noise : List ℕ
  pub held : List ℕ
  pub parts : bytes ≡ noise ++ held
  pub quiet : Quiet noise
  pub part : progress_of DataPacket held ≡ Partial

-- what stands behind RES where a reply grants a request
abbrev pub Granting : Due → List ℕ → Type 0
Granting Status behind = behind ≡ 0x00 ∷ []
Granting (Data n) behind = length behind ≡ n
Granting Nothing behind = ⊥

-- a reply's contents grant a request, or refuse it with a code
pub record GrantIn (r : Request) (contents : List ℕ) : Type 0 where
  pub behind : List ℕ
  pub is : contents ≡ number_for r ∷ behind
  pub due : Granting (due_for r) behind

pub record RefusalIn (r : Request) (code : ℕ) (contents : List ℕ) : Type 0 where
  pub is : contents ≡ marked (number_for r) ∷ code ∷ []
  pub some : code ≡ 0 → ⊥

-- a good packet with such contents comes first
pub record FirstGrants (r : Request) (bytes : List ℕ) : Type 0 where
  pub contents : List ℕ
  pub first : FirstPacket bytes (frame DataPacket contents)
  pub grant : GrantIn r contents

pub record FirstRefuses (r : Request) (code : ℕ) (bytes : List ℕ) : Type 0 where
  pub contents : List ℕ
  pub first : FirstPacket bytes (frame DataPacket contents)
  pub refusal : RefusalIn r code contents

-- what comes first is no reply to the request: a packet whose length is outside its range; one that is whole and ends wrong; a good packet of
-- other contents
pub data FirstWrong (r : Request) (bytes : List ℕ) : Type 0 where
  unfit_length : (high low : ℕ) → FirstPacket bytes (start_of DataPacket ∷ high ∷ low ∷ []) → permitted DataPacket (number (high ∷ low ∷ [])) ≡ false
      → FirstWrong r bytes
  wrong_end : (q : List ℕ) → FirstPacket bytes q → progress_of DataPacket q ≡ Complete → ends_well q ≡ false → FirstWrong r bytes
  other_contents : (contents : List ℕ) → FirstPacket bytes (frame DataPacket contents) → permitted DataPacket (length contents) ≡ true
      → (GrantIn r contents → ⊥) → ((code : ℕ) → RefusalIn r code contents → ⊥) → FirstWrong r bytes

-- what each verdict says of the bytes
abbrev pub Means : Request → List ℕ → Judgement → Type 0
Means r bytes Unanswered = OnlyPart bytes
Means r bytes Passed = FirstGrants r bytes
Means r bytes (Refused code) = FirstRefuses r code bytes
Means r bytes WrongReply = FirstWrong r bytes

-- bytes that came in parts
unfoldable pub joined : List (List ℕ) → List ℕ
joined [] = []
joined (cut ∷ cuts) = cut ++ joined cuts

-- the judge that was given them so
unfoldable pub judge_after : Judge → List (List ℕ) → Judge
judge_after j [] = j
judge_after j (cut ∷ cuts) = judge_after (taken_of j cut).judge cuts

-- those of a part's bytes that it told to be data, and of all parts' together
abbrev pub part_told : Taken → List ℕ → List ℕ
part_told t cut = take (t.to - t.from) (drop t.from cut)

unfoldable pub collected_from : Judge → List (List ℕ) → List ℕ
collected_from j [] = []
collected_from j (cut ∷ cuts) = part_told (taken_of j cut) cut ++ collected_from (taken_of j cut).judge cuts
