-- What the replay of a line's record does, and what it does not see. Assumes nothing.
use mathlib.Core.Bool.{false}
use mathlib.Core.List.{List, [], ◌∷◌, ◌++◌}
use mathlib.Core.Path.{◌≡◌, refl, sym, ap, ◌∙◌}
use Prim.Native.Nat.{ℕ}
use lib.ListN.{length, take, drop, get_or}
use Rattle.profile.specs.declared.Area.{Area}
use Rattle.profile.specs.Areas.{size_of}
use Rattle.packet_fields.specs.Fields.{code_at, info_of}
use Rattle.flash.specs.declared.Act.{Act}
use Rattle.flash.specs.declared.Act.TheVariants.{Nothing, EraseRange, EraseAll, Store}
use Rattle.flash.specs.Effects.{Effect, along, changed, storing, erasing, stored, erased}
use Rattle.flash.specs.Acts.{performed}
use Rattle.flash.proofs.Performed.{performed_length}
use Rattle.record_exchange.specs.declared.Told.{Told}
use Rattle.record_exchange.specs.Exchange.{answered_ok, idle, exchange_read}
use Rattle.record_exchange.specs.Line.{Entry, exchange, restart}
use Rattle.record_exchange.proofs.Answered.{unanswered, asks_next_lem}
use Rattle.record_replay.specs.Blind.{bared}
use Rattle.std.specs.Prelude.{None}
use Rattle.record_replay.specs.Replay.{Tape, done, entry_replay, replay_from, replay}

-- a record that goes on is replayed on what it left so far
pub replay_append : (areas : List Area) (t : Tape) (es fs : List Entry) → replay_from areas t (es ++ fs) ≡ replay_from areas (replay_from areas t es) fs
unfolding replay_from
replay_append areas t [] fs = refl
replay_append areas t (e ∷ es) fs = replay_append areas (entry_replay areas e t) es fs

-- the tape at the start of a record
abbrev unwritten : List ℕ → Tape
unwritten image = record { image = image; landing = None }

-- an entry that changes no tape has no effect anywhere in a record
unseen : (areas : List Area) (image : List ℕ) (e : Entry) → ((t : Tape) → entry_replay areas e t ≡ t) → (es fs : List Entry)
    → replay areas image (es ++ e ∷ fs) ≡ replay areas image (es ++ fs)
unfolding replay replay_from
unseen areas image e h es fs =
    let t = replay_from areas (unwritten image) es in
    ap (λ (u : Tape). u.image)
    (replay_append areas (unwritten image) es (e ∷ fs)
    ∙ ap (λ (u : Tape). replay_from areas u fs) (h t)
    ∙ sym (replay_append areas (unwritten image) es fs))

-- a reset
pub restart_unseen : (areas : List Area) (image : List ℕ) (es fs : List Entry) → replay areas image (es ++ restart ∷ fs) ≡ replay areas image (es ++ fs)
unfolding entry_replay
restart_unseen areas image es fs = unseen areas image restart (λ t. refl) es fs

-- an exchange that tells of nothing
untold : (areas : List Area) (q reply : List ℕ) (t : Tape) → exchange_read q reply t.landing ≡ idle t.landing → entry_replay areas (exchange q reply) t ≡ t
unfolding entry_replay performed
untold areas q reply t e = ap (λ (told : Told). done areas q told t.image) e

-- what was not answered OK
pub unanswered_unseen : (areas : List Area) (image q reply : List ℕ) (es fs : List Entry) → answered_ok q reply ≡ false
    → replay areas image (es ++ exchange q reply ∷ fs) ≡ replay areas image (es ++ fs)
unanswered_unseen areas image q reply es fs h =
    unseen areas image (exchange q reply) (λ t. untold areas q reply t (unanswered q reply t.landing h)) es fs

-- data with RES 15h is a read's request for the next packet: no write
pub code_15_unseen : (areas : List Area) (q reply : List ℕ) (t : Tape) → code_at q ≡ 0x15 → get_or q 0 0 ≡ 0x81 → entry_replay areas (exchange q reply) t ≡ t
code_15_unseen areas q reply t c s = untold areas q reply t (asks_next_lem q reply t.landing c s)

-- the image keeps its length
entry_length : (areas : List Area) (e : Entry) (t : Tape) → length (entry_replay areas e t).image ≡ length t.image
unfolding entry_replay
entry_length areas (exchange q reply) t = performed_length areas (exchange_read q reply t.landing).act (info_of q) t.image
entry_length areas restart t = refl

length_from : (areas : List Area) (t : Tape) (es : List Entry) → length (replay_from areas t es).image ≡ length t.image
unfolding replay_from
length_from areas t [] = refl
length_from areas t (e ∷ es) = length_from areas (entry_replay areas e t) es ∙ entry_length areas e t

pub replay_length : (areas : List Area) (image : List ℕ) (es : List Entry) → length (replay areas image es) ≡ length image
unfolding replay
replay_length areas image es = length_from areas (unwritten image) es

-- the areas' kinds and units are not seen
bared_changed : (f : Effect) (areas : List Area) (image : List ℕ) → changed f areas image ≡ changed f (bared areas) image
unfolding changed
bared_changed f [] image = refl
bared_changed f (a ∷ more) image = ap (λ (l : List ℕ). along f a.sad (take (size_of a) image) ++ l) (bared_changed f more (drop (size_of a) image))

bared_performed : (areas : List Area) (act : Act) (bytes image : List ℕ) → performed areas act bytes image ≡ performed (bared areas) act bytes image
unfolding performed erased stored
bared_performed areas Nothing bytes image = refl
bared_performed areas (EraseRange s e) bytes image = bared_changed (erasing s e) areas image
bared_performed areas EraseAll bytes image = refl
bared_performed areas (Store x n) bytes image = bared_changed (storing x (take n bytes)) areas image

bared_entry : (areas : List Area) (e : Entry) (t : Tape) → entry_replay areas e t ≡ entry_replay (bared areas) e t
unfolding entry_replay
bared_entry areas (exchange q reply) t =
    let told = exchange_read q reply t.landing in
    ap (λ (l : List ℕ). record { image = l; landing = told.landing }) (bared_performed areas told.act (info_of q) t.image)
bared_entry areas restart t = refl

bared_from : (areas : List Area) (t : Tape) (es : List Entry) → replay_from areas t es ≡ replay_from (bared areas) t es
unfolding replay_from
bared_from areas t [] = refl
bared_from areas t (e ∷ es) = bared_from areas (entry_replay areas e t) es ∙ ap (λ (u : Tape). replay_from (bared areas) u es) (bared_entry areas e t)

pub units_unseen : (areas : List Area) (image : List ℕ) (es : List Entry) → replay areas image es ≡ replay (bared areas) image es
unfolding replay
units_unseen areas image es = ap (λ (u : Tape). u.image) (bared_from areas (unwritten image) es)
