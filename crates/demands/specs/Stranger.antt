-- What a stranger can learn. Two devices with one profile are in one state, have not entered the command stage, and hold the same bytes; their buffers
-- have the same lengths, and their images the same stored ID: all else of the images is free. Given the same deliveries and resets they cannot be told
-- apart until they enter the command stage, which both do at the same call; and that call tells nothing either.
use Rattle.std.specs.Prelude.{true, false, List, [], ◌∷◌, map, ◌≡◌, ℕ, length, take, Ok, Err}
use Rattle.profile.specs.declared.Profile.{Profile}
use Rattle.profile.specs.Areas.{areas_of, total_of}
use Rattle.id_code.specs.Identity.{id_of}
use Rattle.state.specs.declared.State.{State}
use Rattle.state.specs.State.{zero_state}
use Rattle.device_calls.specs.declared.Started.{Started}
use Rattle.device_calls.specs.Calls.{Lent, start_refusal, feed_refusal, Starts, Refusal}
use Rattle.device_steps.specs.Step.{Machine, machine_of, step_of}
use Rattle.device.specs.declared.Fed.{Fed}
use Rattle.device.specs.Post.{Feeds}
use Rattle.record_history.specs.History.{Call, deliver, again, fresh_of}
use Rattle.stranger.specs.Alike.{is_shut, Shut, SameStored, Alike}
use Rattle.stranger.specs.Seen.{Seen, seen, called, while_shut, seen_of, SameStep, SameDelivery}
use Rattle.stranger.specs.Running.{AlikeLent, SameFeed}
use Rattle.stranger.specs.Example.{tiny, tiny_image, tiny_line, tiny_seen}
use Rattle.stranger.specs.Apart.{ByTheId, ByCommands, NotAgain}
use Rattle.demands.specs.Session.{Kept, lent_by, machine_in, Turn, feeding, resetting, mistaking, Honest, kept_by, kept_after}

-- what two callers keep is alike: one state, and buffers that are alike with it
pub record AlikeKept (p : Profile) (k k' : Kept) : Type 0 where
  pub state : k.state ≡ k'.state
  pub lent : AlikeLent p k.state (lent_by k []) (lent_by k' [])

-- a feed of one of two devices: the reply buffer that was lent, what was left, what was answered
pub record OneFeed : Type 0 where
  pub reply : List ℕ
  pub after : Lent
  pub answer : Fed

-- one call on each: the same bytes fed to both, or a reset of both
pub data Both : Type 0 where
  feedings : List ℕ → OneFeed → OneFeed → Both
  resettings : Started → Started → Both

abbrev pub on_first : Both → Turn
on_first (feedings input x y) = feeding input x.reply x.after x.answer
on_first (resettings x y) = resetting x

abbrev pub on_second : Both → Turn
on_second (feedings input x y) = feeding input y.reply y.after y.answer
on_second (resettings x y) = resetting y

-- the reply buffers have one length; each receive buffer keeps its own, as a lent slice does
abbrev pub SameRoom : Kept → Kept → Both → Type 0
SameRoom k k' (feedings input x y) =
    (length x.reply ≡ length y.reply)
    × (length x.after.receive ≡ length k.receive)
    × (length y.after.receive ≡ length k'.receive)
SameRoom k k' (resettings x y) = Unit {0}

-- every call did what it promises, with such buffers
unfoldable pub BothHonest : Profile → Kept → Kept → List Both → Type 0
BothHonest p k k' [] = Unit {0}
BothHonest p k k' (t ∷ more) =
    Honest p k (on_first t) × Honest p k' (on_second t) × SameRoom k k' t × BothHonest p (kept_by k (on_first t)) (kept_by k' (on_second t)) more

-- all that a call tells: by which row it was refused, if it was, and what is seen of the device by it
pub record Told : Type 0 where
  pub refusal : Refusal
  pub seen : Seen

abbrev pub told_by : Kept → Turn → Told
told_by k (feeding input reply after r) =
    record {
      refusal = r.refusal;
      seen = record { reply = take r.count after.reply; consumed = r.consumed; state = r.state; held = take r.state.held after.receive };
    }
told_by k (resetting r) =
    record { refusal = r.refusal; seen = record { reply = []; consumed = 0; state = r.state; held = take r.state.held k.receive } }
told_by k (mistaking other st input reply after r) =
    record {
      refusal = r.refusal;
      seen = record { reply = take r.count after.reply; consumed = r.consumed; state = k.state; held = take k.state.held after.receive };
    }

-- call by call, the one that enters the command stage included, and none behind it
unfoldable pub told_in : Kept → List Turn → List Told
told_in k [] = []
told_in k (t ∷ more) = told_by k t ∷ while_shut (kept_by k t).state.stage (told_in (kept_by k t) more)

-- what was called for
abbrev pub call_of : Turn → Call
call_of (feeding input reply after r) = deliver input
call_of (resetting r) = again
call_of (mistaking other st input reply after r) = deliver input

-- what a call is refused by
abbrev pub refusal_for : Profile → Kept → Turn → Refusal
refusal_for p k (feeding input reply after r) = feed_refusal p k.state (lent_by k reply)
refusal_for p k (resetting r) = start_refusal p (length k.image)
refusal_for p k (mistaking other st input reply after r) = feed_refusal other st (lent_by k reply)

-- what there is to tell: accepted, what is seen of the device; refused, that nothing happened
abbrev pub seen_for : Refusal → Profile → Machine → Call → Seen
seen_for (Ok tt) p m c = seen (called p m c)
seen_for (Err row) p m c = seen (record { machine = m; reply = []; consumed = 0 })

abbrev pub to_tell : Profile → Kept → Turn → Told
to_tell p k t = record { refusal = refusal_for p k t; seen = seen_for (refusal_for p k t) p (machine_in k) (call_of t) }

-- no call enters the command stage
unfoldable pub StayShut : Kept → List Turn → Type 0
StayShut k [] = Unit {0}
StayShut k (t ∷ more) = (is_shut (kept_by k t).state.stage ≡ true) × StayShut (kept_by k t) more

-- feeds are lent these reply buffers
unfoldable pub AllLend : List ℕ → List ℕ → List Both → Type 0
AllLend reply reply' [] = Unit {0}
AllLend reply reply' (feedings input x y ∷ more) = (x.reply ≡ reply) × (y.reply ≡ reply') × AllLend reply reply' more
AllLend reply reply' (resettings x y ∷ more) = AllLend reply reply' more

-- two sessions in which these calls are made, one behind the other, with these reply buffers
pub record TwoSessions (p : Profile) (k k' : Kept) (reply reply' : List ℕ) (calls : List Call) : Type 0 where
  pub both : List Both
  pub made : map (λ (t : Both). call_of (on_first t)) both ≡ calls
  pub lend : AllLend reply reply' both
  pub honest : BothHonest p k k' both

pub record Stranger : Type 0 where
  -- which images have the same stored ID: those that fit the profile and have the same sixteen bytes, whatever else is in them
  pub stored : (p : Profile) (image image' : List ℕ) → length image ≡ total_of (areas_of p) → length image' ≡ total_of (areas_of p)
      → id_of (areas_of p) image ≡ id_of (areas_of p) image' → SameStored p image image'
  -- which devices are alike: those with one state, whatever it is, the same held bytes and such images; and which buffers are
  pub alike : (p : Profile) (m m' : Machine) → m.state ≡ m'.state → m.held ≡ m'.held → SameStored p m.image m'.image → Alike p m m'
  pub lent : (p : Profile) (st : State) (l l' : Lent) → Alike p (machine_of st l) (machine_of st l') → length l.receive ≡ length l'.receive
      → length l.reply ≡ length l'.reply → AlikeLent p st l l'
  -- a device that was started or reset has not entered the command stage; of two that are alike both have, or neither has
  pub shut : (p : Profile) (image : List ℕ) → Shut (fresh_of p image)
  pub together : (p : Profile) (m m' : Machine) → Alike p m m' → is_shut m.state.stage ≡ is_shut m'.state.stage
  -- every byte is answered alike and leaves them alike, also one that enters the command stage or erases everything; without an answer none enters
  pub byte : (p : Profile) (m m' : Machine) → Alike p m m' → Shut m → (b : ℕ) → SameStep p (step_of p m b) (step_of p m' b)
  pub quiet : (p : Profile) (m : Machine) → Shut m → (b : ℕ) → (step_of p m b).reply ≡ [] → Shut (step_of p m b).machine
  -- so is every delivery, and every reset
  pub call : (p : Profile) (m m' : Machine) → Alike p m m' → Shut m → (c : Call) → SameDelivery p (called p m c) (called p m' c)
  -- over any calls: what is seen is one and the same
  pub calls : (p : Profile) (m m' : Machine) → Alike p m m' → Shut m → (cs : List Call) → seen_of p m cs ≡ seen_of p m' cs
  -- running code, from its promises. Two feeds, whatever the profile, the state and the buffers are: refused alike or accepted alike, with all that they
  -- return and leave; a lent slice keeps its length
  pub feed : (p : Profile) (st : State) (input : List ℕ) (before before' after after' : Lent) (r r' : Fed)
      → AlikeLent p st before before' → is_shut st.stage ≡ true
      → length after.receive ≡ length before.receive → length after'.receive ≡ length before'.receive
      → Feeds p st input before after r → Feeds p st input before' after' r' → SameFeed p after after' r r'
  -- two starts and two resets
  pub start : (p : Profile) (image image' receive receive' : List ℕ) (r r' : Started) → SameStored p image image' → length receive ≡ length receive'
      → Starts p (length image) zero_state r → Starts p (length image') zero_state r'
      → (r ≡ r')
      × AlikeKept p (record { image = image; receive = receive; state = r.state }) (record { image = image'; receive = receive'; state = r'.state })
  pub reset : (p : Profile) (k k' : Kept) (r r' : Started) → AlikeKept p k k'
      → Starts p (length k.image) k.state r → Starts p (length k'.image) k'.state r'
      → (r ≡ r') × AlikeKept p (kept_by k (resetting r)) (kept_by k' (resetting r'))
  -- and any calls, one behind the other: what the two callers are told is one and the same; while none enters, what they keep is alike
  pub told : (p : Profile) (k k' : Kept) → AlikeKept p k k' → is_shut k.state.stage ≡ true → (both : List Both) → BothHonest p k k' both
      → told_in k (map on_first both) ≡ told_in k' (map on_second both)
  pub kept : (p : Profile) (k k' : Kept) → AlikeKept p k k' → is_shut k.state.stage ≡ true → (both : List Both) → BothHonest p k k' both
      → StayShut k (map on_first both) → AlikeKept p (kept_after k (map on_first both)) (kept_after k' (map on_second both))
  -- there are such sessions, whatever is called for
  pub sessions : (p : Profile) (k k' : Kept) (reply reply' : List ℕ) → length reply ≡ length reply' → (cs : List Call) → TwoSessions p k k' reply reply' cs
  -- what a call tells is what there is to tell; and it is told of every call up to the one that enters
  pub due : (p : Profile) (k : Kept) (t : Turn) → Honest p k t → told_by k t ≡ to_tell p k t
  pub on : (k : Kept) (t : Turn) (more : List Turn) → is_shut (kept_by k t).state.stage ≡ true → told_in k (t ∷ more) ≡ told_by k t ∷ told_in (kept_by k t) more
  pub last : (k : Kept) (t : Turn) (more : List Turn) → is_shut (kept_by k t).state.stage ≡ false → told_in k (t ∷ more) ≡ told_by k t ∷ []
  -- what does not end the claim, computed: an unread byte, a packet that is cut, a total erase, a reset; whatever the user byte is
  pub goes_on : (user : ℕ) → seen_of tiny (fresh_of tiny (tiny_image user 0xC0 0xFF 0xFF 0xFF)) tiny_line ≡ tiny_seen
  -- where it ends: before the command stage another stored ID may tell devices apart, in it any byte may, and behind a reset out of it
  pub by_id : ByTheId
  pub by_commands : ByCommands
  pub not_again : NotAgain
