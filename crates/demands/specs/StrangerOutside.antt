-- What a stranger can learn, for callers in C: the same on bytes, with numbers for answers.
use Rattle.std.specs.Prelude.{true, List, ◌≡◌, ℕ, length, take}
use Rattle.profile_bytes.specs.Profile.{profile_in}
use Rattle.state_bytes.specs.State.{state_in}
use Rattle.device_calls.specs.Calls.{Lent, buffers}
use Rattle.interface.specs.Calls.{LentBytes, bytes}
use Rattle.interface.specs.Post.{Numbers, StartedBytes, ResetBytes, state_or, FeedsBytes}
use Rattle.stranger.specs.Alike.{is_shut, SameStored}
use Rattle.stranger.specs.Running.{AlikeLent}

-- the buffers among the bytes that a call is lent
abbrev pub buffers_in : LentBytes → Lent
buffers_in l = buffers l.image l.receive l.reply

-- one and the same state in both, and buffers that are alike with it; bytes that are no state are refused, whatever stands for them
pub record AlikeBytes (profile : List ℕ) (l l' : LentBytes) : Type 0 where
  pub state : l.state ≡ l'.state
  pub lent : AlikeLent (profile_in profile) (state_or (state_in l.state)) (buffers_in l) (buffers_in l')

abbrev pub ShutBytes : LentBytes → Type 0
ShutBytes l = is_shut (state_or (state_in l.state)).stage ≡ true

-- the numbers that two feeds answer; the reply; and what they leave is alike again, with one and the same state
pub record SameNumbers (profile : List ℕ) (after after' : LentBytes) (r r' : Numbers) : Type 0 where
  pub result : r ≡ r'
  pub reply : take r.sent after.reply ≡ take r'.sent after'.reply
  pub lent : AlikeBytes profile after after'

pub record StrangerOutside : Type 0 where
  -- two feeds, refused or not; a lent slice keeps its length
  pub feed : (profile input : List ℕ) (before before' after after' : LentBytes) (r r' : Numbers) → AlikeBytes profile before before' → ShutBytes before
      → length after.receive ≡ length before.receive → length after'.receive ≡ length before'.receive
      → FeedsBytes profile input before after r → FeedsBytes profile input before' after' r' → SameNumbers profile after after' r r'
  -- two starts, whatever the state's bytes held before: accepted, they are followed by calls that are alike
  pub start : (profile image image' before before' after after' : List ℕ) (r r' : ℕ) → SameStored (profile_in profile) image image' → length before ≡ length before'
      → StartedBytes profile (length image) before after r → StartedBytes profile (length image') before' after' r'
      → (r ≡ r')
      × ((receive receive' reply reply' : List ℕ) → length receive ≡ length receive' → length reply ≡ length reply' → r ≡ 0
      → AlikeBytes profile (bytes image after receive reply) (bytes image' after' receive' reply'))
  -- two resets
  pub reset : (profile : List ℕ) (l l' : LentBytes) (after after' : List ℕ) (r r' : ℕ) → AlikeBytes profile l l'
      → ResetBytes profile (length l.image) l.state after r → ResetBytes profile (length l'.image) l'.state after' r'
      → (r ≡ r') × AlikeBytes profile (bytes l.image after l.receive l.reply) (bytes l'.image after' l'.receive l'.reply)
