-- The same of two calls of `feed`, each with buffers of its own.
use Rattle.std.specs.Prelude.{◌≡◌, length, take}
use Rattle.profile.specs.declared.Profile.{Profile}
use Rattle.state.specs.declared.State.{State}
use Rattle.device_calls.specs.Calls.{Lent}
use Rattle.device_steps.specs.Step.{machine_of}
use Rattle.device.specs.declared.Fed.{Fed}
use Rattle.stranger.specs.Alike.{Alike}

-- buffers that are lent with one state: they make two devices that are alike, and have the same lengths. Bytes behind the held ones and those of
-- an old reply are free
pub record AlikeLent (p : Profile) (st : State) (l l' : Lent) : Type 0 where
  pub machine : Alike p (machine_of st l) (machine_of st l')
  pub receive : length l.receive ≡ length l'.receive
  pub reply : length l.reply ≡ length l'.reply

-- all that two calls return, refused or not; the reply; and what they leave is alike again
pub record SameFeed (p : Profile) (after after' : Lent) (r r' : Fed) : Type 0 where
  pub result : r ≡ r'
  pub reply : take r.count after.reply ≡ take r'.count after'.reply
  pub lent : AlikeLent p r.state after after'
