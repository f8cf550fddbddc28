-- Two devices that nobody tells apart before the command stage: what they have to agree in. All else of their images is free.
use Rattle.std.specs.Prelude.{Bool, true, false, List, ◌≡◌, ℕ, length}
use Rattle.profile.specs.declared.Profile.{Profile}
use Rattle.profile.specs.Areas.{areas_of}
use Rattle.id_code.specs.Identity.{id_of}
use Rattle.state.specs.declared.Stage.{Stage}
use Rattle.state.specs.declared.Stage.TheVariants.{Setting, Authentication, Command, Writing, Reading}
use Rattle.device_steps.specs.Step.{Machine}

-- the command stage is not entered yet; a write and a read are under way in it
abbrev pub is_shut : Stage → Bool
is_shut (Setting pulse) = true
is_shut Authentication = true
is_shut Command = false
is_shut (Writing r) = false
is_shut (Reading r) = false

abbrev pub Shut : Machine → Type 0
Shut m = is_shut m.state.stage ≡ true

-- the images: one length, and the stored ID
pub record SameStored (p : Profile) (image image' : List ℕ) : Type 0 where
  pub size : length image ≡ length image'
  pub id : id_of (areas_of p) image ≡ id_of (areas_of p) image'

-- the whole state, with the latched ID, and the held bytes
pub record Alike (p : Profile) (m m' : Machine) : Type 0 where
  pub state : m.state ≡ m'.state
  pub held : m.held ≡ m'.held
  pub stored : SameStored p m.image m'.image
