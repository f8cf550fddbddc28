-- Acts: what an answer does to the flash. The device performs them, and the replay reads the same ones out of requests and replies.
use Rattle.std.specs.Prelude.{List, ℕ, take}
use Rattle.profile.specs.declared.Area.{Area}
use Rattle.flash.specs.declared.Act.{Act}
use Rattle.flash.specs.declared.Act.TheVariants.{Nothing, EraseRange, EraseAll, Store}
use Rattle.flash.specs.Effects.{stored, erased, blanked}

-- bytes are the data bytes of the packet that was answered; a write stores all of them: device_steps, proofs/Defaults, `packet_there`
unfoldable pub performed : List Area → Act → List ℕ → List ℕ → List ℕ
performed areas Nothing bytes image = image
performed areas (EraseRange s e) bytes image = erased areas s e image
performed areas EraseAll bytes image = blanked image
performed areas (Store x n) bytes image = stored areas x (take n bytes) image
