-- A delivery of bytes: it stops behind the byte that completes the first reply.
use Rattle.std.specs.Prelude.{cond, List, [], ◌∷◌, ℕ, ◌+◌, length, eqb}
use Rattle.profile.specs.declared.Profile.{Profile}
use Rattle.device_steps.specs.Step.{Machine, Step, step_of}

pub record Delivery : Type 0 where
  pub machine : Machine
  pub reply : List ℕ
  pub consumed : ℕ

-- a byte, and what follows it if it brought no reply
abbrev pub onward : Step → Delivery → Delivery
onward s rest =
    cond (eqb (length s.reply) 0)
    (record { machine = rest.machine; reply = rest.reply; consumed = rest.consumed + 1 })
    (record { machine = s.machine; reply = s.reply; consumed = 1 })

unfoldable pub feed_of : Profile → Machine → List ℕ → Delivery
feed_of p m [] = record { machine = m; reply = []; consumed = 0 }
feed_of p m (b ∷ bs) = onward (step_of p m b) (feed_of p (step_of p m b).machine bs)
