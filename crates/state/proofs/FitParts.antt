-- A state fits exactly where each part of the test holds; held bytes that fit are few. Assumes nothing.
use mathlib.Core.Bool.{Bool, true, ◌&&◌}
use mathlib.Core.List.{List}
use mathlib.Core.Logic.{◌↔◌}
use mathlib.Core.Path.{◌≡◌}
use Prim.Native.Nat.{ℕ, ◌<◌}
use native.Mathlib.Omega.{arith}
use lib.ListN.{length, take}
use lib.Dec.{leb}
use borrow.Author.Tests.{leb-true, le-leb, eqb-true}
use Rattle.profile.specs.declared.Profile.{Profile}
use Rattle.profile.specs.Areas.{areas_of}
use Rattle.packet.proofs.Laws.{both}
use Rattle.packet.proofs.Partial.{partial_few}
use Rattle.state.specs.declared.Awaited.{Awaited}
use Rattle.state.specs.declared.Awaited.TheVariants.{WakeUp, Packet}
use Rattle.state.specs.declared.State.{State}
use Rattle.state.specs.State.{window_of}
use Rattle.state.specs.Awaits.{awaits_of, held_fits}
use Rattle.state.specs.Fits.{stage_fits, fits_of}
use Rattle.state.specs.Fit.{Fit}

module _ (p : Profile) (st : State) (receive : List ℕ) where
  -- the second and third part of the test
  abbrev held : Bool
  held = held_fits (awaits_of st.stage) (take st.held receive)

  abbrev stage : Bool
  stage = stage_fits (areas_of p) (window_of p st) st.stage

  pub fit : fits_of p st receive ≡ true → Fit p st receive
  unfolding fits_of
  fit e =
      let t = both (leb st.held (length receive)) (held && stage) e in
      let u = both held stage t.1 in
      record { inside = leb-true st.held (length receive) t.0; held = u.0; stage = u.1 }

  pub fits : Fit p st receive → fits_of p st receive ≡ true
  unfolding fits_of
  fits f = simp (le-leb _ _ f.inside, f.held, f.stage)

  pub fits_exactly : (fits_of p st receive ≡ true) ↔ Fit p st receive
  fits_exactly = (fit, fits)

-- no stage holds as many bytes as a longest packet has
pub fit_few : (awaited : Awaited) (held : List ℕ) → held_fits awaited held ≡ true → length held < 1030
unfolding held_fits
fit_few (WakeUp pulse) held e = omega (arith, eqb-true (length held) 0 e)
fit_few (Packet kind) held e = partial_few kind held e
