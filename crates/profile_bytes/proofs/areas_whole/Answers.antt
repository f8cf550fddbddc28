-- `profile_bytes::areas_whole` meets its contract. Each area, cut out, is the one in the bytes, from the last to the first. Assumes nothing.
use Rattle.profile_bytes.proofs.AreaLaws.{part_more}
use Rattle.profile_bytes.specs.Profile.{areas_from}
use lib.ListN.{length}
use native.Mathlib.Omega.{arith}
use Prim.Native.Nat.{ℕ}
use mathlib.Core.Path.{◌≡◌, refl}
use mathlib.Core.List.{List}
use Rattle.profile_bytes.proofs.areas_whole.Goals as goal

pub slice_bounds-area_of-end-8 : goal.slice_bounds-area_of-end-8
slice_bounds-area_of-end-8 c = omega (arith, c.requires)

pub returns : goal.returns
unfolding areas_from
returns c =
    let bs : List ℕ = c.args.profile.now in
    let h : length bs ≡ 156 = c.requires in
    part_more 7 20 bs (omega (arith, h)) c.area_of.ensures
    (part_more 6 37 bs (omega (arith, h)) c.area_of-2.ensures
    (part_more 5 54 bs (omega (arith, h)) c.area_of-3.ensures
    (part_more 4 71 bs (omega (arith, h)) c.area_of-4.ensures
    (part_more 3 88 bs (omega (arith, h)) c.area_of-5.ensures
    (part_more 2 105 bs (omega (arith, h)) c.area_of-6.ensures
    (part_more 1 122 bs (omega (arith, h)) c.area_of-7.ensures
    (part_more 0 139 bs (omega (arith, h)) c.area_of-8.ensures refl)))))))
