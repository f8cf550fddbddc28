-- `flash::fetch_at` meets its contract. Clipping a part to the image's length leaves its bytes as they are. Assumes nothing.
use mathlib.Core.Path.{refl}
use native.Mathlib.Omega.{arith}
use Rattle.flash.proofs.Clip.{fetch_part, fetch_from}
use Rattle.flash.proofs.fetch_at.Goals as goal

pub returns : goal.returns
returns c =
    let a = c.args in
    let from = c.min-from in
    let most = c.min in
    record {
      bytes = fetch_part a.spot a.address a.count a.image.now from.result most.result from.ensures most.ensures;
      block = refl;
      start = omega (arith, fetch_from a.spot a.address a.image.now from.result from.ensures);
    }
