-- An area whose numbers are no wider than their fields, which the code's types see to.
use Rattle.std.specs.Prelude.{◌<◌}
use Rattle.profile.specs.declared.Area.{Area}

pub record FormedArea (a : Area) : Type 0 where
  pub koa : a.koa < 256
  pub sad : a.sad < 4294967296
  pub ead : a.ead < 4294967296
  pub eau : a.eau < 4294967296
  pub wau : a.wau < 4294967296
