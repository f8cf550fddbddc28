-- `interface_host::indraveck_build` meets its contract. Numbers that are no request build nothing; the rest is what building answered.
-- Assumes nothing.
use mathlib.Core.Path.{◌∙◌}
use Rattle.interface_host.proofs.Outcome.{length_or_none, unasked_builds, asked_builds}
use Rattle.interface_host.proofs.indraveck_build.Goals as goal

pub returns-in_default : goal.returns-in_default
returns-in_default c =
    let a = c.args in
    unasked_builds a.request a.first a.second c.request_of.ensures c.in_default.is
    a.bytes.now a.buffer.now

pub returns : goal.returns
returns c =
    let a = c.args in
    asked_builds a.request a.first a.second c.request_of.ensures c.in-Some.is
    c.build-built.ensures c.built_number.ensures (c.unwrap_or.ensures ∙ length_or_none c.build-built.result)
