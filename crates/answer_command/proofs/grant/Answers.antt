-- `answer_command::grant` meets its contract. A range that was granted ends below the last address, and an area number that was granted is one of eight. Assumes nothing.
use Rattle.packet_fields.specs.Fields.{sad_of, ead_of}
use Rattle.answer_command.proofs.Spans.{write_span, read_span, area_number, span_ends}
use mathlib.Core.Path.{sym, ◌∙◌}
use Rattle.answer_command.proofs.grant.Goals as goal

pub span-requires : goal.span-requires
span-requires c =
    let a = c.args in
    let g = c.requires.0 in
    write_span a.profile a.state a.packet.now g.profile g.none_applies (sym g.is ∙ c.in-Write.is)

pub span-requires-in-Read : goal.span-requires-in-Read
span-requires-in-Read c =
    let a = c.args in
    let g = c.requires.0 in
    read_span a.profile a.state a.packet.now g.profile g.none_applies (sym g.is ∙ c.in-Read.is)

pub read_packet-requires : goal.read_packet-requires
read_packet-requires c =
    let a = c.args in
    let pre = c.requires in
    let g = pre.0 in
    let s = read_span a.profile a.state a.packet.now g.profile g.none_applies (sym g.is ∙ c.in-Read.is) in
    (span_ends c.span-in-Read.result (sad_of a.packet.now) (ead_of a.packet.now) c.span-in-Read.ensures s.0 s.1, pre.1)

pub grant_area-requires : goal.grant_area-requires
grant_area-requires c =
    let a = c.args in
    let pre = c.requires in
    let g = pre.0 in
    (pre.1, area_number a.profile a.state a.packet.now g.profile g.none_applies (sym g.is ∙ c.in-Area.is))
