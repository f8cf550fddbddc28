-- `interface_record::indraveck_read_record` meets its contract. Its number and its part are those of what was found. Assumes nothing.
use mathlib.Core.Path.{ap, ◌∙◌}
use Rattle.interface_record.specs.Post.{part_by}
use Rattle.recording.specs.Recording.{found_number}
use Rattle.recording.specs.declared.Part.{Part}
use Rattle.interface_record.proofs.indraveck_read_record.Goals as goal

pub returns : goal.returns
returns c = let part = c.part_of-part.ensures ∙ ap (part_by c.args.at) c.record_at-found.ensures in record { number = c.from-2.ensures ∙ c.from.ensures ∙ ap found_number c.record_at-found.ensures; first = ap (λ (p : Part). p.from) part; behind = ap (λ (p : Part). p.to) part }
