-- A record's step.
use Rattle.std.proofs.Common.{◌∙◌, ap, take}
use Rattle.ipfix_reader.specs.Part.{Part, behind}
use Rattle.ipfix_reader.specs.Cursors.{part_of}
use Rattle.ipfix_reader.proofs.FlowPlaces.{data_records-flow}
use Rattle.ipfix_reader.proofs.Takings.{taken-one}
use Rattle.ipfix_reader.proofs.records.read_flow.Goals as goal

pub returns-clause-ok : goal.returns-clause-ok
returns-clause-ok g c = λ before taken.
    let size = c.record_length-size.ensures in
    taken-one _ before _ _ _ (c.in_ok-take_octets.ensures before taken)
    (data_records-flow _ before (part_of c.args.part) _ c.requires
    (ap (λ (p : Part). p.bytes) c.first_part.ensures ∙ ap (λ n. take n c.args.part.bytes.now) size)
    (c.behind.ensures ∙ ap (λ n. behind n (part_of c.args.part)) size))
