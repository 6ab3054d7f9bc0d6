-- The flow record by the template whose octets these are.
use Rattle.std.proofs.Common.{◌∙◌}
use Rattle.ipfix_reader.specs.Numbers.{fields_behind}
use Rattle.ipfix_reader.proofs.FlowPlaces.{flow-octets_v4, flow-octets_v6}
use Rattle.ipfix_reader.proofs.flow.flow_in.Goals as goal

pub returns-in-V4 : goal.returns-in-V4
returns-in-V4 c =
    let source = c.from-source.ensures ∙ c.u32_at.ensures in
    let destination = c.from-destination.ensures ∙ c.u32_at-in-V4.ensures in
    flow-octets_v4 c.args.rec _ c.flow_with.result c.in-V4.is
    (c.numbers_behind.ensures 4 ∙ (λ i. fields_behind 4 (source i) (destination i) 8 c.args.rec.octets.now))
    c.flow_with.ensures

pub returns-in-V6 : goal.returns-in-V6
returns-in-V6 c =
    let source = c.u128_at-source.ensures in
    let destination = c.u128_at-destination.ensures in
    flow-octets_v6 c.args.rec _ c.flow_with-in-V6.result c.in-V6.is
    (c.numbers_behind-in-V6.ensures 6 ∙ (λ i. fields_behind 6 (source i) (destination i) 32 c.args.rec.octets.now))
    c.flow_with-in-V6.ensures
