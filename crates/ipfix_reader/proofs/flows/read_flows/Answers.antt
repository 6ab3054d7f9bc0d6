-- The flow records of the data records that were taken, and why there are none.
use Rattle.std.proofs.Common.{◌∙◌, Bool, sym, subst}
use Rattle.ipfix_reader.specs.Others.{IsFirstOther}
use Rattle.ipfix_reader.specs.Taking.{HasFlows}
use Rattle.ipfix_reader.proofs.FlowLists.{first-other, flows-whole, flows-none}
use Rattle.ipfix_reader.proofs.flows.read_flows.Goals as goal

pub returns-then-has_other-clause-cause : goal.returns-then-has_other-clause-cause
returns-then-has_other-clause-cause c =
    let way = c.in-Ok.ensures.taken (flows-none _ _ c.new-list.ensures.flows c.new-list.ensures.other) in
    let flows = c.read_into.new.taker.flows.items in (
      way.0,
      way.2,
      subst (IsFirstOther way.0) (sym (c.len.ensures ∙ c.read_into.new.taker.flows.ok.0))
          (first-other way.0 flows (subst (λ (b : Bool). HasFlows flows b way.0) c.if-has_other.true way.1)),
    )

pub returns-clause-flows : goal.returns-clause-flows
returns-clause-flows c =
    let way = c.in-Ok.ensures.taken (flows-none _ _ c.new-list.ensures.flows c.new-list.ensures.other) in
    let flows = c.read_into.new.taker.flows.items in
    flows-whole c.args.bytes.now way.0 flows way.2
    (subst (λ (b : Bool). HasFlows flows b way.0) c.if-has_other.false way.1)
