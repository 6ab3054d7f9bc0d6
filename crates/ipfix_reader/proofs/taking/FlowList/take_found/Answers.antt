-- One record more, by whether another one was taken before it, and by whether it is a flow record.
use Rattle.std.proofs.Common.{◌++◌, ◌∷◌, [], sym, subst, Bool, false, List, ◌∙◌}
use Rattle.record_ledger.specs.declared.record.FlowRecord.{FlowRecord}
use Rattle.ipfix_reader.specs.Taking.{HasFlows}
use Rattle.ipfix_reader.proofs.FlowLists.{flows-more}
use Rattle.ipfix_reader.proofs.taking.FlowList.take_found.Goals as goal

pub returns-in_ok-push-in-Some : goal.returns-in_ok-push-in-Some
returns-in_ok-push-in-Some c = λ before one found has.
    let flows = c.args.self.now.flows.items in
    let all = flows-more before flows one c.in-Some.flow
    (subst (λ (b : Bool). HasFlows flows b before) c.if-self.false has) (sym found ∙ c.in-Some.is) in
    subst (λ (b : Bool). HasFlows c.push.new.self.items b (before ++ one ∷ [])) (sym c.if-self.false)
    (subst (λ (fs : List FlowRecord). HasFlows fs false (before ++ one ∷ []))
    (sym c.in_ok-push-in-Some.ensures.items) all)
