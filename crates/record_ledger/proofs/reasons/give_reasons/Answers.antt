-- Each turn gives one more record its reason.
use Rattle.std.proofs.Common.{◌≡◌, ℕ, ◌+◌, ◌-◌, List, take, length-drop, drop, get_or, length, sym, ap, ◌∙◌, refl}
use Rattle.std.proofs.Common.{subst, arith}
use Rattle.std.proofs.Math.ListN.{length-set}
use Rattle.std.proofs.Math.Seq.{map-set_same}
use Rattle.std.proofs.lemmas.List.{drop-map, get_or_default, take_all}
use Rattle.flow_parts.specs.declared.fragment.Fragment.{Fragment}
use Rattle.record_ledger.specs.declared.record.FlowRecord.{FlowRecord}
use Rattle.record_ledger.specs.Lawful.{parts_of, reason_of}
use Rattle.record_ledger.specs.Steps.{next_of_key}
use Rattle.record_ledger.proofs.InPlace.{reasons_more}
use Rattle.record_ledger.proofs.reasons.give_reasons.Goals as goal

pub loop-place-preserved : goal.loop-place-preserved
loop-place-preserved c =
    let X : List FlowRecord = c.loop-place.records in
    let p : ℕ = c.loop-place.place in
    let R : FlowRecord = c.index-records-place-in-loop-place.result in
    let here : (get_or X p c.index-records-place.result).part ≡ (get_or X p R).part =
    ap (λ (r : FlowRecord). r.part) (get_or_default X p c.index-records-place.result R (omega arith)) in
    let rest : take (length X - (p + 1)) (drop (p + 1) X) ≡ drop (p + 1) X =
    take_all (length X - (p + 1)) (drop (p + 1) X) (omega (arith, length-drop (p + 1) X)) in
    let right : c.reason.result ≡ reason_of c.args.timeouts.now c.args.clock (get_or X p R).part
    (next_of_key (get_or X p R).part (drop (p + 1) (parts_of X))) =
    subst (λ (f : Fragment). c.reason.result
    ≡ reason_of c.args.timeouts.now c.args.clock f (next_of_key f (drop (p + 1) (parts_of X)))) here
    (subst (λ fs. c.reason.result ≡ reason_of c.args.timeouts.now c.args.clock
    (get_or X p c.index-records-place.result).part (next_of_key (get_or X p c.index-records-place.result).part fs))
    (ap parts_of rest ∙ sym (drop-map (λ (r : FlowRecord). r.part) (p + 1) X)) c.reason.ensures) in
    record {
      long = c.loop-place.invariant.long ∙ sym (length-set X p _);
      parts = map-set_same (λ (r : FlowRecord). r.part) X p _ R refl ∙ c.loop-place.invariant.parts;
      reasons = reasons_more c.args.timeouts.now c.args.clock X p _ R
          (omega arith) refl right c.loop-place.invariant.reasons;
    }
