-- Each turn gives one more copy its reason.
use Rattle.std.proofs.Common.{◌≡◌, ◌<◌, ◌∙◌, Some, get_or, length, ap, subst, arith, option_map}
use Rattle.std.proofs.Math.ListN.{length-set}
use Rattle.std.proofs.lemmas.List.{get_or_default}
use Rattle.record_ledger.specs.declared.record.FlowRecord.{FlowRecord}
use Rattle.record_ledger.specs.declared.place.Place.{Place}
use Rattle.record_ledger.specs.Buckets.{record_at}
use Rattle.record_ledger.proofs.Copied.{same_found, one_more, still_all}
use Rattle.record_ledger.proofs.record_list.give_reasons.Goals as goal

pub loop-at-init : goal.loop-at-init
loop-at-init c = record {
  parts = λ k d l p. c.requires.parts k p d (omega (arith, l, c.requires.many));
  records = λ k d l p. absurd (omega (arith, l));
}

pub reason_at-requires-clause-place : goal.reason_at-requires-clause-place
reason_at-requires-clause-place c =
    c.requires.places c.loop-at.at _ (omega (arith, c.loop-at-test.true, c.requires.many))

pub reason_at-requires-clause-part : goal.reason_at-requires-clause-part
reason_at-requires-clause-part c =
    c.loop-at.invariant.parts c.loop-at.at _ (omega (arith, c.loop-at-test.true, c.loop-at.auto.run)) _

pub loop-at-preserved : goal.loop-at-preserved
loop-at-preserved c =
    let store = c.args.store.now in
    let places = c.args.places.now in
    let at = c.loop-at.at in
    let inside : at < length c.loop-at.run = omega (arith, c.loop-at-test.true, c.loop-at.auto.run) in
    let low : at < length places = omega (arith, c.loop-at-test.true, c.requires.many) in
    let part = c.loop-at.invariant.parts at c.index-run-at-in-loop-at.result inside in
    record {
      parts = λ k d l. still_all (λ k d (x : FlowRecord). (p : Place)
          → option_map (λ (r : FlowRecord). r.part) (record_at store (get_or places k p)) ≡ Some x.part)
          c.loop-at.run at _ inside (λ d. part) c.loop-at.invariant.parts k d
          (subst (λ n. k < n) (length-set c.loop-at.run at _) l);
      records = one_more (λ k d (x : FlowRecord). (p : Place) → record_at store (get_or places k p) ≡ Some x)
          c.loop-at.run at _ inside
          (λ d p. same_found (record_at store (get_or places at p)) (c.requires.places at p low) _ (part p)
          (ap (λ q. option_map (λ (r : FlowRecord). r.reason) (record_at store q))
          (get_or_default places at p (record { last = 0; leading = 0; bucket = 0; at = 0 }) low)
          ∙ c.reason_at.ensures)) c.loop-at.invariant.records;
    }
