-- Each turn joins the top of the stack, which is of the part's key and doesn't end after it, with the fragment.
use Rattle.std.proofs.Common.{◌≡◌, ◌-◌, ◌≤◌, ◌∷◌, ◌++◌, ℕ, List, [], length, reverse, take, refl, sym, ◌∙◌, subst}
use Rattle.std.proofs.Common.{arith}
use Rattle.std.proofs.lemmas.List.{take_all, length-map, length-take}
use Rattle.std.proofs.lemmas.List.Sorted.{IsPermutation-refl}
use Rattle.flow_parts.specs.declared.fragment.Fragment.{Fragment}
use Rattle.flow_parts.specs.Joining.{IsJoinable}
use Rattle.record_ledger.specs.declared.record.FlowRecord.{FlowRecord}
use Rattle.record_ledger.specs.Lawful.{parts_of}
use Rattle.flow_parts.specs.Reaching.{Reaches}
use Rattle.flow_parts.specs.Reaching.Reaches.{moved}
use Rattle.record_ledger.specs.Gathered.{ComesTo}
use Rattle.record_ledger.proofs.Coming.{comes_joined, stands_behind}
use Rattle.record_ledger.proofs.InPlace.{top_of, top_split}
use Rattle.record_ledger.proofs.Reaching.{taken_on, packets_fit, octets_fit, front_holds}
use Rattle.record_ledger.proofs.joining.settle.Goals as goal

all : (X : List FlowRecord) → take (length X) (parts_of X) ≡ parts_of X
all X = take_all (length X) (parts_of X) (let long = length-map X (λ (r : FlowRecord). r.part) in omega arith)

pub loop-top-init : goal.loop-top-init
loop-top-init c = record {
  few = omega arith;
  reached = subst (λ fs. Reaches c.args.timeouts.now (c.args.part ∷ parts_of c.args.stack.now) (c.args.part ∷ fs))
      (sym (all c.args.stack.now)) (moved _ _ (IsPermutation-refl _));
  key = refl;
  last = refl;
  comes = λ after k. subst (λ fs. ComesTo c.args.timeouts.now (reverse fs) c.args.part after) (all c.args.stack.now) k;
}

pub join-whole-requires-clause-packets : goal.join-whole-requires-clause-packets
join-whole-requires-clause-packets c =
    let top = c.in-Some.ensures.some in
    let X : List FlowRecord = c.args.stack.now in
    let n : ℕ = c.loop-top.left in
    let split = top_split X n c.in-Some.top c.loop-top.invariant.few
    (let some = top.0 in omega (arith, length-take n X)) top.1 in
    packets_fit c.args.timeouts.now c.args.part (parts_of X) c.loop-top.whole c.in-Some.top (take n (parts_of X))
    (take (n - 1) (parts_of X)) _ split
    c.loop-top.invariant.reached c.requires.packets

pub join-whole-requires-clause-octets : goal.join-whole-requires-clause-octets
join-whole-requires-clause-octets c =
    let top = c.in-Some.ensures.some in
    let X : List FlowRecord = c.args.stack.now in
    let n : ℕ = c.loop-top.left in
    let split = top_split X n c.in-Some.top c.loop-top.invariant.few
    (let some = top.0 in omega (arith, length-take n X)) top.1 in
    octets_fit c.args.timeouts.now c.args.part (parts_of X) c.loop-top.whole c.in-Some.top (take n (parts_of X))
    (take (n - 1) (parts_of X)) _ split
    c.loop-top.invariant.reached c.requires.octets

pub loop-top-preserved : goal.loop-top-preserved
loop-top-preserved c =
    let top = c.in-Some.ensures.some in
    let joined = c.join-whole.ensures.joined in
    let X : List FlowRecord = c.args.stack.now in
    let F : List Fragment = parts_of X in
    let n : ℕ = c.loop-top.left in
    let split : take n F ≡ take (n - 1) F ++ c.in-Some.top ∷ [] =
    top_split X n c.in-Some.top c.loop-top.invariant.few (let some = top.0 in omega (arith, length-take n X)) top.1 in
    let key : c.in-Some.top.key ≡ c.args.part.key = top.2.one_key ∙ c.loop-top.invariant.key in
    let early : c.in-Some.top.last ≤ c.args.part.last =
    front_holds (λ f. f.key ≡ c.args.part.key → f.last ≤ c.args.part.last) F (take n F) (take (n - 1) F) c.in-Some.top n
    split refl c.requires.latest key in
    record {
      few = (let few = c.loop-top.invariant.few in omega arith);
      reached = taken_on c.args.timeouts.now _ c.loop-top.whole c.in-Some.top c.join-whole.result (take n F)
          (take (n - 1) F) split top.2 joined c.loop-top.invariant.reached;
      key = joined.key ∙ key;
      last = (let last = joined.last in let was = c.loop-top.invariant.last in omega arith);
      comes = λ after k. c.loop-top.invariant.comes after
          (comes_joined c.args.timeouts.now (take n F) (take (n - 1) F) c.in-Some.top c.loop-top.whole
          c.join-whole.result
          after split top.2 joined k);
    }

pub returns-clause-apart : goal.returns-clause-apart
returns-clause-apart c = λ d some j.
    let X : List FlowRecord = c.args.stack.now in
    let n : ℕ = c.loop-top.left in
    c.in_default.ensures.none d (let few = c.loop-top.invariant.few in omega (arith, length-take n X))
    (subst (λ f. IsJoinable c.args.timeouts.now f c.loop-top.whole)
    (sym (top_of X n d c.loop-top.invariant.few some)) j)

pub returns-clause-comes : goal.returns-clause-comes
returns-clause-comes c = c.loop-top.invariant.comes _
    (stands_behind c.args.timeouts.now (parts_of c.args.stack.now) c.loop-top.left c.loop-top.whole
    (let few = c.loop-top.invariant.few in omega (arith, length-map c.args.stack.now (λ (r : FlowRecord). r.part)))
    (returns-clause-apart c))
