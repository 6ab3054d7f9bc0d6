-- What was taken has few enough packets and octets, and what is gathered of it is joined.
use Rattle.std.proofs.Common.{ap, arith, sum_by, Result, Ok, Err}
use Rattle.std.specs.Result.{IfOk}
use Rattle.flow_parts.specs.declared.fragment.Fragment.{Fragment}
use Rattle.join_program.specs.Taking.{asked_of}
use Rattle.join_program.proofs.Together.{joined, exact}
use Rattle.join_program.proofs.joining.gather_taken.Goals as goal

all_four : {A E : Type 0} {P Q R S T : A → Type 0} (r : Result A E) → IfOk r P → IfOk r Q → IfOk r R → IfOk r S
    → ((a : A) → P a → Q a → R a → S a → T a) → IfOk r T
all_four (Ok a) p q r s f = f a p q r s
all_four (Err e) p q r s f = tt

one_more : {A E : Type 0} {P T : A → Type 0} (r : Result A E) → IfOk r P → ((a : A) → P a → T a) → IfOk r T
one_more (Ok a) p f = f a p
one_more (Err e) p f = tt

pub gather-requires-clause-packets : goal.gather-requires-clause-packets
gather-requires-clause-packets g c κs within =
    let taken = c.requires.1 in
    let few = taken.few.packets in
    let e = ap (sum_by (λ (f : Fragment). f.packets)) taken.parts in omega arith

pub gather-requires-clause-octets : goal.gather-requires-clause-octets
gather-requires-clause-octets g c κs within =
    let taken = c.requires.1 in
    let few = taken.few.octets in
    let e = ap (sum_by (λ (f : Fragment). f.octets)) taken.parts in omega arith

pub returns-clause-joined : goal.returns-clause-joined
returns-clause-joined g c = all_four c.gather.result c.gather.ensures.regroups c.gather.ensures.lawful_by
    c.gather.ensures.lawful c.gather.ensures.sessions
    (λ records regroups by own sessions names inputs taken.
    joined (asked_of c.args.settings.now names) inputs c.args.taken.clock c.new-limits.result
    c.args.taken.parts records c.new-limits.ensures.idle c.new-limits.ensures.active
    taken.parts taken.clock regroups by own sessions)

pub returns-clause-gathered : goal.returns-clause-gathered
returns-clause-gathered g c = one_more c.gather.result c.gather.ensures.gathered (λ records gathered names inputs taken.
    exact (asked_of c.args.settings.now names) inputs c.args.taken.clock c.new-limits.result c.args.taken.parts records
    c.gathered_lists_are_one.ensures.by_keys c.new-limits.ensures.idle c.new-limits.ensures.active
    taken.parts taken.clock gathered)
