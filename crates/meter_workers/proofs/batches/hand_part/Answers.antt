use Rattle.meter_workers.proofs.Common.{◌≡◌, ◌++◌, List, sym, ap, ◌∙◌, subst, append-nil}
use Rattle.meter_workers.proofs.Common.{part_of, Answer, answers_from, base_in, part_in, answers-count, HasHandedOn}
use Rattle.std.proofs.lemmas.List.{nil_from_length}
use Rattle.meter_workers.proofs.batches.hand_part.Goals as goal

pub returns-then-count-eq0-clause-handed : goal.returns-then-count-eq0-clause-handed
returns-then-count-eq0-clause-handed g c = λ answers at had.
    let base = base_in c.args.read.0 in
    let part = part_in c.args.read.0 in
    let none = nil_from_length (answers_from base part)
    (answers-count base part ∙ sym c.requires.part.count ∙ sym c.count.ensures ∙ c.if-count-eq0.true) in
    subst (λ (l : List Answer). HasHandedOn g.C.FlowCache c.args.cache.now c.args.shared.now.queue
    c.args.shared.now.workers l c.args.reader.now) (sym (ap (λ l. answers ++ l) none ∙ append-nil answers)) had

pub hand_over-requires-clause-handed : goal.hand_over-requires-clause-handed
hand_over-requires-clause-handed g c κs within =
    let had = c.requires.handed in (had.0, c.base-base.ensures ∙ had.1, had.2)

pub returns-clause-handed : goal.returns-clause-handed
returns-clause-handed g c = λ answers at had.
    let same : answers_from c.base-base.result (part_of c.head-head.result c.take_bytes-bytes.result.0.items)
    ≡ answers_from (base_in c.args.read.0) (part_in c.args.read.0) =
    (λ i. answers_from (c.base-base.ensures i) (part_of (c.head-head.ensures i) c.take_bytes-bytes.result.0.items))
    ∙ ap (answers_from (base_in c.args.read.0)) c.take_bytes-bytes.ensures.part in
    subst (λ (l : List Answer). HasHandedOn g.C.FlowCache c.args.cache.now c.args.shared.now.queue
    c.args.shared.now.workers (answers ++ l) c.hand_over.new.reader) same
    (c.in_ok-hand_over.ensures.handed answers (c.base-base.ensures ∙ at) had)
