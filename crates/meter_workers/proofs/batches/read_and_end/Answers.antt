-- What the reader has read stays once it has said that no more batches come.
use Rattle.meter_workers.proofs.Common.{◌≡◌, ◌++◌, [], length, sym, ◌∙◌, subst, All, IsPermutation, IfOk-weaker, put_of}
use Rattle.meter_workers.proofs.Common.{reader_of, first-more, more-none, StandsBefore, answers_in}
use Rattle.meter_workers.proofs.batches.read_and_end.Goals as goal

pub returns-clause-read : goal.returns-clause-read
returns-clause-read g c =
    IfOk-weaker c.read_all-end.result _ _ (λ tail has.
    let handed = has.2 in
    let old = reader_of c.read_all-end.new.reader.feed in
    let new = reader_of c.end.new.feed in
    let same = c.end.ensures.same in
    let put : put_of new ≡ put_of old = (λ i. (same i).put) in (
      has.0,
      has.1,
      record {
        first = first-more c.args.shared.now.queue c.args.shared.now.workers old new [] c.end.ensures.own
            (same ∙ more-none old) handed.first;
        behind = subst (All (StandsBefore c.read_all-end.new.reader.next (length has.0))) (sym put) handed.behind;
        low = handed.low;
        own = handed.own;
        all = subst (λ l. IsPermutation has.0 (handed.own ++ answers_in l)) (sym put) handed.all;
        is = handed.is;
      },
    )) c.read_all-end.ensures.read
