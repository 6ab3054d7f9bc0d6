-- There is a record at each of the places.
use Rattle.std.proofs.Common.{◌∙◌}
use Rattle.record_ledger.specs.Buckets.{places_of}
use Rattle.record_ledger.proofs.Copied.{as_long}
use Rattle.record_ledger.proofs.record_list.RecordList.len.Goals as goal

pub returns : goal.returns
returns c = c.self.invariant.1 ∙ as_long c.self.inside.store (places_of c.self.inside.order.items) c.args.self.now
    c.self.invariant.0 c.self.view_is
