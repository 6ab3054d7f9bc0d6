use Rattle.front_cache.proofs.Emptying.{empty_kept, empty_open}
use Rattle.front_cache.proofs.table.Front.open.Goals as goal

pub invariant_of-result : goal.invariant_of-result
invariant_of-result c =
    empty_kept c.in_ok-contents.contents.items c.in_ok-contents.ensures.0 c.in_ok-contents.ensures.1

pub returns-clause-empty : goal.returns-clause-empty
returns-clause-empty c = empty_open c.in_ok-contents.contents.items c.in_ok-contents.ensures.1
