-- Each list is sorted by one call.
use Rattle.std.proofs.Common.{rules, ◌≡◌, get_or, length, subst}
use Rattle.std.specs.declared.vec.Vec.{Vec}
use Rattle.std.specs.declared.alloc.Global.{Global}
use Rattle.record_ledger.specs.declared.place.Place.{Place}
use Rattle.record_ledger.proofs.Seamed.{Sorts}
use Rattle.record_ledger.proofs.Settled.{all-zip}
use Rattle.record_ledger.proofs.sorting.sort_places.Goals as goal

pub returns : goal.returns
returns g c =
    let R : Vec Place Global → Vec Place Global → Type 0 = Sorts c.args.store.now in
    let same : length c.for_each_mut.new.items ≡ length c.args.order.now = search rules in
    all-zip R c.args.order.now c.for_each_mut.new.items same (λ i d lt.
    let k = (c.for_each_mut.ensures i d lt).1 in
    subst (λ o. R o (get_or c.for_each_mut.new.items i d)) k.argument_is (subst (λ w. R k.argument.now w) k.left k.call))
