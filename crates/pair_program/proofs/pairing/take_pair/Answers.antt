-- The record at the place, and its mate.
use Rattle.std.proofs.Common.{◌+◌, sym, subst, arith, get_or}
use Rattle.record_ledger.specs.declared.record.FlowRecord.{FlowRecord}
use Rattle.pair_program.specs.Chains.{IsFirstPlace, place_of}
use Rattle.pair_program.proofs.Linking.{places-behind}
use Rattle.pair_program.proofs.Mating.{takes_pair}
use Rattle.pair_program.proofs.pairing.take_pair.Goals as goal

pub take_mate-requires-clause-places : goal.take_mate-requires-clause-places
take_mate-requires-clause-places c =
    let own = c.index-records-place.result in
    let links = c.args.links.now in
    let first =
    subst (λ (r : FlowRecord). IsFirstPlace c.args.records.now (c.args.place + 1) r.part.key
    (get_or links c.args.place 0)) (sym c.index-records-place.is)
    (c.requires.links c.args.place own (omega arith) c.requires.inside) in
    places-behind c.args.records.now c.args.place (place_of c.args.heads.now) (place_of c.set.new.self) own
    (get_or links c.args.place 0) c.requires.inside
    c.index-records-place.is c.requires.places c.in_ok-set.ensures first

pub returns-clause-taken : goal.returns-clause-taken
returns-clause-taken c =
    let own = c.index-records-place.result in
    let links = c.args.links.now in
    let first =
    subst (λ (r : FlowRecord). IsFirstPlace c.args.records.now (c.args.place + 1) r.part.key
    (get_or links c.args.place 0)) (sym c.index-records-place.is)
    (c.requires.links c.args.place own (omega arith) c.requires.inside) in
    takes_pair c.args.idle c.args.records.now c.args.place own (place_of c.args.heads.now) (place_of c.set.new.self)
    (place_of c.take_mate.new.heads)
    (get_or links c.args.place 0) c.in_ok-reverse.reverse c.requires.inside c.index-records-place.is
    (omega arith) first c.in_ok-set.ensures
    c.in_ok-reverse.ensures.taken
