-- The mate, or none.
use Rattle.std.proofs.Common.{◌∙◌, sym, arith}
use Rattle.pair_program.specs.Chains.{place_of}
use Rattle.pair_program.proofs.Linking.{places-set}
use Rattle.pair_program.proofs.Mating.{takes_none-own, takes_none-past, takes_none-far, takes_mate, link_place}
use Rattle.pair_program.proofs.pairing.take_mate.Goals as goal

pub returns-then-is_same-clause-taken : goal.returns-then-is_same-clause-taken
returns-then-is_same-clause-taken c =
    takes_none-own c.args.idle c.args.records.now _ c.args.forward.now
    (place_of c.args.heads.now) c.reverse_key-key.result c.reverse_key-key.ensures
    (sym c.is_same.ensures ∙ c.if-is_same.true)

pub returns-then-there-records-clause-taken : goal.returns-then-there-records-clause-taken
returns-then-there-records-clause-taken c =
    takes_none-past c.args.idle c.args.records.now _ c.args.forward.now
    (place_of c.args.heads.now) c.reverse_key-key.result c.get-there.result
    c.reverse_key-key.ensures c.get-there.ensures c.if-there-records.true

pub returns-then-saturating_sub-idle-clause-taken : goal.returns-then-saturating_sub-idle-clause-taken
returns-then-saturating_sub-idle-clause-taken c =
    takes_none-far c.args.idle c.args.records.now _ c.args.forward.now c.index-records-there.result
    (place_of c.args.heads.now) c.reverse_key-key.result
    c.get-there.result c.reverse_key-key.ensures c.get-there.ensures c.requires.rises c.index-records-there.is
    (omega arith)

pub returns-clause-places : goal.returns-clause-places
returns-clause-places c =
    places-set c.args.records.now _ (place_of c.args.heads.now)
    (place_of c.set.new.self) c.reverse_key-key.result _ c.requires.places c.in_ok-set.ensures
    (link_place c.args.records.now c.args.links.now _ c.get-there.result c.index-records-there.result
    (place_of c.args.heads.now) c.reverse_key-key.result
    c.get-there.ensures c.if-there-records.false c.requires.links c.requires.places)

pub returns-clause-taken : goal.returns-clause-taken
returns-clause-taken c =
    takes_mate c.args.idle c.args.records.now c.args.links.now c.args.place c.args.forward.now
    c.index-records-there.result (place_of c.args.heads.now)
    (place_of c.set.new.self) c.reverse_key-key.result c.get-there.result c.reverse_key-key.ensures
    (sym c.is_same.ensures ∙ c.if-is_same.false)
    c.get-there.ensures c.if-there-records.false c.requires.inside c.requires.forward c.requires.links c.requires.places
    c.requires.rises
    c.index-records-there.is (omega arith) c.in_ok-set.ensures
