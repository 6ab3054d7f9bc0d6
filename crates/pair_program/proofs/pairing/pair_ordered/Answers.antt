-- From no record taken to none left.
use Rattle.std.proofs.Common.{ℕ, List, sym, subst, arith, ◌++◌}
use Rattle.record_ledger.specs.declared.record.FlowRecord.{FlowRecord}
use Rattle.pair_program.specs.declared.biflow.Biflow.{Biflow}
use Rattle.pair_program.specs.Pairs.{ArePaired}
use Rattle.pair_program.specs.Chains.{AreLinks, place_of}
use Rattle.pair_program.proofs.Order.{rises}
use Rattle.pair_program.proofs.Mating.{untaken_records-start, paired-more, paired-end}
use Rattle.pair_program.proofs.pairing.pair_ordered.Goals as goal

pub loop-place-init : goal.loop-place-init
loop-place-init c =
    let heads = place_of c.in_ok-links.heads in
    let records = c.args.records.now in
    record {
      within = omega arith;
      places = λ key. (c.in_ok-links.ensures.heads key).one;
      goes_on = λ rest paired.
          subst (λ (ps : List Biflow). ArePaired c.args.idle records (ps ++ rest)) (sym c.new-pairs.ensures.items)
          (subst (λ (left : List FlowRecord). ArePaired c.args.idle left rest)
          (untaken_records-start records heads c.in_ok-links.ensures.heads) paired);
    }

pub take_pair-requires-clause-links : goal.take_pair-requires-clause-links
take_pair-requires-clause-links c =
    subst (λ (links : List ℕ). AreLinks c.args.records.now links 0)
    (sym c.as_slice.ensures.value) c.in_ok-links.ensures.links

pub take_pair-requires-clause-rises : goal.take_pair-requires-clause-rises
take_pair-requires-clause-rises c = rises c.args.records.now c.requires

pub loop-place-preserved : goal.loop-place-preserved
loop-place-preserved c = record {
  within = omega arith;
  places = c.in_ok-taken.ensures.places;
  goes_on = paired-more c.args.idle c.args.records.now c.loop-place.place (place_of c.loop-place.heads)
      (place_of c.take_pair.new.heads) c.in_ok-taken.taken
      c.loop-place.pairs.items c.add_pair.new.pairs.items c.in_ok-taken.ensures.taken c.in_ok-add_pair.ensures
      c.loop-place.invariant.goes_on;
}

pub returns : goal.returns
returns c =
    paired-end c.args.idle c.args.records.now
    (place_of c.loop-place.heads) c.loop-place.place c.loop-place.pairs.items c.loop-place-test.false
    c.loop-place.invariant.goes_on
