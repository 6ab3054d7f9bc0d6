-- One more record is linked.
use Rattle.std.proofs.Common.{◌≡◌, ◌-◌, ◌∙◌, sym, subst, ℕ, arith}
use Rattle.std.proofs.lemmas.List.{length-set}
use Rattle.pair_program.specs.Chains.{IsFirstPlace, AreLinks, place_of}
use Rattle.pair_program.proofs.Linking.{links-more, places-more}
use Rattle.pair_program.proofs.pairing.link_all.Goals as goal

pub loop-place-preserved : goal.loop-place-preserved
loop-place-preserved c =
    let heads = place_of c.loop-place.heads in
    let own = c.index-records-place.result in
    record {
      inside = omega arith;
      count = length-set c.loop-place.links.items (c.loop-place.place - 1) c.get.result ∙ c.loop-place.invariant.count;
      links = links-more c.args.records.now c.loop-place.links.items c.loop-place.place c.get.result own
          (omega arith) c.loop-place.invariant.inside c.loop-place.invariant.count c.index-records-place.is
          (subst (λ n. IsFirstPlace c.args.records.now c.loop-place.place own.part.key n) (sym c.get.ensures)
          (c.loop-place.invariant.heads own.part.key))
          c.loop-place.invariant.links;
      heads = places-more c.args.records.now heads (place_of c.set.new.self) c.loop-place.place own
          (omega arith) c.loop-place.invariant.inside c.index-records-place.is c.in_ok-set.ensures
          c.loop-place.invariant.heads;
    }

pub returns-clause-links : goal.returns-clause-links
returns-clause-links c =
    let none : c.loop-place.place ≡ 0 = omega arith in
    subst (λ (n : ℕ). AreLinks c.args.records.now c.loop-place.links.items n) none c.loop-place.invariant.links
