-- The map with this key's place.
use Rattle.std.proofs.Common.{◌∙◌, ap, rules, if◌then◌else◌}
use Rattle.pair_program.specs.Mates.{is_same}
use Rattle.pair_program.specs.Chains.{KeyPlaces, place_in, place_of}
use Rattle.pair_program.proofs.Keys.{place_in-insert_by}
use Rattle.pair_program.proofs.heads.Heads.set.Goals as goal

pub returns : goal.returns
returns c = λ other.
    ap (λ es. place_in es c.self.inside.none other) c.in_ok-insert.ensures.entries
    ∙ place_in-insert_by _ (λ x y. search rules) c.self.inside.places.entries c.self.inside.none c.args.key c.args.place
    other
    ∙ ap (λ (p : KeyPlaces). if is_same other c.args.key then c.args.place else place_of p other) c.self.view_is
