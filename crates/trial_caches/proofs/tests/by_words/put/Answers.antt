use Rattle.std.proofs.Common.{[], ◌∷◌, List, ℕ}
use Rattle.std.specs.Prelude.{All}
use Rattle.std.proofs.lemmas.List.Elements.{All-get_or}
use Rattle.cache_face.specs.Keeping.{IsWhole}
use Rattle.cache_face.proofs.Four.{all_four}
use Rattle.trial_caches.proofs.tests.by_words.put.Goals as goal

pub choose_by_words-choice-requires-clause-whole : goal.choose_by_words-choice-requires-clause-whole
choose_by_words-choice-requires-clause-whole c =
    all_four IsWhole c.args.first c.args.second c.args.third c.args.fourth
    c.requires.first c.requires.second c.requires.third c.requires.fourth

pub put_out-requires : goal.put_out-requires
put_out-requires c =
    let contents : List (List ℕ) = c.args.first ∷ c.args.second ∷ c.args.third ∷ c.args.fourth ∷ [] in
    let whole : All IsWhole contents = all_four IsWhole c.args.first c.args.second c.args.third c.args.fourth
    c.requires.first c.requires.second c.requires.third c.requires.fourth in
    record {
      whole = All-get_or IsWhole contents c.choose_by_words-choice.result.place [] c.choose_by_words-choice.ensures.place
          whole;
    }
