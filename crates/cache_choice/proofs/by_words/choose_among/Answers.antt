use Rattle.std.proofs.Common.{rules, ◌∷◌, [], sym, ◌∙◌}
use Rattle.cache_choice.proofs.ByWords.{four_here}
use Rattle.cache_choice.proofs.Putting.{chosen_is}
use Rattle.cache_choice.proofs.by_words.choose_among.Goals as goal

pub returns-clause-chosen : goal.returns-clause-chosen
returns-clause-chosen c =
    chosen_is c.args.timeouts c.args.contents.now
    (c.entry.result ∷ c.entry-2.result ∷ c.entry-3.result ∷ c.entry-4.result ∷ [])
    c.args.own.now c.choose-choice.result.kept c.choose-choice.result.how c.choose-choice.result.place
    c.choose-choice.result.out c.to_words.result
    ((λ i. c.entry.ensures.entry i ∷ c.entry-2.ensures.entry i ∷ c.entry-3.ensures.entry i ∷ c.entry-4.ensures.entry i
    ∷ []) ∙ sym (four_here c.args.contents.now (search rules)))
    (sym c.to_words.ensures) c.choose-choice.ensures.chosen
