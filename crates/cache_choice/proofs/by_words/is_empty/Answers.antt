use Rattle.std.proofs.Common.{rules, ◌≡◌, get_or, []}
use Rattle.cache_choice.proofs.Others.{none_there, empty_there}
use Rattle.cache_choice.proofs.by_words.is_empty.Goals as goal

pub returns : goal.returns
returns c = (
  λ is. none_there c.args.contents.now c.args.place (search rules) (search rules),
  λ none.
      let empty : get_or (get_or c.args.contents.now c.args.place []) 5 0 ≡ 0 =
      empty_there c.args.contents.now c.args.place (search rules) (search rules) none in
      search rules,
)
