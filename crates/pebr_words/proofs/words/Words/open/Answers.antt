use Rattle.std.proofs.Common.{◌∙◌, ap, sym, subst, length}
use Rattle.std.specs.Prelude.{[]}
use Rattle.atomic_table.specs.Table as table
use Rattle.pebr_words.specs.declared.views.Told.{Told}
use Rattle.pebr_words.specs.Ruled.{Ruled, BackedWhole, first_view}
use Rattle.pebr_words.proofs.OpeningCore.{opening_wide}
use Rattle.pebr_words.proofs.OpeningViews.{opens}
use Rattle.pebr_words.proofs.words.Words.open.Goals as goal

pub open-requires : goal.open-requires
open-requires g c =
    let keeps = g.P.RootProtocol.keeps c.args.fixed in
    let shape = c.args.shape in
    let whole = BackedWhole g.P.RootProtocol.whole (g.P.RootProtocol.backed c.args.fixed) in
    subst (λ words. Ruled keeps whole shape
    (table.opening words [] (first_view shape g.P.RootProtocol.first)))
    (sym (c.as_slice.ensures.value ∙ c.in_ok-words.ensures))
    (opens shape g.P.RootProtocol.first keeps whole c.args.contents.now
    (c.other_words_are_sound.ensures.start shape) c.requires.limits.shields c.requires.long c.requires.keeps
    (λ k d inside. (c.requires.whole k d inside, c.requires.backed k d inside)))

pub invariant_of-words : goal.invariant_of-words
invariant_of-words g c = record {
  told = ap (λ (told : Told _). told.shape) c.in_ok-table.ensures.table.1;
  counted =
      c.in_ok-table.ensures.table.0
      ∙ (ap length (c.as_slice.ensures.value ∙ c.in_ok-words.ensures)
      ∙ opening_wide c.args.shape c.args.contents.now c.requires.long);
  limits = c.requires.limits;
  placed = c.slots_from-contents.ensures;
}
