use Rattle.std.proofs.Common.{◌∙◌, sym, ap, subst, arith}
use Rattle.cache_face.specs.Notes.{Note, first_note}
use Rattle.pebr_roots.specs.Passes.{note_by}
use Rattle.pebr_words.specs.Pasts.{History}
use Rattle.flow_cache.specs.Reading.{written_in}
use Rattle.pass_book.specs.Books.{Book, merged_book, noted, IsBeside}
use Rattle.pass_book.proofs.Besides.{beside_merged}
use Rattle.flow_cache.proofs.cache.PebrCache.join.Goals as goal

pub returns-clause-own : goal.returns-clause-own
returns-clause-own c = record {
  of = c.unite-inner.ensures.of;
  seats = (let n = ap (λ (x : Note). x.seats) c.unite-inner.ensures.note in let k = c.unite-inner.ensures.count in
      let a = c.requires.first.seats in let b = c.requires.second.seats in omega (arith, n, k, a, b));
  united = c.unite-inner.ensures.united c.requires.first.united c.requires.second.united;
  beside = subst (λ (b : Book). IsBeside (note_by first_note c.unite-inner.result) b) (sym c.merge.ensures)
      (subst (λ (n : Note). IsBeside n (merged_book c.args.first.book c.args.second.book))
      (sym c.unite-inner.ensures.note)
      (beside_merged (note_by first_note c.args.first.inner) (note_by first_note c.args.second.inner)
      c.args.first.book c.args.second.book c.requires.first.beside c.requires.second.beside));
}

pub returns-clause-united : goal.returns-clause-united
returns-clause-united c = (
  ap (λ (b : Book). noted (note_by first_note c.unite-inner.result) b) c.merge.ensures
      ∙ ap (λ (n : Note). noted n (merged_book c.args.first.book c.args.second.book)) c.unite-inner.ensures.note,
  ap (λ (p : History). written_in p.put) c.unite-inner.ensures.past,
)
