use Rattle.std.proofs.Common.{sym, subst}
use Rattle.cache_face.specs.Notes.{first_note}
use Rattle.pebr_roots.specs.Passes.{note_by}
use Rattle.pass_book.specs.Books.{Book, IsBeside}
use Rattle.pass_book.proofs.Besides.{beside_passed}
use Rattle.flow_cache.proofs.face.PebrCacheFlowCache.bypass.Goals as goal

pub returns-clause-own : goal.returns-clause-own
returns-clause-own c = record {
  of = c.requires.own.of;
  seats = c.requires.own.seats;
  united = c.requires.own.united;
  beside = subst (λ (b : Book). IsBeside (note_by first_note c.args.pass.now.inner) b) (sym c.put.ensures)
      (beside_passed (note_by first_note c.args.pass.now.inner) c.args.pass.now.book c.args.fragment.now
      c.requires.own.beside);
}
