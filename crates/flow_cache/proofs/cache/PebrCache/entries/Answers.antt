use Rattle.std.proofs.Common.{◌≡◌, ◌*◌, ◌++◌, List, ℕ, set, replicate, sym, ap, ◌∙◌, subst}
use Rattle.std.proofs.lemmas.Result.{IfOk-weaker}
use Rattle.flow_parts.specs.declared.fragment.Fragment.{Fragment}
use Rattle.flow_parts.specs.declared.timeouts.Timeouts.{Timeouts}
use Rattle.flow_parts.specs.Reaching.{Reaches}
use Rattle.cache_face.specs.Keeping.{Keeps, parts_in}
use Rattle.cache_face.specs.Notes.{Note, first_note, empty_note}
use Rattle.pebr_core.specs.declared.kinds.Shape.{Shape}
use Rattle.pebr_words.specs.Opening.{rows_of}
use Rattle.pebr_roots.specs.Passes.{shape_at, fixed_at, number_by, note_by}
use Rattle.pass_book.specs.Books.{Book}
use Rattle.pass_book.proofs.Besides.{ended, all_borne}
use Rattle.flow_cache.specs.Ending.{rows_at}
use Rattle.flow_cache.proofs.Endings.{ends, on_ok}
use Rattle.flow_cache.proofs.cache.PebrCache.entries.Goals as goal

pub returns : goal.returns
returns c =
    let cache = c.args.self in
    let note : Note = note_by first_note c.args.pass.inner in
    let number : ℕ = number_by c.args.pass.inner in
    let words : List ℕ = c.in_ok-contents.contents.items in
    let shape : Shape = shape_at cache.roots in
    let notes : List Note = set (replicate shape.seats empty_note) number note in
    let kept : Keeps cache.timeouts cache.sets (rows_of shape words) notes =
    subst (λ (limits : Timeouts). Keeps limits cache.sets (rows_of shape words) notes) cache.fixed.0
    (subst (λ (sets : ℕ). Keeps (fixed_at cache.roots).timeouts sets (rows_of shape words) notes) cache.fixed.1
    c.in_ok-contents.ensures.keeps) in
    let contents : List (List ℕ) = rows_at cache.sets shape.seats words (4 * cache.sets) in
    let rows : rows_of shape words ≡ contents = ap (λ (s : Shape). rows_of s words) cache.shaped in
    let end = ends cache.timeouts cache.sets contents shape.seats number note c.requires.own.of.at.3
    (subst (λ cs. Keeps cache.timeouts cache.sets cs notes) rows kept) in
    let book : Book = c.args.pass.book in
    let whole = ended cache.timeouts note book (parts_in contents) c.requires.own.beside end.0 in
    record {
      reached = IfOk-weaker c.fragments_in.result _ _
          (λ parts is. subst (λ (ps : List Fragment). Reaches cache.timeouts book.taken (ps ++ book.handed))
          (sym (is cache.sets shape.seats ∙ ap (λ ws. parts_in (rows_at cache.sets shape.seats ws (4 * cache.sets)))
          c.as_slice.ensures.value)) whole)
          c.fragments_in.ensures;
      seen = on_ok c.fragments_in.result _ (all_borne cache.timeouts note book note.seen c.requires.own.beside end.1);
    }
