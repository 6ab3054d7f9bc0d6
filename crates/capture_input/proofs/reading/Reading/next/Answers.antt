use Rattle.std.proofs.Common.{◌≡◌, ◌+◌, ◌++◌, ℕ, length, refl, sym, subst, ap, ◌∙◌, arith}
use Rattle.std.specs.Prelude.{Option, List}
use Rattle.std.proofs.lemmas.List.{length-append}
use Rattle.capture_input.specs.Filling.{WindowState}
use Rattle.capture_input.specs.declared.reading.Reading.{Reading}
use Rattle.capture_input.specs.Refusals.{IsRefused}
use Rattle.capture_input.specs.Parts.{Answer}
use Rattle.capture_input.specs.Giving.{HasGiven, HasFilled}
use Rattle.capture_input.proofs.Filling.{cut-refused, seen}
use Rattle.capture_input.proofs.Given.{filled-again, refused-moved}
use Rattle.capture_input.proofs.reading.Reading.next.Given as given
use Rattle.capture_input.proofs.reading.Reading.next.Goals as goal

pub returns-in-Err-clause-refused : goal.returns-in-Err-clause-refused
returns-in-Err-clause-refused g c = λ before limit answers h.
    let told = c.in-Err.ensures in
    let count : c.args.self.input.taken + length told.got ≡ length (h.file.bytes ++ told.got) =
    omega (arith, h.count, length-append h.file.bytes told.got) in
    subst (λ (k : ℕ). IsRefused
    (seen before (g.S.Source.left c.fill.new.source) (g.S.Source.faults c.args.source.now)
    (g.S.Source.faults c.fill.new.source)) k c.in-Err.broken) h.limit_is
    (cut-refused before (g.S.Source.left c.args.source.now) (g.S.Source.left c.fill.new.source)
    (g.S.Source.faults c.args.source.now) (g.S.Source.faults c.args.source.now) (g.S.Source.faults c.fill.new.source)
    h.file.bytes told.got (c.args.self.input.taken + length told.got) c.args.self.input.limit c.in-Err.broken refl
    h.given told.given count told.cut).0

filled : (g : given.Over) (c : goal.After-index_part-arg-1 g) (before : Option (List ℕ)) (limit : ℕ)
    (answers : List Answer)
    → HasGiven before (g.S.Source.left c.args.source.now) limit c.args.self answers
    → HasFilled before (g.S.Source.left c.fill.new.source) limit (let r : Reading =
    record {
      input = c.fill.new.self;
      head = c.args.self.head;
      base = c.args.self.base;
      count = c.args.self.count;
      next = c.args.self.next;
    }
    in r) answers
filled g c before limit answers h =
    let told = c.in-Ok.ensures in
    let more = told.more in
    filled-again before (g.S.Source.left c.args.source.now) (g.S.Source.left c.fill.new.source) limit c.args.self _
    answers c.keep.new.self.bytes told.got h told.given (ap (λ (w : WindowState). w.bytes) c.keep.ensures)
    refl refl refl
    told.bytes (told.size ∙ ap (λ (w : WindowState). w.size) c.keep.ensures) more.taken_is told.limit more.within
    more.fits more.ended

filled-then : (g : given.Over) (c : goal.After-index_part g) (before : Option (List ℕ)) (limit : ℕ)
    (answers : List Answer)
    → HasGiven before (g.S.Source.left c.args.source.now) limit c.args.self answers
    → HasFilled before (g.S.Source.left c.fill.new.source) limit (let r : Reading =
    record {
      input = c.fill.new.self;
      head = c.args.self.head;
      base = c.args.self.base;
      count = c.args.self.count;
      next = c.args.self.next;
    }
    in r) answers
filled-then g c before limit answers h =
    let told = c.in-Ok.ensures in
    let more = told.more in
    filled-again before (g.S.Source.left c.args.source.now) (g.S.Source.left c.fill.new.source) limit c.args.self _
    answers c.keep.new.self.bytes told.got h told.given (ap (λ (w : WindowState). w.bytes) c.keep.ensures)
    refl refl refl
    told.bytes (told.size ∙ ap (λ (w : WindowState). w.size) c.keep.ensures) more.taken_is told.limit more.within
    more.fits more.ended

pub returns-clause-given : goal.returns-clause-given
returns-clause-given g c = λ before limit answers h.
    c.index_part.ensures.given before limit answers (filled-then g c before limit answers h)

pub returns-clause-refused : goal.returns-clause-refused
returns-clause-refused g c = λ before limit answers h.
    refused-moved _ _ _ _ _ _ _ c.in-Ok.ensures.more.quiet
    (c.index_part.ensures.refused before limit answers (filled-then g c before limit answers h))

pub index_part-requires : goal.index_part-requires
index_part-requires g c =
    let f = c.requires.given in record { filled = (f.0, f.1, f.2, filled g c f.0 f.1 f.2 f.3) }
