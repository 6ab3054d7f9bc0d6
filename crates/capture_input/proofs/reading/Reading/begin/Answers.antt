use Rattle.std.proofs.Common.{◌≡◌, ◌+◌, ◌++◌, ℕ, List, [], length, map, refl, sym, subst, ap, ◌∙◌, arith}
use Rattle.std.specs.List.{enumerate_from}
use Rattle.std.specs.Prelude.{IfOk}
use Rattle.pcap_reader.specs.Records.{PacketRecord}
use Rattle.capture_input.specs.Filling.{WindowState}
use Rattle.pcap_reader.specs.Views.{headed_by}
use Rattle.pcap_reader.specs.Parts.{front_of}
use Rattle.packet_accept.specs.Packets.{answers_of, answer_to}
use Rattle.capture_input.specs.declared.reading.Reading.{Reading}
use Rattle.capture_input.specs.Giving.{HasFilled}
use Rattle.capture_input.proofs.Given.{filled-first, refused-moved, given-first}
use Rattle.capture_input.proofs.reading.Reading.begin.Given as given
use Rattle.capture_input.proofs.reading.Reading.begin.Goals as goal

filled : (g : given.Over) (c : goal.After-index_part-arg-1 g)
    → HasFilled (g.S.Source.left c.args.source.now) (g.S.Source.left c.begin.new.source) c.args.limit (let r : Reading =
    record {
      input = record {
        window = c.keep.new.self;
        taken = c.in_ok-input.input.taken;
        limit = c.in_ok-input.input.limit;
        ended = c.in_ok-input.input.ended;
      };
      head = c.in_ok-input.head;
      base = 0;
      count = 0;
      next = 0;
    } in r) []
filled g c =
    let told = c.in_ok-input.ensures.begun in
    let first = c.in_ok-input.input.window.bytes in
    let head = c.in_ok-input.head in
    let file = front_of (headed_by head first) in
    let front = c.parts_law.ensures.front first (headed_by head first) told.header in
    let none : answers_of file ≡ [] =
    ap (λ (l : List PacketRecord). map (answer_to file) (enumerate_from 0 l)) front.none in
    let size : c.keep.new.self.size ≡ c.args.size =
    ap (λ (w : WindowState). w.size) c.keep.ensures ∙ told.size ∙ c.in-Ok-open.ensures.size.0 in
    filled-first (g.S.Source.left c.args.source.now) (g.S.Source.left c.begin.new.source) c.args.limit _ first front
    told.given (ap (λ (w : WindowState). w.bytes) c.keep.ensures)
    (let t = told.more.taken_is in omega (arith, t)) refl refl
    (told.limit ∙ c.in-Ok-open.ensures.size.1)
    (let w = told.more.within in let l = told.limit ∙ c.in-Ok-open.ensures.size.1 in omega (arith, w, l))
    c.requires.limit
    (let f = told.more.fits in let s = ap (λ (w : WindowState). w.size) c.keep.ensures in omega (arith, f, s))
    (let s = c.requires.size.0 in omega (arith, s, size)) told.more.ended none

filled-then : (g : given.Over) (c : goal.After-index_part g)
    → HasFilled (g.S.Source.left c.args.source.now) (g.S.Source.left c.begin.new.source) c.args.limit (let r : Reading =
    record {
      input = record {
        window = c.keep.new.self;
        taken = c.in_ok-input.input.taken;
        limit = c.in_ok-input.input.limit;
        ended = c.in_ok-input.input.ended;
      };
      head = c.in_ok-input.head;
      base = 0;
      count = 0;
      next = 0;
    } in r) []
filled-then g c =
    let told = c.in_ok-input.ensures.begun in
    let first = c.in_ok-input.input.window.bytes in
    let head = c.in_ok-input.head in
    let file = front_of (headed_by head first) in
    let front = c.parts_law.ensures.front first (headed_by head first) told.header in
    let none : answers_of file ≡ [] =
    ap (λ (l : List PacketRecord). map (answer_to file) (enumerate_from 0 l)) front.none in
    let size : c.keep.new.self.size ≡ c.args.size =
    ap (λ (w : WindowState). w.size) c.keep.ensures ∙ told.size ∙ c.in-Ok-open.ensures.size.0 in
    filled-first (g.S.Source.left c.args.source.now) (g.S.Source.left c.begin.new.source) c.args.limit _ first front
    told.given (ap (λ (w : WindowState). w.bytes) c.keep.ensures)
    (let t = told.more.taken_is in omega (arith, t)) refl refl
    (told.limit ∙ c.in-Ok-open.ensures.size.1)
    (let w = told.more.within in let l = told.limit ∙ c.in-Ok-open.ensures.size.1 in omega (arith, w, l))
    c.requires.limit
    (let f = told.more.fits in let s = ap (λ (w : WindowState). w.size) c.keep.ensures in omega (arith, f, s))
    (let s = c.requires.size.0 in omega (arith, s, size)) told.more.ended none

pub index_part-requires : goal.index_part-requires
index_part-requires g c =
    record { filled = (g.S.Source.left c.args.source.now, c.args.limit, [], filled g c) }

pub returns-clause-given : goal.returns-clause-given
returns-clause-given g c =
    given-first _ _ c.args.limit c.index_part.result
    (c.index_part.ensures.given (g.S.Source.left c.args.source.now) c.args.limit [] (filled-then g c))

pub returns-clause-refused : goal.returns-clause-refused
returns-clause-refused g c =
    refused-moved _ _ _ _ _ _ _ c.in_ok-input.ensures.begun.more.quiet
    (c.index_part.ensures.refused (g.S.Source.left c.args.source.now) c.args.limit [] (filled-then g c))
