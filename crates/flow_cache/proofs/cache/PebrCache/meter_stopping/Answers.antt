use Rattle.std.proofs.Common.{◌≡◌, ◌++◌, List, sym, ap, ◌∙◌, subst, refl, arith}
use Rattle.std.specs.List.{flat_map}
use lib.ListN.{get_elem?}
use Rattle.cache_face.specs.Laws.{CanTake}
use Rattle.cache_face.proofs.Keeping.{taken_is_small}
use Rattle.cache_face.specs.Meaning.{PassMeans}
use Rattle.cache_face.specs.Notes.{Note, first_note, note_with}
use Rattle.pass_book.specs.Books.{Book, book_with, noted, IsBeside}
use Rattle.pass_book.proofs.Besides.{beside_put, fewer}
use Rattle.pebr_words.specs.Pasts.{Lost}
use Rattle.pebr_roots.specs.Passes.{shape_at, known_by_pass, number_by, note_by, past_by, lost_by}
use Rattle.flow_cache.specs.Reading.{entries_read, set_read, written_in}
use Rattle.flow_cache.specs.Shown.{means_of}
use Rattle.flow_cache.specs.Trying.{IsOwn}
use Rattle.flow_cache.proofs.Spared.{collects_on}
use Rattle.flow_cache.proofs.Answering.{lost_on, lost_at, answered}
use Rattle.pebr_roots.specs.Passes.{operations_by}
use Rattle.pebr_roots.proofs.Counts.{made_on, made_in}
use Rattle.flow_cache.proofs.Sparing.{made_of}
use Rattle.flow_cache.proofs.cache.PebrCache.meter_stopping.Goals as goal

pub put_in-lost-requires-clause-own : goal.put_in-lost-requires-clause-own
put_in-lost-requires-clause-own g c =
    let can : CanTake (note_by first_note c.args.pass.now.inner) c.args.part.now = record {
      single = c.requires.single;
      bounded = c.requires.octets;
      room = (let few = fewer (note_by first_note c.args.pass.now.inner) c.args.pass.now.book c.requires.own.beside in
          let room = c.requires.room in omega (arith, few, room));
    } in
    subst (λ (note : Note). IsOwn c.args.self.now.sets c.set_of-set.result note c.args.part.now)
    (sym c.make_room.ensures.note) (record {
      can = can;
      of_set = sym c.set_of-set.ensures.number;
      small = taken_is_small (note_by first_note c.args.pass.now.inner) c.args.part.now can;
    })

pub returns-clause-own : goal.returns-clause-own
returns-clause-own g c =
    let room = c.make_room.ensures.same.still in
    let put = c.put_in-lost.ensures.same.still in record {
      of = c.put_in-lost.ensures.same.of;
      seats = ap (λ (n : Note). n.seats) c.put_in-lost.ensures.note
          ∙ ap (λ (n : Note). n.seats) c.make_room.ensures.note ∙ c.requires.own.seats ∙ sym (put.3 ∙ room.3);
      united = λ place held at. c.requires.own.united place held
          (ap (λ (l : List _). get_elem? l place) (sym (put.4 ∙ room.4)) ∙ at);
      beside = subst (λ (b : Book). IsBeside (note_by first_note c.put_in-lost.new.pass) b) (sym c.put.ensures)
          (subst (λ (n : Note). IsBeside n (book_with c.args.pass.now.book c.args.part.now
          c.put_in-lost.new.metered.out))
          (sym (c.put_in-lost.ensures.note
          ∙ ap (λ (n : Note). note_with n c.args.part.now c.put_in-lost.new.metered.out) c.make_room.ensures.note))
          (beside_put (note_by first_note c.args.pass.now.inner) c.args.pass.now.book c.args.part.now
          c.put_in-lost.new.metered.out c.requires.own.beside));
    }

pub returns-clause-answer : goal.returns-clause-answer
returns-clause-answer g c =
    let past = past_by c.put_in-lost.new.pass in
    let now : PassMeans = record {
      note = noted (note_by first_note c.put_in-lost.new.pass) c.put.new.self;
      set = set_read past.loads;
      entries = entries_read past (set_read past.loads);
      written = written_in past.put;
    } in
    answered (means_of c.args.self.now) now past c.args.part.now c.put_in-lost.new.metered.out
    c.set_of-set.result c.put_in-lost.result c.set_of-set.ensures.number refl refl refl
    c.put_in-lost.new.metered.how c.put_in-lost.ensures.outcome

pub returns-clause-lost : goal.returns-clause-lost
returns-clause-lost g c =
    let old = c.args.pass.now in
    let room = c.make_room.ensures.same.still in
    let put = c.put_in-lost.ensures.same.still in
    let tries = c.put_in-lost.ensures.lost in
    let past = past_by c.put_in-lost.new.pass in
    let cache = means_of c.args.self.now in
    let listed : past.lost ≡ tries.tries ++ (past_by old.inner).lost =
    tries.listed ∙ ap (λ (l : List Lost). tries.tries ++ l) c.make_room.ensures.lost in
    let more = ap (λ (l : List _). flat_map (λ held. held.past.lost) l) (put.4 ∙ room.4) in
    lost_at cache.limits cache.seats c.set_of-set.result _ past c.args.part.now c.put_in-lost.result
    c.put_in-lost.new.metered.how c.put_in-lost.new.metered.out _ _ (lost_by old.inner)
    (lost_by c.put_in-lost.new.pass) tries c.put_in-lost.ensures.outcome c.set_of-set.ensures.number
    (lost_on tries.tries (past_by old.inner).lost past.lost _ _ listed more)

pub returns-clause-collects : goal.returns-clause-collects
returns-clause-collects g c =
    let old = c.args.pass.now.inner in
    let room = c.make_room.new.pass in
    collects_on (shape_at c.args.self.now.roots) (number_by old) (number_by room) (known_by_pass old) (past_by old)
    (past_by room) (past_by c.put_in-lost.new.pass) (operations_by old) (operations_by room)
    (operations_by c.put_in-lost.new.pass) 201 c.make_room.ensures.same.still.1 c.make_room.ensures.collects
    c.put_in-lost.ensures.spared c.put_in-lost.ensures.few

pub returns-clause-few : goal.returns-clause-few
returns-clause-few g c =
    let x = operations_by c.args.pass.now.inner in
    let y = operations_by c.make_room.new.pass in
    let z = operations_by c.put_in-lost.new.pass in
    made_in _ _ x z (omega arith) (made_on _ 201 x y z c.make_room.ensures.few
    (made_of _ _ 201 y z c.put_in-lost.ensures.few))
