use Rattle.std.proofs.Common.{replicate, sym, ap, ◌∙◌, arith}
use Rattle.std.proofs.lemmas.List.FromFn.{get_or-map-range_with_len}
use Rattle.pebr_core.specs.State.{first_seat, nobody}
use Rattle.pebr_core.specs.Kept.{held_count}
use Rattle.pebr_roots.proofs.pass.Roots.pass.Goals as goal

pub slot_start-start-requires : goal.slot_start-start-requires
slot_start-start-requires g c = let some = c.args.self.now.words.limits.some_roots in omega (arith, some)

pub returns : goal.returns
returns g c =
    let opened = c.requires.opened in
    let shape = c.args.self.now.words.shape in
    let i = c.args.number in
    let at = get_or-map-range_with_len (first_seat shape) 0 shape.seats i i nobody c.requires.inside (omega arith) in
    record {
      of = record {
        at = opened.0;
        held = ap held_count (opened.2 ∙ sym at) ∙ (c.start_is_sound.ensures shape).holding i c.requires.inside;
        starts = ap (replicate 8) c.slot_start-start.ensures;
      };
      number = opened.1;
      known = opened.2;
      note = opened.3;
      past = opened.4;
      operations = opened.5;
      numbers = opened.6;
      count = opened.7;
      united = opened.8;
    }
