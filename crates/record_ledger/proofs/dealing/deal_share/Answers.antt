-- Each turn deals the fragments of one more piece.
use Rattle.std.proofs.Common.{◌≡◌, ◌++◌, Some, length, take, refl, sym, ap, ◌∙◌, subst, arith}
use Rattle.std.specs.Prelude.{slice_get}
use Rattle.std.proofs.lemmas.Option.{slice_get_read}
use Rattle.flow_parts.specs.Pieces.{items_of}
use Rattle.record_ledger.specs.Buckets.{AreDealtTo, share_of}
use Rattle.record_ledger.proofs.Leaving.{none_found, piece_taken}
use Rattle.record_ledger.proofs.Marked.{lists_many, marked_at, marks_many}
use Rattle.record_ledger.proofs.dealing.deal_share.Goals as goal

pub loop-number-init : goal.loop-number-init
loop-number-init c = record {
  dealt = λ ends marked. none_found c.args.counted.now.counts c.args.pieces.now
      (record { alone = c.in_ok-with_capacity.field-0; moved = c.in_ok-with_capacity-2.field-0 })
      c.in_ok-with_capacity.ensures.items c.in_ok-with_capacity-2.ensures.items;
}

pub index-requires : goal.index-requires
index-requires c =
    let marks = c.args.counted.now.marks in
    let many = lists_many c.requires.0 c.args.pieces.now marks.items c.requires.1 in
    omega (arith, c.loop-number-test.true, many, marks.ok.0)

pub deal_piece-requires : goal.deal_piece-requires
deal_piece-requires c =
    marks_many c.requires.0 c.deref.result.now c.deref-in-loop-number.result.now (marked_at c.requires.0 c.args.pieces.now
    c.args.counted.now.marks.items c.loop-number.number c.index-pieces-number.result c.index.result.now c.deref.result.now
    c.deref-in-loop-number.result.now c.requires.1 c.loop-number-test.true c.index-pieces-number.is c.index.ensures
    c.deref.ensures.value c.deref-in-loop-number.ensures.value)

pub loop-number-preserved : goal.loop-number-preserved
loop-number-preserved c =
    let pieces = c.args.pieces.now in
    let n = c.loop-number.number in
    let p = c.index-pieces-number.result in
    let here : slice_get pieces n ≡ Some p =
    slice_get_read pieces (length pieces) n p refl c.loop-number-test.true c.index-pieces-number.is in
    let taken = ap (λ l. items_of (take n pieces) ++ l) c.deref.ensures.value
    ∙ piece_taken pieces n p c.loop-number-test.true c.index-pieces-number.is in
    record {
      dealt = λ ends marked.
          subst (λ l. AreDealtTo c.args.counted.now.counts pieces (share_of ends c.args.share l)
          c.deal_piece.new.dealing) taken
          (c.in_ok-deal_piece.ensures ends pieces p (items_of (take n pieces))
          (marked_at ends pieces c.args.counted.now.marks.items n p c.index.result.now c.deref.result.now
          c.deref-in-loop-number.result.now marked c.loop-number-test.true c.index-pieces-number.is c.index.ensures
          c.deref.ensures.value c.deref-in-loop-number.ensures.value) here (sym c.deref.ensures.value)
          (c.loop-number.invariant.dealt ends marked));
    }
