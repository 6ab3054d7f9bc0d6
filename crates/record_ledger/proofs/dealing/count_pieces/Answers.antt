-- Each turn counts and marks the fragments of one more piece.
use Rattle.std.proofs.Common.{◌≡◌, ◌+◌, ◌++◌, take, sym, ap, ◌∙◌, subst, arith}
use Rattle.flow_parts.specs.Pieces.{items_of}
use Rattle.record_ledger.specs.Buckets.{AreMarked, CountsSlots, marks_of}
use Rattle.record_ledger.proofs.Leaving.{piece_taken}
use Rattle.record_ledger.proofs.Marked.{marked_more}
use Rattle.record_ledger.proofs.dealing.count_pieces.Goals as goal

pub loop-piece-preserved : goal.loop-piece-preserved
loop-piece-preserved c =
    let pieces = c.args.pieces.now in
    let i = c.loop-piece.piece-index in
    let list = c.in_ok-count_piece.field-0 in
    let marks : list.items ≡ marks_of c.args.shares.now c.piece-item.result.items =
    c.in_ok-count_piece.ensures.marks ∙ ap (marks_of c.args.shares.now) c.deref.ensures.value in
    record {
      counted = subst (λ l. CountsSlots l c.count_piece.new.counts)
          (ap (λ l. items_of (take i pieces) ++ l) c.deref.ensures.value
          ∙ piece_taken pieces i c.piece-item.result (omega (arith, c.loop-piece-test.true)) c.piece-item.is)
          (c.in_ok-count_piece.ensures.counts (items_of (take i pieces)) c.loop-piece.invariant.counted);
      many = c.count_piece.ensures.many ∙ c.loop-piece.invariant.many;
      marked = subst (AreMarked c.args.shares.now (take (i + 1) pieces)) (sym c.in_ok-push.ensures.items)
          (marked_more c.args.shares.now pieces c.loop-piece.marks.items i c.piece-item.result list
          (omega (arith, c.loop-piece-test.true)) c.piece-item.is c.loop-piece.invariant.marked marks);
    }
