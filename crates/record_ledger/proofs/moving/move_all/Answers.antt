-- Each turn moves the last piece that is left.
use Rattle.std.proofs.Common.{◌≡◌, ◌≤◌, ◌++◌, List, length, take, drop, sym, ap, ◌∙◌, subst, arith, append-nil}
use Rattle.std.proofs.Common.{IsPermutation}
use Rattle.std.proofs.lemmas.List.{take_at}
use Rattle.std.proofs.lemmas.List.Sorted.{IsPermutation-refl}
use Rattle.flow_parts.specs.Pieces.{items_of}
use Rattle.record_ledger.specs.Lawful.{parts_of}
use Rattle.record_ledger.specs.Buckets.{Bucket, records_of, AreByKey}
use Rattle.record_ledger.proofs.Dealt.{none_lie, piece_dealt}
use Rattle.record_ledger.proofs.moving.move_all.Goals as goal

pub loop-piece-init : goal.loop-piece-init
loop-piece-init c = record {
  some = c.in_ok-buckets.ensures.some;
  whole = subst (IsPermutation (items_of c.args.pieces.items))
      (sym (append-nil _) ∙ ap (λ rs. items_of c.args.pieces.items ++ parts_of rs) (sym c.in_ok-buckets.ensures.none))
      (IsPermutation-refl (items_of c.args.pieces.items));
  by_key = none_lie (length c.in_ok-buckets.buckets.items) 0 c.in_ok-buckets.buckets.items
      (ap length c.in_ok-buckets.ensures.none);
}

pub loop-piece-preserved : goal.loop-piece-preserved
loop-piece-preserved c =
    let old = c.loop-piece.buckets in
    let new : List Bucket = c.move_piece.new.buckets in
    let lent : c.deref_mut.result.now ≡ old.items = c.deref_mut.ensures.value in
    let same : take old.len (new ++ drop (length new) old.items) ≡ new =
    take_at new (drop (length new) old.items) old.len
    (c.in_ok-move_piece.ensures.many ∙ ap length lent ∙ sym old.ok.0) in
    let dealt : IsPermutation (c.in-Some.piece.items ++ parts_of (records_of old.items)) (parts_of (records_of new)) =
    subst (λ bs. IsPermutation (c.in-Some.piece.items ++ parts_of (records_of bs)) (parts_of (records_of new))) lent
    c.in_ok-move_piece.ensures.whole in
    record {
      some = subst (λ l. 1 ≤ length l) (sym same)
          (let many = c.in_ok-move_piece.ensures.many in let some = c.loop-piece.invariant.some in
          omega (arith, many, ap length lent, some));
      whole = subst (λ l. IsPermutation (items_of c.args.pieces.items) (items_of c.pop.new.self.items
          ++ parts_of (records_of l))) (sym same)
          (piece_dealt (items_of c.args.pieces.items) c.loop-piece.pieces.items c.pop.new.self.items c.in-Some.piece
          (parts_of (records_of old.items)) (parts_of (records_of new)) c.in-Some.ensures.items
          c.loop-piece.invariant.whole dealt);
      by_key = subst AreByKey (sym same)
          (c.in_ok-move_piece.ensures.by_key (subst AreByKey (sym lent) c.loop-piece.invariant.by_key));
    }
