-- The two halves of the buckets get their fragments each by itself, and no fragment belongs to no bucket.
use Rattle.std.proofs.Common.{◌++◌, ◌∙◌, List, length, sym, subst}
use Rattle.std.proofs.lemmas.Bool.{eqb-true}
use Rattle.std.proofs.lemmas.List.{nil_from_length}
use Rattle.record_ledger.specs.Buckets.{AreMovedTo, Bucket, places_of}
use Rattle.record_ledger.proofs.Moved.{halves_moved, none_moved}
use Rattle.record_ledger.proofs.Settled.{both_ok}
use Rattle.record_ledger.proofs.moving.+moves.Goals as goal

pub move_shares-returns-then-is_empty-clause-moved : goal.move_shares-returns-then-is_empty-clause-moved
move_shares-returns-then-is_empty-clause-moved g t c =
    subst (λ bs. AreMovedTo c.args.pieces.now (places_of c.args.moved.now) c.args.count c.args.first bs bs)
    (sym (nil_from_length c.args.buckets.now
    (eqb-true (length c.args.buckets.now) 0 (sym c.is_empty.ensures ∙ c.if-is_empty.true))))
    (none_moved c.args.pieces.now (places_of c.args.moved.now) c.args.count c.args.first)

pub move_shares-returns-clause-moved : goal.move_shares-returns-clause-moved
move_shares-returns-clause-moved g t c =
    let both = c.move_both.ensures in
    let count = c.args.count in
    let first = c.args.first in
    let new : List Bucket = c.move_both.new.low ++ c.move_both.new.high in
    both_ok c.move_both.result both.low both.high (λ _ low high.
    subst (λ bs. AreMovedTo c.args.pieces.now (places_of c.args.moved.now) count first bs new)
    (sym c.split_at_mut-low.ensures.value)
    (halves_moved c.args.pieces.now (places_of c.args.moved.now) count first _ _ c.move_both.new.low c.move_both.new.high
    both.low_many low high))
