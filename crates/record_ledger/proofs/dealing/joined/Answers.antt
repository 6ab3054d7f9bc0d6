-- The counts are added, and the marks of the one stand before those of the other.
use Rattle.std.proofs.Common.{sym, subst, ◌∙◌}
use Rattle.std.proofs.lemmas.Grind.{flat_map-append}
use Rattle.flow_parts.specs.Pieces.{items_of}
use Rattle.record_ledger.specs.Buckets.{CountsSlots, Piece}
use Rattle.record_ledger.proofs.Marked.{marked_both}
use Rattle.record_ledger.proofs.dealing.joined.Goals as goal

pub returns : goal.returns
returns c = λ ends pieces more fragments low high. record {
  counts = subst (λ l. CountsSlots l c.add.new.self) (sym (flat_map-append (λ (p : Piece). p.items) pieces more))
      (c.add.ensures.counts (items_of pieces) (items_of more) low.counts high.counts);
  many = c.add.ensures.many ∙ low.many;
  marked = marked_both ends pieces more c.args.first.marks.items c.args.others.marks.items _ low.marked high.marked
      c.in_ok-append.ensures.items;
}
