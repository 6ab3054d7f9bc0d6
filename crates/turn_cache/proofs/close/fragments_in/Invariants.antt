use Rattle.std.proofs.Common.{◌≡◌, ◌≤◌}
use Rattle.std.specs.Slots.{slots_items}
use Rattle.cache_face.specs.Keeping.{parts_in}
use Rattle.turn_cache.specs.Closing.{contents_at}
use Rattle.turn_cache.proofs.close.fragments_in.Given as goal

abbrev pub invariant-loop-set : goal.invariant-loop-set
invariant-loop-set l = record {
  low : l.set ≤ l.sets;
  parts : l.parts.items ≡ parts_in (contents_at (slots_items l.closed.words) l.set);
}
