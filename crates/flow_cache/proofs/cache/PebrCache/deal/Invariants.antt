use Rattle.std.proofs.Common.{◌≡◌, ◌+◌, ◌<◌, ℕ, [], length, get_or, All}
use Rattle.cache_face.specs.Meaning.{IsFresh}
use Rattle.cache_face.specs.Notes.{first_note}
use Rattle.pebr_roots.specs.Passes.{shape_at, IsOpenedPass}
use Rattle.flow_cache.specs.Shown.{shown_of, tries_of, IsOf}
use Rattle.flow_cache.proofs.cache.PebrCache.deal.Given as goal

abbrev pub invariant-loop-turn : goal.invariant-loop-turn
invariant-loop-turn l = record {
  count : length l.inner.items + length l.passes.items ≡ (shape_at l.self.roots).seats;
  turns : length l.passes.items ≡ l._turn;
  ahead : (i : ℕ) (d : _) → i < length l.inner.items
      → IsOpenedPass l.self.roots first_note i (get_or l.inner.items i d);
  each : All (λ pass. IsOf l.self pass × IsFresh (shown_of pass)) l.passes.items;
  unlost : All (λ pass. tries_of pass ≡ []) l.passes.items;
}
