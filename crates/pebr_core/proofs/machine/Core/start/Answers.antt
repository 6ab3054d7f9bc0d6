use Rattle.std.proofs.Common.{◌≡◌, ℕ, List, map, replicate, ap, sym, ◌∙◌, subst}
use Rattle.std.specs.List.{range_with_len}
use Rattle.pebr_core.specs.State.{Seat, State, start_state, slot_count}
use Rattle.pebr_core.specs.Kept.{IsSound}
use Rattle.pebr_core.specs.Shown.{shown_seat}
use Rattle.pebr_core.proofs.StartState.{start_sound}
use Rattle.pebr_core.proofs.machine.Core.start.Goals as goal

pub invariant_of-result : goal.invariant_of-result
invariant_of-result c =
    let shape = c.args.shape in
    let made : List ℕ → List (List ℕ) → List Seat → State =
    λ roots words seats. record { shape = shape; epoch = 0; roots = roots; words = words; seats = seats } in
    let words : c.in_ok-words.words ≡ replicate (slot_count shape) (replicate shape.width 0) =
    c.in_ok-words.ensures ∙ ap (λ n. replicate n (replicate shape.width 0)) c.slot_count.ensures in
    let is_start : made c.in_ok-roots.roots c.in_ok-words.words (map shown_seat c.in_ok-seats.seats.items)
    ≡ start_state shape =
    ap (λ r. made r c.in_ok-words.words (map shown_seat c.in_ok-seats.seats.items)) c.in_ok-roots.ensures
    ∙ (ap (λ w. made (range_with_len 0 shape.roots) w (map shown_seat c.in_ok-seats.seats.items)) words
    ∙ ap (λ s. made (range_with_len 0 shape.roots) (replicate (slot_count shape) (replicate shape.width 0)) s)
    c.in_ok-seats.ensures.shown) in
    record {
      sound = subst IsSound (sym is_start) (start_sound shape);
      limits = c.requires;
      room =
          c.in_ok-seats.ensures.room;
    }
