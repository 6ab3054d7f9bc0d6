use Rattle.std.proofs.Common.{[], ◌∷◌, ◌++◌, map, All, ap, sym, ◌∙◌, subst, zero-add}
use Rattle.std.specs.List.{range_with_len}
use Rattle.std.proofs.lemmas.List.{map-append}
use Rattle.std.proofs.lemmas.List.FromFn.{map-range_with_len_more}
use Rattle.std.proofs.lemmas.List.Elements.{All-push}
use Rattle.pebr_core.specs.State.{first_seat}
use Rattle.pebr_core.specs.Shown.{shown_seat, HasRoom}
use Rattle.pebr_core.proofs.start.first_seats.Goals as goal

pub loop-seat-preserved : goal.loop-seat-preserved
loop-seat-preserved c =
    let shape = c.args.shape.now in
    let old = c.loop-seat.seats.items in
    let entry = c.in_ok-entry.entry in (
      ap (map shown_seat) c.in_ok-push_seat.ensures
          ∙ (map-append shown_seat old (entry ∷ [])
          ∙ (ap (λ l. l ++ map shown_seat (entry ∷ [])) c.loop-seat.invariant.0
          ∙ (ap (λ s. map (first_seat shape) (range_with_len 0 c.loop-seat.seat) ++ s ∷ []) c.in_ok-entry.ensures.shown
          ∙ sym (map-range_with_len_more (first_seat shape) 0 c.loop-seat.seat c.loop-seat.seat
          (zero-add c.loop-seat.seat))))),
      subst (All (HasRoom shape)) (sym c.in_ok-push_seat.ensures)
          (All-push (HasRoom shape) old entry c.loop-seat.invariant.1 c.in_ok-entry.ensures.room),
    )
