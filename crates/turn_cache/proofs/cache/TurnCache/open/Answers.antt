use Rattle.std.proofs.Common.{◌≡◌, ◌*◌, ◌∙◌, [], List, ℕ, replicate, sym, subst}
use Rattle.std.specs.List.{range_with_len}
use Rattle.atomic_table.specs.Table.{opening}
use Rattle.cache_face.specs.Notes.{unused_note}
use Rattle.turn_cache.specs.Hands.{new_hand}
use Rattle.turn_cache.specs.Ruled.{Ruled}
use Rattle.turn_cache.specs.declared.rule.Told.{Told}
use Rattle.turn_cache.proofs.Opening.{opens}
use Rattle.turn_cache.proofs.cache.TurnCache.open.Goals as goal

pub of_words-requires : goal.of_words-requires
of_words-requires c =
    let told : Told = record { sets = c.args.sets; seats = c.args.seats; timeouts = c.args.timeouts } in
    let is : c.as_slice.result.now ≡ replicate (64 * c.args.sets) 0 =
    c.as_slice.ensures.value ∙ c.in_ok-words.ensures in
    subst (λ (ws : List ℕ). Ruled told
    (opening {S = Unit {0}} ws [] (new_hand (range_with_len 0 c.args.seats) (unused_note c.args.seats)))) (sym is)
    (opens told c.requires.sets.0 c.requires.sets.1 c.requires.seats.1)
