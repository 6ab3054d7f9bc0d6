use Rattle.std.proofs.Common.{◌≡◌, ◌+◌, ◌∙◌, ◌∷◌, suc, length, List, ℕ, sym, ap, subst, arith}
use Rattle.std.specs.List.{range_with_len}
use Rattle.atomic_table.specs.Table.{Splits}
use Rattle.cache_face.specs.Notes.{unused_note}
use Rattle.turn_cache.specs.Hands.{Hand, new_hand, remaining_hand, split_off}
use Rattle.turn_cache.specs.Moves.{Sat}
use Rattle.turn_cache.specs.Ruled.{Ruled}
use Rattle.turn_cache.proofs.Opening.{length_range}
use Rattle.turn_cache.proofs.Splitting.{splits}
use Rattle.turn_cache.proofs.cache.TurnCache.split.Goals as goal

pub split_seat-seat-requires : goal.split_seat-seat-requires
split_seat-seat-requires c =
    let cache = c.args.self.now in
    let numbers : List ℕ = range_with_len (c.args.number + 1) c.args.left in
    let next : range_with_len c.args.number (c.args.left + 1) ≡ c.args.number ∷ numbers =
    ap (range_with_len c.args.number) (let e : c.args.left + 1 ≡ suc c.args.left = omega arith in e) in
    let count : c.args.left + 1 ≡ suc (length numbers) =
    (let l = length_range (c.args.number + 1) c.args.left in omega (arith, l)) in
    let is : c.args.seat.now.me.0 ≡ new_hand (c.args.number ∷ numbers) (unused_note (suc (length numbers))) =
    ap (λ (m : Sat). m.0) c.requires.me ∙ (λ i. new_hand (next i) (unused_note (count i))) in (
      c.requires.at,
      (let w = cache.counted in let s = cache.sized.0 in omega (arith, w, s)),
      subst (λ (v : Hand). Splits (Ruled cache.table.shared.key) c.args.seat.now.id v (remaining_hand v) (split_off v))
          (sym is) (splits cache.table.shared.key c.args.seat.now.id c.args.number numbers),
    )
