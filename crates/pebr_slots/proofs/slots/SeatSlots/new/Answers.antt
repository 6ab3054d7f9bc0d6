use Rattle.std.proofs.Common.{◌≡◌, ◌+◌, ◌*◌, ◌<◌, ◌≤◌, ◌&&◌, ℕ, [], map, replicate, refl, sym, ap, ◌∙◌, subst, arith}
use Rattle.std.proofs.Common.{add-mul, one-mul, mul-le-mul_right}
use Rattle.std.specs.Prelude.{nat_le, nat_lt}
use Rattle.std.specs.List.{range_with_len, list_all}
use Rattle.std.proofs.lemmas.List.FromFn.{length-range_with_len}
use Rattle.pebr_core.specs.declared.kinds.Retired.TheVariants as retire
use Rattle.pebr_core.specs.State.{is_share_of, slots_per_seat}
use Rattle.pebr_slots.specs.declared.tagged.TaggedSlot.{TaggedSlot}
use Rattle.pebr_slots.specs.Shown.{is_in, retired_as, unkept_entry, AreApart}
use Rattle.pebr_slots.proofs.Tables.{map_as, map_to}
use Rattle.pebr_slots.proofs.Keeping.{first_apart, first_fresh}
use Rattle.pebr_slots.proofs.slots.SeatSlots.new.Goals as goal

pub invariant_of-result : goal.invariant_of-result
invariant_of-result c =
    let room = c.slots_per_seat-room.result in
    let first = c.args.shape.roots + c.args.seat * room in
    let slots = c.slot_count.result in
    let fresh = c.in_ok-fresh.fresh.items in
    let tagged = c.in_ok-tagged.ensures.items in (
      subst (λ l. AreApart slots room fresh l c.in_ok-tagged.tagged.items) (sym c.in_ok-untagged.ensures.items)
          (subst (AreApart slots room fresh []) (sym tagged)
          (first_apart slots room first fresh c.in_ok-fresh.ensures.slots
          (shares c.args.shape.roots c.args.seat c.args.shape.seats room slots c.requires.seat
          (c.slot_count.ensures ∙ ap (λ k. c.args.shape.roots + c.args.shape.seats * k)
          (sym c.slots_per_seat-room.ensures))))),
      c.in_ok-fresh.ensures.falling,
      λ epoch. ap (list_all (λ (entry : TaggedSlot). nat_lt entry.tag epoch)) tagged,
      λ _. subst (λ l. map unkept_entry l ≡ l) (sym tagged) refl,
      c.in_ok-fresh.ensures.room,
      c.in_ok-untagged.ensures.capacity,
      c.in_ok-tagged.ensures.capacity,
    )
  where
    shares : (roots seat seats room all : ℕ) → seat < seats → all ≡ roots + seats * room
        → roots + seat * room + room ≤ all
    shares roots seat seats room all h is =
        let more : (seat + 1) * room ≤ seats * room = mul-le-mul_right room (let lt = h in omega arith) in
        let one : (seat + 1) * room ≡ seat * room + room =
        add-mul seat 1 room ∙ ap (λ n. seat * room + n) (one-mul room) in
        omega (arith, more, one, is)

pub returns-clause-fresh : goal.returns-clause-fresh
returns-clause-fresh c =
    let shape = c.args.shape in
    let seat = c.args.seat in
    let room = c.slots_per_seat-room.result in
    let first = shape.roots + seat * room in
    let share : ℕ = slots_per_seat shape in
    map_as (λ s. is_in s c.in_ok-fresh.fresh.items) (is_share_of shape seat)
    (λ slot. first_fresh room first c.in_ok-fresh.fresh.items c.in_ok-fresh.ensures.slots slot
    ∙ (ap (λ k. nat_le (shape.roots + seat * k) slot && nat_lt slot (shape.roots + seat * k + k))
    c.slots_per_seat-room.ensures
    ∙ ap (λ n. nat_le (shape.roots + seat * share) slot && nat_lt slot n) (sym (more shape.roots seat share))))
    (range_with_len 0 c.slot_count.result)
    ∙ ap (λ n. map (is_share_of shape seat) (range_with_len 0 n)) c.slot_count.ensures
  where
    more : (r a b : ℕ) → r + (a + 1) * b ≡ r + a * b + b
    more r a b = omega arith

pub returns-clause-retired : goal.returns-clause-retired
returns-clause-retired c =
    ap (λ l. map (retired_as l c.in_ok-tagged.tagged.items) (range_with_len 0 c.slot_count.result))
    c.in_ok-untagged.ensures.items
    ∙ (ap (λ l. map (retired_as [] l) (range_with_len 0 c.slot_count.result)) c.in_ok-tagged.ensures.items
    ∙ (map_to (retired_as [] []) retire.No (λ _. refl) (range_with_len 0 c.slot_count.result)
    ∙ ap (λ n. replicate n retire.No) (length-range_with_len 0 c.slot_count.result ∙ c.slot_count.ensures)))
