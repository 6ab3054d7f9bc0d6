use Rattle.std.proofs.Common.{◌≡◌, ◌++◌, ◌+◌, ℕ, [], length, map, count_by, sym, ap, ◌∙◌, subst, arith}
use Rattle.std.specs.Prelude.{nat_lt}
use Rattle.std.specs.List.{range_with_len, filter, list_all}
use Rattle.std.specs.List.Sorted.{IsPermutation}
use Rattle.std.proofs.lemmas.List.{length-map}
use Rattle.pebr_core.specs.State.{is_retired}
use Rattle.pebr_core.specs.Steps.{union_of, slots_without}
use Rattle.pebr_slots.specs.declared.tagged.TaggedSlot.{TaggedSlot}
use Rattle.pebr_slots.specs.Sets.{Sets, given_slots}
use Rattle.pebr_slots.specs.Shown.{is_given, is_kept, slots_of, retired_as, unkept_entry, AreApart}
use Rattle.pebr_slots.proofs.Finding.{none_left, unkept_twice}
use Rattle.pebr_slots.proofs.Keeping.{left, given_apart, given_fresh, given_retired, given_number, retired_count}
use Rattle.pebr_slots.proofs.slots.SeatSlots.give.Goals as goal

pub unkeep-requires : goal.unkeep-requires
unkeep-requires c = λ unsigned. subst (λ l. map unkept_entry l ≡ l) (sym c.leave_kept.ensures.slots)
    (none_left c.self.inside.tagged.items (c.self.invariant.3 unsigned))

pub overflow_sub-result : goal.overflow_sub-result
overflow_sub-result c =
    let inside = c.self.inside in
    let a = c.retired_len-retired.ensures in
    let b = retired_count inside.slots inside.room inside.fresh.items inside.untagged.items inside.tagged.items
    c.self.invariant.0 in
    let d = ap (λ (s : Sets). count_by is_retired s.retired) c.self.view_is in
    let e = given_number inside.slots inside.room inside.fresh.items inside.untagged.items inside.tagged.items
    c.self.invariant.0 in
    let f = c.len-left.ensures in
    let g = ap length c.unkeep.ensures.slots in
    let h = ap length c.leave_kept.ensures.slots in
    let i = length-map c.leave_kept.new.tagged.items unkept_entry in
    let ok = c.unkeep.new.tagged.ok.0 in
    omega (arith, a, b, d, e, f, g, h, i, ok)

pub invariant_of-self : goal.invariant_of-self
invariant_of-self c =
    let inside = c.self.inside in
    let untagged = inside.untagged.items in
    let tagged = inside.tagged.items in
    let pushed = c.push_all.ensures.slots ∙ ap (λ l. inside.fresh.items ++ l) c.deref.ensures.value in
    let whole =
    c.free_all.ensures.slots
    ∙ (ap (λ l. l ++ slots_of (filter is_given c.deref-2.result.now)) pushed
    ∙ ap (λ l. (inside.fresh.items ++ untagged) ++ slots_of (filter is_given l)) c.deref-2.ensures.value) in
    let is = c.unkeep.ensures.slots ∙ ap (map unkept_entry) c.leave_kept.ensures.slots in (
      subst (λ l. AreApart inside.slots inside.room c.let_fall.new.fresh.items l c.unkeep.new.tagged.items)
          (sym c.clear.ensures.items)
          (subst (AreApart inside.slots inside.room c.let_fall.new.fresh.items []) (sym is)
          (given_apart inside.slots inside.room inside.fresh.items untagged tagged c.let_fall.new.fresh.items
          c.self.invariant.0 (subst (λ l. IsPermutation l c.let_fall.new.fresh.items) whole c.let_fall.ensures.slots))),
      c.let_fall.ensures.falling,
      λ epoch. ap (list_all (λ (entry : TaggedSlot). nat_lt entry.tag epoch)) (sym c.deref-3.ensures.value)
          ∙ c.newest_of-self-inside.ensures epoch,
      λ _. subst (λ l. map unkept_entry l ≡ l) (sym is) (unkept_twice (filter is_kept tagged)),
      omega (arith, c.self.invariant.4, c.push_all.ensures.room, c.free_all.ensures.room, c.let_fall.ensures.room),
      omega (arith, c.self.invariant.5, c.clear.ensures.capacity),
      omega (arith, c.self.invariant.6, c.leave_kept.ensures.room, c.unkeep.ensures.room),
    )

pub returns-clause-fresh : goal.returns-clause-fresh
returns-clause-fresh c =
    let inside = c.self.inside in
    let untagged = inside.untagged.items in
    let tagged = inside.tagged.items in
    let pushed = c.push_all.ensures.slots ∙ ap (λ l. inside.fresh.items ++ l) c.deref.ensures.value in
    let whole =
    c.free_all.ensures.slots
    ∙ (ap (λ l. l ++ slots_of (filter is_given c.deref-2.result.now)) pushed
    ∙ ap (λ l. (inside.fresh.items ++ untagged) ++ slots_of (filter is_given l)) c.deref-2.ensures.value) in
    given_fresh inside.slots inside.room inside.fresh.items untagged tagged c.let_fall.new.fresh.items
    c.self.invariant.0 (subst (λ l. IsPermutation l c.let_fall.new.fresh.items) whole c.let_fall.ensures.slots)
    ∙ ap (λ (s : Sets). union_of s.fresh (given_slots s)) c.self.view_is

pub returns-clause-retired : goal.returns-clause-retired
returns-clause-retired c =
    let inside = c.self.inside in
    let is = c.unkeep.ensures.slots ∙ ap (map unkept_entry) c.leave_kept.ensures.slots in
    ap (λ l. map (retired_as l c.unkeep.new.tagged.items) (range_with_len 0 inside.slots)) c.clear.ensures.items
    ∙ (ap (λ l. map (retired_as [] l) (range_with_len 0 inside.slots)) is
    ∙ (given_retired inside.slots inside.room inside.fresh.items inside.untagged.items inside.tagged.items
    c.self.invariant.0
    ∙ ap (λ (s : Sets). slots_without s.retired (given_slots s)) c.self.view_is))

pub returns-clause-given : goal.returns-clause-given
returns-clause-given c =
    let inside = c.self.inside in
    let a = c.retired_len-retired.ensures in
    let b = retired_count inside.slots inside.room inside.fresh.items inside.untagged.items inside.tagged.items
    c.self.invariant.0 in
    let d = ap (λ (s : Sets). count_by is_retired s.retired) c.self.view_is in
    let e = given_number inside.slots inside.room inside.fresh.items inside.untagged.items inside.tagged.items
    c.self.invariant.0 in
    let v = ap (λ (s : Sets). count_by (λ m. m) (given_slots s)) c.self.view_is in
    let f = c.len-left.ensures in
    let g = ap length c.unkeep.ensures.slots in
    let h = ap length c.leave_kept.ensures.slots in
    let i = length-map c.leave_kept.new.tagged.items unkept_entry in
    let ok = c.unkeep.new.tagged.ok.0 in
    omega (arith, a, b, d, e, v, f, g, h, i, ok)

pub returns-clause-left : goal.returns-clause-left
returns-clause-left c =
    let inside = c.self.inside in
    let untagged = inside.untagged.items in
    let tagged = inside.tagged.items in
    let fresh = c.let_fall.new.fresh.items in
    let pushed = c.push_all.ensures.slots ∙ ap (λ l. inside.fresh.items ++ l) c.deref.ensures.value in
    let whole =
    c.free_all.ensures.slots
    ∙ (ap (λ l. l ++ slots_of (filter is_given c.deref-2.result.now)) pushed
    ∙ ap (λ l. (inside.fresh.items ++ untagged) ++ slots_of (filter is_given l)) c.deref-2.ensures.value) in
    let is = c.unkeep.ensures.slots ∙ ap (map unkept_entry) c.leave_kept.ensures.slots in
    let apart = given_apart inside.slots inside.room inside.fresh.items untagged tagged fresh c.self.invariant.0
    (subst (λ l. IsPermutation l fresh) whole c.let_fall.ensures.slots) in
    c.len-left.ensures
    ∙ (c.unkeep.new.tagged.ok.0
    ∙ (ap length is
    ∙ (none_before (length (left tagged)) ∙ (sym (retired_count inside.slots inside.room fresh [] (left tagged) apart)
    ∙ (ap (λ l. count_by is_retired (map (retired_as [] l) (range_with_len 0 inside.slots))) (sym is)
    ∙ ap (λ l. count_by is_retired (map (retired_as l c.unkeep.new.tagged.items) (range_with_len 0 inside.slots)))
    (sym c.clear.ensures.items))))))
  where
    none_before : (n : ℕ) → n ≡ 0 + n
    none_before n = omega arith
