use Rattle.std.proofs.Common.{◌≡◌, ◌++◌, ◌&&◌, false, [], length, map, sym, ap, ◌∙◌, subst, arith}
use Rattle.std.specs.Prelude.{nat_lt}
use Rattle.std.specs.List.{range_with_len, list_all}
use Rattle.std.proofs.lemmas.List.{map-append}
use Rattle.std.proofs.lemmas.List.FromFn.{length-map-range_with_len}
use Rattle.pebr_core.specs.Steps.{tag_with}
use Rattle.pebr_slots.specs.declared.tagged.TaggedSlot.{TaggedSlot}
use Rattle.pebr_slots.specs.Sets.{Sets, is_above}
use Rattle.pebr_slots.specs.Shown.{value_found, is_kept, retired_as, tagged_with, unkept_entry, AreApart, IsNewest}
use Rattle.pebr_slots.proofs.Finding.{unkept_tagged, unkept_twice}
use Rattle.pebr_slots.proofs.Keeping.{noted, noted_apart, noted_newest, noted_retired, none_kept}
use Rattle.pebr_slots.proofs.slots.SeatSlots.note.Goals as goal

pub tag_all-requires : goal.tag_all-requires
tag_all-requires c =
    let inside = c.self.inside in
    let many = c.self.invariant.0.many in
    let len = ap length c.deref-2.ensures.value in
    omega (arith, many, len, c.self.invariant.6)

pub unkeep-requires : goal.unkeep-requires
unkeep-requires c = λ unsigned.
    let inside = c.self.inside in
    let more = map (tagged_with c.args.epoch) inside.untagged.items in
    let is = c.tag_all.ensures.slots ∙ ap (λ l. inside.tagged.items ++ map (tagged_with c.args.epoch) l)
    c.deref-2.ensures.value in
    subst (λ l. map unkept_entry l ≡ l) (sym is)
    (map-append unkept_entry inside.tagged.items more
    ∙ (ap (λ l. l ++ map unkept_entry more) (c.self.invariant.3 unsigned)
    ∙ ap (λ l. inside.tagged.items ++ l) (unkept_tagged c.args.epoch inside.untagged.items)))

pub invariant_of-self : goal.invariant_of-self
invariant_of-self c =
    let inside = c.self.inside in
    let epoch = c.args.epoch in
    let is : c.unkeep.new.tagged.items ≡ noted epoch inside.untagged.items inside.tagged.items =
    c.unkeep.ensures.slots ∙ ap (map unkept_entry)
    (c.tag_all.ensures.slots ∙ ap (λ l. inside.tagged.items ++ map (tagged_with epoch) l) c.deref-2.ensures.value) in (
      subst (λ l. AreApart inside.slots inside.room inside.fresh.items l c.unkeep.new.tagged.items)
          (sym c.clear.ensures.items)
          (subst (AreApart inside.slots inside.room inside.fresh.items []) (sym is)
          (noted_apart inside.slots inside.room inside.fresh.items inside.untagged.items inside.tagged.items epoch
          c.self.invariant.0)),
      c.self.invariant.1,
      subst (IsNewest c.newest_with-self-inside.result) (sym is)
          (noted_newest inside.newest c.newest_with-self-inside.result inside.untagged.items inside.tagged.items epoch
          c.self.invariant.2
          (λ e. c.newest_with-self-inside.ensures e ∙ ap
          (λ l. is_above inside.newest e && list_all (λ (entry : TaggedSlot). nat_lt entry.tag e)
          (map (tagged_with epoch) l)) c.deref.ensures.value)),
      λ _. subst (λ l. map unkept_entry l ≡ l) (sym is)
          (unkept_twice (inside.tagged.items ++ map (tagged_with epoch) inside.untagged.items)),
      c.self.invariant.4,
      omega (arith, c.self.invariant.5, c.clear.ensures.capacity),
      omega (arith, c.self.invariant.6, c.tag_all.ensures.room, c.unkeep.ensures.room),
    )

pub returns-clause-retired : goal.returns-clause-retired
returns-clause-retired c =
    let inside = c.self.inside in
    let epoch = c.args.epoch in
    let is : c.unkeep.new.tagged.items ≡ noted epoch inside.untagged.items inside.tagged.items =
    c.unkeep.ensures.slots ∙ ap (map unkept_entry)
    (c.tag_all.ensures.slots ∙ ap (λ l. inside.tagged.items ++ map (tagged_with epoch) l) c.deref-2.ensures.value) in
    ap (λ l. map (retired_as l c.unkeep.new.tagged.items) (range_with_len 0 inside.slots)) c.clear.ensures.items
    ∙ (ap (λ l. map (retired_as [] l) (range_with_len 0 inside.slots)) is
    ∙ (noted_retired inside.slots inside.room inside.fresh.items inside.untagged.items inside.tagged.items epoch
    c.self.invariant.0
    ∙ ap (λ (s : Sets). map (tag_with epoch) s.retired) c.self.view_is))

pub returns-clause-kept : goal.returns-clause-kept
returns-clause-kept c =
    let inside = c.self.inside in
    ap (λ l. map (value_found is_kept false l) (range_with_len 0 inside.slots)) c.unkeep.ensures.slots
    ∙ none_kept c.tag_all.new.tagged.items inside.slots c.args.self.now.retired
    (sym (ap (λ (s : Sets). length s.retired) c.self.view_is)
    ∙ length-map-range_with_len (retired_as inside.untagged.items inside.tagged.items) 0 inside.slots)
