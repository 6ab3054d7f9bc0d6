use Rattle.std.proofs.Common.{◌≡◌, ◌<◌, count_by, length, map, set, get_or, false, sym, ap, ◌∙◌, subst, arith}
use Rattle.std.specs.List.{range_with_len, remove}
use Rattle.std.proofs.lemmas.List.FromFn.{length-map-range_with_len}
use Rattle.pebr_core.specs.declared.kinds.Retired.TheVariants as retire
use Rattle.pebr_core.specs.State.{has, is_retired}
use Rattle.pebr_slots.specs.Sets.{Sets}
use Rattle.pebr_slots.specs.Shown.{times, is_in, retired_as, AreApart, AreFalling}
use Rattle.pebr_slots.proofs.Listing.{falling_without, of_in}
use Rattle.pebr_slots.proofs.Keeping.{fresh_at, retired_at_all, retired_count, replaced_apart, replaced_fresh}
use Rattle.pebr_slots.proofs.Keeping.{replaced_retired}
use Rattle.pebr_slots.proofs.slots.SeatSlots.replace.Goals as goal

pub take_out-requires : goal.take_out-requires
take_out-requires c =
    let inside = c.self.inside in
    let new = c.args.new in
    let at = fresh_at inside.slots inside.room inside.fresh.items inside.untagged.items inside.tagged.items
    c.self.invariant.0 new in
    of_in (times new inside.fresh.items) (sym at
    ∙ (ap (λ (s : Sets). has s.fresh new) c.self.view_is ∙ c.requires.fresh))

pub push_reserved-requires : goal.push_reserved-requires
push_reserved-requires c =
    let inside = c.self.inside in
    let many = retired_count inside.slots inside.room inside.fresh.items inside.untagged.items inside.tagged.items
    c.self.invariant.0 in
    let view = ap (λ (s : Sets). count_by is_retired s.retired) c.self.view_is in
    let room = ap (λ (s : Sets). s.room) c.self.view_is in
    let len = inside.untagged.ok.0 in
    omega (arith, many, view, room, len, c.requires.room, c.self.invariant.5)

pub invariant_of-self : goal.invariant_of-self
invariant_of-self c =
    let inside = c.self.inside in
    let fresh = inside.fresh.items in
    let old = c.args.old in
    let place = c.take_out.ensures.slots.0 in
    let h = c.self.invariant.0 in
    let low : place < length fresh = c.take_out.ensures.slots.1 in
    let at : get_or fresh place 0 ≡ c.args.new = c.take_out.ensures.slots.2 in
    let within : old < inside.slots =
    (let r = c.requires.range in let a = ap (λ (s : Sets). length s.retired) c.self.view_is in
    let b = length-map-range_with_len (retired_as inside.untagged.items inside.tagged.items) 0 inside.slots in
    omega (arith, r, a, b)) in
    let apart = replaced_apart inside.slots inside.room fresh inside.untagged.items inside.tagged.items old c.args.new
    place h within
    (sym (fresh_at inside.slots inside.room fresh inside.untagged.items inside.tagged.items h old)
    ∙ (ap (λ (s : Sets). has s.fresh old) c.self.view_is ∙ c.requires.apart.1))
    (sym (retired_at_all inside.slots inside.room fresh inside.untagged.items inside.tagged.items h old)
    ∙ (ap (λ (s : Sets). get_or s.retired old retire.No) c.self.view_is ∙ c.requires.apart.0))
    low at in (
      subst (λ l. AreApart inside.slots inside.room l c.push_reserved.new.self.items inside.tagged.items)
          (sym c.take_out.ensures.slots.3)
          (subst (λ l. AreApart inside.slots inside.room (remove fresh place) l inside.tagged.items)
          (sym c.push_reserved.ensures.items) apart),
      subst AreFalling (sym c.take_out.ensures.slots.3) (falling_without fresh place low c.self.invariant.1),
      c.self.invariant.2,
      c.self.invariant.3,
      omega (arith, c.self.invariant.4, c.take_out.ensures.room),
      omega (arith, c.self.invariant.5, c.push_reserved.ensures.capacity),
      c.self.invariant.6,
    )

pub returns-clause-fresh : goal.returns-clause-fresh
returns-clause-fresh c =
    let inside = c.self.inside in
    let fresh = inside.fresh.items in
    let place = c.take_out.ensures.slots.0 in
    let low : place < length fresh = c.take_out.ensures.slots.1 in
    let at : get_or fresh place 0 ≡ c.args.new = c.take_out.ensures.slots.2 in
    ap (λ l. map (λ s. is_in s l) (range_with_len 0 inside.slots)) c.take_out.ensures.slots.3
    ∙ (replaced_fresh inside.slots inside.room fresh inside.untagged.items inside.tagged.items c.args.new place
    c.self.invariant.0 low at
    ∙ ap (λ (s : Sets). set s.fresh c.args.new false) c.self.view_is)

pub returns-clause-retired : goal.returns-clause-retired
returns-clause-retired c =
    let inside = c.self.inside in
    ap (λ l. map (retired_as l inside.tagged.items) (range_with_len 0 inside.slots)) c.push_reserved.ensures.items
    ∙ (replaced_retired inside.slots inside.untagged.items inside.tagged.items c.args.old
    ∙ ap (λ (s : Sets). set s.retired c.args.old retire.Untagged) c.self.view_is)
