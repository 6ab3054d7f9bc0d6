use Rattle.std.proofs.Common.{◌≡◌, ◌+◌, ◌-◌, length, map, count_by, ap, ◌∙◌, arith}
use Rattle.std.specs.List.{range_with_len}
use Rattle.std.proofs.lemmas.List.{get_or_default}
use Rattle.pebr_slots.specs.Sets.{Sets, least_in}
use Rattle.pebr_slots.specs.Shown.{is_in}
use Rattle.pebr_slots.proofs.Listing.{last_is_least}
use Rattle.pebr_slots.proofs.Keeping.{fresh_count, fresh_at}
use Rattle.pebr_slots.proofs.slots.SeatSlots.least_fresh.Goals as goal

pub overflow_sub-len : goal.overflow_sub-len
overflow_sub-len c =
    let inside = c.self.inside in
    let many = fresh_count inside.slots inside.room inside.fresh.items inside.untagged.items inside.tagged.items
    c.self.invariant.0 in
    let some = ap (λ (s : Sets). count_by (λ mark. mark) s.fresh) c.self.view_is in
    let len = c.len.ensures in
    let ok = inside.fresh.ok.0 in
    omega (arith, len, ok, some, many, c.requires)

pub index-requires : goal.index-requires
index-requires c =
    let inside = c.self.inside in
    let many = fresh_count inside.slots inside.room inside.fresh.items inside.untagged.items inside.tagged.items
    c.self.invariant.0 in
    let some = ap (λ (s : Sets). count_by (λ mark. mark) s.fresh) c.self.view_is in
    let len = c.len.ensures in
    let ok = inside.fresh.ok.0 in
    omega (arith, len, ok, some, many, c.requires)

pub returns : goal.returns
returns c =
    let inside = c.self.inside in
    let many = fresh_count inside.slots inside.room inside.fresh.items inside.untagged.items inside.tagged.items
    c.self.invariant.0 in
    let some = ap (λ (s : Sets). count_by (λ mark. mark) s.fresh) c.self.view_is in
    let len : c.len.result ≡ length inside.fresh.items = c.len.ensures ∙ inside.fresh.ok.0 in
    let last : c.len.result - 1 + 1 ≡ length inside.fresh.items = omega (arith, len, some, many, c.requires) in
    c.index.ensures ∙ (get_or_default inside.fresh.items (c.len.result - 1) c.index.result.now 0 (omega (arith, last))
    ∙ (last_is_least (map (λ s. is_in s inside.fresh.items) (range_with_len 0 inside.slots)) inside.fresh.items
    (fresh_at inside.slots inside.room inside.fresh.items inside.untagged.items inside.tagged.items c.self.invariant.0)
    c.self.invariant.1 (c.len.result - 1) last
    ∙ ap (λ (s : Sets). least_in s.fresh) c.self.view_is))
