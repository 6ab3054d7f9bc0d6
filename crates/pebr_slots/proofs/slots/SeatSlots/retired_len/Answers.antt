use Rattle.std.proofs.Common.{count_by, ap, arith}
use Rattle.pebr_core.specs.State.{is_retired}
use Rattle.pebr_slots.specs.Sets.{Sets}
use Rattle.pebr_slots.proofs.Keeping.{retired_count}
use Rattle.pebr_slots.proofs.slots.SeatSlots.retired_len.Goals as goal

pub returns : goal.returns
returns c =
    let inside = c.self.inside in
    let a = retired_count inside.slots inside.room inside.fresh.items inside.untagged.items inside.tagged.items
    c.self.invariant.0 in
    let b = ap (λ (s : Sets). count_by is_retired s.retired) c.self.view_is in
    let d = c.len.ensures in
    let e = c.len-2.ensures in
    let u = inside.untagged.ok.0 in
    let t = inside.tagged.ok.0 in
    omega (arith, a, b, d, e, u, t)
