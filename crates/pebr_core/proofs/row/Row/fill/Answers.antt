use Rattle.std.proofs.Common.{◌≡◌, ◌∙◌, ap, arith, length}
use Rattle.pebr_core.proofs.Marks.{written_back, filled_with}
use Rattle.pebr_core.proofs.row.Row.fill.Goals as goal

pub returns : goal.returns
returns g c =
    let inside = c.self.inside.entries in
    let same = c.deref_mut-entry-items.ensures.value in
    let len = c.loop-entry.invariant.0 in
    let whole : length c.loop-entry.entry-items ≡ length inside.items = len ∙ ap (λ l. length l) same in
    written_back c.loop-entry.entry-items inside.items inside.len inside.ok.0 whole
    ∙ filled_with c.loop-entry.entry-items c.args.self.now c.args.value (whole ∙ ap (λ l. length l) c.self.view_is)
    (λ k h. c.loop-entry.invariant.1 k (omega arith))
