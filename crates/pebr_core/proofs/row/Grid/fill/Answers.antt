use Rattle.std.proofs.Common.{◌≡◌, ◌∙◌, ap, arith, length, map, get_or, []}
use Rattle.pebr_core.proofs.Marks.{written_back, rows_filled}
use Rattle.pebr_core.proofs.row.Grid.fill.Goals as goal

pub returns : goal.returns
returns g c =
    let inside = c.self.inside.rows in
    let same = c.deref_mut-row-items.ensures.value in
    let len = c.loop-row.invariant.0 in
    let whole : length c.loop-row.row-items ≡ length inside.items = len ∙ ap (λ l. length l) same in
    written_back c.loop-row.row-items inside.items inside.len inside.ok.0 whole
    ∙ rows_filled c.loop-row.row-items c.args.self.now (map (λ _. c.args.value))
    (whole ∙ ap (λ l. length l) c.self.view_is)
    (λ k h. c.loop-row.invariant.1 k (omega arith)
    ∙ ap (λ l. map (λ _. c.args.value) (get_or l k [])) (same ∙ c.self.view_is))
