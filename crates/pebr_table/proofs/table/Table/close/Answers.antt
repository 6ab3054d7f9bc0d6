use Rattle.pebr_table.proofs.Recording.{closes}
use Rattle.pebr_table.proofs.table.Table.close.Goals as goal

pub returns-clause-values : goal.returns-clause-values
returns-clause-values g c =
    let is = c.close_with.ensures.values in (
      is.0,
      is.1,
      closes (g.P.TableRule.holds c.args.self.inner.shared.key) _ c.args.seat.inner.me.0 _ _ is.2,
    )
