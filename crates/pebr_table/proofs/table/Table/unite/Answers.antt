use Rattle.pebr_table.proofs.Recording.{joins}
use Rattle.pebr_table.proofs.table.Table.unite.Goals as goal

pub join_seat-requires : goal.join_seat-requires
join_seat-requires g c = (
  c.requires.0,
  c.requires.1,
  c.requires.2,
  c.requires.3,
  joins (g.P.TableRule.holds c.args.self.now.inner.shared.key) _ c.args.seat.now.inner.me.0 _
      c.args.other.inner.me.0 _ _
      c.requires.4,
)
