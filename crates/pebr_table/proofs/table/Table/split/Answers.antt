use Rattle.pebr_table.proofs.Recording.{splits}
use Rattle.pebr_table.proofs.table.Table.split.Goals as goal

pub split_seat-inner-requires : goal.split_seat-inner-requires
split_seat-inner-requires g c = (
  c.requires.at.0,
  c.requires.at.1,
  splits (g.P.TableRule.holds c.args.self.now.inner.shared.key) _ c.args.seat.now.inner.me.0 _ _ c.requires.at.2,
)
