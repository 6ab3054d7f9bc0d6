use Rattle.std.proofs.Common.{rules}
use Rattle.work_pieces.proofs.Drawing.{joins, tells}
use Rattle.work_pieces.proofs.pieces.Pieces.unite.Goals as goal

pub join_seat-requires : goal.join_seat-requires
join_seat-requires c = (
  search rules,
  search rules,
  search rules,
  search rules,
  joins _ _ c.args.first.seat.me.0 _ c.args.second.seat.me.0 c.requires.some,
)

pub load-requires : goal.load-requires
load-requires c = (search rules, search rules, tells _ _ _ c.join_seat.new.seat.me)
