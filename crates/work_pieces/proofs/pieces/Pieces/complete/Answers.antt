use Rattle.std.proofs.Common.{rules}
use Rattle.work_pieces.proofs.Drawing.{tells}
use Rattle.work_pieces.proofs.pieces.Pieces.complete.Goals as goal

pub load-requires : goal.load-requires
load-requires c = (search rules, search rules, tells _ _ _ c.args.pass.seat.me)
