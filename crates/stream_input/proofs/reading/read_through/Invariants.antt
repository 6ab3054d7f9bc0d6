-- The messages so far were read, and the window has what came behind them.
use Rattle.std.proofs.Common.{◌≡◌, ◌<◌, ◌≤◌, length}
use Rattle.stream_input.proofs.Windows.{IsPieced}
use Rattle.stream_input.proofs.reading.read_through.Given as goal

abbrev pub invariant-pieces : goal.invariant-pieces
invariant-pieces g l = record {
  pieced : IsPieced l.limit (g.T.RecordTaker.has_taken l.fn.taker) (g.T.RecordTaker.has_taken l.taker)
      (g.S.Source.left l.fn.source) (g.S.Source.left l.source) l.walk l.window.bytes l.left;
  some : 0 < l.left;
  size : l.window.size ≡ 262184;
  room : length l.window.bytes < 262184;
  later : g.S.Source.faults l.fn.source ≤ g.S.Source.faults l.source;
}

abbrev pub decreases-pieces : goal.decreases-pieces
decreases-pieces g l = l.left
