-- The files so far were given, and their records were taken.
use Rattle.std.proofs.Common.{◌≡◌, ◌≤◌, List, take, map, length}
use Rattle.std.specs.String.{string_bytes}
use Rattle.record_ledger.specs.declared.record.FlowRecord.{FlowRecord}
use Rattle.join_program.specs.Joined.{together}
use Rattle.join_program.specs.Outcome.{HaveGiven}
use Rattle.join_program.specs.Taking.{IsTaken, share_of}
use Rattle.join_program.proofs.reading.take_files.Given as goal

abbrev pub invariant-loop-place : goal.invariant-loop-place
invariant-loop-place g l = record {
  long : l.place-end ≡ length l.names;
  size : l.window.size ≡ 262184;
  same : g.O.Opener.contents l.opener ≡ g.O.Opener.contents l.fn.opener;
  later : g.O.Opener.faults l.fn.opener ≤ g.O.Opener.faults l.opener;
  taken : (inputs : List (List FlowRecord))
      × HaveGiven (g.O.Opener.contents l.fn.opener) (take l.place (map string_bytes l.names)) inputs
      × IsTaken (share_of l.settings.share) (together inputs) l.taken;
}
