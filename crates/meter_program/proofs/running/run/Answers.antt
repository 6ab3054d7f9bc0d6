use Rattle.std.proofs.Common.{◌≡◌, ◌∙◌, sym, inr, Some, None}
use Rattle.meter_io.specs.Sides.{side}
use Rattle.meter_program.specs.Words.{Asked, asked_of}
use Rattle.meter_program.proofs.Causes.{complete-at}
use Rattle.meter_program.proofs.running.run.Goals.{in-Err-NotOptions, in-Err-NoMemory, in-Ok}
use Rattle.meter_program.proofs.running.run.Goals as goal

some-same : (one other : Asked) → Some one ≡ Some other → one ≡ other
some-same one other same = cc

none-some : (one : Asked) → None ≡ Some one → ⊥
none-some one same = cc

pub returns-then-is_refusal-clause-complete : goal.returns-then-is_refusal-clause-complete
returns-then-is_refusal-clause-complete g c = λ other is valid quiet. elim c.match-command_of.branch [
  | in-Err-NotOptions w ↦ absurd
      (none-some other (sym (w.in-Err-NotOptions.ensures.refused w.in-Err-NotOptions.field-0-is) ∙ is))
  | in-Err-NoMemory w ↦ inr w.status-is
  | in-Ok w ↦
      complete-at (side g.S.Source.left g.S.Source.faults c.args.input.now)
      (side g.K.Sink.held g.K.Sink.faults c.args.output.now)
      (side g.E.Sink.held g.E.Sink.faults c.args.stderr.now)
      (asked_of w.in-Ok.asked) other c.match-command_of.input _ c.match-command_of.output _ c.match-command_of.stderr _
      (side g.E.Sink.held g.E.Sink.faults c.args.stderr.now c.fault_line-reported.new.stderr) _ _
      c.match-command_of.status _
      w.input-is w.output-is w.stderr-is w.status-is
      w.command-status.ensures.ends (sym c.is_refusal.ensures ∙ c.if-is_refusal.true)
      (some-same (asked_of w.in-Ok.asked) other (sym w.in-Ok.ensures.command ∙ is)) valid quiet
]
