use Rattle.std.proofs.Common.{◌≡◌, ◌∙◌, sym, ap, inr, Some, None}
use Rattle.std.specs.Prelude.{option_map}
use Rattle.meter_io.specs.Sides.{side}
use Rattle.meter_program.specs.Words.{Asked}
use Rattle.meter_program.proofs.Causes.{complete-at}
use Rattle.pipe_program.specs.Words.{as_meter, piping_of}
use Rattle.pipe_program.proofs.running.run_pipe.Goals.{in-Err-NotOptions, in-Err-NoMemory, in-Ok}
use Rattle.pipe_program.proofs.running.run_pipe.Goals as goal

some-same : (one other : Asked) → Some one ≡ Some other → one ≡ other
some-same one other same = cc

none-some : (one : Asked) → None ≡ Some one → ⊥
none-some one same = cc

pub returns-then-is_refusal-clause-complete : goal.returns-then-is_refusal-clause-complete
returns-then-is_refusal-clause-complete g c = λ other is valid quiet. elim c.match-settings_of.branch [
  | in-Err-NotOptions w ↦
      absurd (none-some other
      (sym (ap (option_map as_meter) (w.in-Err-NotOptions.ensures.refused w.in-Err-NotOptions.field-0-is)) ∙ is))
  | in-Err-NoMemory w ↦ inr w.status-is
  | in-Ok w ↦
      complete-at (side g.S.Source.left g.S.Source.faults c.args.input.now)
      (side g.K.Sink.held g.K.Sink.faults c.args.output.now)
      (side g.E.Sink.held g.E.Sink.faults c.args.stderr.now)
      (as_meter (piping_of w.in-Ok.settings)) other c.match-settings_of.input _ c.match-settings_of.output _
      c.match-settings_of.stderr _ (side g.E.Sink.held g.E.Sink.faults c.args.stderr.now
      c.pipe_line-reported.new.stderr) _ _
      c.match-settings_of.status _ w.input-is w.output-is
      w.stderr-is w.status-is w.pipe_input-status.ensures.ends (sym c.is_refusal.ensures ∙ c.if-is_refusal.true)
      (some-same (as_meter (piping_of w.in-Ok.settings)) other
      (sym (ap (option_map as_meter) w.in-Ok.ensures.settings) ∙ is)) valid quiet
]
