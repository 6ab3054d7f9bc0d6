use Rattle.std.proofs.Common.{◌≤◌, ◌^◌, ◌∙◌, refl, sym, subst, arith, inr, [], length}
use Rattle.meter_io.specs.Sides.{IsUntouched, side}
use Rattle.meter_program.specs.Outcome.{Ends}
use Rattle.meter_program.specs.Seen.{seen_of}
use Rattle.meter_program.specs.Words.{selftest}
use Rattle.meter_program.proofs.Made.{refused-for-memory}
use Rattle.meter_program.proofs.Endings.{tested}
use Rattle.meter_program.proofs.Streams.{none-begun}
use Rattle.meter_program.proofs.selftest.selftest.Goals as goal

pub returns-in-Err-clause-ends : goal.returns-in-Err-clause-ends
returns-in-Err-clause-ends g c = λ input stderr still quiet.
    let settings = c.args.settings.now in
    let few : length c.as_slice.result.now ≤ 2 ^ 30 =
    subst (λ bytes. length bytes ≤ 2 ^ 30) (sym c.as_slice.ensures.value)
    (omega (arith, c.in-Ok.ensures.size, settings.packets_bounds.1)) in
    let same = refused-for-memory settings.seed settings.packets settings.keys _ c.as_slice.result.now
    c.in-Err.status refl
    (c.as_slice.ensures.value ∙ c.in-Ok.ensures.octets) few
    (λ rose. absurd (omega (arith, rose))) c.in-Err.ensures.refused in
    subst (λ status. Ends (selftest settings.seed settings.packets settings.keys)
    (seen_of input (side g.K.Sink.held g.K.Sink.faults c.args.output.now c.args.output.now) stderr
    (g.M.Caches.metered c.gathered_from.new.caches)) (IsUntouched stderr) status) (sym same)
    (record { cause = still; output = record { bytes = refl; faults = refl }; stderr = quiet })

pub returns-in-Ok-summary-clause-ends : goal.returns-in-Ok-summary-clause-ends
returns-in-Ok-summary-clause-ends g c = λ input stderr still quiet. record {
  bytes = [];
  read = (still, refl);
  written = _;
  reported = [];
  answer = tested c.args.settings.now.seed c.args.settings.now.packets c.args.settings.now.keys
      c.four_workers-settings.result.idle c.four_workers-settings.result.active
      c.in-Ok-emitter_for.emitter.size c.len-flows.result _ c.as_slice.result.now
      (g.M.Caches.metered c.gathered_from.new.caches) c.in-Ok-gathered_from.gathered.records
      c.in-Ok-gathered_from.gathered.tally c.in-Ok-gathered_from.gathered.tail c.in-Ok-emit.messages
      c.in-Ok-emit.ensures.written.0
      c.four_workers-settings.ensures.idle c.four_workers-settings.ensures.active
      (c.in-Ok-emitter_for.ensures.size ∙ c.four_workers-settings.ensures.size)
      c.len-flows.ensures refl
      (c.as_slice.ensures.value ∙ c.in-Ok.ensures.octets) c.in-Ok-gathered_from.ensures.records
      c.in-Ok-emit.ensures.written.2;
  output = c.in-Ok-summary.ensures.whole;
  stderr = quiet;
}

pub returns-clause-ends : goal.returns-clause-ends
returns-clause-ends g c = λ input stderr still quiet. record {
  bytes = [];
  read = (still, refl);
  written = _;
  reported = [];
  answer = tested c.args.settings.now.seed c.args.settings.now.packets c.args.settings.now.keys
      c.four_workers-settings.result.idle c.four_workers-settings.result.active
      c.in-Ok-emitter_for.emitter.size c.len-flows.result _ c.as_slice.result.now
      (g.M.Caches.metered c.gathered_from.new.caches) c.in-Ok-gathered_from.gathered.records
      c.in-Ok-gathered_from.gathered.tally c.in-Ok-gathered_from.gathered.tail c.in-Ok-emit.messages
      c.in-Ok-emit.ensures.written.0
      c.four_workers-settings.ensures.idle c.four_workers-settings.ensures.active
      (c.in-Ok-emitter_for.ensures.size ∙ c.four_workers-settings.ensures.size)
      c.len-flows.ensures refl
      (c.as_slice.ensures.value ∙ c.in-Ok.ensures.octets) c.in-Ok-gathered_from.ensures.records
      c.in-Ok-emit.ensures.written.2;
  output = inr (c.in-Err-summary.ensures.begun, c.in-Err-summary.ensures.cause.failed);
  stderr = none-begun stderr [] quiet.bytes;
  cause = (c.in-Err-summary.ensures.cause.failed, quiet);
}
