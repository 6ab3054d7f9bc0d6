-- What the emitter wrote is the layout of the records, which reads back as these.
use Rattle.std.proofs.Common.{◌≡◌, ◌≤◌, ◌∙◌, ℕ, List, length, take, Some, sym, ap, subst}
use Rattle.record_ledger.specs.declared.record.FlowRecord.{FlowRecord}
use Rattle.ipfix_writer.specs.Layout.{IsLayout, IsLayoutOf, BeginsLayout}
use Rattle.ipfix_reader.specs.Flows.{flows_of}
use Rattle.meter_io.specs.Sides.{Side, side, HasTaken, HasBegun, HasFailed}
use Rattle.std.proofs.Math.Seq.{take-append_seam}
use Rattle.join_program.proofs.joining.write_records.Goals as goal

module _ (law : (flows : List FlowRecord) (bytes : List ℕ) (size time : ℕ) → size ≤ 65535
    → IsLayout size time flows bytes → flows_of bytes ≡ Some flows) (size time size' time' : ℕ) (small : size ≤ 65535)
    (size_is : size' ≡ size) (time_is : time' ≡ time) (records : List FlowRecord) (output : Side) where
  laid : (bytes : List ℕ) → IsLayout size' time' records bytes → IsLayout size time records bytes
  laid bytes layout = subst (λ s. IsLayout s time records bytes) size_is
      (subst (λ t. IsLayout size' t records bytes) time_is layout)

  done : (bytes : List ℕ) (messages : ℕ) → HasTaken output bytes → IsLayoutOf size' time' records bytes messages
      → (bytes : List ℕ) × IsLayout size time records bytes × (flows_of bytes ≡ Some records) × HasTaken output bytes
  done bytes messages taken layout =
      let is = laid bytes layout.layout in (bytes, is, law records bytes size time small is, taken)

  cut : (bytes : List ℕ) → HasTaken output bytes → BeginsLayout size' time' records bytes → HasFailed output
      → (bytes : List ℕ) × IsLayout size time records bytes × (flows_of bytes ≡ Some records) × HasBegun output bytes
      × HasFailed output
  cut bytes taken begins failed =
      let is = laid begins.all begins.layout in (
        begins.all,
        is,
        law records begins.all size time small is,
        record {
          count = length bytes;
          taken = subst (HasTaken output) (sym (ap (take (length bytes)) begins.begins
              ∙ take-append_seam bytes begins.more)) taken;
        },
        failed,
      )

pub returns-in-Ok-emit_all : goal.returns-in-Ok-emit_all
returns-in-Ok-emit_all g c =
    let w = c.in-Ok-emit_all.ensures.written in
    done c.layout_law.ensures c.args.size _ c.in-Ok.emitter.size c.in-Ok.emitter.export_time c.requires.1
    (ap (λ e. e.size) c.in-Ok.ensures) (ap (λ e. e.export_time) c.in-Ok.ensures ∙ c.export_time.ensures)
    c.args.records.now (side g.K.Sink.held g.K.Sink.faults c.args.output.now c.emit_all.new.sink) w.0
    c.in-Ok-emit_all.field-0 w.1 w.2

pub returns-in-Err : goal.returns-in-Err
returns-in-Err g c =
    let w = c.in-Err.ensures.broken in
    cut c.layout_law.ensures c.args.size _ c.in-Ok.emitter.size c.in-Ok.emitter.export_time c.requires.1
    (ap (λ e. e.size) c.in-Ok.ensures) (ap (λ e. e.export_time) c.in-Ok.ensures ∙ c.export_time.ensures)
    c.args.records.now (side g.K.Sink.held g.K.Sink.faults c.args.output.now c.emit_all.new.sink) w.0 w.1 w.2
    c.in-Err.ensures.cause.failed
