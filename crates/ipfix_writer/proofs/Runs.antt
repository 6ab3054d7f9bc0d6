-- Runs of records that an emitter takes in.
use Rattle.std.proofs.Common.{◌≡◌, ◌∙◌, ◌++◌, ◌+◌, ◌*◌, ap, sym, subst, arith, ℕ, List, [], Option, take, drop}
use Rattle.std.proofs.Common.{append_assoc, append-nil, take-append-drop}
use Rattle.std.proofs.Math.Seq.{take-add}
use Rattle.std.proofs.KnownBytes.{Appends-nil, Appends-trans}
use Rattle.std.specs.Io.KnownBytes.{Appends}
use Rattle.record_ledger.specs.declared.record.FlowRecord.{FlowRecord}
use Rattle.ipfix_writer.specs.Layout.{BeginsLayout}
use Rattle.ipfix_writer.specs.Emitting.{EmitterState, IsUnderWay}

-- the emitter took in this run, and the sink went from one state to the other
abbrev pub Takes : EmitterState → EmitterState → List FlowRecord → Option (List ℕ) → Option (List ℕ) → Type 0
Takes before after run held held_now = (flows : List FlowRecord) (written : List ℕ) → IsUnderWay before flows written
    → (bytes : List ℕ) × Appends held held_now bytes × IsUnderWay after (flows ++ run) (written ++ bytes)

-- a write failed while the emitter took in this run
abbrev pub Stops : EmitterState → List FlowRecord → Option (List ℕ) → Option (List ℕ) → Type 0
Stops before run held held_now = (flows : List FlowRecord) (written : List ℕ) → IsUnderWay before flows written
    → (bytes : List ℕ) × Appends held held_now bytes
    × ((rest : List FlowRecord) → BeginsLayout before.size before.export_time (flows ++ (run ++ rest))
    (written ++ bytes))

-- the run without records
pub takes-none : (emitter : EmitterState) (held : Option (List ℕ)) → Takes emitter emitter [] held held
takes-none emitter held flows written way = (
  [],
  Appends-nil held,
  subst (λ fs. IsUnderWay emitter fs (written ++ [])) (sym (append-nil flows))
      (subst (IsUnderWay emitter flows) (sym (append-nil written)) way),
)

-- a run in other words
pub takes-all : (before after : EmitterState) (run whole : List FlowRecord) (held held_now : Option (List ℕ))
    → Takes before after run held held_now → run ≡ whole → Takes before after whole held held_now
takes-all before after run whole held held_now first is =
    subst (λ fs. Takes before after fs held held_now) is first

-- one run behind another
pub takes-more : (before now after : EmitterState) (run more whole : List FlowRecord)
    (held held_now held_after : Option (List ℕ)) → Takes before now run held held_now
    → Takes now after more held_now held_after → run ++ more ≡ whole → Takes before after whole held held_after
takes-more before now after run more whole held held_now held_after first second is flows written way =
    let one = first flows written way in
    let two = second (flows ++ run) (written ++ one.0) one.2 in (
      one.0 ++ two.0,
      Appends-trans held held_now held_after one.0 two.0 one.1 two.1,
      subst (λ fs. IsUnderWay after fs (written ++ (one.0 ++ two.0)))
          (append_assoc flows run more ∙ ap (λ fs. flows ++ fs) is)
          (subst (IsUnderWay after ((flows ++ run) ++ more)) (append_assoc written one.0 two.0) two.2),
    )

-- the beginning of a layout in other words
pub begins-same : (size size_now export_time export_time_now : ℕ) (flows flows_now : List FlowRecord)
    (bytes bytes_now : List ℕ) → size ≡ size_now → export_time ≡ export_time_now → flows ≡ flows_now
    → bytes ≡ bytes_now → BeginsLayout size export_time flows bytes
    → BeginsLayout size_now export_time_now flows_now bytes_now
begins-same size size_now export_time export_time_now flows flows_now bytes bytes_now e f g h begins =
    subst (λ (n : ℕ). BeginsLayout n export_time_now flows_now bytes_now) e
    (subst (λ (t : ℕ). BeginsLayout size t flows_now bytes_now) f
    (subst (λ fs. BeginsLayout size export_time fs bytes_now) g
    (subst (λ bs. BeginsLayout size export_time flows bs) h begins)))

-- a write that fails in a later run, with what was to come behind it
pub stops-later : (before now : EmitterState) (run more left whole : List FlowRecord)
    (held held_now held_after : Option (List ℕ)) → Takes before now run held held_now
    → Stops now more held_now held_after → now.size ≡ before.size → now.export_time ≡ before.export_time
    → run ++ (more ++ left) ≡ whole → Stops before whole held held_after
stops-later before now run more left whole held held_now held_after first second size export_time is flows written
    way =
    let one = first flows written way in
    let two = second (flows ++ run) (written ++ one.0) one.2 in
    let flows_is = λ (rest : List FlowRecord). append_assoc flows run (more ++ (left ++ rest))
    ∙ ap (λ fs. flows ++ fs) (ap (λ fs. run ++ fs) (sym (append_assoc more left rest))
    ∙ sym (append_assoc run (more ++ left) rest) ∙ ap (λ fs. fs ++ rest) is) in (
      one.0 ++ two.0,
      Appends-trans held held_now held_after one.0 two.0 one.1 two.1,
      λ rest. begins-same now.size before.size now.export_time before.export_time _ _ _ _ size export_time
          (flows_is rest) (append_assoc written one.0 two.0) (two.2 (left ++ rest)),
    )

-- the records up to the end of a run of 16
pub run-taken : (records run : List FlowRecord) (number : ℕ) → run ≡ take 16 (drop (number * 16) records)
    → take (number * 16) records ++ run ≡ take ((number + 1) * 16) records
run-taken records run number is =
    let next : number * 16 + 16 ≡ (number + 1) * 16 = omega arith in
    ap (λ fs. take (number * 16) records ++ fs) is ∙ sym (take-add (number * 16) 16 records)
    ∙ ap (λ n. take n records) next

-- the records up to a run of 16, those of the run, and those behind it
pub run-split : (records run : List FlowRecord) (number : ℕ) → run ≡ take 16 (drop (number * 16) records)
    → take (number * 16) records ++ (run ++ drop 16 (drop (number * 16) records)) ≡ records
run-split records run number is =
    ap (λ fs. take (number * 16) records ++ fs) (ap (λ fs. fs ++ drop 16 (drop (number * 16) records)) is
    ∙ take-append-drop 16 (drop (number * 16) records))
    ∙ take-append-drop (number * 16) records
