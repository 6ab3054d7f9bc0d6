-- Calls that take in records, one after another.
use Rattle.std.proofs.Common.{◌≡◌, ◌∙◌, ◌++◌, [], ℕ, List, Option, Ok, Err, refl, subst, arith}
use Rattle.meter_io.specs.Causes.{HasCause}
use Rattle.meter_io.specs.Sides.{Side}
use Rattle.record_ledger.specs.declared.record.FlowRecord.{FlowRecord}
use Rattle.ipfix_writer.specs.declared.emitter.Phase.TheVariants.{Started}
use Rattle.ipfix_writer.specs.Emitting.{EmitterState, HasTakenIn}
use Rattle.ipfix_writer.proofs.Runs.{Takes, takes-none, takes-all, takes-more, stops-later}

-- what is seen of a sink
abbrev pub seen : Option (List ℕ) → Option (List ℕ) → ℕ → ℕ → Side
seen held held_now faults faults_now =
    record { before = held; after = held_now; faults_before = faults; faults_after = faults_now }

-- the calls so far took in these records, and none of them failed
pub record TakenSoFar (before now : EmitterState) (sink : Side) (run : List FlowRecord) : Type 0 where
  pub taken : Takes before now run sink.before sink.after
  pub size : now.size ≡ before.size
  pub export_time : now.export_time ≡ before.export_time
  pub started : now.phase ≡ Started
  pub quiet : sink.faults_after ≡ sink.faults_before

-- no call yet
pub none-in : (emitter : EmitterState) (held : Option (List ℕ)) (faults : ℕ) → emitter.phase ≡ Started
    → TakenSoFar emitter emitter (seen held held faults faults) []
none-in emitter held faults started = record {
  taken = takes-none emitter held;
  size = refl;
  export_time = refl;
  started = started;
  quiet = refl;
}

-- one more call
pub more-in : {T E : Type 0} (value : T) (before now after : EmitterState) (run more whole : List FlowRecord)
    (held held_now held_after : Option (List ℕ)) (faults faults_now faults_after : ℕ)
    → TakenSoFar before now (seen held held_now faults faults_now) run
    → HasTakenIn {E = E} now after (seen held_now held_after faults_now faults_after) more (Ok value)
    → run ++ more ≡ whole → TakenSoFar before after (seen held held_after faults faults_after) whole
more-in value before now after run more whole held held_now held_after faults faults_now faults_after so_far next is =
    record {
      taken = takes-more before now after run more whole held held_now held_after so_far.taken next.taken is;
      size = next.size ∙ so_far.size;
      export_time = next.export_time ∙ so_far.export_time;
      started = next.started;
      quiet = next.cause.quiet ∙ so_far.quiet;
    }

-- all of them were taken in
pub whole-in : {T E : Type 0} (value : T) (before now : EmitterState) (run whole : List FlowRecord)
    (held held_now : Option (List ℕ)) (faults faults_now : ℕ)
    → TakenSoFar before now (seen held held_now faults faults_now) run → run ≡ whole
    → HasTakenIn {E = E} before now (seen held held_now faults faults_now) whole (Ok value)
whole-in value before now run whole held held_now faults faults_now so_far is = record {
  taken = takes-all before now run whole held held_now so_far.taken is;
  broken = tt;
  size = so_far.size;
  export_time = so_far.export_time;
  started = so_far.started;
  phase = tt;
  cause = record { later = omega (arith, so_far.quiet); quiet = so_far.quiet; failed = tt };
}

-- a write failed at a later call
pub broken-in : {T E : Type 0} (fault : E) (before now after : EmitterState) (run more left whole : List FlowRecord)
    (held held_now held_after : Option (List ℕ)) (faults faults_now faults_after : ℕ)
    → TakenSoFar before now (seen held held_now faults faults_now) run
    → HasTakenIn {T = T} now after (seen held_now held_after faults_now faults_after) more (Err fault)
    → run ++ (more ++ left) ≡ whole
    → HasTakenIn {T = T} before after (seen held held_after faults faults_after) whole (Err fault)
broken-in {T = T} fault before now after run more left whole held held_now held_after faults faults_now faults_after
    so_far next is = record {
      taken = tt;
      broken = stops-later before now run more left whole held held_now held_after so_far.taken next.broken
          so_far.size so_far.export_time is;
      size = next.size ∙ so_far.size;
      export_time = next.export_time ∙ so_far.export_time;
      started = tt;
      phase = next.phase;
      cause = subst (λ n. HasCause {T = T} n faults_after (Err fault)) so_far.quiet next.cause;
    }
