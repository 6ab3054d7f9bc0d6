-- What was taken was gathered, and that was written.
use Rattle.std.proofs.Common.{ℕ, List, Option, map}
use Rattle.std.specs.String.{string_bytes}
use Rattle.meter_io.specs.Sides.{Side}
use Rattle.record_ledger.specs.declared.record.FlowRecord.{FlowRecord}
use Rattle.join_program.specs.declared.status.JoinStatus.{JoinStatus}
use Rattle.join_program.specs.declared.status.JoinStatus.TheVariants.{Done, Usage, WriteFault, NoMemory, Refused}
use Rattle.join_program.specs.Joined.{AreJoined, AreGathered, AreFew, IsAnswer, together, export_time}
use Rattle.join_program.specs.Outcome.{Files, HaveGiven, files_seen}
use Rattle.join_program.specs.Taking.{EmitMeans, JoinMeans, asked_of}
use Rattle.join_program.specs.Words.{Asked}
use Rattle.join_program.proofs.Nested.{any_answered}
use Rattle.join_program.proofs.running.join_files.Goals as goal

module _ (asked : Asked) (files : Files) (output : Side) (inputs : List (List FlowRecord))
    (given : HaveGiven files.contents asked.files inputs) (few : AreFew asked.share (together inputs))
    (clock : Option ℕ) (records : List FlowRecord) (joined : AreJoined asked inputs clock records)
    (gathered : AreGathered asked inputs clock records) where
  means : (status : JoinStatus) → EmitMeans asked.size (export_time clock) records output status
      → JoinMeans asked files output status
  means Done e =
      let answer : IsAnswer asked inputs e.0 =
      record { clock = clock; records = records; joined = joined; layout = e.1; decoded = e.2 } in
      record {
        inputs = inputs;
        given = given;
        few = few;
        written = e.0;
        answer = answer;
        exact = record { clock = clock; records = records; gathered = gathered; layout = e.1 };
        joins = λ first come. any_answered asked first inputs e.0 come answer;
        taken = e.3;
      }
  means WriteFault e = record {
    inputs = inputs;
    given = given;
    few = few;
    written = e.0;
    answer = record { clock = clock; records = records; joined = joined; layout = e.1; decoded = e.2 };
    exact = record { clock = clock; records = records; gathered = gathered; layout = e.1 };
    begun = e.3;
    cause = e.4;
  }
  means NoMemory e = e
  means Usage e = e
  means (Refused place fault) e = absurd e

pub returns : goal.returns
returns g c =
    let taken = c.in-Ok.ensures.taken in
    let names = map string_bytes c.args.command.now.files.now in
    means (asked_of c.args.command.now.settings names)
    (files_seen g.O.Opener.contents g.O.Opener.faults c.args.opener.now c.take_files.new.opener) _
    taken.0 taken.1 taken.2.few c.in-Ok.taken.clock c.in-Ok-gather_taken.records
    (c.in-Ok-gather_taken.ensures.joined names taken.0 taken.2)
    (c.in-Ok-gather_taken.ensures.gathered names taken.0 taken.2)
    c.write_records.result c.write_records.ensures
