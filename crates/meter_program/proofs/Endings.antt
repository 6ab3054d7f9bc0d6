-- How a command ends, from what its parts say.
use Rattle.std.proofs.Common.{◌≡◌, ℕ, List, [], length, Some, refl, sym, ap, subst, ◌∙◌}
use Rattle.capture_tally.specs.declared.tally.Tally.{Tally}
use Rattle.record_ledger.specs.declared.record.FlowRecord.{FlowRecord}
use Rattle.meter_program.specs.declared.status.Status.{Status}
use Rattle.meter_program.specs.declared.status.Status.TheVariants.{Done, ReadFault, WriteFault, NotCapture, LinkUnknown}
use Rattle.meter_program.specs.declared.status.Status.TheVariants.{Damaged, TooLarge, NoMemory, Usage, NotStream}
use Rattle.meter_program.specs.declared.status.Status.TheVariants.{BadSchedule}
use Rattle.meter_program.specs.Summary.{summary}
use Rattle.meter_program.specs.Words.{meter}
use Rattle.capture_maker.specs.Made.{capture_of}
use Rattle.flow_parts.specs.declared.fragment.Fragment.{Fragment}
use Rattle.meter_io.specs.Sides.{Side, IsUntouched}
use Rattle.meter_io.proofs.Sides.{all-read}
use Rattle.meter_program.specs.Seen.{Seen}
use Rattle.meter_program.specs.Metering.{IsGathered, IsReadAndGathered, IsWritten, WriteMeans}
use Rattle.meter_program.specs.Outcome.{Ends, IsMetered, IsTested}

metered : (idle active size : ℕ) (kept : List Fragment) (capture written : List ℕ) (records : List FlowRecord)
    (tally : Tally) (tail messages : ℕ)
    → IsGathered idle active capture kept records tally tail → IsWritten size records tally written messages
    → IsMetered idle active size kept capture written (summary tally (length records) messages tail)
metered idle active size kept capture written records tally tail messages gathered is_written = record {
  file = gathered.file;
  is_file = gathered.is_file;
  known = gathered.known;
  undamaged = gathered.undamaged;
  limits = gathered.limits;
  idle = gathered.idle;
  active = gathered.active;
  records = records;
  lawful = gathered.lawful;
  regroups = gathered.regroups;
  sessions = gathered.sessions;
  tally = tally;
  tally_is = gathered.tally_is;
  messages = messages;
  layout = is_written.layout;
  decoded = is_written.decoded;
  summary_is = ap (λ t. summary tally (length records) messages t) gathered.tail_is;
}

-- the capture was read and gathered, and its records were written
pub meter-ends : (idle active workers sets piece size : ℕ) (seen : Seen) (records : List FlowRecord) (tally : Tally)
    (tail : ℕ) (status : Status)
    → IsReadAndGathered seen.input idle active seen.metered records tally tail
    → WriteMeans size records tally tail seen.output seen.stderr status
    → Ends (meter idle active workers sets piece size) seen (IsUntouched seen.stderr) status
meter-ends idle active workers sets piece size seen records tally tail Done read wrote = record {
  bytes = read.bytes;
  read = read.read;
  written = wrote.bytes;
  reported = summary tally (length records) wrote.messages tail;
  answer = metered idle active size seen.metered read.bytes wrote.bytes records tally tail wrote.messages read.gathered
      wrote.is_written;
  output = wrote.taken;
  stderr = wrote.reported;
}
meter-ends idle active workers sets piece size seen records tally tail WriteFault read wrote = record {
  bytes = read.bytes;
  read = read.read;
  written = wrote.bytes;
  reported = summary tally (length records) wrote.messages tail;
  answer = metered idle active size seen.metered read.bytes wrote.bytes records tally tail wrote.messages read.gathered
      wrote.is_written;
  output = wrote.taken;
  stderr = wrote.reported;
  cause = wrote.cause;
}
meter-ends idle active workers sets piece size seen records tally tail NoMemory read wrote =
    record { cause = tt; output = wrote.0; stderr = wrote.1 }
meter-ends idle active workers sets piece size seen records tally tail ReadFault read wrote = absurd wrote
meter-ends idle active workers sets piece size seen records tally tail Usage read wrote = absurd wrote
meter-ends idle active workers sets piece size seen records tally tail NotCapture read wrote = absurd wrote
meter-ends idle active workers sets piece size seen records tally tail (LinkUnknown link) read wrote = absurd wrote
meter-ends idle active workers sets piece size seen records tally tail (Damaged at) read wrote = absurd wrote
meter-ends idle active workers sets piece size seen records tally tail TooLarge read wrote = absurd wrote
meter-ends idle active workers sets piece size seen records tally tail (NotStream fault) read wrote = absurd wrote
meter-ends idle active workers sets piece size seen records tally tail (BadSchedule line) read wrote = absurd wrote

-- the capture of a seed was read from memory and gathered, and its records were laid out
pub tested : (seed packets keys idle active size flows : ℕ) (input : Side) (all : List ℕ) (kept : List Fragment)
    (records : List FlowRecord) (tally : Tally) (tail messages : ℕ) (stream : List ℕ)
    → idle ≡ 300 → active ≡ 1800 → size ≡ 1400 → flows ≡ length records → input.before ≡ Some all
    → all ≡ capture_of seed packets keys
    → IsReadAndGathered input idle active kept records tally tail → IsWritten size records tally stream messages
    → IsTested seed packets keys kept (summary tally flows messages tail) []
tested seed packets keys idle active size flows input all kept records tally tail messages stream idle_is active_is
    size_is flows_is before made read written =
    let bytes : read.bytes ≡ capture_of seed packets keys =
    all-read input.before input.after all read.bytes before read.read.given read.read.ended ∙ made in
    let known = metered idle active size kept read.bytes stream records tally tail messages read.gathered written in
    record {
      stream = stream;
      is_metered =
          subst (λ n. IsMetered 300 1800 1400 kept (capture_of seed packets keys) stream
          (summary tally n messages tail)) (sym flows_is)
          (subst (λ b. IsMetered 300 1800 1400 kept b stream (summary tally (length records) messages tail)) bytes
          (subst (λ n. IsMetered 300 1800 n kept read.bytes stream (summary tally (length records) messages tail))
          size_is
          (subst (λ n. IsMetered 300 n size kept read.bytes stream (summary tally (length records) messages tail))
          active_is
          (subst (λ n. IsMetered n active size kept read.bytes stream (summary tally (length records) messages tail))
          idle_is known))));
      nothing = refl;
    }
