-- What is written of records, and the summary behind it.
use Rattle.std.proofs.Common.{◌≡◌, ◌≤◌, ◌+◌, ◌-◌, ◌^◌, min, ℕ, List, length, take, Some, subst, sym, ap, ◌∙◌, inl, inr}
use Rattle.std.proofs.Common.{refl}
use Rattle.std.proofs.Math.Seq.{take-append_seam}
use Rattle.std.specs.Io.KnownBytes.{Appends}
use Rattle.std.proofs.KnownBytes.{Appends-nil}
use Rattle.record_ledger.specs.declared.record.FlowRecord.{FlowRecord}
use Rattle.capture_tally.specs.declared.tally.Tally.{Tally}
use Rattle.ipfix_writer.specs.Layout.{IsLayout, IsLayoutOf, BeginsLayout}
use Rattle.ipfix_reader.specs.Flows.{flows_of}
use Rattle.meter_program.specs.ExportTime.{export_time}
use Rattle.meter_program.specs.Summary.{summary}
use Rattle.meter_io.specs.Sides.{Side, HasTaken, HasBegun, HasFailed}
use Rattle.meter_program.specs.Metering.{IsWritten, WroteBoth, WroteSome}

-- an object that is as it was took a beginning of any text
pub none-begun : (object : Side) (text : List ℕ) → object.after ≡ object.before → HasBegun object text
none-begun object text same =
    record {
      count = 0;
      taken = subst (λ after. Appends object.before after (take 0 text)) (sym same)
          (Appends-nil object.before);
    }

-- the layout of some records decodes to them
pub written-of : (size size' time : ℕ) (flows flows' : List FlowRecord) (tally : Tally) (bytes : List ℕ) (messages : ℕ)
    → ((fs : List FlowRecord) (bs : List ℕ) (n t : ℕ) → n ≤ 65535 → IsLayout n t fs bs → flows_of bs ≡ Some fs)
    → size' ≤ 65535 → size ≡ size' → time ≡ export_time tally.clock → flows ≡ flows'
    → IsLayoutOf size time flows bytes messages
    → IsWritten size' flows' tally bytes messages
written-of size size' time flows flows' tally bytes messages law most size_is time_is flows_is written =
    let layout : IsLayoutOf size' (export_time tally.clock) flows' bytes messages =
    subst (λ (n : ℕ). IsLayoutOf n (export_time tally.clock) flows' bytes messages) size_is
    (subst (λ (t : ℕ). IsLayoutOf size t flows' bytes messages) time_is
    (subst (λ (fs : List FlowRecord). IsLayoutOf size time fs bytes messages) flows_is written)) in
    record { layout = layout; decoded = law flows' bytes size' (export_time tally.clock) most layout.layout }

-- What a sink took of the layout of some records before a write failed: a beginning of it.
pub record IsBegun (size : ℕ) (flows : List FlowRecord) (tally : Tally) (object : Side) : Type 0 where
  pub bytes : List ℕ
  pub messages : ℕ
  pub begun : HasBegun object bytes
  pub is_written : IsWritten size flows tally bytes messages

pub begun-of : (size time : ℕ) (flows flows' : List FlowRecord) (tally : Tally) (taken : List ℕ) (object : Side)
    → ((fs : List FlowRecord) (bs : List ℕ) (n t : ℕ) → n ≤ 65535 → IsLayout n t fs bs → flows_of bs ≡ Some fs)
    → size ≤ 65535 → time ≡ export_time tally.clock → flows ≡ flows'
    → BeginsLayout size time flows taken → HasTaken object taken → IsBegun size flows' tally object
begun-of size time flows flows' tally taken object law most time_is flows_is begins took =
    let front : taken ≡ take (length taken) begins.all =
    sym (ap (take (length taken)) begins.begins ∙ take-append_seam taken begins.more) in
    record {
      bytes = begins.all;
      messages = min (1 + length begins.layout.parts) (2 ^ 64 - 1);
      begun = record { count = length taken; taken = subst (HasTaken object) front took };
      is_written = written-of size size time flows flows' tally begins.all _ law most refl time_is flows_is
          (record { layout = begins.layout; count = refl });
    }

pub wrote-both : (size size' : ℕ) (records : List FlowRecord) (tally : Tally) (tail flows messages : ℕ)
    (bytes : List ℕ) (output stderr : Side) → flows ≡ length records → size ≡ size'
    → IsWritten size records tally bytes messages → HasTaken output bytes
    → HasTaken stderr (summary tally flows messages tail)
    → WroteBoth size' records tally tail output stderr
wrote-both size size' records tally tail flows messages bytes output stderr flows_is size_is written taken reported =
    record {
      bytes = bytes;
      messages = messages;
      is_written = subst (λ n. IsWritten n records tally bytes messages) size_is written;
      taken = taken;
      reported = subst (λ n. HasTaken stderr (summary tally n messages tail)) flows_is reported;
    }

-- the write to standard error failed
pub wrote-first : (size size' : ℕ) (records : List FlowRecord) (tally : Tally) (tail flows messages : ℕ)
    (bytes : List ℕ) (output stderr : Side) → flows ≡ length records → size ≡ size'
    → IsWritten size records tally bytes messages → HasTaken output bytes
    → HasBegun stderr (summary tally flows messages tail) → HasFailed stderr
    → WroteSome size' records tally tail output stderr
wrote-first size size' records tally tail flows messages bytes output stderr flows_is size_is written taken reported
    failed =
    record {
      bytes = bytes;
      messages = messages;
      is_written = subst (λ n. IsWritten n records tally bytes messages) size_is written;
      taken = inl taken;
      reported = subst (λ n. HasBegun stderr (summary tally n messages tail)) flows_is reported;
      cause = inr failed;
    }

-- the write of the output failed
pub wrote-some : (size size' : ℕ) (records : List FlowRecord) (tally : Tally) (tail messages : ℕ) (bytes : List ℕ)
    (output stderr : Side) → size ≡ size'
    → IsWritten size records tally bytes messages → HasBegun output bytes
    → HasFailed output → stderr.after ≡ stderr.before
    → WroteSome size' records tally tail output stderr
wrote-some size size' records tally tail messages bytes output stderr size_is written begun failed untold = record {
  bytes = bytes;
  messages = messages;
  is_written = subst (λ n. IsWritten n records tally bytes messages) size_is written;
  taken = inr (begun, failed);
  reported = none-begun stderr (summary tally (length records) messages tail) untold;
  cause = inl failed;
}
