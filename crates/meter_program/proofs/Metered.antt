-- What comes of a capture that was metered through a cache.
use Rattle.std.proofs.Common.{◌≡◌, ◌^◌, ◌*◌, ℕ, List, sum_by, sym, subst, ◌∙◌}
use Rattle.packet_accept.specs.declared.packet.Packet.{Packet}
use Rattle.packet_accept.specs.Packets.{packets_of}
use Rattle.capture_tally.specs.declared.tally.Tally.{Tally}
use Rattle.flow_parts.specs.declared.fragment.Fragment.{Fragment}
use Rattle.flow_parts.specs.declared.timeouts.Timeouts.{Timeouts}
use Rattle.flow_parts.specs.Laws.{CountsAll}
use Rattle.flow_parts.specs.Sharing.{SharesOut}
use Rattle.record_ledger.specs.declared.record.FlowRecord.{FlowRecord}
use Rattle.meter_io.specs.Sides.{Side}
use Rattle.meter_workers.specs.Whole.{IsMeteredWhole}
use Rattle.meter_program.specs.Metering.{AreGathered, IsKept, IsReadAndKept, IsGathered, IsReadAndGathered}

-- the fragments that a cache kept share out the packets of the file, as those that were put in do
pub read-and-kept : (input : Side) (means limits : Timeouts) (taken metered : List Fragment) (tally : Tally) (tail : ℕ)
    → means ≡ limits → IsMeteredWhole input (2 ^ 30) means taken tally tail
    → ((packets : List Packet) → SharesOut means packets taken → SharesOut means packets metered)
    → IsReadAndKept input limits metered tally tail
read-and-kept input means limits taken metered tally tail same whole kept = record {
  bytes = whole.bytes;
  read = whole.read;
  kept = record {
    file = whole.file;
    is_file = whole.is_file;
    known = whole.known;
    undamaged = whole.undamaged;
    shared = subst (λ (t : Timeouts). SharesOut t (packets_of whole.file) metered) same
        (kept (packets_of whole.file) whole.shared);
    tally_is = whole.tallied;
    tail_is = whole.tail_is;
  };
}

-- the fragments have as many packets and octets as the tally
pub counts-are : (limits : Timeouts) (capture : List ℕ) (metered : List Fragment) (tally : Tally) (tail : ℕ) → CountsAll
    → IsKept limits capture metered tally tail
    → (sum_by (λ (f : Fragment). f.packets) metered ≡ tally.accepted)
    × (sum_by (λ (f : Fragment). f.octets) metered ≡ tally.octets)
counts-are limits capture metered tally tail counts kept =
    let all = counts limits (packets_of kept.file) metered kept.shared in
    (all.0 ∙ sym kept.tally_is.accepted, all.1 ∙ sym kept.tally_is.octets)

-- the records that were gathered of them
pub gathered : (idle active : ℕ) (limits : Timeouts) (capture : List ℕ) (metered : List Fragment)
    (records : List FlowRecord) (tally : Tally) (tail : ℕ)
    → limits.idle ≡ 1000 * idle → limits.active ≡ 1000 * active → IsKept limits capture metered tally tail
    → AreGathered limits metered tally.clock records → IsGathered idle active capture metered records tally tail
gathered idle active limits capture metered records tally tail idle_is active_is kept are = record {
  file = kept.file;
  is_file = kept.is_file;
  known = kept.known;
  undamaged = kept.undamaged;
  limits = limits;
  idle = idle_is;
  active = active_is;
  lawful = are.lawful (packets_of kept.file) kept.shared kept.tally_is.clock;
  regroups = are.regroups;
  sessions = are.sessions (packets_of kept.file) kept.shared kept.tally_is.clock;
  tally_is = kept.tally_is;
  tail_is = kept.tail_is;
}

-- and of what was read, where they are the fragments that the cache gave
pub read-and-gathered : (input : Side) (idle active : ℕ) (limits : Timeouts) (metered parts : List Fragment)
    (records : List FlowRecord) (tally tally' : Tally) (tail tail' : ℕ)
    → parts ≡ metered → limits.idle ≡ 1000 * idle → limits.active ≡ 1000 * active
    → IsReadAndKept input limits metered tally tail
    → ((idle' active' : ℕ) (capture : List ℕ) → limits.idle ≡ 1000 * idle' → limits.active ≡ 1000 * active'
    → IsKept limits capture parts tally tail → IsGathered idle' active' capture parts records tally' tail')
    → IsReadAndGathered input idle active metered records tally' tail'
read-and-gathered input idle active limits metered parts records tally tally' tail tail' same idle_is active_is kept
    gathers =
    record {
      bytes = kept.bytes;
      read = kept.read;
      gathered = subst (λ (l : List Fragment). IsGathered idle active kept.bytes l records tally' tail') same
          (gathers idle active kept.bytes idle_is active_is
          (subst (λ (l : List Fragment). IsKept limits kept.bytes l tally tail) (sym same) kept.kept));
    }
