-- What is written and reported of a capture whose sessions nothing cuts is one text.
use Rattle.std.proofs.Common.{◌≡◌, ◌≤◌, ◌<◌, ◌+◌, ◌-◌, ◌*◌, ◌^◌, ℕ, List, [], ◌∷◌, ◌++◌, length, min, Option, Some}
use Rattle.std.proofs.Common.{None, refl}
use Rattle.std.proofs.Common.{sym, ap, subst, ◌∙◌, arith, All, Any, slice_index}
use Rattle.std.specs.Prelude.{codes}
use mathlib.Core.HLevel.{is_prop→PathP}
use Rattle.std.proofs.Props.{props}
use Rattle.pcap_reader.specs.File.{CaptureFile}
use Rattle.pcap_reader.specs.Records.{tail_of}
use Rattle.packet_accept.specs.declared.packet.Packet.{Packet}
use Rattle.packet_accept.specs.Packets.{answers_of, packets_of}
use Rattle.packet_accept.specs.Clock.{IsClock}
use Rattle.packet_accept.specs.Extremes.{IsGreatest}
use Rattle.capture_tally.specs.declared.tally.Tally.{Tally}
use Rattle.capture_tally.specs.Tallies.{ignored_counts, octets_of}
use Rattle.flow_parts.specs.declared.fragment.Fragment.{Fragment}
use Rattle.flow_parts.specs.declared.timeouts.Timeouts.{Timeouts}
use Rattle.record_ledger.specs.declared.record.FlowRecord.{FlowRecord}
use Rattle.record_ledger.specs.Laws.{RecordsAreOne, HaveSessions}
use Rattle.record_ledger.specs.Sessions.{IsSessions, IsUncut, AreRecordsOf}
use Rattle.flow_key.specs.Laws.{AnswersOnce}
use Rattle.ipfix_writer.specs.Layout.{encode_flow, IsLayoutOf}
use Rattle.ipfix_writer.specs.Encoding.{template_message}
use Rattle.ipfix_writer.proofs.OneLayout.{parts-same, stream-same}
use Rattle.capture_maker.specs.Made.{capture_of}
use Rattle.meter_program.specs.ExportTime.{export_time}
use Rattle.meter_program.specs.Outcome.{IsMetered, IsTested}
use Rattle.meter_program.specs.Summary.{count_line, ignored_lines, summary}
use Rattle.trial_runs.proofs.Uncut.{some-same, nothing-cuts}

-- the time-outs of two runs with the same settings
limits-same : (a b : Timeouts) → a.idle ≡ b.idle → a.active ≡ b.active → a ≡ b
limits-same a b d c = λ i. record {
  idle = d i;
  active = c i;
  idle_bounds = is_prop→PathP (λ j. (1000 ≤ d j) × (d j ≤ 86400000)) (λ j. hlevel props) a.idle_bounds b.idle_bounds i;
  active_bounds = is_prop→PathP (λ j. (1000 ≤ c j) × (c j ≤ 86400000)) (λ j. hlevel props)
      a.active_bounds b.active_bounds i;
}

-- the summary is written by the numbers of the tally
summary-same : (a b : Tally) (flows messages tail flows' messages' tail' : ℕ) → a.captured ≡ b.captured
    → a.accepted ≡ b.accepted → a.ignored ≡ b.ignored → a.octets ≡ b.octets → flows ≡ flows' → messages ≡ messages'
    → tail ≡ tail' → summary a flows messages tail ≡ summary b flows' messages' tail'
unfolding summary
summary-same a b flows messages tail flows' messages' tail' c p g o f m t = λ i.
    count_line (codes "captured") (c i) ++ count_line (codes "accepted") (p i)
    ++ ignored_lines (g i) ++ count_line (codes "octets") (o i)
    ++ count_line (codes "flows") (f i) ++ count_line (codes "messages") (m i) ++ count_line (codes "tail") (t i)

-- a number that one of the packets has is at most one that none is above
under : (packets : List Packet) (n m : ℕ) → Any (λ (p : Packet). p.time ≡ n) packets
    → All (λ (p : Packet). p.time ≤ m) packets → n ≤ m
under packets n m any all =
    let bound = all any.0 any.1 any.2 in
    let same = ap (λ (p : Packet). p.time) any.3 in
    omega (arith, bound, same, any.4)

-- a list has one greatest number
greatest-once : (packets : List Packet) (n m : ℕ) → IsGreatest (λ (p : Packet). p.time) packets n
    → IsGreatest (λ (p : Packet). p.time) packets m → n ≡ m
greatest-once packets n m a b =
    let below = under packets n m a.reached b.bound in
    let above = under packets m n b.reached a.bound in
    omega (arith, below, above)

no-greatest : (m : ℕ) → IsGreatest (λ (p : Packet). p.time) [] m → ⊥
no-greatest m g = omega (arith, g.reached.2)

clock-once : (packets : List Packet) (one other : Option ℕ) → IsClock packets one → IsClock packets other → one ≡ other
clock-once packets None None a b = refl
clock-once packets None (Some m) a b =
    absurd (no-greatest m (subst (λ (ps : List Packet). IsGreatest (λ (p : Packet). p.time) ps m) a b))
clock-once packets (Some n) None a b =
    absurd (no-greatest n (subst (λ (ps : List Packet). IsGreatest (λ (p : Packet). p.time) ps n) b a))
clock-once packets (Some n) (Some m) a b = ap Some (greatest-once packets n m a b)

module _ (records_one : RecordsAreOne) (idle active size : ℕ) (capture written reported written' reported' : List ℕ)
    (metered others : List Fragment) (one : IsMetered idle active size metered capture written reported)
    (other : IsMetered idle active size others capture written' reported') where
  same-file : one.file ≡ other.file
  same-file = some-same one.file other.file (sym one.is_file ∙ other.is_file)

  same-limits : one.limits ≡ other.limits
  same-limits = limits-same one.limits other.limits (one.idle ∙ sym other.idle) (one.active ∙ sym other.active)

  same-clock : one.tally.clock ≡ other.tally.clock
  same-clock =
      clock-once (packets_of one.file) one.tally.clock other.tally.clock one.tally_is.clock
      (subst (λ (f : CaptureFile). IsClock (packets_of f) other.tally.clock) (sym same-file) other.tally_is.clock)

  same-records : (sessions : List (List Packet)) → IsSessions one.limits.idle (packets_of one.file) sessions
      → All (IsUncut one.limits) sessions → one.records ≡ other.records
  same-records sessions cut uncut =
      let theirs : AreRecordsOf other.limits (packets_of other.file) sessions other.records =
      other.sessions sessions
      (subst (λ (f : CaptureFile). IsSessions other.limits.idle (packets_of f) sessions) same-file
      (subst (λ (t : Timeouts). IsSessions t.idle (packets_of one.file) sessions) same-limits cut))
      (subst (λ (t : Timeouts). All (IsUncut t) sessions) same-limits uncut) in
      records_one one.limits (packets_of one.file) sessions cut one.records other.records
      (one.sessions sessions cut uncut)
      (subst (λ (t : Timeouts). AreRecordsOf t (packets_of one.file) sessions other.records) (sym same-limits)
      (subst (λ (f : CaptureFile). AreRecordsOf other.limits (packets_of f) sessions other.records) (sym same-file)
      theirs))

  pub metered-one : (sessions : List (List Packet)) → IsSessions one.limits.idle (packets_of one.file) sessions
      → All (IsUncut one.limits) sessions → (written ≡ written') × (reported ≡ reported')
  metered-one sessions cut uncut =
      let records : one.records ≡ other.records = same-records sessions cut uncut in
      let layout : IsLayoutOf size (export_time one.tally.clock) one.records written' other.messages =
      subst (λ (c : Option ℕ). IsLayoutOf size (export_time c) one.records written' other.messages) (sym same-clock)
      (subst (λ (L : List FlowRecord). IsLayoutOf size (export_time other.tally.clock) L written' other.messages)
      (sym records) other.layout) in
      let time = export_time one.tally.clock in
      let a = one.layout.layout in
      let b = layout.layout in
      let parts = parts-same encode_flow size a.parts b.parts a.filled b.filled (a.whole ∙ sym b.whole) in
      let messages : one.messages ≡ other.messages =
      one.layout.count ∙ ap (λ ps. min (1 + length ps) (2 ^ 64 - 1)) parts ∙ sym layout.count in
      let counts : (n : ℕ) → length (answers_of one.file) ≡ length (answers_of other.file) =
      λ n. ap (λ (f : CaptureFile). length (answers_of f)) same-file in (
        stream-same encode_flow size time (template_message time) one.records written written' a b,
        one.summary_is
            ∙ summary-same one.tally other.tally (length one.records) one.messages (tail_of one.file)
            (length other.records) other.messages (tail_of other.file)
            (one.tally_is.captured ∙ counts 0 ∙ sym other.tally_is.captured)
            (one.tally_is.accepted ∙ ap (λ (f : CaptureFile). length (packets_of f)) same-file
            ∙ sym other.tally_is.accepted)
            (one.tally_is.ignored ∙ ap (λ (f : CaptureFile). ignored_counts (answers_of f)) same-file
            ∙ sym other.tally_is.ignored)
            (one.tally_is.octets ∙ ap (λ (f : CaptureFile). octets_of (packets_of f)) same-file
            ∙ sym other.tally_is.octets)
            (ap length records) messages (ap tail_of same-file)
            ∙ sym other.summary_is,
      )

-- so is that of a made capture
pub tests-write-one : AnswersOnce → RecordsAreOne → HaveSessions → (seed packets keys : ℕ)
    (metered others : List Fragment) (written reported written' reported' : List ℕ) → packets ≤ 1000000
    → (one : IsTested seed packets keys metered written reported)
    → (other : IsTested seed packets keys others written' reported')
    → (one.stream ≡ other.stream) × (written ≡ written')
tests-write-one once records_one have seed packets keys metered others written reported written' reported'
    few one other =
    let known = one.is_metered in
    let sessions = have known.limits.idle (packets_of known.file) in
    let uncut = nothing-cuts once seed packets keys known.file known.limits (sessions.0) few known.is_file
    (omega (arith, known.active)) (sessions.1) in
    metered-one records_one 300 1800 1400 (capture_of seed packets keys) one.stream written other.stream written'
    metered others one.is_metered other.is_metered (sessions.0) (sessions.1) uncut
