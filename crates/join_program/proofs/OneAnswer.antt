-- Where nothing cuts the sessions of packets, there is one answer for them.
use Rattle.std.proofs.Common.{◌≡◌, ◌*◌, ℕ, List, Option, None, sym, ap, ◌∙◌, subst, All, IsPermutation}
use Rattle.std.proofs.lemmas.List.Sorted.{IsPermutation-sym}
use Rattle.packet_accept.specs.declared.packet.Packet.{Packet}
use Rattle.packet_accept.specs.Clock.{IsClock}
use Rattle.flow_parts.specs.declared.timeouts.Timeouts.{Timeouts}
use Rattle.record_ledger.specs.declared.record.FlowRecord.{FlowRecord}
use Rattle.record_ledger.specs.Laws.{RecordsAreOne}
use Rattle.record_ledger.specs.Sessions.{IsSessions, IsUncut, AreRecordsOf}
use Rattle.ipfix_writer.specs.Layout.{IsLayout}
use Rattle.ipfix_writer.specs.Laws.{IsOneLayout}
use Rattle.join_program.specs.Words.{Asked}
use Rattle.join_program.specs.Joined.{together, EachSharesOut, AreJoined, export_time}
use Rattle.join_program.specs.Laws.{AnswerIsOne}
use Rattle.join_program.proofs.Standing.{same_timeouts, greatest_is_one, clock_permuted, sessions_permuted}
use Rattle.join_program.proofs.Standing.{records_permuted}

-- what inputs become, by time-outs that are given
module _ (asked : Asked) (inputs : List (List FlowRecord)) (clock : Option ℕ) (records : List FlowRecord)
    (h : AreJoined asked inputs clock records) (limits : Timeouts) (idle : limits.idle ≡ 1000 * asked.idle)
    (active : limits.active ≡ 1000 * asked.active) (packets : List (List Packet))
    (each : EachSharesOut limits packets inputs) where
  same_limits : h.limits ≡ limits
  same_limits = same_timeouts h.limits limits (h.idle ∙ sym idle) (h.active ∙ sym active)

  clock_by : IsClock (together packets) clock
  clock_by = h.clock_is packets (subst (λ l. EachSharesOut l packets inputs) (sym same_limits) each)

  records_by : asked.share ≡ None → (sessions : List (List Packet)) → IsSessions limits.idle (together packets) sessions
      → All (IsUncut limits) sessions → AreRecordsOf limits (together packets) sessions records
  records_by none sessions is uncut =
      subst (λ l. EachSharesOut l packets inputs → IsSessions l.idle (together packets) sessions
      → All (IsUncut l) sessions → AreRecordsOf l (together packets) sessions records) same_limits
      (λ own is' uncut'. h.sessions none packets own sessions is' uncut') each is uncut

pub one_answer : RecordsAreOne → IsOneLayout → AnswerIsOne
one_answer records_one layout_one asked other limits inputs others packets dealt sessions one text idle active none asks
    size each each' perm is uncut a b =
    let idle' : limits.idle ≡ 1000 * other.idle = idle ∙ ap (λ n. 1000 * n) (sym asks.idle) in
    let active' : limits.active ≡ 1000 * other.active = active ∙ ap (λ n. 1000 * n) (sym asks.active) in
    let back : IsPermutation (together dealt) (together packets) =
    IsPermutation-sym (together packets) (together dealt) perm in
    let records : b.records ≡ a.records = records_one limits (together packets) sessions is b.records a.records
    (records_permuted limits (together dealt) (together packets) sessions b.records back
    (records_by other others b.clock b.records b.joined limits idle' active' dealt each' asks.all sessions
    (sessions_permuted limits.idle (together packets) (together dealt) sessions perm is) uncut))
    (records_by asked inputs a.clock a.records a.joined limits idle active packets each none sessions is uncut) in
    let clock : b.clock ≡ a.clock = greatest_is_one (λ (p : Packet). p.time) (together packets) b.clock a.clock
    (clock_permuted (together dealt) (together packets) b.clock back
    (clock_by other others b.clock b.records b.joined limits idle' active' dealt each'))
    (clock_by asked inputs a.clock a.records a.joined limits idle active packets each) in
    let laid : IsLayout asked.size (export_time a.clock) a.records text =
    subst (λ n. IsLayout n (export_time a.clock) a.records text) size
    (subst (λ c. IsLayout other.size (export_time c) a.records text) clock
    (subst (λ rs. IsLayout other.size (export_time b.clock) rs text) records b.layout)) in
    layout_one asked.size (export_time a.clock) a.records one text a.layout laid
