-- What is gathered of the records of several inputs is joined.
use Rattle.std.proofs.Common.{◌≡◌, ℕ, ◌*◌, List, Option, None, sym, ap, ◌∙◌, subst, All}
use Rattle.std.specs.Option.{unwrap_or}
use Rattle.packet_accept.specs.declared.packet.Packet.{Packet}
use Rattle.packet_accept.specs.Clock.{IsClock}
use Rattle.flow_parts.specs.declared.fragment.Fragment.{Fragment}
use Rattle.flow_parts.specs.declared.timeouts.Timeouts.{Timeouts}
use Rattle.flow_parts.specs.Sharing.{SharesOut}
use Rattle.record_ledger.specs.declared.record.FlowRecord.{FlowRecord}
use Rattle.record_ledger.specs.Gathered.{IsGathered}
use Rattle.record_ledger.specs.Laws.{GatheredByKeys}
use Rattle.record_ledger.specs.Lawful.{parts_of, IsLawful, IsLawfulBy}
use Rattle.record_ledger.specs.Regrouping.{Regroups}
use Rattle.record_ledger.specs.Sessions.{IsSessions, IsUncut, AreRecordsOf}
use Rattle.join_program.specs.Words.{Asked, OneOf}
use Rattle.join_program.specs.Joined.{together, kept, falling, falls_to, EachSharesOut, IsLatest, AreJoined}
use Rattle.join_program.specs.Joined.{AreGathered}
use Rattle.join_program.proofs.Shared.{all_shared, some_shared, all_pass, clock_of}

-- without shares all fragments are kept
pub kept_all : (share : Option OneOf) (flows : List FlowRecord) → share ≡ None → kept share flows ≡ parts_of flows
kept_all share flows none = ap (λ s. kept s flows) none ∙ all_pass (parts_of flows)

module _ (asked : Asked) (inputs : List (List FlowRecord)) (clock : Option ℕ) (limits : Timeouts)
    (parts : List Fragment) (records : List FlowRecord) (idle : limits.idle ≡ 1000 * asked.idle)
    (active : limits.active ≡ 1000 * asked.active) (are : parts ≡ kept asked.share (together inputs))
    (latest : IsLatest (together inputs) clock) (regroups : Regroups parts records)
    (by : (packets : List Packet) → SharesOut limits packets parts → IsLawfulBy limits clock packets records)
    (own : (packets : List Packet) → SharesOut limits packets parts → IsClock packets clock
    → IsLawful limits packets records)
    (sessions : (packets : List Packet) → SharesOut limits packets parts → IsClock packets clock
    → (sessions : List (List Packet)) → IsSessions limits.idle packets sessions → All (IsUncut limits) sessions
    → AreRecordsOf limits packets sessions records) where
  is_clock : (packets : List (List Packet)) → EachSharesOut limits packets inputs → IsClock (together packets) clock
  is_clock packets shares =
      clock_of limits (together packets) (together inputs) clock (all_shared limits packets inputs shares) latest

  whole : asked.share ≡ None → (packets : List (List Packet)) → EachSharesOut limits packets inputs
      → SharesOut limits (together packets) parts
  whole none packets shares =
      subst (SharesOut limits (together packets)) (sym (are ∙ kept_all asked.share (together inputs) none))
      (all_shared limits packets inputs shares)

  pub joined : AreJoined asked inputs clock records
  joined = record {
    limits = limits;
    idle = idle;
    active = active;
    latest = latest;
    regroups = subst (λ fs. Regroups fs records) are regroups;
    clock_is = is_clock;
    lawful_by = λ packets shares. by (falling asked.share (together packets))
        (subst (SharesOut limits (falling asked.share (together packets))) (sym are)
        (some_shared (falls_to asked.share) limits (together packets) (parts_of (together inputs))
        (all_shared limits packets inputs shares)));
    lawful = λ none packets shares. own (together packets) (whole none packets shares) (is_clock packets shares);
    sessions = λ none packets shares. sessions (together packets) (whole none packets shares) (is_clock packets shares);
  }

-- and it is gathered exactly
pub exact : (asked : Asked) (inputs : List (List FlowRecord)) (clock : Option ℕ) (limits : Timeouts)
    (parts : List Fragment) (records : List FlowRecord) → GatheredByKeys
    → limits.idle ≡ 1000 * asked.idle → limits.active ≡ 1000 * asked.active
    → parts ≡ kept asked.share (together inputs) → IsLatest (together inputs) clock
    → IsGathered limits (unwrap_or clock 0) parts records → AreGathered asked inputs clock records
exact asked inputs clock limits parts records by_keys idle active are latest gathered =
    let kept_ones : IsGathered limits (unwrap_or clock 0) (kept asked.share (together inputs)) records =
    subst (λ fs. IsGathered limits (unwrap_or clock 0) fs records) are gathered in
    record {
      limits = limits;
      idle = idle;
      active = active;
      latest = latest;
      gathered = kept_ones;
      of_whole = λ whole is. (by_keys limits (unwrap_or clock 0) (falls_to asked.share) (parts_of (together inputs))
          whole records is).0 kept_ones;
    }
