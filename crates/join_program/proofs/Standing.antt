-- Streams that stand for inputs: what they become, the inputs become.
use Rattle.std.proofs.Common.{◌≡◌, ℕ, ◌≤◌, List, [], ◌∷◌, ◌++◌, length, Option, Some, None, map, refl}
use Rattle.std.proofs.Common.{sym, ap, ◌∙◌, subst, arith, inl, inr, Any, IsPermutation}
use mathlib.Core.HLevel.{is_prop→PathP}
use Rattle.std.proofs.Props.{props}
use Rattle.std.specs.List.{AllZip}
use Rattle.std.specs.Option.{MatchOption}
use Rattle.std.proofs.lemmas.List.{nil_from_length, map-append}
use Rattle.std.proofs.lemmas.List.Concat.{flat_map-append}
use Rattle.std.proofs.lemmas.List.Elements.{All-weaker, All-contains}
use Rattle.std.proofs.lemmas.List.Sorted.{IsPermutation-refl, IsPermutation-sym, IsPermutation-trans}
use Rattle.std.proofs.lemmas.List.Sorted.{length_permutation}
use Rattle.std.proofs.lemmas.List.Sorted.{IsPermutation-append_left}
use Rattle.packet_accept.specs.declared.packet.Packet.{Packet}
use Rattle.packet_accept.specs.Clock.{IsClock}
use Rattle.packet_accept.specs.Extremes.{IsGreatest}
use Rattle.flow_parts.specs.declared.fragment.Fragment.{Fragment}
use Rattle.flow_parts.specs.declared.timeouts.Timeouts.{Timeouts}
use Rattle.flow_parts.specs.Sharing.{SharesOut}
use Rattle.flow_parts.proofs.Members.{Any-append_cases, Any-append_left, Any-append_right, Any-one, one-Any, Any-weaker}
use Rattle.flow_parts.proofs.Members.{IsGreatest-permutation, found}
use Rattle.flow_parts.proofs.Permuted.{AllZip-append}
use Rattle.flow_parts.proofs.Shares.{permuted}
use Rattle.record_ledger.specs.declared.record.FlowRecord.{FlowRecord}
use Rattle.record_ledger.specs.Lawful.{parts_of, IsLawful, IsLawfulBy}
use Rattle.record_ledger.specs.Regrouping.{IsTogether}
use Rattle.record_ledger.specs.Sessions.{IsSessions, AreRecordsOf}
use Rattle.record_ledger.proofs.Keyed.{part_of, All-of_map, All-unmap}
use Rattle.record_ledger.proofs.Reaching.{IsGrouped, grouped_start}
use Rattle.join_program.specs.Words.{Asked}
use Rattle.join_program.specs.Joined.{together, kept, falling, falls_to, EachSharesOut, IsLatest, AreJoined}
use Rattle.record_ledger.proofs.Filtered.{IsPermutation-filter}
use Rattle.join_program.proofs.Keyed.{flat}
use Rattle.join_program.proofs.Regrouped.{all_in, any_in, parted, grouped_onward, grouped_beside, grouped_kept}
use Rattle.join_program.proofs.Regrouped.{grouped_of, regroups_of}
use Rattle.join_program.proofs.Shared.{all_shared, clock_of}

-- time-outs are known by their numbers
pub same_timeouts : (one other : Timeouts) → one.idle ≡ other.idle → one.active ≡ other.active → one ≡ other
same_timeouts one other e e' = λ i. record {
  idle = e i;
  active = e' i;
  idle_bounds = is_prop→PathP (λ j. (1000 ≤ e j) × (e j ≤ 86400000)) (λ j. hlevel props) one.idle_bounds
      other.idle_bounds i;
  active_bounds = is_prop→PathP (λ j. (1000 ≤ e' j) × (e' j ≤ 86400000)) (λ j. hlevel props) one.active_bounds
      other.active_bounds i;
}

-- ---- the latest time

last_of : Fragment → ℕ
last_of f = f.last

Any-unmap : (P : Fragment → Type 0) (records : List FlowRecord) → Any P (map part_of records)
    → Any (λ (r : FlowRecord). P r.part) records
Any-unmap P [] a = absurd (let below = a.2 in omega arith)
Any-unmap P (r ∷ records) a = elim (Any-append_cases P (r.part ∷ []) (map part_of records) a) [
  | inl here ↦ Any-append_left (λ (s : FlowRecord). P s.part) (r ∷ []) records
      (Any-one (λ (s : FlowRecord). P s.part) r (one-Any P r.part here))
  | inr there ↦ Any-append_right (λ (s : FlowRecord). P s.part) (r ∷ []) records (Any-unmap P records there)
]

Any-map : (P : Fragment → Type 0) (records : List FlowRecord) → Any (λ (r : FlowRecord). P r.part) records
    → Any P (map part_of records)
Any-map P [] a = absurd (let below = a.2 in omega arith)
Any-map P (r ∷ records) a = elim (Any-append_cases (λ (s : FlowRecord). P s.part) (r ∷ []) records a) [
  | inl here ↦ Any-append_left P (r.part ∷ []) (map part_of records)
      (Any-one P r.part (one-Any (λ (s : FlowRecord). P s.part) r here))
  | inr there ↦ Any-append_right P (r.part ∷ []) (map part_of records) (Any-map P records there)
]

none_grouped : (flows streams : List FlowRecord) → streams ≡ [] → IsGrouped (map part_of flows) (map part_of streams)
    → flows ≡ []
none_grouped flows streams none h = by_groups h.groups h.whole
    (subst (λ l. AllZip IsTogether h.groups (map part_of l)) none h.each)
  where
    no_parts : (records : List FlowRecord) → length (map part_of records) ≡ 0 → records ≡ []
    no_parts [] e = refl
    no_parts (r ∷ records) e = absurd (omega (arith, e))

    by_groups : (groups : List (List Fragment)) → IsPermutation (map part_of flows) (flat groups)
        → AllZip IsTogether groups [] → flows ≡ []
    by_groups [] s z = no_parts flows (sym (length_permutation (map part_of flows) [] s))
    by_groups (x ∷ groups) s z = absurd z

-- the latest time of records is that of those which they regroup
pub latest_grouped : (flows streams : List FlowRecord) (clock : Option ℕ)
    → IsGrouped (map part_of flows) (map part_of streams) → IsLatest streams clock → IsLatest flows clock
latest_grouped flows streams None h none = none_grouped flows streams none h
latest_grouped flows streams (Some c) h latest =
    let Late : Fragment → Type 0 = λ f. f.last ≤ c in
    let At : Fragment → Type 0 = λ f. f.last ≡ c in
    let all : IsGreatest (λ (f : Fragment). f.last) (flat h.groups) c = record {
      bound = all_in Late (λ x y t late. All-weaker (λ (f : Fragment). f.last ≤ y.last) Late (λ f low. omega arith) x
          t.last.bound) h.groups (map part_of streams) h.each (All-of_map part_of Late streams latest.bound);
      reached = any_in At (λ x y t at. Any-weaker (λ (f : Fragment). f.last ≡ y.last) At (λ f e. e ∙ at) x
          t.last.reached) h.groups (map part_of streams) h.each (Any-map At streams latest.reached);
    } in
    let own = IsGreatest-permutation (λ (f : Fragment). f.last) (flat h.groups) (map part_of flows) c
    (IsPermutation-sym (map part_of flows) (flat h.groups) h.whole) all in
    record {
      bound = All-unmap part_of Late flows own.bound;
      reached = Any-unmap At flows own.reached;
    }

-- a list has one latest time
pub greatest_is_one : {X : Type 0} (f : X → ℕ) (xs : List X) (one other : Option ℕ)
    → MatchOption one (xs ≡ []) (IsGreatest f xs) → MatchOption other (xs ≡ []) (IsGreatest f xs) → one ≡ other
greatest_is_one f xs None None h k = refl
greatest_is_one f xs None (Some c) h k = absurd (let v = found (λ x. f x ≡ c) xs k.reached in let below = v.1.1 in
    let none = ap length h in omega arith)
greatest_is_one f xs (Some b) None h k = absurd (let v = found (λ x. f x ≡ b) xs h.reached in let below = v.1.1 in
    let none = ap length k in omega arith)
greatest_is_one f xs (Some b) (Some c) h k =
    let v = found (λ x. f x ≡ b) xs h.reached in
    let w = found (λ x. f x ≡ c) xs k.reached in
    let low = All-contains (λ x. f x ≤ c) xs v.0 k.bound v.1 in
    let high = All-contains (λ x. f x ≤ b) xs w.0 h.bound w.1 in
    let at = v.2 in
    let at' = w.2 in
    let same : b ≡ c = omega arith in
    ap Some same

-- ---- the same packets in another order

pub clock_permuted : (packets others : List Packet) (clock : Option ℕ) → IsPermutation packets others
    → IsClock packets clock → IsClock others clock
clock_permuted packets others None s none = nil_from_length others
    (length_permutation packets others s ∙ ap length none)
clock_permuted packets others (Some c) s greatest =
    IsGreatest-permutation (λ (p : Packet). p.time) packets others c s greatest

pub by_permuted : (limits : Timeouts) (clock : Option ℕ) (packets others : List Packet) (records : List FlowRecord)
    → IsPermutation packets others → IsLawfulBy limits clock packets records → IsLawfulBy limits clock others records
by_permuted limits clock packets others records s lawful = record {
  shared = permuted limits packets others (parts_of records) (parts_of records) s
      (IsPermutation-refl (parts_of records)) lawful.shared;
  ordered = lawful.ordered;
  apart = lawful.apart;
  reasons = lawful.reasons;
}

lawful_permuted : (limits : Timeouts) (packets others : List Packet) (records : List FlowRecord)
    → IsPermutation packets others → IsLawful limits packets records → IsLawful limits others records
lawful_permuted limits packets others records s lawful = record {
  shared = permuted limits packets others (parts_of records) (parts_of records) s
      (IsPermutation-refl (parts_of records)) lawful.shared;
  ordered = lawful.ordered;
  apart = lawful.apart;
  reasons = λ c is. lawful.reasons c
      (clock_permuted others packets (Some c) (IsPermutation-sym packets others s) is);
}

pub sessions_permuted : (idle : ℕ) (packets others : List Packet) (sessions : List (List Packet))
    → IsPermutation packets others → IsSessions idle packets sessions → IsSessions idle others sessions
sessions_permuted idle packets others sessions s h = record {
  whole = IsPermutation-trans others packets (flat sessions) (IsPermutation-sym packets others s) h.whole;
  some = h.some;
  one_key = h.one_key;
  linked = h.linked;
  apart = h.apart;
}

pub records_permuted : (limits : Timeouts) (packets others : List Packet) (sessions : List (List Packet))
    (records : List FlowRecord) → IsPermutation packets others → AreRecordsOf limits packets sessions records
    → AreRecordsOf limits others sessions records
records_permuted limits packets others sessions records s h = record {
  each = h.each;
  all = h.all;
  ordered = h.ordered;
  reasons = λ c is. h.reasons c (clock_permuted others packets (Some c) (IsPermutation-sym packets others s) is);
}

-- ---- streams that stand for inputs

-- The streams' fragments regroup the inputs', and whatever packets the inputs share out, each its own, the streams
-- share out, each its own.
pub record StandFor (limits : Timeouts) (inputs streams : List (List FlowRecord)) : Type 0 where
  pub grouped : IsGrouped (parts_of (together inputs)) (parts_of (together streams))
  pub shared : (packets : List (List Packet)) → EachSharesOut limits packets inputs
      → (others : List (List Packet)) × EachSharesOut limits others streams
      × IsPermutation (together others) (together packets)

parts_append : (inputs rest : List (List FlowRecord))
    → parts_of (together (inputs ++ rest)) ≡ parts_of (together inputs) ++ parts_of (together rest)
parts_append inputs rest = ap parts_of (flat_map-append (λ (flows : List FlowRecord). flows) inputs rest)
    ∙ map-append part_of (together inputs) (together rest)

packets_append : (packets more : List (List Packet)) → together (packets ++ more) ≡ together packets ++ together more
packets_append packets more = flat_map-append (λ (own : List Packet). own) packets more

-- with others beside them they stand for the inputs and the others
pub stand_beside : (limits : Timeouts) (inputs streams rest : List (List FlowRecord)) → StandFor limits inputs streams
    → StandFor limits (inputs ++ rest) (streams ++ rest)
stand_beside limits inputs streams rest stand = record {
  grouped = subst (λ parts. IsGrouped parts (parts_of (together (streams ++ rest)))) (sym (parts_append inputs rest))
      (subst (IsGrouped (parts_of (together inputs) ++ parts_of (together rest))) (sym (parts_append streams rest))
      (grouped_beside (parts_of (together inputs)) (parts_of (together streams)) (parts_of (together rest))
      (parts_of (together rest)) stand.grouped (grouped_start (parts_of (together rest)))));
  shared = λ packets shares.
      let R : List Packet → List FlowRecord → Type 0 = λ own flows. SharesOut limits own (parts_of flows) in
      let two = parted R packets inputs rest shares in
      let k = stand.shared two.front two.before in (
        k.0 ++ two.back,
        AllZip-append R k.0 streams two.back rest k.1 two.behind,
        subst (λ l. IsPermutation l (together packets)) (sym (packets_append k.0 two.back))
            (subst (IsPermutation (together k.0 ++ together two.back))
            (sym (ap together two.whole ∙ packets_append two.front two.back))
            (IsPermutation-append_left (together two.back) (together k.0) (together two.front) k.2)),
      );
}

pub become : (asked : Asked) (inputs streams : List (List FlowRecord)) (clock : Option ℕ) (records : List FlowRecord)
    (h : AreJoined asked streams clock records) → StandFor h.limits inputs streams
    → AreJoined asked inputs clock records
become asked inputs streams clock records h stand =
    let latest : IsLatest (together inputs) clock =
    latest_grouped (together inputs) (together streams) clock stand.grouped h.latest in
    record {
      limits = h.limits;
      idle = h.idle;
      active = h.active;
      latest = latest;
      regroups = regroups_of (kept asked.share (together inputs)) records
          (grouped_onward (kept asked.share (together inputs)) (kept asked.share (together streams)) (parts_of records)
          (grouped_kept (falls_to asked.share) (parts_of (together inputs)) (parts_of (together streams)) stand.grouped)
          (grouped_of (kept asked.share (together streams)) records h.regroups));
      clock_is = λ packets shares.
          clock_of h.limits (together packets) (together inputs) clock
          (all_shared h.limits packets inputs shares) latest;
      lawful_by = λ packets shares.
          let k = stand.shared packets shares in
          by_permuted h.limits clock (falling asked.share (together k.0)) (falling asked.share (together packets))
          records (IsPermutation-filter (λ (p : Packet). falls_to asked.share p.key) (together k.0)
          (together packets) k.2)
          (h.lawful_by k.0 k.1);
      lawful = λ none packets shares.
          let k = stand.shared packets shares in
          lawful_permuted h.limits (together k.0) (together packets) records k.2 (h.lawful none k.0 k.1);
      sessions = λ none packets shares sessions are uncut.
          let k = stand.shared packets shares in
          records_permuted h.limits (together k.0) (together packets) sessions records k.2
          (h.sessions none k.0 k.1 sessions
          (sessions_permuted h.limits.idle (together packets) (together k.0) sessions
          (IsPermutation-sym (together k.0) (together packets) k.2) are) uncut);
    }
