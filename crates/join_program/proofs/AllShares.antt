-- All shares of one join are the whole of it.
use Rattle.std.proofs.Common.{◌≡◌, ◌≢◌, ℕ, suc, ◌*◌, ◌<◌, ◌≤◌, Bool, true, false, cond, not, List, [], ◌∷◌}
use Rattle.std.proofs.Common.{◌==◌, inl, inr, ◌++◌, length, Option, None, filter, refl, sym, ap, ◌∙◌, subst, arith, All}
use Rattle.std.proofs.Common.{IsPermutation, IsSorted}
use Rattle.std.specs.List.{AllZip}
use Rattle.std.specs.Ordering.{is_lt}
use Rattle.std.proofs.lemmas.Bool.{eq-eqb, eqb-true}
use Rattle.std.proofs.lemmas.Bool.Decides.{eqb_tells}
use Rattle.std.proofs.lemmas.List.{map-append, nil_from_length}
use Rattle.std.proofs.lemmas.List.Elements.{All-append, All-nil, All-cons, All-tail, All-weaker, All-contains}
use Rattle.std.proofs.lemmas.List.Elements.{filter-append, filter_passes}
use Rattle.std.proofs.lemmas.List.Sorted.{IsPermutation-sym, IsPermutation-trans, IsPermutation-map}
use Rattle.std.proofs.lemmas.List.Sorted.{IsPermutation-append_right, All-permutation, length_permutation}
use Rattle.flow_key.specs.declared.key.FlowKey.{FlowKey}
use Rattle.packet_accept.specs.declared.packet.Packet.{Packet}
use Rattle.packet_accept.specs.Clock.{IsClock}
use Rattle.flow_parts.specs.declared.fragment.Fragment.{Fragment}
use Rattle.flow_parts.specs.declared.timeouts.Timeouts.{Timeouts}
use Rattle.flow_parts.proofs.Members.{found}
use Rattle.flow_parts.proofs.Shares.{nothing}
use Rattle.record_ledger.specs.declared.record.FlowRecord.{FlowRecord}
use Rattle.record_ledger.specs.Lawful.{parts_of, IsLawful, IsLawfulBy}
use Rattle.record_ledger.specs.Laws.{LawfulTogether, OwnClockIsGiven, LawfulAreSessions}
use Rattle.record_ledger.specs.Order.{written_order}
use Rattle.record_ledger.specs.Regrouping.{IsTogether, Regroups}
use Rattle.record_ledger.proofs.Keyed.{part_of, rises_filter}
use Rattle.record_ledger.proofs.Placed.{sorted_from_rises}
use Rattle.record_ledger.proofs.Reaching.{IsGrouped, grouped_start}
use Rattle.record_ledger.proofs.Rising.{All-front, All-back, rises_from_sorted, written_weak}
use Rattle.join_program.specs.Words.{Asked}
use Rattle.join_program.specs.Joined.{together, falling, EachSharesOut, IsLatest, AreJoined}
use Rattle.join_program.specs.Laws.{of_share, AreSharesFrom, AreShares, SharesAreWhole, SharesAreJoined}
use Rattle.record_ledger.proofs.Filtered.{IsPermutation-filter}
use Rattle.join_program.proofs.Keyed.{flat}
use Rattle.join_program.proofs.Numbered.{number_of, falls, within, dealt, all_dealt}
use Rattle.join_program.proofs.Regrouped.{grouped_onward, grouped_moved, grouped_beside, grouped_of, regroups_of}
use Rattle.join_program.proofs.Shared.{all_shared, all_pass, clock_of}
use Rattle.join_program.proofs.Standing.{StandFor, become, same_timeouts, by_permuted, greatest_is_one}
use Rattle.join_program.proofs.Together.{kept_all}

-- ---- lists

filter_all : {X : Type 0} (p : X → Bool) (xs : List X) → All (λ x. p x ≡ true) xs → filter p xs ≡ xs
filter_all p [] h = refl
filter_all p (x ∷ xs) h = ap (λ b. cond b (x ∷ filter p xs) (filter p xs)) (h 0 x (omega arith))
    ∙ ap (λ l. x ∷ l) (filter_all p xs (All-tail (λ x. p x ≡ true) x xs h))

filter_none : {X : Type 0} (p : X → Bool) (xs : List X) → All (λ x. p x ≡ false) xs → filter p xs ≡ []
filter_none p [] h = refl
filter_none p (x ∷ xs) h = ap (λ b. cond b (x ∷ filter p xs) (filter p xs)) (h 0 x (omega arith))
    ∙ filter_none p xs (All-tail (λ x. p x ≡ false) x xs h)

filter_sorted : (p : FlowRecord → Bool) (records : List FlowRecord) → IsSorted written_order records
    → IsSorted written_order (filter p records)
filter_sorted p records sorted =
    let lt : FlowRecord → FlowRecord → Bool = λ a b. is_lt (written_order a b) in
    let Up : FlowRecord → FlowRecord → Type 0 = λ a b. is_lt (written_order b a) ≡ false in
    sorted_from_rises lt (filter p records)
    (rises_filter p Up Up (λ a b e e' up. up) records (rises_from_sorted lt written_weak records sorted))

not_equal : (n m : ℕ) → n ≢ m → (n == m) ≡ false
not_equal n m other = elim (eqb_tells n m) [ inl same ↦ absurd (other same.1) | inr differ ↦ differ.0 ]

-- ---- the keys of a share's records

-- what holds of the keys of fragments holds of those of the records that regroup them
each_key : (q : FlowKey → Bool) (groups : List (List Fragment)) (records : List FlowRecord)
    → AllZip (λ group (r : FlowRecord). IsTogether group r.part) groups records
    → All (λ (f : Fragment). q f.key ≡ true) (flat groups) → All (λ (r : FlowRecord). q r.part.key ≡ true) records
each_key q [] [] z h = All-nil (λ (r : FlowRecord). q r.part.key ≡ true)
each_key q [] (r ∷ records) z h = absurd z
each_key q (x ∷ groups) [] z h = absurd z
each_key q (x ∷ groups) (r ∷ records) z h =
    let P : Fragment → Type 0 = λ f. q f.key ≡ true in
    let one = found (λ (f : Fragment). f.first ≡ r.part.first) x z.0.first.reached in
    All-cons (λ (s : FlowRecord). q s.part.key ≡ true) r records
    (sym (ap q (All-contains (λ (f : Fragment). f.key ≡ r.part.key) x one.0 z.0.one_key one.1))
    ∙ All-contains P x one.0 (All-front P x (flat groups) h) one.1)
    (each_key q groups records z.1 (All-back P x (flat groups) h))

module _ (asked : Asked) (inputs : List (List FlowRecord)) (count : ℕ) where
  abbrev fragments : List Fragment
  fragments = parts_of (together inputs)

  abbrev part_key : Fragment → FlowKey
  part_key f = f.key

  abbrev packet_key : Packet → FlowKey
  packet_key p = p.key

  abbrev Numbered : ℕ → FlowRecord → Type 0
  Numbered number r = number_of count r.part.key ≡ number

  all_numbered : (number : ℕ) (clock : Option ℕ) (share : List FlowRecord)
      → AreJoined (of_share asked count number) inputs clock share → All (Numbered number) share
  all_numbered number clock share h =
      All-weaker (λ (r : FlowRecord). falls count number r.part.key ≡ true) (Numbered number)
      (λ r e. eqb-true (number_of count r.part.key) number e) share
      (each_key (falls count number) h.regroups.groups share h.regroups.each
      (All-permutation (λ (f : Fragment). falls count number f.key ≡ true)
      (filter (λ (f : Fragment). falls count number f.key) fragments) (flat h.regroups.groups) h.regroups.whole
      (filter_passes (λ (f : Fragment). falls count number f.key) fragments)))

  -- those of later shares have later numbers
  all_from : (shares : List (List FlowRecord)) (number : ℕ) → AreSharesFrom asked inputs count number shares
      → All (λ (r : FlowRecord). number ≤ number_of count r.part.key) (together shares)
  all_from [] number h = All-nil (λ (r : FlowRecord). number ≤ number_of count r.part.key)
  all_from (share ∷ shares) number h =
      All-append (λ (r : FlowRecord). number ≤ number_of count r.part.key) share (together shares)
      (All-weaker (Numbered number) (λ (r : FlowRecord). number ≤ number_of count r.part.key) (λ r e. omega arith) share
      (all_numbered number h.0.0 share h.0.1))
      (All-weaker (λ (r : FlowRecord). suc number ≤ number_of count r.part.key)
      (λ (r : FlowRecord). number ≤ number_of count r.part.key) (λ r low. omega arith) (together shares)
      (all_from shares (suc number) h.1))

  -- ---- the shares stand for the inputs

  grouped_from : (shares : List (List FlowRecord)) (number : ℕ) → AreSharesFrom asked inputs count number shares
      → IsGrouped (flat (dealt part_key count (length shares) number fragments)) (parts_of (together shares))
  grouped_from [] number h = grouped_start []
  grouped_from (share ∷ shares) number h =
      subst (IsGrouped (flat (dealt part_key count (suc (length shares)) number fragments)))
      (sym (map-append part_of share (together shares)))
      (grouped_beside (filter (λ (f : Fragment). falls count number f.key) fragments) (parts_of share)
      (flat (dealt part_key count (length shares) (suc number) fragments)) (parts_of (together shares))
      (grouped_of (filter (λ (f : Fragment). falls count number f.key) fragments) share h.0.1.regroups)
      (grouped_from shares (suc number) h.1))

  module _ (limits : Timeouts) (idle : limits.idle ≡ 1000 * asked.idle) (active : limits.active ≡ 1000 * asked.active)
    where
      lawful_share : (packets : List (List Packet)) → EachSharesOut limits packets inputs → (number : ℕ)
          (clock : Option ℕ) (share : List FlowRecord)
          → (h : AreJoined (of_share asked count number) inputs clock share)
          → IsLawfulBy limits clock (filter (λ (p : Packet). falls count number p.key) (together packets)) share
      lawful_share packets each number clock share h =
          subst (λ l. EachSharesOut l packets inputs
          → IsLawfulBy l clock (filter (λ (p : Packet). falls count number p.key) (together packets)) share)
          (same_timeouts h.limits limits (h.idle ∙ sym idle) (h.active ∙ sym active)) (h.lawful_by packets) each

      shared_from : (packets : List (List Packet)) → EachSharesOut limits packets inputs
          → (shares : List (List FlowRecord)) (number : ℕ) → AreSharesFrom asked inputs count number shares
          → EachSharesOut limits (dealt packet_key count (length shares) number (together packets)) shares
      shared_from packets each [] number h = tt
      shared_from packets each (share ∷ shares) number h = (
        (lawful_share packets each number h.0.0 share h.0.1).shared,
        shared_from packets each shares (suc number) h.1,
      )

      pub shares_stand : (shares : List (List FlowRecord)) → AreSharesFrom asked inputs count 1 shares
          → length shares ≡ count → 0 < count → StandFor limits inputs shares
      shares_stand shares h all some = record {
        grouped = grouped_onward fragments (flat (dealt part_key count (length shares) 1 fragments))
            (parts_of (together shares))
            (grouped_moved fragments (flat (dealt part_key count (length shares) 1 fragments))
            (all_dealt part_key count (length shares) 1 (within count (length shares) all some) fragments))
            (grouped_from shares 1 h);
        shared = λ packets each. (
          dealt packet_key count (length shares) 1 (together packets),
          shared_from packets each shares 1 h,
          IsPermutation-sym (together packets) (flat (dealt packet_key count (length shares) 1 (together packets)))
              (all_dealt packet_key count (length shares) 1 (within count (length shares) all some) (together packets)),
        );
      }

      -- ---- in the written order

      module _ (law : LawfulTogether) (clock : Option ℕ) (same_clock : (other : Option ℕ)
          → IsLatest (together inputs) other → other ≡ clock) (packets : List (List Packet))
          (each : EachSharesOut limits packets inputs) where
        abbrev packets_from : ℕ → ℕ → List Packet
        packets_from more number = flat (dealt packet_key count more number (together packets))

        nothing_lawful : (whole : List FlowRecord) → whole ≡ [] → IsLawfulBy limits clock [] whole
        nothing_lawful whole none = subst (IsLawfulBy limits clock []) (sym none) (record {
          shared = nothing.0 limits;
          ordered = λ k d low high. absurd (omega arith);
          apart = λ key. tt;
          reasons = λ c is key. tt;
        })

        lawful_from : (shares : List (List FlowRecord)) (number : ℕ) → AreSharesFrom asked inputs count number shares
            → (whole : List FlowRecord) → IsPermutation (together shares) whole → IsSorted written_order whole
            → IsLawfulBy limits clock (packets_from (length shares) number) whole
        lawful_from [] number h whole perm sorted =
            nothing_lawful whole (nil_from_length whole (length_permutation [] whole perm))
        lawful_from (share ∷ shares) number h whole perm sorted =
            let others : FlowRecord → Bool = λ r. not (falls count number r.part.key) in
            let rest : List FlowRecord = filter others whole in
            let own = all_numbered number h.0.0 share h.0.1 in
            let later = all_from shares (suc number) h.1 in
            let left : filter others (share ++ together shares) ≡ together shares =
            filter-append others share (together shares)
            ∙ ap (λ l. l ++ filter others (together shares)) (filter_none others share
            (All-weaker (Numbered number) (λ r. others r ≡ false)
            (λ r e. ap not (eq-eqb (number_of count r.part.key) number e)) share own))
            ∙ filter_all others (together shares)
            (All-weaker (λ (r : FlowRecord). suc number ≤ number_of count r.part.key) (λ r. others r ≡ true)
            (λ r low. ap not (not_equal (number_of count r.part.key) number (λ e. omega arith)))
            (together shares) later) in
            let rest_perm : IsPermutation (together shares) rest =
            subst (λ l. IsPermutation l rest) left (IsPermutation-filter others (share ++ together shares)
            whole perm) in
            law limits clock (filter (λ (p : Packet). falls count number p.key) (together packets))
            (packets_from (length shares) (suc number)) share rest whole
            (subst (λ o. IsLawfulBy limits o (filter (λ (p : Packet). falls count number p.key)
            (together packets)) share)
            (same_clock h.0.0 h.0.1.latest) (lawful_share packets each number h.0.0 share h.0.1))
            (lawful_from shares (suc number) h.1 rest rest_perm (filter_sorted others whole sorted))
            (All-weaker (Numbered number) (λ (r : FlowRecord). All (λ (s : FlowRecord). r.part.key ≢ s.part.key) rest)
            (λ r e. All-weaker (λ (s : FlowRecord). suc number ≤ number_of count s.part.key)
            (λ (s : FlowRecord). r.part.key ≢ s.part.key)
            (λ s low same. let e' = ap (number_of count) same in omega arith) rest
            (All-permutation (λ (s : FlowRecord). suc number ≤ number_of count s.part.key) (together shares)
            rest rest_perm
            later)) share own)
            (IsPermutation-trans (share ++ rest) (share ++ together shares) whole
            (IsPermutation-append_right share rest (together shares)
            (IsPermutation-sym (together shares) rest rest_perm)) perm)
            sorted

some_shares : (shares : List (List FlowRecord)) → shares ≢ [] → 0 < length shares
some_shares [] some = absurd (some refl)
some_shares (share ∷ shares) some = omega arith

-- ---- the laws

module _ (law : LawfulTogether) (own : OwnClockIsGiven) (are_sessions : LawfulAreSessions) (asked : Asked)
    (inputs shares : List (List FlowRecord)) (whole : List FlowRecord) (none : asked.share ≡ None)
    (h : AreSharesFrom asked inputs (length shares) 1 shares) (some : 0 < length shares)
    (perm : IsPermutation (together shares) whole) (sorted : IsSorted written_order whole) (limits : Timeouts)
    (idle : limits.idle ≡ 1000 * asked.idle) (active : limits.active ≡ 1000 * asked.active) (clock : Option ℕ)
    (latest : IsLatest (together inputs) clock) where
  stand : StandFor limits inputs shares
  stand = shares_stand asked inputs (length shares) limits idle active shares h refl some

  same_clock : (other : Option ℕ) → IsLatest (together inputs) other → other ≡ clock
  same_clock other is =
      greatest_is_one (λ (r : FlowRecord). r.part.last) (together inputs) other clock is latest

  lawful_for : (packets : List (List Packet)) → EachSharesOut limits packets inputs
      → IsLawfulBy limits clock (together packets) whole
  lawful_for packets each =
      let lists : List (List Packet) =
      dealt (λ (p : Packet). p.key) (length shares) (length shares) 1 (together packets) in
      by_permuted limits clock (flat lists) (together packets) whole
      (IsPermutation-sym (together packets) (flat lists)
      (all_dealt (λ (p : Packet). p.key) (length shares) (length shares) 1
      (within (length shares) (length shares) refl some) (together packets)))
      (lawful_from asked inputs (length shares) limits idle active law clock same_clock packets each shares
      1 h whole perm
      sorted)

  clock_for : (packets : List (List Packet)) → EachSharesOut limits packets inputs → IsClock (together packets) clock
  clock_for packets each =
      clock_of limits (together packets) (together inputs) clock (all_shared limits packets inputs each) latest

  own_lawful : (packets : List (List Packet)) → EachSharesOut limits packets inputs
      → IsLawful limits (together packets) whole
  own_lawful packets each =
      (own limits (together packets) clock whole (clock_for packets each)).0 (lawful_for packets each)

  whole_joined : AreJoined asked inputs clock whole
  whole_joined = record {
    limits = limits;
    idle = idle;
    active = active;
    latest = latest;
    regroups = subst (λ parts. Regroups parts whole) (sym (kept_all asked.share (together inputs) none))
        (regroups_of (parts_of (together inputs)) whole
        (grouped_onward (parts_of (together inputs)) (parts_of (together shares)) (parts_of whole) stand.grouped
        (grouped_moved (parts_of (together shares)) (parts_of whole)
        (IsPermutation-map part_of (together shares) whole perm))));
    clock_is = clock_for;
    lawful_by = λ packets each. subst (λ l. IsLawfulBy limits clock l whole)
        (sym (ap (λ s. falling s (together packets)) none ∙ all_pass (together packets))) (lawful_for packets each);
    lawful = λ _ packets each. own_lawful packets each;
    sessions = λ _ packets each sessions is uncut.
        are_sessions limits (together packets) sessions is uncut whole (own_lawful packets each);
  }

pub shares_whole : LawfulTogether → OwnClockIsGiven → LawfulAreSessions → SharesAreWhole
shares_whole law own are_sessions asked inputs [] whole none h perm sorted = absurd (h.0 refl)
shares_whole law own are_sessions asked inputs (share ∷ shares) whole none h perm sorted =
    let first = h.1.0 in (
      first.0,
      whole_joined law own are_sessions asked inputs (share ∷ shares) whole none h.1 (omega arith) perm sorted
          first.1.limits first.1.idle first.1.active first.0 first.1.latest,
    )

-- all shares stand for the inputs
pub all_stand : (asked : Asked) (inputs : List (List FlowRecord)) (limits : Timeouts)
    → limits.idle ≡ 1000 * asked.idle → limits.active ≡ 1000 * asked.active → (shares : List (List FlowRecord))
    → AreShares asked inputs shares → StandFor limits inputs shares
all_stand asked inputs limits idle active shares h =
    shares_stand asked inputs (length shares) limits idle active shares h.1 refl (some_shares shares h.0)

pub shares_joined : SharesAreJoined
shares_joined asked inputs shares clock records h joined = become asked inputs shares clock records joined
    (all_stand asked inputs joined.limits joined.idle joined.active shares h)
