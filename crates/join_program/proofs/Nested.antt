-- Joins of joins, in whatever order and grouping.
use Rattle.std.proofs.Common.{ℕ, ◌*◌, List, [], ◌∷◌, ◌++◌, Option, sym, ap, ◌∙◌, subst}
use Rattle.std.proofs.Common.{IsPermutation}
use Rattle.std.proofs.lemmas.List.{append-nil}
use Rattle.std.proofs.lemmas.List.Sorted.{IsPermutation-refl, IsPermutation-sym, IsPermutation-map}
use Rattle.packet_accept.proofs.Permuted.{flat_map-permutation}
use Rattle.packet_accept.specs.declared.packet.Packet.{Packet}
use Rattle.flow_parts.specs.declared.timeouts.Timeouts.{Timeouts}
use Rattle.flow_parts.specs.Sharing.{SharesOut}
use Rattle.flow_parts.proofs.Permuted.{AllZip-permutation}
use Rattle.record_ledger.specs.declared.record.FlowRecord.{FlowRecord}
use Rattle.record_ledger.specs.Lawful.{parts_of}
use Rattle.record_ledger.proofs.Keyed.{part_of}
use Rattle.record_ledger.proofs.Reaching.{IsGrouped}
use Rattle.join_program.specs.Words.{Asked}
use Rattle.join_program.specs.Joined.{together, kept, AreJoined}
use Rattle.join_program.specs.Laws.{AsksForAll, OrderIsFree, JoinsAreJoined, AnyAreJoined, AnyAreAnswered}
use Rattle.join_program.specs.Laws.ComeOf.{moved, joined, parted, onward}
use Rattle.join_program.proofs.AllShares.{all_stand}
use Rattle.join_program.proofs.Regrouped.{grouped_moved, grouped_of}
use Rattle.join_program.proofs.Standing.{StandFor, stand_beside, become, same_timeouts}
use Rattle.join_program.proofs.Together.{kept_all}

-- inputs in another order stand for them
pub order_stands : (limits : Timeouts) (inputs others : List (List FlowRecord)) → IsPermutation inputs others
    → StandFor limits inputs others
order_stands limits inputs others s = record {
  grouped = grouped_moved (parts_of (together inputs)) (parts_of (together others))
      (IsPermutation-map part_of (together inputs) (together others)
      (flat_map-permutation (λ (flows : List FlowRecord). flows) inputs others s));
  shared = λ packets shares.
      let z = AllZip-permutation (λ (own : List Packet) (flows : List FlowRecord). SharesOut limits own
      (parts_of flows))
      packets inputs others shares s in (
        z.0,
        z.2,
        IsPermutation-sym (together packets) (together z.0)
            (flat_map-permutation (λ (own : List Packet). own) packets z.0 z.1),
      );
}

pub order_is_free : OrderIsFree
order_is_free asked inputs others clock records s h = become asked others inputs clock records h
    (order_stands h.limits others inputs (IsPermutation-sym inputs others s))

-- what inputs become stands for them
module _ (asked other : Asked) (first rest : List (List FlowRecord)) (now : Option ℕ) (stream : List FlowRecord)
    (asks : AsksForAll asked other) (h : AreJoined other first now stream) where
  stream_stands : StandFor h.limits first (stream ∷ [])
  stream_stands = record {
    grouped = subst (λ flows. IsGrouped (parts_of (together first)) (parts_of flows)) (sym (append-nil stream))
        (subst (λ parts. IsGrouped parts (parts_of stream)) (kept_all other.share (together first) asks.all)
        (grouped_of (kept other.share (together first)) stream h.regroups));
    shared = λ packets shares. (
      together packets ∷ [],
      ((h.lawful asks.all packets shares).shared, tt),
      subst (λ l. IsPermutation l (together packets)) (sym (append-nil (together packets)))
          (IsPermutation-refl (together packets)),
    );
  }

  pub join_joined : (clock : Option ℕ) (records : List FlowRecord) → AreJoined asked (stream ∷ rest) clock records
      → AreJoined asked (first ++ rest) clock records
  join_joined clock records k = become asked (first ++ rest) (stream ∷ rest) clock records k
      (subst (λ limits. StandFor limits (first ++ rest) (stream ∷ rest))
      (same_timeouts h.limits k.limits (h.idle ∙ ap (λ n. 1000 * n) asks.idle ∙ sym k.idle)
      (h.active ∙ ap (λ n. 1000 * n) asks.active ∙ sym k.active))
      (stand_beside h.limits first (stream ∷ []) rest stream_stands))

pub joins_joined : JoinsAreJoined
joins_joined asked other first rest now clock stream records asks h k =
    join_joined asked other first rest now stream asks h clock records k

pub any_joined : AnyAreJoined
any_joined asked inputs streams clock records (moved _ _ s) h =
    order_is_free asked streams inputs clock records (IsPermutation-sym inputs streams s) h
any_joined asked inputs streams clock records (joined other first rest now stream asks k) h =
    join_joined asked other first rest now stream asks k clock records h
any_joined asked inputs streams clock records (parted first rest shares k) h =
    become asked (first ++ rest) (shares ++ rest) clock records h
    (stand_beside h.limits first shares rest (all_stand asked first h.limits h.idle h.active shares k))
any_joined asked inputs streams clock records (onward _ others _ a b) h =
    any_joined asked inputs others clock records a (any_joined asked others streams clock records b h)

pub any_answered : AnyAreAnswered
any_answered asked inputs streams written come h = record {
  clock = h.clock;
  records = h.records;
  joined = any_joined asked inputs streams h.clock h.records come h.joined;
  layout = h.layout;
  decoded = h.decoded;
}
