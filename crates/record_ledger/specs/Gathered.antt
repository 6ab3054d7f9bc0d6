-- What is gathered of fragments, exactly.
use Rattle.std.specs.Prelude.{◌≡◌, ℕ, List, [], ◌∷◌, ◌⊎◌, filter, reverse, IsPermutation, IsSorted}
use Rattle.std.specs.Ordering.{is_eq}
use Rattle.flow_key.specs.declared.key.FlowKey.{FlowKey}
use Rattle.flow_key.specs.Key.{key_order}
use Rattle.flow_parts.specs.declared.fragment.Fragment.{Fragment}
use Rattle.flow_parts.specs.declared.timeouts.Timeouts.{Timeouts}
use Rattle.flow_parts.specs.Joining.{IsJoinable}
use Rattle.flow_parts.specs.Parts.{IsJoined}
use Rattle.record_ledger.specs.declared.record.FlowRecord.{FlowRecord}
use Rattle.record_ledger.specs.Lawful.{parts_of, of_key, EachWithNext, HasReason}
use Rattle.record_ledger.specs.Order.{joining_order, written_order}

-- The fragments of one key, in the order of the list.
abbrev pub parts_with : FlowKey → List Fragment → List Fragment
parts_with key parts = filter (λ f. is_eq (key_order f.key key)) parts

-- What becomes of fragments, the latest of them first, when one more comes: where it is joinable with the latest, the
-- two are joined, and the whole comes in its turn to those before; else it stands behind them.
abbrev pub ComesTo : Timeouts → List Fragment → Fragment → List Fragment → Type 0
ComesTo limits [] part after = after ≡ part ∷ []
ComesTo limits (latest ∷ earlier) part after =
    (¬ IsJoinable limits latest part × (after ≡ part ∷ latest ∷ earlier))
    ⊎ ((whole : Fragment) × IsJoinable limits latest part × IsJoined latest part whole
    × ComesTo limits earlier whole after)

-- What becomes of them when some come, one after the other.
abbrev pub AllComeTo : Timeouts → List Fragment → List Fragment → List Fragment → Type 0
AllComeTo limits before [] after = after ≡ before
AllComeTo limits before (part ∷ line) after =
    (next : List Fragment) × ComesTo limits before part next × AllComeTo limits next line after

-- The wholes, in their order, are what becomes of the fragments, whatever their order: in the order of joining, each
-- comes to those before it.
pub record AreJoined (limits : Timeouts) (parts wholes : List Fragment) : Type 0 where
  pub line : List Fragment
  pub same : IsPermutation parts line
  pub sorted : IsSorted joining_order line
  pub joined : AllComeTo limits [] line (reverse wholes)

-- The records are what is gathered of the fragments: they stand in the written order, those of each key are what
-- becomes of the fragments of this key, and each has its reason, by the next one of its key and the clock.
pub record IsGathered (limits : Timeouts) (clock : ℕ) (parts : List Fragment)
    (records : List FlowRecord) : Type 0 where
  pub ordered : IsSorted written_order records
  pub joined : (key : FlowKey) → AreJoined limits (parts_with key parts) (parts_of (of_key key records))
  pub reasons : (key : FlowKey) → EachWithNext (HasReason limits clock) (of_key key records)
