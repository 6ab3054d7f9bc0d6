-- The code's own: in which order fragments stand while they become those of records. No law and no contract of a public
-- call speaks of these.
use Rattle.std.specs.Prelude.{◌≡◌, ℕ, ◌+◌, ◌<◌, List, [], ◌∷◌, Option, Some, None, if◌then◌else◌}
use Rattle.std.specs.Prelude.{slice_index_or, length, drop, All, false, ⊤}
use Rattle.std.specs.Ordering.{is_eq, is_lt}
use Rattle.flow_key.specs.Key.{key_order}
use Rattle.flow_parts.specs.declared.fragment.Fragment.{Fragment}
use Rattle.flow_parts.specs.declared.timeouts.Timeouts.{Timeouts}
use Rattle.flow_parts.specs.Joining.{IsJoinable}
use Rattle.record_ledger.specs.declared.record.FlowRecord.{FlowRecord}
use Rattle.record_ledger.specs.Lawful.{parts_of, reason_of}
use Rattle.record_ledger.specs.Order.{key_then_last}

-- R holds of each element and each later one.
abbrev pub Rises : {X : Type 0} → (X → X → Type 0) → List X → Type 0
Rises R [] = ⊤
Rises R (x ∷ xs) = All (R x) xs × Rises R xs

-- By key, then by last time, the first of two fragments doesn't come after the other.
abbrev pub NotAfter : Fragment → Fragment → Type 0
NotAfter one other = is_lt (key_then_last other one) ≡ false

-- No two neighbours of the list are joinable.
abbrev pub NoneJoinable : Timeouts → List Fragment → Type 0
NoneJoinable limits parts = (k : ℕ) (d : Fragment) → k + 1 < length parts
    → ¬ IsJoinable limits (slice_index_or parts k d) (slice_index_or parts (k + 1) d)

-- The next fragment of a list that is sorted by key, where it has this one's key.
abbrev pub next_of_key : Fragment → List Fragment → Option Fragment
next_of_key part [] = None
next_of_key part (next ∷ rest) = if is_eq (key_order next.key part.key) then Some next else None

-- Each record of a list that is sorted by key has its reason, by the next one of its key.
abbrev pub HasReasons : Timeouts → ℕ → List FlowRecord → Type 0
HasReasons limits clock records = (k : ℕ) (d : FlowRecord) → k < length records → (slice_index_or records k d).reason
    ≡ reason_of limits clock (slice_index_or records k d).part
    (next_of_key (slice_index_or records k d).part (drop (k + 1) (parts_of records)))
