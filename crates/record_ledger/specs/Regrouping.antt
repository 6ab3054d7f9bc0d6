-- Records that regroup fragments.
use Rattle.std.specs.Prelude.{◌≡◌, ◌≢◌, List, [], flat_map, sum_by, All, IsPermutation}
use Rattle.std.specs.List.{AllZip}
use Rattle.flow_parts.specs.declared.fragment.Fragment.{Fragment}
use Rattle.packet_accept.specs.Extremes.{IsLeast, IsGreatest}
use Rattle.flow_parts.specs.Union.{IsUnion}
use Rattle.record_ledger.specs.declared.record.FlowRecord.{FlowRecord}

-- The fragment is a list of fragments taken together: the list isn't empty, all have its key, and it has the sums of
-- their packets and octets, the union of their flags, the least of their first and the greatest of their last times.
pub record IsTogether (parts : List Fragment) (whole : Fragment) : Type 0 where
  pub some : parts ≢ []
  pub one_key : All (λ f. f.key ≡ whole.key) parts
  pub packets : whole.packets ≡ sum_by (λ (f : Fragment). f.packets) parts
  pub octets : whole.octets ≡ sum_by (λ (f : Fragment). f.octets) parts
  pub flags : IsUnion (λ (f : Fragment). f.flags) parts whole.flags
  pub first : IsLeast (λ (f : Fragment). f.first) parts whole.first
  pub last : IsGreatest (λ (f : Fragment). f.last) parts whole.last

-- The records regroup the fragments: there are as many lists of fragments as records, the lists put together are a
-- permutation of the fragments, and the fragment of each record is the list in its place taken together.
pub record Regroups (parts : List Fragment) (records : List FlowRecord) : Type 0 where
  pub groups : List (List Fragment)
  pub whole : IsPermutation parts (flat_map (λ (group : List Fragment). group) groups)
  pub each : AllZip (λ group r. IsTogether group r.part) groups records
