-- The code's own: the end of a data record, and bytes that are put at a place.
use Rattle.std.specs.Prelude.{◌≡◌, ℕ, ◌+◌, List, ◌++◌, length, take}
use Rattle.octets.specs.Numbers.{octets_of}
use Rattle.record_ledger.specs.declared.record.FlowRecord.{FlowRecord}

-- The values behind the key: flags, packets, octets, first and last time, and end reason.
unfoldable pub counts_part : FlowRecord → List ℕ
counts_part flow = let part = flow.part in
    octets_of 2 part.flags ++ (octets_of 8 part.packets ++ (octets_of 8 part.octets
    ++ (octets_of 8 part.first ++ (octets_of 8 part.last ++ octets_of 1 flow.reason))))

-- Bytes are put at a place: what stands in front of it stays, and they stand behind that.
pub record IsPut (place : ℕ) (bytes old new : List ℕ) : Type 0 where
  pub behind : take (place + length bytes) new ≡ take place old ++ bytes
