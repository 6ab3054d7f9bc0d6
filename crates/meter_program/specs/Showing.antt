-- The code's own: the lines of the data records that were taken.
use Rattle.std.specs.Prelude.{◌≡◌, ◌≤◌, ℕ, List, length}
use Rattle.ipfix_model.specs.declared.values.DataRecord.{DataRecord}
use Rattle.meter_program.specs.Shows.{text_of}

-- The text and the number of these records. A line has a byte or more.
pub record AreLines (text : List ℕ) (count : ℕ) (records : List DataRecord) : Type 0 where
  pub lines : text ≡ text_of records
  pub counted : count ≡ length records
  pub few : length records ≤ length text
