-- What clauses say of the words and of seats at them.
use Rattle.std.specs.Prelude.{ℕ, List}
use Rattle.atomic_table.specs.Table.{Me}
use Rattle.atomic_table.specs.Seated.{TableId}
use Rattle.pebr_table.specs.declared.table.Table.{Table}
use Rattle.pebr_table.specs.declared.table.Seat.{Seat}
use Rattle.pebr_table.specs.Operations.{Op}
use Rattle.pebr_table.specs.Recorded.{bare}

-- which table a seat is at, its number there, and its view in the layer above
abbrev pub table_at : {V : Type 0} → Seat V → TableId
table_at seat = seat.inner.table_id

abbrev pub id_of : {V : Type 0} → Seat V → ℕ
id_of seat = seat.inner.id

abbrev pub me_of : {V : Type 0} → Seat V → Me (Unit {0}) V
me_of seat = bare seat.inner.me

-- the operations that it made, the newest first
abbrev pub operations_of : {V : Type 0} → Seat V → List Op
operations_of seat = seat.inner.me.0.operations

abbrev pub table_of : {V K P : Type 0} → Table V K P → TableId
table_of table = table.inner.shared.table_id

-- what it was told when it was opened
abbrev pub key_of : {V K P : Type 0} → Table V K P → K
key_of table = table.inner.shared.key
