-- Reading item by item to the end of a part: message by message, set by set, record by record.
use Rattle.std.specs.Prelude.{◌≡◌, ℕ, zero, suc, length, Result, Err}
use Rattle.ipfix_reader.specs.declared.fault.StreamFault.{StreamFault}
use Rattle.ipfix_reader.specs.declared.fault.StreamFault.TheVariants.{Cut}
use Rattle.ipfix_reader.specs.Part.{Part}

-- Reading of a part to its end: from what was read before it, what was read behind it, or the first fault.
abbrev pub Reading : Type 0 → Type 0
Reading S = S → Part → Result S StreamFault

-- At most so many items. `item` reads one of them, behind which the reading that it is given goes on; or it finds the
-- end. The bound is there because each definition must end; `all_items` never meets it, so what stands at `zero` is
-- never an answer.
unfoldable pub at_most : {S : Type 0} → ℕ → (Reading S → Reading S) → Reading S
at_most zero item = λ before part. Err (Cut part.at)
at_most (suc more) item = item (at_most more item)

-- All items of a part. Each has a byte or more, so there are never more of them than bytes, and the bound is never met.
unfoldable pub all_items : {S : Type 0} → (Reading S → Reading S) → Reading S
all_items item before part = at_most (suc (length part.bytes)) item before part

-- That it is never met: reading all items is reading one, and then all those behind it, with no bound. This is the law
-- `reading_goes_on` of the messages of a stream, the sets of a message, and the records of a set.
abbrev pub GoesOn : {S : Type 0} → (Reading S → Reading S) → S → Part → Type 0
GoesOn item before part = all_items item before part ≡ item (all_items item) before part
