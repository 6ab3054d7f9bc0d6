-- The lines of the records that were taken, one record behind another.
use Rattle.std.proofs.Common.{◌≡◌, ◌+◌, ◌-◌, ◌^◌, ◌<◌, ◌≤◌, ℕ, min, List, [], ◌∷◌, ◌++◌, length, flat_map, refl, sym}
use Rattle.std.proofs.Common.{ap, ◌∙◌, arith}
use Rattle.std.proofs.Common.{length-append, append-nil}
use Rattle.std.specs.Prelude.{codes, decimal}
use Rattle.std.proofs.lemmas.Grind.{flat_map-append}
use Rattle.ipfix_model.specs.declared.values.DataRecord.{DataRecord}
use Rattle.meter_program.specs.Shows.{field_text, line_of, text_of}
use Rattle.meter_program.specs.Showing.{AreLines}

-- a line has its end
line-some : (rec : DataRecord) → 1 ≤ length (line_of rec)
unfolding line_of
line-some rec =
    let ends : length (codes "\n") ≡ 1 = refl in
    let all = length-append (decimal rec.template) (flat_map field_text rec.fields ++ codes "\n") in
    let behind = length-append (flat_map field_text rec.fields) (codes "\n") in
    omega (arith, ends, all, behind)

text-more : (records : List DataRecord) (rec : DataRecord) → text_of (records ++ rec ∷ []) ≡ text_of records
    ++ line_of rec
text-more records rec =
    flat_map-append line_of records (rec ∷ []) ∙ ap (λ (l : List ℕ). text_of records ++ l) (append-nil (line_of rec))

-- the line of one record more
pub lines-more : (text after : List ℕ) (count next : ℕ) (records : List DataRecord) (rec : DataRecord)
    → AreLines text count records → after ≡ text ++ line_of rec → length after < 2 ^ 64
    → next ≡ min (count + 1) (2 ^ 64 - 1) → AreLines after next (records ++ rec ∷ [])
lines-more text after count next records rec are is room next_is =
    let some = line-some rec in
    let long : length after ≡ length text + length (line_of rec) = ap length is ∙ length-append text (line_of rec) in
    let more = length-append records (rec ∷ []) in
    let counted = are.counted in
    let few = are.few in
    record {
      lines = is ∙ ap (λ (t : List ℕ). t ++ line_of rec) are.lines ∙ sym (text-more records rec);
      counted = omega (arith, some, long, more, counted, few, room, next_is);
      few = omega (arith, some, long, more, few);
    }

-- the lines of no record
pub lines-none : (text : List ℕ) (count : ℕ) → text ≡ [] → count ≡ 0 → AreLines text count []
lines-none text count is none = record {
  lines = is;
  counted = none;
  few = omega arith;
}
