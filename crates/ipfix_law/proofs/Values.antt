-- Numbers written as the values of fields are read as these numbers.
use Rattle.std.proofs.Common.{◌≡◌, ◌<◌, ◌≤◌, ◌+◌, ◌^◌, ℕ, Bool, true, false, List, [], ◌∷◌, ◌++◌, length, map, take}
use Rattle.std.proofs.Common.{drop, Option, None, Some, Ok, if◌then◌else◌, refl, sym, ap, ◌∙◌, arith, length-append}
use Rattle.std.proofs.Common.{append_assoc, append-nil, add-zero, zero-add, eq-eqb}
use Rattle.std.proofs.lemmas.Bool.{le-ltb}
use Rattle.std.proofs.lemmas.List.Sums.{sum_by-cons}
use Rattle.std.proofs.Math.Seq.{drop-append_seam}
use Rattle.octets.specs.Numbers.{octets_of, number_at}
use Rattle.ipfix_model.specs.declared.fields.FieldSpec.{FieldSpec}
use Rattle.ipfix_model.specs.declared.values.FieldValue.{FieldValue}
use Rattle.ipfix_model.specs.Fields.{is_variable, field_least, least_length}
use Rattle.ipfix_model.specs.Values.{record_bytes, is_same_enterprise, is_value_of, are_values_of, number_in}
use Rattle.ipfix_reader.specs.declared.fault.StreamFault.{StreamFault}
use Rattle.ipfix_reader.specs.Part.{Part, behind}
use Rattle.ipfix_reader.specs.Values.{prefix_length, value_length, coded_length, value_of, values_of}
use Rattle.ipfix_reader.proofs.ValueSteps.{values_of-next}
use Rattle.ipfix_law.proofs.Numbers.{length-octets, take-front, number-front}

-- the value of a field that is this number
abbrev pub value_with : (FieldSpec → ℕ) → FieldSpec → FieldValue
value_with value field =
    record { element = field.element; enterprise = field.enterprise; value = octets_of field.length (value field) }

abbrev pub values_with : (FieldSpec → ℕ) → List FieldSpec → List FieldValue
values_with value fields = map (value_with value) fields

-- fields of fixed length
abbrev pub AreFixed : List FieldSpec → Type 0
AreFixed [] = Unit {0}
AreFixed (field ∷ fields) = (is_variable field ≡ false) × AreFixed fields

-- a value of fixed length in front of more octets
coded_length-fixed : (field : FieldSpec) (bytes : List ℕ) → is_variable field ≡ false
    → coded_length field bytes ≡ field.length
coded_length-fixed field bytes fixed = rw fixed (zero-add field.length)

value_of-fixed : (field : FieldSpec) (bytes rest : List ℕ) → is_variable field ≡ false → length bytes ≡ field.length
    → value_of field (bytes ++ rest) ≡ record { element = field.element; enterprise = field.enterprise; value = bytes }
value_of-fixed field bytes rest fixed long =
    let value : take (value_length field (bytes ++ rest)) (drop (prefix_length field (bytes ++ rest)) (bytes ++ rest))
    ≡ bytes =
    rw fixed (ap (λ n. take n (bytes ++ rest)) (sym long) ∙ take-front bytes rest) in
    λ i. record { element = field.element; enterprise = field.enterprise; value = value i }

-- the value, and those behind it
values_of-front : (beyond : StreamFault) (value : FieldSpec → ℕ) (field : FieldSpec) (fields : List FieldSpec) (at : ℕ)
    (before : List FieldValue) (rest : List ℕ)
    → is_variable field ≡ false
    → values_of beyond (field ∷ fields) before
    (record { at = at; bytes = octets_of field.length (value field) ++ rest })
    ≡ values_of beyond fields (before ++ value_with value field ∷ []) (record { at = at + field.length; bytes = rest })
values_of-front beyond value field fields at before rest fixed =
    let bytes = octets_of field.length (value field) in
    let part : Part = record { at = at; bytes = bytes ++ rest } in
    let long : length bytes ≡ field.length = length-octets field.length (value field) in
    let coded : coded_length field (bytes ++ rest) ≡ field.length = coded_length-fixed field (bytes ++ rest) fixed in
    let inside : coded_length field (bytes ++ rest) ≤ length (bytes ++ rest) = let all = length-append bytes rest in
    omega arith in
    let left : drop (coded_length field (bytes ++ rest)) (bytes ++ rest) ≡ rest =
    ap (λ n. drop n (bytes ++ rest)) (coded ∙ sym long) ∙ drop-append_seam bytes rest in
    values_of-next beyond fields field before part
    (le-ltb (length (bytes ++ rest)) (coded_length field (bytes ++ rest)) inside)
    ∙ ap (λ v. values_of beyond fields (before ++ v ∷ []) (behind (coded_length field (bytes ++ rest)) part))
    (value_of-fixed field bytes rest fixed long)
    ∙ (λ i. values_of beyond fields (before ++ value_with value field ∷ [])
    (record { at = at + coded i; bytes = left i }))

-- the values of all fields
pub values_of-with : (beyond : StreamFault) (value : FieldSpec → ℕ) (fields : List FieldSpec) (at : ℕ)
    (before : List FieldValue) (rest : List ℕ) → AreFixed fields
    → values_of beyond fields before (record { at = at; bytes = record_bytes value fields ++ rest })
    ≡ Ok (record {
      values = before ++ values_with value fields;
      rest =
          record { at = at + length (record_bytes value fields); bytes = rest };
    })
values_of-with beyond value [] at before rest fixed =
    λ i. Ok (record { values = sym (append-nil before) i; rest = record { at = sym (add-zero at) i; bytes = rest } })
values_of-with beyond value (field ∷ fields) at before rest fixed =
    let bytes = octets_of field.length (value field) in
    let more = record_bytes value fields in
    let lengths : at + field.length + length more ≡ at + length (bytes ++ more) =
    omega (arith, length-append bytes more, length-octets field.length (value field)) in
    ap (λ b. values_of beyond (field ∷ fields) before (record { at = at; bytes = b })) (append_assoc bytes more rest)
    ∙ values_of-front beyond value field fields at before (more ++ rest) fixed.0
    ∙ values_of-with beyond value fields (at + field.length) (before ++ value_with value field ∷ []) rest fixed.1
    ∙ (λ i. Ok
    (record {
      values = append_assoc before (value_with value field ∷ []) (values_with value fields) i;
      rest =
          record { at = lengths i; bytes = rest };
    }))

-- they are as long as the least length of a record
pub length-fixed : (value : FieldSpec → ℕ) (fields : List FieldSpec) → AreFixed fields
    → length (record_bytes value fields) ≡ least_length fields
length-fixed value [] fixed = refl
length-fixed value (field ∷ fields) fixed =
    let bytes = octets_of field.length (value field) in
    let least : field_least field ≡ field.length = ap (λ (b : Bool). if b then 1 else field.length) fixed.0 in
    let rest = length-fixed value fields fixed.1 in
    let sums = sum_by-cons field_least field fields in
    omega (
      arith,
      length-append bytes (record_bytes value fields),
      length-octets field.length
          (value field),
      least,
      rest,
      sums,
    )

-- values that were written are those of their fields
same_enterprise : (enterprise : Option ℕ) → is_same_enterprise enterprise enterprise ≡ true
same_enterprise None = refl
same_enterprise (Some enterprise) = eq-eqb enterprise enterprise refl

is_value_of-with : (value : FieldSpec → ℕ) (field : FieldSpec) → is_value_of field (value_with value field) ≡ true
is_value_of-with value field =
    rw (
      eq-eqb field.element field.element refl,
      same_enterprise field.enterprise,
      eq-eqb (length (octets_of field.length (value field))) field.length (length-octets field.length (value field)),
    ) refl

pub are_values_of-with : (value : FieldSpec → ℕ) (fields : List FieldSpec)
    → are_values_of fields (values_with value fields) ≡ true
are_values_of-with value [] = refl
are_values_of-with value (field ∷ fields) = rw (is_value_of-with value field) (are_values_of-with value fields)

-- and the number of each is the one written
pub number_in-with : (value : FieldSpec → ℕ) (field : FieldSpec) → value field < 256 ^ field.length
    → number_in (value_with value field) ≡ value field
number_in-with value field fits =
    let bytes = octets_of field.length (value field) in
    ap (λ n. number_at 0 n bytes) (length-octets field.length (value field))
    ∙ ap (number_at 0 field.length) (sym (append-nil bytes))
    ∙ number-front field.length (value field) [] fits
