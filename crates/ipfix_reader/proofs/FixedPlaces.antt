-- Values at fixed places.
use Rattle.std.proofs.Common.{◌≡◌, ◌≤◌, ◌<◌, ◌+◌, ℕ, true, false, List, [], ◌∷◌, ◌++◌, length, take}
use Rattle.std.proofs.Common.{drop, Option, None, Some, Ok, refl, sym, ap, ◌∙◌, arith}
use Rattle.std.proofs.Common.{append_assoc, append-nil, add-zero, zero-add, eq-eqb, length-drop, lit<}
use Rattle.std.proofs.lemmas.Bool.{le-ltb}
use Rattle.std.proofs.lemmas.List.{drop-drop, drop-append-le, take-append-le, take-append-drop, length-take-le}
use Rattle.std.proofs.lemmas.List.Sums.{sum_by-cons}
use Rattle.octets.specs.declared.endianness.Endianness.TheVariants.{Big}
use Rattle.octets.specs.Numbers.{number_at, number}
use Rattle.octets.proofs.Reading.{number-append}
use Rattle.ipfix_model.specs.declared.fields.FieldSpec.{FieldSpec}
use Rattle.ipfix_model.specs.declared.values.FieldValue.{FieldValue}
use Rattle.ipfix_model.specs.Fields.{is_variable, least_length, record_length}
use Rattle.ipfix_model.specs.Values.{is_same_enterprise, is_value_of, are_values_of}
use Rattle.ipfix_reader.specs.declared.fault.StreamFault.{StreamFault}
use Rattle.ipfix_reader.specs.declared.flow_template.FlowTemplate.{FlowTemplate}
use Rattle.ipfix_reader.specs.declared.flow_template.FlowTemplate.TheVariants.{V4, V6}
use Rattle.ipfix_reader.specs.Part.{Part, behind}
use Rattle.ipfix_reader.specs.Values.{coded_length, value_of, values_of}
use Rattle.ipfix_reader.specs.FlowTemplates.{flow_template_fields, flow_record_length}
use Rattle.ipfix_reader.specs.FixedPlaces.{values_at}
use Rattle.ipfix_reader.proofs.ValueSteps.{values_of-next}

-- fields of fixed length
abbrev pub AreFixed : List FieldSpec → Type 0
AreFixed [] = Unit {0}
AreFixed (field ∷ fields) = (is_variable field ≡ false) × AreFixed fields

-- the value of such a field
abbrev value_at : ℕ → FieldSpec → List ℕ → FieldValue
value_at place field octets =
    record { element = field.element; enterprise = field.enterprise; value = take field.length (drop place octets) }

value_of-at : (place : ℕ) (field : FieldSpec) (octets : List ℕ) → is_variable field ≡ false
    → value_of field (drop place octets) ≡ value_at place field octets
value_of-at place field octets fixed = rw fixed refl

-- and what lies behind it
coded_length-at : (field : FieldSpec) (octets : List ℕ) → is_variable field ≡ false
    → coded_length field octets ≡ field.length
coded_length-at field octets fixed = rw fixed (zero-add field.length)

behind-at : (place : ℕ) (field : FieldSpec) (part : Part) → is_variable field ≡ false
    → behind (coded_length field (drop place part.bytes)) (behind place part) ≡ behind (place + field.length) part
behind-at place field part fixed =
    let coded = coded_length-at field (drop place part.bytes) fixed in
    let at : part.at + place + coded_length field (drop place part.bytes) ≡ part.at + (place + field.length) =
    omega (arith, coded) in
    let bytes : drop (coded_length field (drop place part.bytes)) (drop place part.bytes)
    ≡ drop (place + field.length) part.bytes =
    ap (λ n. drop n (drop place part.bytes)) coded ∙ drop-drop field.length place part.bytes in
    λ i. record { at = at i; bytes = bytes i }

-- so the values of fields of fixed length stand at their places
pub values_of-at : (beyond : StreamFault) (place : ℕ) (fields : List FieldSpec) (before : List FieldValue) (part : Part)
    → AreFixed fields → place + record_length fields ≤ length part.bytes
    → values_of beyond fields before (behind place part)
    ≡ Ok (record {
      values = before ++ values_at place fields part.bytes;
      rest = behind (place + record_length fields) part;
    })
values_of-at beyond place [] before part fixed inside =
    λ i. Ok (record { values = sym (append-nil before) i; rest = behind (sym (add-zero place) i) part })
values_of-at beyond place (field ∷ fields) before part fixed inside =
    let sums : record_length (field ∷ fields) ≡ field.length + record_length fields =
    sum_by-cons (λ (f : FieldSpec). f.length) field fields in
    let one = value_at place field part.bytes in
    let bytes = drop place part.bytes in
    let coded = coded_length-at field bytes fixed.0 in
    let left = length-drop place part.bytes in
    let fits : coded_length field bytes ≤ length bytes = omega arith in
    let all : place + field.length + record_length fields ≡ place + record_length (field ∷ fields) = omega arith in
    values_of-next beyond fields field before (behind place part)
    (le-ltb (length bytes) (coded_length field bytes) fits)
    ∙ (λ i. values_of beyond fields (before ++ value_of-at place field part.bytes fixed.0 i ∷ [])
    (behind-at place field part fixed.0 i))
    ∙ values_of-at beyond (place + field.length) fields (before ++ one ∷ []) part fixed.1 (omega arith)
    ∙ (λ i. Ok (record {
      values = append_assoc before (one ∷ []) (values_at (place + field.length) fields part.bytes) i;
      rest = behind (all i) part;
    }))

-- they are the same in front of more octets
pub values_at-front : (place : ℕ) (fields : List FieldSpec) (octets rest : List ℕ)
    → place + record_length fields ≤ length octets
    → values_at place fields (octets ++ rest) ≡ values_at place fields octets
values_at-front place [] octets rest inside = refl
values_at-front place (field ∷ fields) octets rest inside =
    let sums : record_length (field ∷ fields) ≡ field.length + record_length fields =
    sum_by-cons (λ (f : FieldSpec). f.length) field fields in
    let left = length-drop place octets in
    let value : take field.length (drop place (octets ++ rest)) ≡ take field.length (drop place octets) =
    ap (take field.length) (drop-append-le place octets rest (omega arith))
    ∙ take-append-le field.length (drop place octets) rest (omega arith) in
    let others = values_at-front (place + field.length) fields octets rest (omega arith) in
    λ i. record { element = field.element; enterprise = field.enterprise; value = value i } ∷ others i

-- they are values of their fields
same_enterprise : (enterprise : Option ℕ) → is_same_enterprise enterprise enterprise ≡ true
same_enterprise None = refl
same_enterprise (Some enterprise) = eq-eqb enterprise enterprise refl

is_value_of-at : (place : ℕ) (field : FieldSpec) (octets : List ℕ) → place + field.length ≤ length octets
    → is_value_of field (value_at place field octets) ≡ true
is_value_of-at place field octets inside =
    let left = length-drop place octets in
    let long : length (take field.length (drop place octets)) ≡ field.length =
    length-take-le field.length (drop place octets) (omega arith) in
    rw (
      eq-eqb field.element field.element refl,
      same_enterprise field.enterprise,
      eq-eqb (length (take field.length (drop place octets))) field.length long,
    ) refl

pub are_values_of-at : (place : ℕ) (fields : List FieldSpec) (octets : List ℕ)
    → place + record_length fields ≤ length octets
    → are_values_of fields (values_at place fields octets) ≡ true
are_values_of-at place [] octets inside = refl
are_values_of-at place (field ∷ fields) octets inside =
    let sums : record_length (field ∷ fields) ≡ field.length + record_length fields =
    sum_by-cons (λ (f : FieldSpec). f.length) field fields in
    rw (is_value_of-at place field octets (omega arith))
    (are_values_of-at (place + field.length) fields octets (omega arith))

-- the number at a place is that of the octets there
abbrev pub number_taken : ℕ → ℕ → List ℕ → ℕ
number_taken place size octets =
    number_at 0 (length (take size (drop place octets))) (take size (drop place octets))

pub number_at-taken : (place size : ℕ) (octets : List ℕ) → place + size ≤ length octets
    → number_at place size octets ≡ number_taken place size octets
unfolding number_at number
number_at-taken place size octets inside =
    let behind = drop place octets in
    let left = length-drop place octets in
    let long : length (take size behind) ≡ size = length-take-le size behind (omega arith) in
    ap (number Big size) (sym (take-append-drop size behind))
    ∙ number-append Big size (take size behind) (drop size behind) (omega arith)
    ∙ ap (λ n. number_at 0 n (take size behind)) (sym long)

-- the templates of flows
pub flow_fields-fixed : (flow : FlowTemplate) → AreFixed (flow_template_fields flow)
flow_fields-fixed V4 = (refl, (refl, (refl, (refl, (refl, (refl, (refl, (refl, (refl, (refl, (refl, tt)))))))))))
flow_fields-fixed V6 = (refl, (refl, (refl, (refl, (refl, (refl, (refl, (refl, (refl, (refl, (refl, tt)))))))))))

pub flow_fields-long : (flow : FlowTemplate) → record_length (flow_template_fields flow) ≡ flow_record_length flow
flow_fields-long V4 = refl
flow_fields-long V6 = refl

pub flow_fields-least : (flow : FlowTemplate) → least_length (flow_template_fields flow) ≡ flow_record_length flow
flow_fields-least V4 = refl
flow_fields-least V6 = refl

pub flow_fields-some : (flow : FlowTemplate) → 0 < flow_record_length flow
flow_fields-some V4 = lit< tt
flow_fields-some V6 = lit< tt

-- the values of a flow's record in front of a part
pub values_of-flow : (beyond : StreamFault) (flow : FlowTemplate) (part : Part)
    → flow_record_length flow ≤ length part.bytes
    → values_of beyond (flow_template_fields flow) [] part
    ≡ Ok (record {
      values = values_at 0 (flow_template_fields flow) (take (flow_record_length flow) part.bytes);
      rest = behind (flow_record_length flow) part;
    })
values_of-flow beyond flow part inside =
    let size = flow_record_length flow in
    let fields = flow_template_fields flow in
    let long = flow_fields-long flow in
    let start : part ≡ behind 0 part = λ i. record { at = sym (add-zero part.at) i; bytes = part.bytes } in
    let front = values_at-front 0 fields (take size part.bytes) (drop size part.bytes)
    (let short = length-take-le size part.bytes inside in omega arith) in
    ap (values_of beyond fields []) start
    ∙ values_of-at beyond 0 fields [] part (flow_fields-fixed flow) (omega arith)
    ∙ (λ i. Ok (record {
      values = (ap (values_at 0 fields) (sym (take-append-drop size part.bytes)) ∙ front) i;
      rest = behind ((zero-add (record_length fields) ∙ long) i) part;
    }))
