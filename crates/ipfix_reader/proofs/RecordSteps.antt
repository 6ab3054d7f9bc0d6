-- The records of a set, one at a time.
use Rattle.std.proofs.Common.{◌≡◌, ◌<◌, ◌≤◌, ◌+◌, ◌-◌, ◌==◌, ℕ, zero, suc, Bool, List, [], ◌∷◌, ◌++◌, length, drop}
use Rattle.std.proofs.Common.{Result, Ok, Err, refl, ap, ◌∙◌, arith, nat_lt, length-drop, OnOk, IfErr}
use Rattle.std.proofs.lemmas.Bool.{le-ltb, lt-ltb, ltb-false}
use Rattle.std.proofs.lemmas.Grind.{common_steps}
use Rattle.std.proofs.lemmas.List.Sums.{sum_by-cons}
use Rattle.ipfix_model.specs.declared.fields.FieldSpec.{FieldSpec}
use Rattle.ipfix_model.specs.declared.values.FieldValue.{FieldValue}
use Rattle.ipfix_model.specs.declared.values.DataRecord.{DataRecord}
use Rattle.ipfix_model.specs.Fields.{least_length, field_least}
use Rattle.ipfix_reader.specs.declared.fault.StreamFault.{StreamFault}
use Rattle.ipfix_reader.specs.declared.fault.StreamFault.TheVariants.{BadLength, BadTemplate}
use Rattle.ipfix_reader.specs.declared.fault.StreamError.{StreamError}
use Rattle.ipfix_reader.specs.Outcome.{IsFaultOf}
use Rattle.octets.specs.Outcome.{◌>>=◌}
use Rattle.ipfix_reader.specs.Part.{Part, behind}
use Rattle.octets.specs.Numbers.{number_at}
use Rattle.ipfix_reader.specs.Walk.{all_items}
use Rattle.ipfix_reader.specs.Values.{Values, coded_length, values_of}
use Rattle.ipfix_reader.specs.Specifiers.{Fields, specifier_length, record_header, is_bad_header, fields_of}
use Rattle.ipfix_reader.specs.Specifiers.{nonempty_fields}
use Rattle.ipfix_reader.specs.Specifiers.{template_fields}
use Rattle.ipfix_reader.specs.Known.{Templates, with_template}
use Rattle.ipfix_reader.specs.Records.{padding_end, template_record, data_record, template_records, data_records}
use Rattle.ipfix_reader.specs.Cursors.{IsPaddingChecked}
use Rattle.ipfix_reader.proofs.Items.{TakesBytes, goes_on, same_behind, same_choice, behind_ok, not_fault, same_ok}
use Rattle.ipfix_reader.proofs.Items.{fault_behind, fault_of-same}

-- no value takes less than its field's least length
field_least-coded : (field : FieldSpec) (bytes : List ℕ) → field_least field ≤ coded_length field bytes
field_least-coded field bytes = grind (arith, common_steps)

-- the values of a record take its least length or more
pub values_of-takes : (beyond : StreamFault) (fields : List FieldSpec) (before : List FieldValue) (part : Part)
    (read : Values)
    → values_of beyond fields before part ≡ Ok read → length read.rest.bytes + least_length fields ≤ length part.bytes
values_of-takes beyond [] before part read is =
    let same : part ≡ read.rest = ap (λ (r : Values). r.rest) (same_ok _ _ is) in
    let lengths : length part.bytes ≡ length read.rest.bytes = ap (λ (p : Part). length p.bytes) same in
    omega arith
values_of-takes beyond (field ∷ fields) before part read is =
    let open_test = not_fault (nat_lt (length part.bytes) (coded_length field part.bytes)) beyond _ read is in
    let inside : coded_length field part.bytes ≤ length part.bytes =
    ltb-false (length part.bytes) (coded_length field part.bytes) open_test.0 in
    let rest : length read.rest.bytes + least_length fields ≤ length (drop (coded_length field part.bytes) part.bytes) =
    values_of-takes beyond fields _ (behind (coded_length field part.bytes) part) read open_test.1 in
    let least = field_least-coded field part.bytes in
    let sums : least_length (field ∷ fields) ≡ field_least field + least_length fields =
    sum_by-cons field_least field fields in
    let left : length (drop (coded_length field part.bytes) part.bytes)
    ≡ length part.bytes - coded_length field part.bytes = length-drop (coded_length field part.bytes) part.bytes in
    omega arith

-- no bytes come from field specifiers
fields_of-takes : (beyond : StreamFault) (count : ℕ) (before : List FieldSpec) (part : Part) (read : Fields)
    → fields_of beyond count before part ≡ Ok read → length read.rest.bytes ≤ length part.bytes
fields_of-takes beyond zero before part read is =
    let same : part ≡ read.rest = ap (λ (r : Fields). r.rest) (same_ok _ _ is) in
    let lengths : length part.bytes ≡ length read.rest.bytes = ap (λ (p : Part). length p.bytes) same in
    omega arith
fields_of-takes beyond (suc count) before part read is =
    let open_test = not_fault (nat_lt (length part.bytes) (specifier_length part.bytes)) beyond _ read is in
    let rest : length read.rest.bytes ≤ length (drop (specifier_length part.bytes) part.bytes) =
    fields_of-takes beyond count _ (behind (specifier_length part.bytes) part) read open_test.1 in
    let left : length (drop (specifier_length part.bytes) part.bytes)
    ≡ length part.bytes - specifier_length part.bytes = length-drop (specifier_length part.bytes) part.bytes in
    omega arith

-- a template record takes its header or more
pub template_fields-takes : (options : Bool) (part : Part) (read : Fields) → 4 ≤ length part.bytes
    → template_fields options part ≡ Ok read → length read.rest.bytes < length part.bytes
unfolding template_fields
template_fields-takes options part read whole is =
    let counted = not_fault (number_at 2 2 part.bytes == 0) _ _ read is in
    let headed = not_fault (is_bad_header options part.bytes) (BadTemplate part.at) _ read counted.1 in
    let listed =
    behind_ok (fields_of (BadTemplate part.at) (number_at 2 2 part.bytes) [] (behind (record_header options) part))
    (nonempty_fields (BadTemplate part.at)) read headed.1 in
    let some = not_fault (least_length (listed.0).fields == 0) (BadTemplate part.at) (Ok listed.0) read listed.2 in
    let same : length (listed.0).rest.bytes ≡ length read.rest.bytes =
    ap (λ (r : Fields). length r.rest.bytes) (same_ok listed.0 read some.1) in
    let rest : length (listed.0).rest.bytes ≤ length (drop (record_header options) part.bytes) =
    fields_of-takes (BadTemplate part.at) (number_at 2 2 part.bytes) []
    (behind (record_header options) part) listed.0 listed.1 in
    let left : length (drop (record_header options) part.bytes) ≡ length part.bytes - record_header options =
    length-drop (record_header options) part.bytes in
    let header : 4 ≤ record_header options = grind (arith, common_steps) in
    omega arith

-- so the walk over template records goes on
pub template_record-takes : (options : Bool) (domain : ℕ) → TakesBytes (template_record options domain)
template_record-takes options domain go other before part same =
    same_choice (nat_lt (length part.bytes) 4) _ _ _ (λ whole.
    same_behind (template_fields options part) _ _ (λ read is.
    same _ read.rest (template_fields-takes options part read (ltb-false (length part.bytes) 4 whole) is)))

-- and that over data records of which each takes a byte or more
pub data_record-takes : (domain number : ℕ) (fields : List FieldSpec) → 0 < least_length fields
    → TakesBytes (data_record domain number fields)
data_record-takes domain number fields some go other before part same =
    same_choice (nat_lt (length part.bytes) (least_length fields)) _ _ _ (λ whole.
    same_behind (values_of (BadLength part.at) fields [] part) _ _ (λ read is.
    same _ read.rest (let takes = values_of-takes (BadLength part.at) fields [] part read is in omega arith)))

-- a template record, and the ones behind it
pub template_records-next : (options : Bool) (domain : ℕ) (before : Templates) (part : Part) (read : Fields)
    → 4 ≤ length part.bytes
    → template_fields options part ≡ Ok read
    → template_records options domain before part
    ≡ template_records options domain (with_template before domain (number_at 0 2 part.bytes) read.fields) read.rest
unfolding template_records
template_records-next options domain before part read whole is =
    goes_on (template_record options domain) (template_record-takes options domain) before part
    ∙ rw (le-ltb (length part.bytes) 4 whole, is) refl

-- a template record with a fault
pub template_records-fault : (options : Bool) (domain : ℕ) (before : Templates) (part : Part) (error : StreamError)
    → 4 ≤ length part.bytes
    → IsFaultOf (template_fields options part) error → IsFaultOf (template_records options domain before part) error
unfolding template_records
template_records-fault options domain before part error whole is =
    let rule = λ (read : Fields). all_items (template_record options domain)
    (with_template before domain (number_at 0 2 part.bytes) read.fields) read.rest in
    fault_of-same (all_items (template_record options domain) before part) (template_fields options part >>= rule) error
    (goes_on (template_record options domain) (template_record-takes options domain) before part
    ∙ rw (le-ltb (length part.bytes) 4 whole) refl)
    (fault_behind (template_fields options part) rule error is)

-- the end of the template records
pub template_records-end : (options : Bool) (domain : ℕ) (before : Templates) (part : Part) → length part.bytes < 4
    → template_records options domain before part ≡ padding_end before part
unfolding template_records
template_records-end options domain before part short =
    goes_on (template_record options domain) (template_record-takes options domain) before part
    ∙ rw (lt-ltb (length part.bytes) 4 short) refl

-- a data record, and the ones behind it
pub data_records-next : (domain number : ℕ) (fields : List FieldSpec) (before : List DataRecord) (part : Part)
    (read : Values)
    → 0 < least_length fields → least_length fields ≤ length part.bytes
    → values_of (BadLength part.at) fields [] part ≡ Ok read
    → data_records domain number fields before part
    ≡ data_records domain number fields (before
    ++ record { domain = domain; template = number; fields = read.values } ∷ []) read.rest
unfolding data_records
data_records-next domain number fields before part read some whole is =
    goes_on (data_record domain number fields) (data_record-takes domain number fields some) before part
    ∙ rw (le-ltb (length part.bytes) (least_length fields) whole, is) refl

-- a data record that goes beyond the end
pub data_records-fault : (domain number : ℕ) (fields : List FieldSpec) (before : List DataRecord) (part : Part)
    (error : StreamError)
    → 0 < least_length fields → least_length fields ≤ length part.bytes
    → IsFaultOf (values_of (BadLength part.at) fields [] part) error
    → IsFaultOf (data_records domain number fields before part) error
unfolding data_records
data_records-fault domain number fields before part error some whole is =
    let rule = λ (read : Values). all_items (data_record domain number fields)
    (before ++ record { domain = domain; template = number; fields = read.values } ∷ []) read.rest in
    fault_of-same (all_items (data_record domain number fields) before part)
    (values_of (BadLength part.at) fields [] part >>= rule) error
    (goes_on (data_record domain number fields) (data_record-takes domain number fields some) before part
    ∙ rw (le-ltb (length part.bytes) (least_length fields) whole) refl)
    (fault_behind (values_of (BadLength part.at) fields [] part) rule error is)

-- the end of the data records
pub data_records-end : (domain number : ℕ) (fields : List FieldSpec) (before : List DataRecord) (part : Part)
    → 0 < least_length fields → length part.bytes < least_length fields
    → data_records domain number fields before part ≡ padding_end before part
unfolding data_records
data_records-end domain number fields before part some short =
    goes_on (data_record domain number fields) (data_record-takes domain number fields some) before part
    ∙ rw (lt-ltb (length part.bytes) (least_length fields) short) refl

-- what the check of the padding gives
padding_end-ok : {S : Type 0} (before : S) (part : Part) (result : Result (Unit {0}) StreamError)
    → IsPaddingChecked part result
    → OnOk result (padding_end before part ≡ Ok before)
padding_end-ok before part (Ok read) is = rw is.ok refl
padding_end-ok before part (Err error) is = tt

padding_end-fault : {S : Type 0} (before : S) (part : Part) (result : Result (Unit {0}) StreamError)
    → IsPaddingChecked part result
    → IfErr result (IsFaultOf (padding_end before part))
padding_end-fault before part (Ok read) is = tt
padding_end-fault before part (Err error) is = rw (is.fault.1, is.fault.0) refl

-- the same of readings that end there
pub ends-ok : {S : Type 0} (all : Result S StreamFault) (before : S) (part : Part)
    (result : Result (Unit {0}) StreamError)
    → all ≡ padding_end before part → IsPaddingChecked part result → OnOk result (all ≡ Ok before)
ends-ok all before part result is checks = rw is (padding_end-ok before part result checks)

pub ends-fault : {S : Type 0} (all : Result S StreamFault) (before : S) (part : Part)
    (result : Result (Unit {0}) StreamError)
    → all ≡ padding_end before part → IsPaddingChecked part result → IfErr result (IsFaultOf all)
ends-fault all before part result is checks = rw is (padding_end-fault before part result checks)
