-- The records of a data set, and the groups of records that share sets: of anything that is written as data records.
use Rattle.std.proofs.Common.{◌≡◌, ◌<◌, ◌≤◌, ◌+◌, ◌^◌, ◌==◌, ℕ, Bool, true, false, List, [], ◌∷◌, ◌++◌, length, map}
use Rattle.std.proofs.Common.{Some, Ok, if◌then◌else◌, refl, sym, ap, subst, ◌∙◌, arith, length-append, append_assoc}
use Rattle.std.proofs.Common.{append-nil, eqb-true}
use Rattle.ipfix_model.specs.declared.fields.FieldSpec.{FieldSpec}
use Rattle.ipfix_model.specs.declared.values.DataRecord.{DataRecord}
use Rattle.ipfix_model.specs.Fields.{least_length}
use Rattle.ipfix_model.specs.Values.{record_bytes}
use Rattle.ipfix_writer.specs.Layout.{RecordSet, records_in, put_before, sets_in}
use Rattle.ipfix_reader.specs.declared.fault.StreamFault.TheVariants.{BadLength}
use Rattle.ipfix_reader.specs.Known.{Templates, fields_in}
use Rattle.ipfix_reader.specs.Values.{Values}
use Rattle.ipfix_reader.specs.Records.{data_records}
use Rattle.ipfix_reader.proofs.RecordSteps.{data_records-next, data_records-end}
use Rattle.ipfix_law.proofs.Values.{AreFixed, values_with, values_of-with, length-fixed}

-- By these known templates, one is read as this data record: its template is known with these fields, and it is written
-- as the values of them.
pub record IsReadAs (templates : Templates) (one : RecordSet) (read : DataRecord) : Type 0 where
  pub fields : List FieldSpec
  pub value : FieldSpec → ℕ
  pub known : fields_in templates 1 one.template ≡ Some fields
  pub high : 256 ≤ one.template
  pub low : one.template < 2 ^ 16
  pub some : 0 < least_length fields
  pub fixed : AreFixed fields
  pub bytes : one.records ≡ record_bytes value fields
  pub gives : read ≡ record { domain = 1; template = one.template; fields = values_with value fields }

same_some : {X : Type 0} (x y : X) → Some x ≡ Some y → x ≡ y
same_some x y is = cc

-- one data record, and those behind it
record-front : (templates : Templates) (one : RecordSet) (read : DataRecord) (before : List DataRecord) (at : ℕ)
    (rest : List ℕ) (is : IsReadAs templates one read)
    → data_records 1 one.template is.fields before (record { at = at; bytes = one.records ++ rest })
    ≡ data_records 1 one.template is.fields (before ++ read ∷ [])
    (record { at = at + length one.records; bytes = rest })
record-front templates one read before at rest is =
    let fields = is.fields in
    let bytes = record_bytes is.value fields in
    let values : Values =
    record { values = values_with is.value fields; rest = record { at = at + length bytes; bytes = rest } } in
    let long : length bytes ≡ least_length fields = length-fixed is.value fields is.fixed in
    let whole : least_length fields ≤ length (bytes ++ rest) = omega (arith, length-append bytes rest, long) in
    ap (λ b. data_records 1 one.template fields before (record { at = at; bytes = b ++ rest })) is.bytes
    ∙ data_records-next 1 one.template fields before (record { at = at; bytes = bytes ++ rest }) values is.some whole
    (values_of-with (BadLength at) is.value fields at [] rest is.fixed)
    ∙ (λ i. data_records 1 one.template fields (before ++ sym is.gives i ∷ [])
    (record { at = at + length (sym is.bytes i); bytes = rest }))

-- the same under a template of the same number
record-under : (templates : Templates) (number : ℕ) (fields : List FieldSpec) (one : RecordSet) (read : DataRecord)
    (before : List DataRecord) (at : ℕ) (rest : List ℕ)
    → IsReadAs templates one read → one.template ≡ number → fields_in templates 1 number ≡ Some fields
    → data_records 1 number fields before (record { at = at; bytes = one.records ++ rest })
    ≡ data_records 1 number fields (before ++ read ∷ []) (record { at = at + length one.records; bytes = rest })
record-under templates number fields one read before at rest is number_is known =
    let same : is.fields ≡ fields = same_some is.fields fields
    (sym is.known ∙ ap (fields_in templates 1) number_is ∙ known) in
    (λ i. data_records 1 (sym number_is i) (sym same i) before (record { at = at; bytes = one.records ++ rest }))
    ∙ record-front templates one read before at rest is
    ∙ (λ i. data_records 1 (number_is i) (same i) (before ++ read ∷ [])
    (record { at = at + length one.records; bytes = rest }))

-- all are of one template
abbrev pub AllOf : {A : Type 0} → (A → RecordSet) → ℕ → List A → Type 0
AllOf encode number [] = Unit {0}
AllOf encode number (x ∷ xs) = ((encode x).template ≡ number) × AllOf encode number xs

-- all of a set
pub data_records-decoded : {A : Type 0} (templates : Templates) (encode : A → RecordSet) (read_as : A → DataRecord)
    (number : ℕ) (fields : List FieldSpec)
    (xs : List A) (before : List DataRecord) (at : ℕ)
    → ((x : A) → IsReadAs templates (encode x) (read_as x)) → fields_in templates 1 number ≡ Some fields
    → 0 < least_length fields → AllOf encode number xs
    → data_records 1 number fields before (record { at = at; bytes = records_in encode xs })
    ≡ Ok (before ++ map read_as xs)
data_records-decoded templates encode read_as number fields [] before at is known some all =
    data_records-end 1 number fields before (record { at = at; bytes = [] }) some some ∙ ap Ok (sym (append-nil before))
data_records-decoded templates encode read_as number fields (x ∷ xs) before at is known some all =
    record-under templates number fields (encode x) (read_as x) before at (records_in encode xs) (is x) all.0 known
    ∙ data_records-decoded templates encode read_as number fields xs (before ++ read_as x ∷ [])
    (at + length (encode x).records) is known some all.1
    ∙ ap Ok (append_assoc before (read_as x ∷ []) (map read_as xs))

-- neighbours of one template: the first of them, and the others
pub record Group (A : Type 0) : Type 0 where
  pub first : A
  pub others : List A

abbrev pub put : {A : Type 0} → (A → RecordSet) → A → List (Group A) → List (Group A)
put encode x [] = record { first = x; others = [] } ∷ []
put encode x (g ∷ groups) =
    if (encode x).template == (encode g.first).template then record { first = x; others = g.first ∷ g.others } ∷ groups
    else record { first = x; others = [] } ∷ (g ∷ groups)

abbrev pub groups_of : {A : Type 0} → (A → RecordSet) → List A → List (Group A)
groups_of encode [] = []
groups_of encode (x ∷ xs) = put encode x (groups_of encode xs)

-- the set of a group
abbrev pub set_of : {A : Type 0} → (A → RecordSet) → Group A → RecordSet
set_of encode g = record { template = (encode g.first).template; records = records_in encode (g.first ∷ g.others) }

put_before-groups : {A : Type 0} (encode : A → RecordSet) (x : A) (groups : List (Group A))
    → put_before (encode x).template (encode x).records (map (set_of encode) groups)
    ≡ map (set_of encode) (put encode x groups)
unfolding put_before
put_before-groups encode x [] = ap (λ bytes. record { template = (encode x).template; records = bytes } ∷ [])
    (sym (append-nil (encode x).records))
put_before-groups encode x (g ∷ groups) =
    let sets = map (set_of encode) groups in
    elim ((encode x).template == (encode g.first).template) as (λ b.
    (if b then record {
      template = (encode x).template;
      records =
          (encode x).records ++ records_in encode (g.first ∷ g.others);
    } ∷ sets
    else record { template = (encode x).template; records = (encode x).records } ∷ (set_of encode g ∷ sets))
    ≡ map (set_of encode) (if b then record { first = x; others = g.first ∷ g.others } ∷ groups
    else record { first = x; others = [] } ∷ (g ∷ groups))) [
      | true ↦ refl
      | false ↦ ap (λ bytes. record { template = (encode x).template; records = bytes } ∷ (set_of encode g ∷ sets))
          (sym (append-nil (encode x).records))
    ]

-- the sets of some records are those of their groups
pub sets_in-groups : {A : Type 0} (encode : A → RecordSet) (xs : List A)
    → sets_in encode xs ≡ map (set_of encode) (groups_of encode xs)
unfolding sets_in
sets_in-groups encode [] = refl
sets_in-groups encode (x ∷ xs) =
    ap (put_before (encode x).template (encode x).records) (sets_in-groups encode xs)
    ∙ put_before-groups encode x (groups_of encode xs)

-- each group is of one template
abbrev pub AreGroups : {A : Type 0} → (A → RecordSet) → List (Group A) → Type 0
AreGroups encode [] = Unit {0}
AreGroups encode (g ∷ groups) = AllOf encode (encode g.first).template g.others × AreGroups encode groups

put-cases : {A : Type 0} (encode : A → RecordSet) (x : A) (g : Group A) (groups : List (Group A)) (b : Bool)
    → ((encode x).template == (encode g.first).template) ≡ b → AllOf encode (encode g.first).template g.others
    → AreGroups encode groups
    → AreGroups encode (if b then record { first = x; others = g.first ∷ g.others } ∷ groups
    else record { first = x; others = [] } ∷ (g ∷ groups))
put-cases encode x g groups true test all more =
    let same : (encode g.first).template ≡ (encode x).template =
    sym (eqb-true (encode x).template (encode g.first).template test) in
    ((same, subst (λ n. AllOf encode n g.others) same all), more)
put-cases encode x g groups false test all more = (tt, (all, more))

put-groups : {A : Type 0} (encode : A → RecordSet) (x : A) (groups : List (Group A)) → AreGroups encode groups
    → AreGroups encode (put encode x groups)
put-groups encode x [] all = (tt, tt)
put-groups encode x (g ∷ groups) all = put-cases encode x g groups
    ((encode x).template == (encode g.first).template) refl all.0 all.1

pub groups_of-groups : {A : Type 0} (encode : A → RecordSet) (xs : List A) → AreGroups encode (groups_of encode xs)
groups_of-groups encode [] = tt
groups_of-groups encode (x ∷ xs) = put-groups encode x (groups_of encode xs) (groups_of-groups encode xs)

-- the members of all groups
abbrev pub members : {A : Type 0} → List (Group A) → List A
members [] = []
members (g ∷ groups) = (g.first ∷ g.others) ++ members groups

put-members : {A : Type 0} (encode : A → RecordSet) (x : A) (groups : List (Group A))
    → members (put encode x groups) ≡ x ∷ members groups
put-members encode x [] = refl
put-members encode x (g ∷ groups) =
    elim ((encode x).template == (encode g.first).template) as
    (λ b. members (if b then record { first = x; others = g.first ∷ g.others } ∷ groups
    else record { first = x; others = [] } ∷ (g ∷ groups)) ≡ x ∷ ((g.first ∷ g.others) ++ members groups))
    [ true ↦ refl | false ↦ refl ]

pub groups_of-members : {A : Type 0} (encode : A → RecordSet) (xs : List A) → members (groups_of encode xs) ≡ xs
groups_of-members encode [] = refl
groups_of-members encode (x ∷ xs) = put-members encode x (groups_of encode xs)
    ∙ ap (λ more. x ∷ more) (groups_of-members encode xs)
