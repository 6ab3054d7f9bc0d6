-- The values of fields.
use Rattle.std.proofs.Common.{◌≡◌, ◌≤◌, ◌&&◌, ◌==◌, suc, Bool, true, false, List, [], ◌∷◌, length, IsTrue, nat_le, refl}
use Rattle.std.proofs.Common.{ap, arith, eqb-true}
use Rattle.std.specs.List.{list_all}
use Rattle.std.proofs.lemmas.Bool.{leb-true}
use Rattle.std.proofs.lemmas.List.Elements.{All-cons}
use Rattle.ipfix_model.specs.declared.fields.FieldSpec.{FieldSpec}
use Rattle.ipfix_model.specs.declared.values.FieldValue.{FieldValue}
use Rattle.ipfix_model.specs.Values.{is_of_element, is_value_of, are_values_of, AreNumbers}

-- values that are fewer or more than the fields are of others
pub are_values_of-unequal : (fields : List FieldSpec) (values : List FieldValue) → (length fields ≡ length values → ⊥)
    → are_values_of fields values ≡ false
are_values_of-unequal [] [] unequal = absurd (unequal refl)
are_values_of-unequal [] (value ∷ values) unequal = refl
are_values_of-unequal (field ∷ fields) [] unequal = refl
are_values_of-unequal (field ∷ fields) (value ∷ values) unequal =
    let rest = are_values_of-unequal fields values (λ is. unequal (ap suc is)) in
    elim (is_value_of field value) as (λ b. (b && are_values_of fields values) ≡ false) [ true ↦ rest | false ↦ refl ]

differ : false ≡ true → ⊥
differ is = cc

-- both of two tests that hold together
both_true : (a b : Bool) → (a && b) ≡ true → (a ≡ true) × (b ≡ true)
both_true true b is = (refl, is)
both_true false b is = absurd (differ is)

-- fields of one to sixteen octets have values that are numbers
pub are_numbers : (fields : List FieldSpec) (values : List FieldValue)
    → IsTrue (list_all (λ (field : FieldSpec). nat_le 1 field.length && nat_le field.length 16) fields)
    → are_values_of fields values ≡ true → AreNumbers values
are_numbers [] [] short are = λ k d below. absurd (omega arith)
are_numbers [] (value ∷ values) short are = absurd (differ are)
are_numbers (field ∷ fields) [] short are = absurd (differ are)
are_numbers (field ∷ fields) (value ∷ values) short are =
    let lengths = both_true (nat_le 1 field.length && nat_le field.length 16) _ short in
    let range = both_true (nat_le 1 field.length) (nat_le field.length 16) lengths.0 in
    let tests = both_true (is_value_of field value) (are_values_of fields values) are in
    let own = both_true (is_of_element field.enterprise field.element value)
    (length value.value == field.length) tests.0 in
    let size : length value.value ≡ field.length = eqb-true (length value.value) field.length own.1 in
    let low = leb-true 1 field.length range.0 in
    let high = leb-true field.length 16 range.1 in
    All-cons (λ (v : FieldValue). (1 ≤ length v.value) × (length v.value ≤ 16)) value values (omega arith, omega arith)
    (are_numbers fields values lengths.1 tests.1)
