-- The fields of a template record, one specifier at a time.
use Rattle.std.proofs.Common.{◌≡◌, ◌+◌, ◌<◌, ◌≤◌, ℕ, suc, List, [], ◌∷◌, ◌++◌, length, Err, refl, ap, ◌∙◌, arith}
use Rattle.std.proofs.Common.{length-append}
use Rattle.std.proofs.lemmas.Bool.{le-ltb, lt-ltb}
use Rattle.ipfix_model.specs.declared.fields.FieldSpec.{FieldSpec}
use Rattle.ipfix_reader.specs.declared.fault.StreamFault.{StreamFault}
use Rattle.ipfix_reader.specs.Part.{Part, behind}
use Rattle.ipfix_reader.specs.Specifiers.{field_of, specifier_length, fields_of}

-- a specifier that fits, and the ones behind it
pub fields_of-next : (beyond : StreamFault) (left more : ℕ) (before after : List FieldSpec) (part rest : Part)
    (field : FieldSpec) (size : ℕ)
    → left ≡ suc more → field ≡ field_of part.bytes → size ≡ specifier_length part.bytes → size ≤ length part.bytes
    → after ≡ before ++ field ∷ [] → rest ≡ behind size part
    → fields_of beyond left before part ≡ fields_of beyond more after rest
fields_of-next beyond left more before after part rest field size count_is field_is size_is fits after_is rest_is =
    let inside : specifier_length part.bytes ≤ length part.bytes = omega arith in
    rw (
      count_is,
      after_is,
      rest_is,
      field_is,
      size_is,
      le-ltb (length part.bytes)
          (specifier_length part.bytes) inside,
    ) refl

-- a specifier that doesn't fit
pub fields_of-beyond : (beyond : StreamFault) (left more : ℕ) (before : List FieldSpec) (part : Part)
    → left ≡ suc more → length part.bytes < specifier_length part.bytes → fields_of beyond left before part ≡ Err beyond
fields_of-beyond beyond left more before part count_is cut =
    rw (count_is, lt-ltb (length part.bytes) (specifier_length part.bytes) cut) refl

-- a list with one item more
pub one_longer : {X : Type 0} (before after : List X) (x : X) (n : ℕ) → after ≡ before ++ x ∷ [] → length before ≡ n
    → length after ≡ n + 1
one_longer before after x n is long = ap length is ∙ length-append before (x ∷ []) ∙ ap (λ k. k + 1) long
