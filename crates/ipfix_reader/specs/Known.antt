-- What is known of each observation domain: finite maps, as lists of their entries.
use Rattle.std.specs.Prelude.{ℕ, ◌==◌, ◌&&◌, Bool, List, Option}
use Rattle.std.specs.Map.{lookup}
use Rattle.indexmap.specs.IndexMap.{insert_entry}
use Rattle.ipfix_model.specs.declared.fields.FieldSpec.{FieldSpec}

-- The fields of the known templates, by observation domain and template number.
abbrev pub Templates : Type 0
Templates = List ((ℕ × ℕ) × List FieldSpec)

-- The same domain and the same number.
abbrev pub is_same : ℕ × ℕ → ℕ × ℕ → Bool
is_same one other = (one.0 == other.0) && (one.1 == other.1)

-- The fields of a domain's template, where it is known.
unfoldable pub fields_in : Templates → ℕ → ℕ → Option (List FieldSpec)
fields_in templates domain number = lookup (is_same (domain, number)) templates

-- One more known template. It takes the place of an earlier one with its number in its domain.
unfoldable pub with_template : Templates → ℕ → ℕ → List FieldSpec → Templates
with_template templates domain number fields = insert_entry is_same templates (domain, number) fields

-- The expected sequence number of each domain that had a message.
abbrev pub Sequences : Type 0
Sequences = List (ℕ × ℕ)

-- The sequence number that a domain's next message is to have, where it had a message.
unfoldable pub expected_in : Sequences → ℕ → Option ℕ
expected_in sequences domain = lookup (λ other. domain == other) sequences

-- The expected number of a domain from here on.
unfoldable pub with_expected : Sequences → ℕ → ℕ → Sequences
with_expected sequences domain number = insert_entry (λ one other. one == other) sequences domain number
