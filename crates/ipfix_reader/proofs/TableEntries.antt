-- Looking up and putting in, seen without all but the fields.
use Rattle.std.proofs.Common.{◌≡◌, ℕ, Bool, true, false, cond, List, [], ◌∷◌, Option, None, Some, option_map, refl, ap}
use Rattle.std.proofs.Common.{◌∙◌}
use Rattle.std.specs.Option.{option_copied}
use Rattle.std.specs.Borrow.{Bor}
use Rattle.std.specs.Map.{lookup}
use Rattle.indexmap.specs.IndexMap.{insert_entry}
use Rattle.ipfix_reader.specs.declared.known.Known.{Known}
use Rattle.ipfix_reader.specs.Known.{fields_in, with_template, is_same}
use Rattle.ipfix_reader.specs.Tables.{entry_shown, templates_shown}

lookup-templates_shown : (test : ℕ × ℕ → Bool) (entries : List ((ℕ × ℕ) × Known))
    → option_map (λ (k : Known). k.template.fields) (lookup test entries) ≡ lookup test (templates_shown entries)
lookup-templates_shown test [] = refl
lookup-templates_shown test (e ∷ es) =
    elim (test e.0) as (λ b. option_map (λ (k : Known). k.template.fields) (cond b (Some e.1) (lookup test es))
    ≡ cond b (Some (e.1).template.fields) (lookup test (templates_shown es)))
    [ true ↦ refl | false ↦ lookup-templates_shown test es ]

insert_entry-templates_shown : (entries : List ((ℕ × ℕ) × Known)) (key : ℕ × ℕ) (k : Known)
    → templates_shown (insert_entry is_same entries key k)
    ≡ insert_entry is_same (templates_shown entries) key k.template.fields
insert_entry-templates_shown [] key k = refl
insert_entry-templates_shown (e ∷ es) key k =
    elim (is_same key e.0) as (λ b. templates_shown (cond b ((e.0, k) ∷ es) (e ∷ insert_entry is_same es key k))
    ≡ cond b ((e.0, k.template.fields) ∷ templates_shown es)
    (entry_shown e ∷ insert_entry is_same (templates_shown es) key k.template.fields))
    [ true ↦ refl | false ↦ ap (λ more. entry_shown e ∷ more) (insert_entry-templates_shown es key k) ]

copied_fields : (found : Option (Bor Known)) (r : Option Known) → option_copied found ≡ r
    → option_map (λ (k : Bor Known). k.now.template.fields) found ≡ option_map (λ (k : Known). k.template.fields) r
copied_fields None r is = ap (option_map (λ (k : Known). k.template.fields)) is
copied_fields (Some k) r is = ap (option_map (λ (k : Known). k.template.fields)) is

-- what is found in the table
pub fields_in-found : (entries : List ((ℕ × ℕ) × Known)) (domain number : ℕ) (found : Option (Bor Known))
    → option_copied found ≡ lookup (is_same (domain, number)) entries
    → option_map (λ (k : Bor Known). k.now.template.fields) found ≡ fields_in (templates_shown entries) domain number
unfolding fields_in
fields_in-found entries domain number found is =
    copied_fields found _ is ∙ lookup-templates_shown (is_same (domain, number)) entries

-- the table with one template more
pub with_template-shown : (entries after : List ((ℕ × ℕ) × Known)) (domain number : ℕ) (k : Known)
    → after ≡ insert_entry is_same entries (domain, number) k
    → templates_shown after ≡ with_template (templates_shown entries) domain number k.template.fields
unfolding with_template
with_template-shown entries after domain number k is =
    ap templates_shown is ∙ insert_entry-templates_shown entries (domain, number) k
