-- Fields are compared by `==`.
use Rattle.std.proofs.Common.{◌≡◌, ◌&&◌, ℕ, false, true, Option, None, Some, refl, sym, ap, ◌∙◌, eqb, eq-eqb, eqb-true}
use Rattle.std.proofs.Common.{Decides}
use Rattle.std.specs.Option.{option_eq}
use Rattle.std.proofs.lemmas.Bool.{false≢true}
use Rattle.std.proofs.lemmas.Bool.Decides.{Decides-and, Decides-eqb, Decides-like, not_from_Decides}
use Rattle.std.proofs.lemmas.Slice.Eq.{slice_eq-Decides}
use Rattle.ipfix_model.specs.declared.fields.FieldSpec.{FieldSpec}
use Rattle.ipfix_reader.proofs.flow_template.FlowTemplate.of.Goals as goal

same_number : (a b : ℕ) → Some a ≡ Some b → a ≡ b
same_number a b is = cc

none_some : (a : ℕ) → ◌≡◌ {A = Option ℕ} None (Some a) → false ≡ true
none_some a is = cc

some_none : (a : ℕ) → ◌≡◌ {A = Option ℕ} (Some a) None → false ≡ true
some_none a is = cc

enterprise-decided : (a b : Option ℕ) → Decides (option_eq eqb a b) (a ≡ b)
enterprise-decided None None = (λ is. refl, λ is. refl)
enterprise-decided None (Some b) = (λ is. absurd (false≢true is), none_some b)
enterprise-decided (Some a) None = (λ is. absurd (false≢true is), some_none a)
enterprise-decided (Some a) (Some b) = (λ is. ap Some (eqb-true a b is), λ is. eq-eqb a b (same_number a b is))

field-decided : (a b : FieldSpec)
    → Decides (eqb a.element b.element && (eqb a.length b.length && option_eq eqb a.enterprise b.enterprise)) (a ≡ b)
field-decided a b =
    let all : Decides (eqb a.element b.element && (eqb a.length b.length && option_eq eqb a.enterprise b.enterprise))
    ((a.element ≡ b.element) × ((a.length ≡ b.length) × (a.enterprise ≡ b.enterprise))) =
    Decides-and _ _ (Decides-eqb a.element b.element)
    (Decides-and _ _ (Decides-eqb a.length b.length) (enterprise-decided a.enterprise b.enterprise)) in
    Decides-like _ (λ is i. record { element = is.0 i; length = (is.1).0 i; enterprise = (is.1).1 i })
    (λ is. (
      ap (λ (f : FieldSpec). f.element) is,
      (ap (λ (f : FieldSpec). f.length) is, ap (λ (f : FieldSpec). f.enterprise) is),
    )) all

pub returns-then-eq : goal.returns-then-eq
returns-then-eq c = (slice_eq-Decides field-decided _ _ _ c.eq.ensures).0 c.if-eq.true ∙ c.as_slice.ensures

pub returns-then-eq-2 : goal.returns-then-eq-2
returns-then-eq-2 c =
    (slice_eq-Decides field-decided _ _ _ c.eq-else-eq.ensures).0 c.if-eq-2.true ∙ c.as_slice-else-eq.ensures

pub returns-else-eq-2 : goal.returns-else-eq-2
returns-else-eq-2 c = (
  λ is. not_from_Decides _ (slice_eq-Decides field-decided _ _ _ c.eq.ensures) c.if-eq.false
      (is ∙ sym c.as_slice.ensures),
  λ is. not_from_Decides _ (slice_eq-Decides field-decided _ _ _ c.eq-else-eq.ensures) c.if-eq-2.false
      (is ∙ sym c.as_slice-else-eq.ensures),
)
