-- A key is known by its fields, and each six numbers that fit are those of one.
use Rattle.std.proofs.Common.{◌≡◌, Option, Some, None, refl, ap, sym, ◌∙◌, subst}
use Rattle.flow_key.specs.declared.key.FlowKey.{FlowKey}
use Rattle.flow_key.specs.Fields.{KeyFields, fields_of, AreFit, IsKeyOf}
use Rattle.flow_key.specs.KeyWith.{fit_or_not, key_where, key_with}
use Rattle.flow_key.proofs.KeyWords.{key_same}

-- keys with the same fields are one key
pub same_fields : (one other : FlowKey) → fields_of one ≡ fields_of other → one ≡ other
same_fields one other e =
    key_same one other (ap (λ f. f.version) e) (ap (λ f. f.source) e) (ap (λ f. f.destination) e)
    (ap (λ f. f.protocol) e) (ap (λ f. f.source_port) e) (ap (λ f. f.destination_port) e)

-- the fields of a key fit
pub fields_fit : (key : FlowKey) → AreFit (fields_of key)
fields_fit key = record { known = key.known; narrow = key.narrow; sized = key.sized }

-- the function gives the answer that the fields have
key_where-is : (fields : KeyFields) (decided : Dec (AreFit fields)) → IsKeyOf fields (key_where fields decided)
unfolding key_where
key_where-is fields (yes fit) = refl
key_where-is fields (no unfit) = unfit

pub key_with-is : (fields : KeyFields) → IsKeyOf fields (key_with fields)
unfolding key_with
key_with-is fields = key_where-is fields (fit_or_not fields)

-- there is one such answer
pub one_answer : (fields : KeyFields) (one other : Option FlowKey) → IsKeyOf fields one → IsKeyOf fields other
    → one ≡ other
one_answer fields None None p q = refl
one_answer fields None (Some key) p q = absurd (p (subst AreFit q (fields_fit key)))
one_answer fields (Some key) None p q = absurd (q (subst AreFit p (fields_fit key)))
one_answer fields (Some one) (Some other) p q = ap Some (same_fields one other (p ∙ sym q))

-- fields that a key has are that key's
pub key_with-key : (key : FlowKey) → key_with (fields_of key) ≡ Some key
key_with-key key = one_answer (fields_of key) (key_with (fields_of key)) (Some key) (key_with-is (fields_of key)) refl

-- and those that don't fit are none's
pub key_with-none : (fields : KeyFields) → (AreFit fields → ⊥) → key_with fields ≡ None
key_with-none fields unfit = one_answer fields (key_with fields) None (key_with-is fields) unfit
