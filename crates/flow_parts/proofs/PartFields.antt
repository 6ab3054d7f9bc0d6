-- A fragment is known by its fields, and numbers that fit are those of one.
use Rattle.std.proofs.Common.{◌≡◌, Option, Some, None, refl, ap, sym, ◌∙◌, subst}
use Rattle.std.specs.Option.{option_and_then}
use Rattle.flow_key.specs.declared.key.FlowKey.{FlowKey}
use Rattle.flow_key.specs.Fields.{KeyFields, AreFit, IsKeyOf}
use Rattle.flow_key.specs.KeyWith.{key_with}
use Rattle.flow_key.proofs.KeyFields.{same_fields, fields_fit, key_with-is}
use Rattle.flow_parts.specs.declared.fragment.Fragment.{Fragment}
use Rattle.flow_parts.specs.Fields.{PartFields, part_fields, AreCounts, IsPartOf}
use Rattle.flow_parts.specs.PartWith.{counts_or_not, part_where, part_with}
use Rattle.flow_parts.proofs.PartWords.{part_same}

-- fragments with the same fields are one fragment
pub same_part_fields : (one other : Fragment) → part_fields one ≡ part_fields other → one ≡ other
same_part_fields one other e =
    part_same one other (same_fields one.key other.key (ap (λ f. f.key) e)) (ap (λ f. f.packets) e)
    (ap (λ f. f.octets) e)
    (ap (λ f. f.first) e) (ap (λ f. f.last) e) (ap (λ f. f.flags) e)

-- the fields of a fragment fit
pub part_fields_fit : (f : Fragment) → AreFit (part_fields f).key × AreCounts (part_fields f)
part_fields_fit f = (fields_fit f.key, record { counted = f.counted; spanned = f.spanned; sized = f.sized })

-- the function gives the answer that the fields have
part_where-is : (fields : PartFields) (answer : Option FlowKey) → IsKeyOf fields.key answer
    → (decided : Dec (AreCounts fields))
    → IsPartOf fields (option_and_then (part_where fields decided) answer)
unfolding part_where
part_where-is fields None unfit decided = λ fit. unfit fit.0
part_where-is fields (Some key) is (yes fit) = ap (λ (k : KeyFields). record fields { key = k }) is
part_where-is fields (Some key) is (no unfit) = λ fit. unfit fit.1

pub part_with-is : (fields : PartFields) → IsPartOf fields (part_with fields)
unfolding part_with
part_with-is fields = part_where-is fields (key_with fields.key) (key_with-is fields.key) (counts_or_not fields)

-- there is one such answer
pub one_part : (fields : PartFields) (one other : Option Fragment) → IsPartOf fields one → IsPartOf fields other
    → one ≡ other
one_part fields None None p q = refl
one_part fields None (Some f) p q = absurd (p (subst (λ x. AreFit x.key × AreCounts x) q (part_fields_fit f)))
one_part fields (Some f) None p q = absurd (q (subst (λ x. AreFit x.key × AreCounts x) p (part_fields_fit f)))
one_part fields (Some one) (Some other) p q = ap Some (same_part_fields one other (p ∙ sym q))

-- fields that a fragment has are that fragment's
pub part_with-part : (f : Fragment) → part_with (part_fields f) ≡ Some f
part_with-part f = one_part (part_fields f) (part_with (part_fields f)) (Some f) (part_with-is (part_fields f)) refl

-- and those that don't fit are none's
pub part_with-none : (fields : PartFields) → (AreFit fields.key × AreCounts fields → ⊥) → part_with fields ≡ None
part_with-none fields unfit = one_part fields (part_with fields) None (part_with-is fields) unfit
