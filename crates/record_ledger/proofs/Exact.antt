-- What is gathered of fragments is one list, and goes by keys.
use Rattle.std.proofs.Common.{◌≡◌, ℕ, Bool, true, false, cond, inl, inr, List, [], ◌∷◌, reverse, refl, sym, ap, ◌∙◌}
use Rattle.std.proofs.Common.{subst, IsPermutation, filter}
use Rattle.std.specs.Ordering.{is_lt, is_eq, nat_cmp}
use Rattle.std.proofs.lemmas.Bool.{cases_Bool}
use Rattle.std.proofs.lemmas.List.{reverse-reverse}
use Rattle.std.proofs.lemmas.List.Sorted.{IsPermutation-refl, IsPermutation-sym, IsPermutation-trans}
use Rattle.flow_key.specs.declared.key.FlowKey.{FlowKey}
use Rattle.flow_key.specs.Key.{key_order}
use Rattle.flow_key.proofs.KeyOrder.{tied_keys, tied_second}
use Rattle.flow_parts.specs.declared.fragment.Fragment.{Fragment}
use Rattle.flow_parts.specs.declared.timeouts.Timeouts.{Timeouts}
use Rattle.record_ledger.specs.declared.record.FlowRecord.{FlowRecord}
use Rattle.record_ledger.specs.Gathered.{AllComeTo, AreJoined, IsGathered, parts_with}
use Rattle.record_ledger.specs.Laws.{GatheredIsOne, GatheredInAnyOrder, GatheredByKeys}
use Rattle.record_ledger.specs.Lawful.{parts_of, of_key, EachWithNext, HasReason}
use Rattle.record_ledger.specs.Order.{joining_order, written_order}
use Rattle.record_ledger.specs.Steps.{Rises}
use Rattle.record_ledger.proofs.Coming.{all_come_once}
use Rattle.record_ledger.proofs.Filtered.{IsPermutation-filter, kept_again, lost_again, same_sorted, one_sorted}
use Rattle.record_ledger.proofs.Filtered.{NotLess}
use Rattle.record_ledger.proofs.Gathered.{has_key, key_from_test}
use Rattle.record_ledger.proofs.Keyed.{part_of, tie_from_test, rises_of_map, rises_filter}
use Rattle.record_ledger.proofs.Placed.{sorted_from_rises}
use Rattle.record_ledger.proofs.Rising.{joining_total, joining_exact, joining_weak, written_weak, rises_from_sorted}
use Rattle.record_ledger.proofs.Unique.{part_order_total, same_records}

-- the fragments of a key are those of its records
pub parts_of_key : (key : FlowKey) (rs : List FlowRecord) → parts_with key (parts_of rs) ≡ parts_of (of_key key rs)
parts_of_key key [] = refl
parts_of_key key (r ∷ rs) = step (has_key key r) (parts_of_key key rs)
  where
    step : (b : Bool) → parts_with key (parts_of rs) ≡ parts_of (of_key key rs)
        → cond b (r.part ∷ parts_with key (parts_of rs)) (parts_with key (parts_of rs))
        ≡ parts_of (cond b (r ∷ of_key key rs) (of_key key rs))
    step true rest = ap (λ l. r.part ∷ l) rest
    step false rest = rest

module _ (limits : Timeouts) where
  lined_up : (parts wholes : List Fragment) (j : AreJoined limits parts wholes) → Rises (NotLess joining_total) j.line
  lined_up parts wholes j = rises_from_sorted (λ f g. is_lt (joining_order f g)) joining_weak j.line j.sorted

  -- fragments are joined in one way
  pub joined_same : (parts wholes others : List Fragment) → AreJoined limits parts wholes
      → AreJoined limits parts others
      → wholes ≡ others
  joined_same parts wholes others a b =
      let line : a.line ≡ b.line = one_sorted joining_total joining_exact a.line b.line
      (IsPermutation-trans a.line parts b.line (IsPermutation-sym parts a.line a.same) b.same)
      (lined_up parts wholes a) (lined_up parts others b) in
      sym (reverse-reverse wholes)
      ∙ ap reverse (all_come_once limits [] b.line (reverse wholes) (reverse others)
      (subst (λ l. AllComeTo limits [] l (reverse wholes)) line a.joined) b.joined)
      ∙ reverse-reverse others

  pub nothing_joined : AreJoined limits [] []
  nothing_joined = record {
    line = [];
    same = IsPermutation-refl [];
    sorted = sorted_from_rises (λ f g. is_lt (joining_order f g)) [] tt;
    joined = refl;
  }

  pub joined_of : (parts others wholes : List Fragment) → IsPermutation others parts → AreJoined limits parts wholes
      → AreJoined limits others wholes
  joined_of parts others wholes perm j = record {
    line = j.line;
    same = IsPermutation-trans others parts j.line perm j.same;
    sorted = j.sorted;
    joined = j.joined;
  }

written_parts : (rs : List FlowRecord) → Rises (λ (a b : FlowRecord). is_lt (written_order b a) ≡ false) rs
    → Rises (NotLess part_order_total) (parts_of rs)
written_parts rs up = rises_of_map part_of (NotLess part_order_total) rs up

pub gathered_is_one : GatheredIsOne
gathered_is_one limits clock parts A B a b =
    same_records limits clock A B
    (same_sorted part_order_total (λ (f g : Fragment). is_eq (key_order f.key g.key))
    (λ f g e. ap is_eq (tied_second (nat_cmp f.last g.last) (key_order f.key g.key) e)) (parts_of A) (parts_of B)
    (written_parts A (rises_from_sorted (λ (r s : FlowRecord). is_lt (written_order r s)) written_weak A a.ordered))
    (written_parts B (rises_from_sorted (λ (r s : FlowRecord). is_lt (written_order r s)) written_weak B b.ordered))
    (λ z. parts_of_key z.key A
    ∙ joined_same limits (parts_with z.key parts) (parts_of (of_key z.key A)) (parts_of (of_key z.key B))
    (a.joined z.key) (b.joined z.key) ∙ sym (parts_of_key z.key B)))
    a.reasons b.reasons

pub gathered_in_any_order : GatheredInAnyOrder
gathered_in_any_order limits clock parts others records perm g = record {
  ordered = g.ordered;
  joined = λ key. joined_of limits (parts_with key parts) (parts_with key others) (parts_of (of_key key records))
      (IsPermutation-filter (λ f. is_eq (key_order f.key key)) others parts (IsPermutation-sym parts others perm))
      (g.joined key);
  reasons = g.reasons;
}

module _ (limits : Timeouts) (clock : ℕ) (chosen : FlowKey → Bool) (parts : List Fragment) (records : List FlowRecord)
    (g : IsGathered limits clock parts records) where
  abbrev Chosen : Fragment → Bool
  Chosen f = chosen f.key

  abbrev ChosenOf : FlowRecord → Bool
  ChosenOf r = chosen r.part.key

  is_key : (key : FlowKey) (f : Fragment) → is_eq (key_order f.key key) ≡ true → f.key ≡ key
  is_key key f e = tied_keys f.key key (tie_from_test (key_order f.key key) e)

  chosen_gathered : IsGathered limits clock (filter Chosen parts) (filter ChosenOf records)
  chosen_gathered = record {
    ordered = sorted_from_rises (λ (r s : FlowRecord). is_lt (written_order r s)) (filter ChosenOf records)
        (rises_filter ChosenOf (λ (r s : FlowRecord). is_lt (written_order s r) ≡ false)
        (λ (r s : FlowRecord). is_lt (written_order s r) ≡ false) (λ r s a b h. h) records
        (rises_from_sorted (λ (r s : FlowRecord). is_lt (written_order r s)) written_weak records g.ordered));
    joined = λ key. elim (cases_Bool (chosen key)) [
      | inl on ↦ subst (λ F. AreJoined limits F (parts_of (of_key key (filter ChosenOf records))))
          (sym (kept_again Chosen (λ f. is_eq (key_order f.key key)) (λ f e. ap chosen (is_key key f e) ∙ on) parts))
          (subst (λ l. AreJoined limits (parts_with key parts) (parts_of l))
          (sym (kept_again ChosenOf (has_key key) (λ r e. ap chosen (key_from_test key r e) ∙ on) records))
          (g.joined key))
      | inr off ↦ subst (λ F. AreJoined limits F (parts_of (of_key key (filter ChosenOf records))))
          (sym (lost_again Chosen (λ f. is_eq (key_order f.key key)) (λ f e. ap chosen (is_key key f e) ∙ off) parts))
          (subst (λ l. AreJoined limits [] (parts_of l))
          (sym (lost_again ChosenOf (has_key key) (λ r e. ap chosen (key_from_test key r e) ∙ off) records))
          (nothing_joined limits))
    ];
    reasons = λ key. elim (cases_Bool (chosen key)) [
      | inl on ↦ subst (EachWithNext (HasReason limits clock))
          (sym (kept_again ChosenOf (has_key key) (λ r e. ap chosen (key_from_test key r e) ∙ on) records))
          (g.reasons key)
      | inr off ↦ subst (EachWithNext (HasReason limits clock))
          (sym (lost_again ChosenOf (has_key key) (λ r e. ap chosen (key_from_test key r e) ∙ off) records)) tt
    ];
  }

pub gathered_by_keys : GatheredByKeys
gathered_by_keys limits clock chosen parts records some g = (
  λ h. gathered_is_one limits clock (filter (λ (f : Fragment). chosen f.key) parts) some
      (filter (λ (r : FlowRecord). chosen r.part.key) records) h (chosen_gathered limits clock chosen parts records g),
  λ e. subst (IsGathered limits clock (filter (λ (f : Fragment). chosen f.key) parts)) (sym e)
      (chosen_gathered limits clock chosen parts records g),
)
