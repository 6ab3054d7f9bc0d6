-- What becomes of fragments when others come to them, and what of those of one key.
use Rattle.std.proofs.Common.{◌≡◌, ℕ, Bool, true, false, cond, inl, inr, List, [], ◌∷◌, length, refl, sym, ap, ◌∙◌}
use Rattle.std.proofs.Common.{subst}
use Rattle.std.proofs.Common.{reverse, arith, get_or, take, zero, suc, ◌-◌, ◌<◌, ◌≤◌, ◌++◌, add-one, All}
use Rattle.std.specs.Ordering.{is_lt, is_eq}
use Rattle.std.specs.declared.cmp.Ordering.TheVariants.{Less}
use Rattle.std.proofs.lemmas.Bool.{cases_Bool}
use Rattle.std.proofs.lemmas.List.{reverse-append, take_more}
use Rattle.std.proofs.lemmas.List.Elements.{All-cons, All-nil, All-head, All-tail, All-weaker}
use Rattle.flow_key.specs.declared.key.FlowKey.{FlowKey}
use Rattle.flow_key.specs.Key.{key_order}
use Rattle.flow_key.proofs.KeyOrder.{key_order_total, tied_keys}
use Rattle.flow_parts.specs.declared.fragment.Fragment.{Fragment}
use Rattle.flow_parts.specs.declared.timeouts.Timeouts.{Timeouts}
use Rattle.flow_parts.specs.Joining.{IsJoinable}
use Rattle.flow_parts.specs.Parts.{IsJoined}
use Rattle.flow_parts.proofs.PartWords.{part_same}
use Rattle.record_ledger.specs.Gathered.{ComesTo, AllComeTo, AreJoined, parts_with}
use Rattle.record_ledger.specs.Order.{joining_order}
use Rattle.record_ledger.specs.Steps.{Rises}
use Rattle.record_ledger.proofs.Filtered.{IsPermutation-filter, filter_reverse, kept_none}
use Rattle.record_ledger.proofs.Gathered.{not_true}
use Rattle.record_ledger.proofs.Keyed.{tie_from_test, first_not_less, less_otherwise, tie_flips, rises_filter}
use Rattle.record_ledger.proofs.Keyed.{rises_weaker}
use Rattle.record_ledger.proofs.Placed.{sorted_from_rises}
use Rattle.record_ledger.proofs.Rising.{keys_tie, rises_from_sorted, joining_weak}

joined_once : (one other v w : Fragment) → IsJoined one other v → IsJoined one other w → v ≡ w
joined_once one other v w a b = part_same v w (a.key ∙ sym b.key) (a.packets ∙ sym b.packets) (a.octets ∙ sym b.octets)
    (a.first ∙ sym b.first) (a.last ∙ sym b.last) (a.flags ∙ sym b.flags)

module _ (limits : Timeouts) where
  comes_once : (S : List Fragment) (f : Fragment) (A B : List Fragment) → ComesTo limits S f A → ComesTo limits S f B
      → A ≡ B
  comes_once [] f A B a b = a ∙ sym b
  comes_once (t ∷ S) f A B (inl a) (inl b) = a.1 ∙ sym b.1
  comes_once (t ∷ S) f A B (inl a) (inr b) = absurd (a.0 b.1)
  comes_once (t ∷ S) f A B (inr a) (inl b) = absurd (b.0 a.1)
  comes_once (t ∷ S) f A B (inr a) (inr b) = comes_once S b.0 A B
      (subst (λ w. ComesTo limits S w A) (joined_once t f a.0 b.0 a.2 b.2) a.3) b.3

  -- one thing becomes of them
  pub all_come_once : (S L A B : List Fragment) → AllComeTo limits S L A → AllComeTo limits S L B → A ≡ B
  all_come_once S [] A B a b = a ∙ sym b
  all_come_once S (f ∷ L) A B a b = all_come_once b.0 L A B
      (subst (λ n. AllComeTo limits n L A) (comes_once S f a.0 b.0 a.1 b.1) a.2) b.2

  -- the latest of some is joined with the one that comes
  pub comes_joined : (S T : List Fragment) (top whole new : Fragment) (after : List Fragment) → S ≡ T ++ top ∷ []
      → IsJoinable limits top whole → IsJoined top whole new → ComesTo limits (reverse T) new after
      → ComesTo limits (reverse S) whole after
  comes_joined S T top whole new after e j w k = subst (λ l. ComesTo limits l whole after)
      (sym (ap reverse e ∙ reverse-append T (top ∷ []))) (inr (new, j, w, k))

  -- it stands behind the first n, of which the latest isn't joinable with it
  pub stands_behind : (F : List Fragment) (n : ℕ) (whole : Fragment) → n ≤ length F
      → ((d : Fragment) → 0 < n → ¬ IsJoinable limits (get_or F (n - 1) d) whole)
      → ComesTo limits (reverse (take n F)) whole (whole ∷ reverse (take n F))
  stands_behind F zero whole le apart = refl
  stands_behind F (suc n) whole le apart =
      let at : suc n - 1 ≡ n = omega arith in
      let last : reverse (take (suc n) F) ≡ get_or F n whole ∷ reverse (take n F) =
      ap reverse (ap (λ m. take m F) (sym (add-one n)) ∙ take_more F n whole (omega arith))
      ∙ reverse-append (take n F) (get_or F n whole ∷ []) in
      subst (λ l. ComesTo limits l whole (whole ∷ l)) (sym last)
      (inl (subst (λ m. ¬ IsJoinable limits (get_or F m whole) whole) at (apart whole (omega arith)), refl))

  -- each key of what becomes of them is one of theirs
  comes_with : (P : FlowKey → Type 0) (S : List Fragment) (f : Fragment) (A : List Fragment)
      → All (λ (g : Fragment). P g.key) S → P f.key → ComesTo limits S f A → All (λ (g : Fragment). P g.key) A
  comes_with P [] f A h k a = subst (All (λ (g : Fragment). P g.key)) (sym a)
      (All-cons (λ (g : Fragment). P g.key) f [] k h)
  comes_with P (t ∷ S) f A h k (inl a) = subst (All (λ (g : Fragment). P g.key)) (sym a.1)
      (All-cons (λ (g : Fragment). P g.key) f (t ∷ S) k h)
  comes_with P (t ∷ S) f A h k (inr a) = comes_with P S a.0 A (All-tail (λ (g : Fragment). P g.key) t S h)
      (subst P (sym a.2.key) (All-head (λ (g : Fragment). P g.key) t S h)) a.3

  -- the key of the first isn't below that of the other
  abbrev pub Down : Fragment → Fragment → Type 0
  Down f g = is_lt (key_order f.key g.key) ≡ false

  as_low : (f w : Fragment) (S : List Fragment) → w.key ≡ f.key → All (Down f) S → All (Down w) S
  as_low f w S e h = subst (λ k. All (λ (g : Fragment). is_lt (key_order k g.key) ≡ false) S) (sym e) h

  comes_down : (S : List Fragment) (f : Fragment) (A : List Fragment) → All (Down f) S → Rises Down S
      → ComesTo limits S f A → Rises Down A
  comes_down [] f A h k a = subst (Rises Down) (sym a) (h, k)
  comes_down (t ∷ S) f A h k (inl a) = subst (Rises Down) (sym a.1) (h, k)
  comes_down (t ∷ S) f A h k (inr a) = comes_down S a.0 A (as_low t a.0 S a.2.key k.0) k.1 a.3

  module _ (key : FlowKey) where
    abbrev Has : Fragment → Bool
    Has f = is_eq (key_order f.key key)

    has : (f : Fragment) → f.key ≡ key → Has f ≡ true
    has f e = ap is_eq (keys_tie f.key key e)

    is_key : (f : Fragment) → Has f ≡ true → f.key ≡ key
    is_key f e = tied_keys f.key key (tie_from_test (key_order f.key key) e)

    alike : (f g : Fragment) → f.key ≡ g.key → Has f ≡ Has g
    alike f g e = ap (λ k. is_eq (key_order k key)) e

    kept : (f : Fragment) (S : List Fragment) (b : Bool) → Has f ≡ b
        → parts_with key (f ∷ S) ≡ cond b (f ∷ parts_with key S) (parts_with key S)
    kept f S b e = ap (λ b. cond b (f ∷ parts_with key S) (parts_with key S)) e

    -- a fragment of another key changes nothing
    comes_beside : (S : List Fragment) (f : Fragment) (A : List Fragment) → Has f ≡ false → ComesTo limits S f A
        → parts_with key A ≡ parts_with key S
    comes_beside [] f A e a = ap (parts_with key) a ∙ kept f [] false e
    comes_beside (t ∷ S) f A e (inl a) = ap (parts_with key) a.1 ∙ kept f (t ∷ S) false e
    comes_beside (t ∷ S) f A e (inr a) = comes_beside S a.0 A (alike a.0 t a.2.key ∙ alike t f a.1.one_key ∙ e) a.3
        ∙ sym (kept t S false (alike t f a.1.one_key ∙ e))

    -- below another key there are none of this
    none_below : (t : Fragment) (S : List Fragment) (f : Fragment) → f.key ≡ key → Down f t → All (Down t) S
        → Has t ≡ false → parts_with key (t ∷ S) ≡ []
    none_below t S f e d h n =
        let less : key_order t.key f.key ≡ Less =
        less_otherwise key_order_total t.key f.key (key_order f.key t.key) refl d
        (tie_flips key_order_total f.key t.key ∙ ap (λ k. is_eq (key_order t.key k)) e ∙ n) in
        kept t S false n ∙ kept_none Has S (All-weaker (Down t) (λ g. Has g ≡ false)
        (λ g low. not_true (Has g) (λ is. (let never : true ≡ false = sym (ap is_lt less)
        ∙ ap (λ k. is_lt (key_order t.key k)) (e ∙ sym (is_key g is)) ∙ low in cc))) S h)

    -- a fragment of the key comes to those of the key
    comes_among : (S : List Fragment) (f : Fragment) (A : List Fragment) → All (Down f) S → Rises Down S
        → Has f ≡ true → ComesTo limits S f A → ComesTo limits (parts_with key S) f (parts_with key A)
    comes_among [] f A h k e a = ap (parts_with key) a ∙ kept f [] true e
    comes_among (t ∷ S) f A h k e (inl a) =
        let whole : parts_with key A ≡ f ∷ parts_with key (t ∷ S) = ap (parts_with key) a.1 ∙ kept f (t ∷ S) true e in
        elim (cases_Bool (Has t)) [
          | inl is ↦ subst (λ l. ComesTo limits l f (parts_with key A)) (sym (kept t S true is))
              (inl (a.0, whole ∙ ap (λ l. f ∷ l) (kept t S true is)))
          | inr not ↦ (let none = none_below t S f (is_key f e) (All-head (Down f) t S h) k.0 not in
              subst (λ l. ComesTo limits l f (parts_with key A)) (sym none) (whole ∙ ap (λ l. f ∷ l) none))
        ]
    comes_among (t ∷ S) f A h k e (inr a) =
        let is : Has t ≡ true = alike t f a.1.one_key ∙ e in
        subst (λ l. ComesTo limits l f (parts_with key A)) (sym (kept t S true is))
        (inr (a.0, a.1, a.2, comes_among S a.0 A (as_low t a.0 S a.2.key k.0) k.1 (alike a.0 t a.2.key ∙ is) a.3))

    -- what becomes of those of the key, where all come in the order of their keys
    pub all_come_among : (L S A : List Fragment) → Rises Down S → Rises (λ f g. Down g f) L
        → All (λ f. All (Down f) S) L → AllComeTo limits S L A
        → AllComeTo limits (parts_with key S) (parts_with key L) (parts_with key A)
    all_come_among [] S A k up above a = ap (parts_with key) a
    all_come_among (f ∷ L) S A k up above a =
        let low : All (Down f) S = All-head (λ f. All (Down f) S) f L above in
        let rest : AllComeTo limits (parts_with key a.0) (parts_with key L) (parts_with key A) =
        all_come_among L a.0 A (comes_down S f a.0 low k a.1) up.1
        (λ i d l. comes_with (λ k. is_lt (key_order (get_or L i d).key k) ≡ false) S f a.0
        (All-tail (λ f. All (Down f) S) f L above i d l) (up.0 i d l) a.1) a.2 in
        elim (cases_Bool (Has f)) [
          | inl is ↦ subst (λ l. AllComeTo limits (parts_with key S) l (parts_with key A)) (sym (kept f L true is))
              (parts_with key a.0, comes_among S f a.0 low k is a.1, rest)
          | inr not ↦ subst (λ l. AllComeTo limits (parts_with key S) l (parts_with key A)) (sym (kept f L false not))
              (subst (λ l. AllComeTo limits l (parts_with key L) (parts_with key A))
              (comes_beside S f a.0 not a.1) rest)
        ]

  -- fragments are joined key by key
  pub joined_of_key : (parts wholes : List Fragment) (key : FlowKey) → AreJoined limits parts wholes
      → AreJoined limits (parts_with key parts) (parts_with key wholes)
  joined_of_key parts wholes key j =
      let up : Rises (λ f g. is_lt (joining_order g f) ≡ false) j.line =
      rises_from_sorted (λ f g. is_lt (joining_order f g)) joining_weak j.line j.sorted in
      record {
        line = parts_with key j.line;
        same = IsPermutation-filter (λ f. is_eq (key_order f.key key)) parts j.line j.same;
        sorted = sorted_from_rises (λ f g. is_lt (joining_order f g)) (parts_with key j.line)
            (rises_filter (λ f. is_eq (key_order f.key key)) (λ f g. is_lt (joining_order g f) ≡ false)
            (λ f g. is_lt (joining_order g f) ≡ false) (λ f g a b h. h) j.line up);
        joined = subst (AllComeTo limits [] (parts_with key j.line))
            (filter_reverse (λ f. is_eq (key_order f.key key)) wholes)
            (all_come_among key j.line [] (reverse wholes) tt
            (rises_weaker (λ f g. is_lt (joining_order g f) ≡ false) (λ f g. Down g f)
            (λ f g h. first_not_less (key_order g.key f.key) _ h) j.line up)
            (λ i f l. All-nil (Down (get_or j.line i f))) j.joined);
      }
