-- The newest tag of the table is that of the list.
use Rattle.std.proofs.Common.{◌≡◌, ◌≢◌, ℕ, zero, suc, ◌+◌, ◌<◌, ◌≤◌, Bool, true, false, ◌&&◌, cond, List, [], ◌∷◌}
use Rattle.std.proofs.Common.{length, get_or, set, map, refl, sym, ap, ◌∙◌, arith, ltb, eqb}
use Rattle.std.specs.Prelude.{nat_lt}
use Rattle.std.specs.List.{range_with_len, list_all}
use Rattle.std.proofs.lemmas.Bool.{eq-eqb, ne_eqb}
use Rattle.std.proofs.lemmas.List.FromFn.{length-map-range_with_len, get_or-map-range_with_len}
use Rattle.pebr_core.specs.declared.kinds.Retired.{Retired}
use Rattle.pebr_core.specs.declared.kinds.Retired.TheVariants as retire
use Rattle.pebr_core.specs.State.{is_retired}
use Rattle.pebr_core.specs.Steps.{is_above_tags}
use Rattle.pebr_slots.specs.declared.tagged.TaggedSlot.{TaggedSlot}
use Rattle.pebr_slots.specs.Shown.{times, is_in, slots_of, retired_as, tagged_with}
use Rattle.pebr_slots.proofs.Listing.{times_cons, one_if, in_none}
use Rattle.pebr_slots.proofs.Tables.{table_set}
use Rattle.pebr_slots.proofs.Finding.{tag_of, tag_at, found_absent, if_true, if_false}
use Rattle.pebr_slots.proofs.Apart.{few_of, within}

-- the epoch is above all tags
abbrev pub above : List Retired → ℕ → Bool
above slots epoch = is_above_tags (map is_retired slots) slots epoch

and_swap : (a b : Bool) → (a && b) ≡ (b && a)
and_swap true true = refl
and_swap true false = refl
and_swap false true = refl
and_swap false false = refl

and_three : (a b c : Bool) → (a && (b && c)) ≡ ((a && b) && c)
and_three true b c = refl
and_three false b c = refl

-- one slot more with a tag
above_tagged : (slots : List Retired) (k tag epoch : ℕ) → k < length slots → get_or slots k retire.No ≡ retire.No
    → above (set slots k (retire.Tagged tag)) epoch ≡ (above slots epoch && ltb tag epoch)
above_tagged [] k tag epoch inside e = absurd (omega (arith, inside))
above_tagged (retire.No ∷ slots) zero tag epoch inside e = and_swap (ltb tag epoch) (above slots epoch)
above_tagged (retire.Untagged ∷ slots) zero tag epoch inside e = absurd cc
above_tagged (retire.Tagged other ∷ slots) zero tag epoch inside e = absurd cc
above_tagged (retire.No ∷ slots) (suc k) tag epoch inside e = above_tagged slots k tag epoch (omega (arith, inside)) e
above_tagged (retire.Untagged ∷ slots) (suc k) tag epoch inside e =
    above_tagged slots k tag epoch (omega (arith, inside)) e
above_tagged (retire.Tagged other ∷ slots) (suc k) tag epoch inside e =
    ap (λ b. ltb other epoch && b) (above_tagged slots k tag epoch (omega (arith, inside)) e)
    ∙ and_three (ltb other epoch) (above slots epoch) (ltb tag epoch)

above_plain : (b : Bool) (slots : List Retired) (epoch : ℕ)
    → above (cond b retire.Untagged retire.No ∷ slots) epoch ≡ above slots epoch
above_plain true slots epoch = refl
above_plain false slots epoch = refl

above_none : (untagged xs : List ℕ) (epoch : ℕ) → above (map (retired_as untagged []) xs) epoch ≡ true
above_none untagged [] epoch = refl
above_none untagged (x ∷ xs) epoch = above_plain (is_in x untagged) (map (retired_as untagged []) xs) epoch
    ∙ above_none untagged xs epoch

pub above_table : (epoch slots : ℕ) (untagged : List ℕ) (tagged : List TaggedSlot)
    → ((slot : ℕ) → times slot untagged + times slot (slots_of tagged) ≤ cond (nat_lt slot slots) 1 0)
    → above (map (retired_as untagged tagged) (range_with_len 0 slots)) epoch
    ≡ list_all (λ (entry : TaggedSlot). nat_lt entry.tag epoch) tagged
above_table epoch slots untagged [] once = above_none untagged (range_with_len 0 slots) epoch
above_table epoch slots untagged (e ∷ es) once =
    ap (λ l. above l epoch)
    (table_set (retired_as untagged es) (retired_as untagged (e ∷ es)) slots e.slot (retire.Tagged e.tag) here else)
    ∙ (above_tagged table e.slot e.tag epoch
    (let l = length-map-range_with_len (retired_as untagged es) 0 slots in omega (arith, l, low))
    (get_or-map-range_with_len (retired_as untagged es) 0 slots e.slot e.slot retire.No low (omega arith)
    ∙ (if_false retire.Untagged (tag_at es e.slot) out
    ∙ found_absent tag_of retire.No es e.slot (let c = count in omega (arith, c))))
    ∙ (ap (λ b. b && ltb e.tag epoch)
    (above_table epoch slots untagged es (λ slot. let h = once slot in let c = times_cons slot e.slot (slots_of es) in
    omega (arith, h, c)))
    ∙ and_swap (list_all (λ (entry : TaggedSlot). nat_lt entry.tag epoch) es) (ltb e.tag epoch)))
  where
    table : List Retired
    table = map (retired_as untagged es) (range_with_len 0 slots)

    same : eqb e.slot e.slot ≡ true
    same = eq-eqb e.slot e.slot refl

    total : times e.slot (slots_of (e ∷ es)) ≡ 1 + times e.slot (slots_of es)
    total = let c = times_cons e.slot e.slot (slots_of es) in let o = one_if same in omega (arith, c, o)

    count : times e.slot untagged + times e.slot (slots_of es) ≡ 0
    count = let f = few_of slots e.slot _ (once e.slot) in omega (arith, f, total)

    low : e.slot < slots
    low = within slots e.slot _ (once e.slot) (omega (arith, total))

    out : is_in e.slot untagged ≡ false
    out = in_none (times e.slot untagged) (let c = count in omega (arith, c))

    here : retired_as untagged (e ∷ es) e.slot ≡ retire.Tagged e.tag
    here = if_false retire.Untagged (tag_at (e ∷ es) e.slot) out ∙ if_true (retire.Tagged e.tag) (tag_at es e.slot) same

    else : (other : ℕ) → other ≢ e.slot → retired_as untagged (e ∷ es) other ≡ retired_as untagged es other
    else other apart = ap (λ r. cond (is_in other untagged) retire.Untagged r)
        (if_false (retire.Tagged e.tag) (tag_at es other) (ne_eqb e.slot other (λ h. apart (sym h))))

-- where all have the same tag
pub all_same : (tag epoch : ℕ) (slots : List ℕ) → 0 < length slots
    → list_all (λ (entry : TaggedSlot). nat_lt entry.tag epoch) (map (tagged_with tag) slots) ≡ nat_lt tag epoch
all_same tag epoch [] some = absurd (omega (arith, some))
all_same tag epoch (x ∷ []) some = and_true (nat_lt tag epoch)
  where
    and_true : (b : Bool) → (b && true) ≡ b
    and_true true = refl
    and_true false = refl
all_same tag epoch (x ∷ y ∷ xs) some = ap (λ b. nat_lt tag epoch && b) (all_same tag epoch (y ∷ xs) (omega arith))
    ∙ twice (nat_lt tag epoch)
  where
    twice : (b : Bool) → (b && b) ≡ b
    twice true = refl
    twice false = refl
