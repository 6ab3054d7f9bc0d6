-- What each call makes of the lists, and of the sets that they show.
use Rattle.std.proofs.Common.{◌≡◌, ◌≢◌, ℕ, ◌+◌, ◌<◌, ◌≤◌, Bool, true, false, not, ◌&&◌, ◌||◌, cond, List, [], ◌∷◌, ◌++◌}
use Rattle.std.proofs.Common.{length, get_or, set, map, replicate, refl, sym, ap, ◌∙◌, subst, arith, count_by, eqb}
use Rattle.std.proofs.Common.{Option}
use Rattle.std.specs.Prelude.{nat_lt, nat_le}
use Rattle.std.specs.List.{range_with_len, remove, filter, list_all}
use Rattle.std.specs.List.Sorted.{IsPermutation}
use Rattle.std.proofs.lemmas.Bool.{false≢true, eq-eqb, ne_eqb}
use Rattle.std.proofs.lemmas.Bool.Decides.{nat_tests}
use Rattle.std.proofs.lemmas.List.{length-map, length-append}
use Rattle.std.proofs.lemmas.List.FromFn.{length-range_with_len}
use Rattle.std.proofs.lemmas.List.Edits.{length-remove}
use Rattle.std.proofs.lemmas.List.Folds.{list_all-append, list_all-map}
use Rattle.std.proofs.lemmas.List.Filters.{length-filter_both}
use Rattle.std.proofs.lemmas.List.Sorted.{length_permutation, sum_by-IsPermutation}
use Rattle.std.proofs.lemmas.List.Sums.{sum_by-append, sum_by_push, sum_by-remove}
use mathlib.Core.Logic.{dite}
use native.Mathlib.Decide.{ℕ_discrete}
use Rattle.pebr_core.specs.declared.kinds.Retired.{Retired}
use Rattle.pebr_core.specs.declared.kinds.Retired.TheVariants as retire
use Rattle.pebr_core.specs.State.{has, is_retired}
use Rattle.pebr_core.specs.Steps.{tag_with, union_of, slots_without, without}
use Rattle.pebr_slots.specs.declared.tagged.TaggedSlot.{TaggedSlot}
use Rattle.pebr_slots.specs.Sets.{given_slots, is_above}
use Rattle.pebr_slots.specs.Shown.{times, is_in, slots_of, tagged_with, is_kept, is_given, unkept_entry, kept_at}
use Rattle.pebr_slots.specs.Shown.{value_found}
use Rattle.pebr_slots.specs.Shown.{retired_as, sets_of, AreApart, IsNewest}
use Rattle.pebr_slots.proofs.Listing.{one_if, none_if, in_some, in_none, of_in, of_out, times_range}
use Rattle.pebr_slots.proofs.Tables.{map_as, map_to, map_twice, table_at, table_set, count_table, without_map}
use Rattle.pebr_slots.proofs.Tables.{united_map, released_map}
use Rattle.pebr_slots.proofs.Finding.{tag_of, tag_at, kept_of, if_true, if_false, found_absent, found_append}
use Rattle.pebr_slots.proofs.Finding.{found_tagged, found_map, slots_map, slots_append, slots_tagged, found_same}
use Rattle.pebr_slots.proofs.Finding.{tag_is_retired, tag_stays, kept_is_in, kept_here, kept_else, found_kept}
use Rattle.pebr_slots.proofs.Finding.{times_parted, times_kept}
use Rattle.pebr_slots.proofs.Apart.{few_of, within, one_of_few, given_once, given_count}

times_both : (slot : ℕ) (xs ys : List ℕ) → times slot (xs ++ ys) ≡ times slot xs + times slot ys
times_both slot xs ys = sum_by-append (λ y. cond (eqb y slot) 1 0) xs ys

times_permuted : (slot : ℕ) (xs ys : List ℕ) → IsPermutation xs ys → times slot xs ≡ times slot ys
times_permuted slot xs ys p = sym (sum_by-IsPermutation (λ y. cond (eqb y slot) 1 0) xs ys p)

-- at a slot

pub fresh_at : (slots room : ℕ) (fresh untagged : List ℕ) (tagged : List TaggedSlot)
    → AreApart slots room fresh untagged tagged → (slot : ℕ)
    → has (map (λ s. is_in s fresh) (range_with_len 0 slots)) slot ≡ is_in slot fresh
fresh_at slots room fresh untagged tagged h slot = table_at (λ s. is_in s fresh) slots slot false
    (λ far. in_none (times slot fresh) (out (within slots slot _ (h.once slot)) far))
  where
    out : (0 < times slot fresh + times slot untagged + times slot (slots_of tagged) → slot < slots) → slots ≤ slot
        → times slot fresh ≡ 0
    out low far = dite (ℕ_discrete (times slot fresh) 0) (λ (none : times slot fresh ≡ 0). none)
        (λ (some : times slot fresh ≢ 0). absurd (let near = low (omega (arith, some)) in omega (arith, near, far)))

pub retired_is : (untagged : List ℕ) (tagged : List TaggedSlot) (slot : ℕ)
    → is_retired (retired_as untagged tagged slot) ≡ nat_lt 0 (times slot untagged + times slot (slots_of tagged))
retired_is untagged tagged slot = pick (is_in slot untagged) refl
  where
    pick : (b : Bool) → is_in slot untagged ≡ b
        → is_retired (retired_as untagged tagged slot) ≡ nat_lt 0 (times slot untagged + times slot (slots_of tagged))
    pick true is = ap is_retired (if_true retire.Untagged (tag_at tagged slot) is)
        ∙ sym (in_some (times slot untagged + times slot (slots_of tagged))
        (let some = of_in (times slot untagged) is in omega (arith, some)))
    pick false is = ap is_retired (if_false retire.Untagged (tag_at tagged slot) is) ∙ (tag_is_retired tagged slot
        ∙ ap (nat_lt 0) (let none = of_out (times slot untagged) is in
        let e : times slot (slots_of tagged) ≡ times slot untagged + times slot (slots_of tagged) =
        omega (arith, none) in e))

pub retired_untagged : (untagged : List ℕ) (tagged : List TaggedSlot) (slot : ℕ) → is_in slot untagged ≡ true
    → is_retired (retired_as untagged tagged slot) ≡ true
retired_untagged untagged tagged slot is = ap is_retired (if_true retire.Untagged (tag_at tagged slot) is)

pub retired_tagged : (untagged : List ℕ) (tagged : List TaggedSlot) (slot : ℕ) → is_in slot untagged ≡ false
    → is_retired (retired_as untagged tagged slot) ≡ is_in slot (slots_of tagged)
retired_tagged untagged tagged slot is =
    ap is_retired (if_false retire.Untagged (tag_at tagged slot) is) ∙ tag_is_retired tagged slot

not_retired : (r : Retired) → is_retired r ≡ false → r ≡ retire.No
not_retired retire.No h = refl
not_retired retire.Untagged h = absurd (false≢true (sym h))
not_retired (retire.Tagged tag) h = absurd (false≢true (sym h))

pub retired_at_all : (slots room : ℕ) (fresh untagged : List ℕ) (tagged : List TaggedSlot)
    → AreApart slots room fresh untagged tagged → (slot : ℕ)
    → get_or (map (retired_as untagged tagged) (range_with_len 0 slots)) slot retire.No
    ≡ retired_as untagged tagged slot
retired_at_all slots room fresh untagged tagged h slot = table_at (retired_as untagged tagged) slots slot retire.No
    (λ far. not_retired (retired_as untagged tagged slot)
    (retired_is untagged tagged slot ∙ in_none _ (out (within slots slot _ (h.once slot)) far)))
  where
    out : (0 < times slot fresh + times slot untagged + times slot (slots_of tagged) → slot < slots) → slots ≤ slot
        → times slot untagged + times slot (slots_of tagged) ≡ 0
    out low far = dite (ℕ_discrete (times slot untagged + times slot (slots_of tagged)) 0)
        (λ (none : times slot untagged + times slot (slots_of tagged) ≡ 0). none)
        (λ (some : times slot untagged + times slot (slots_of tagged) ≢ 0). absurd
        (let near = low (omega (arith, some)) in omega (arith, near, far)))

-- how many

pub fresh_count : (slots room : ℕ) (fresh untagged : List ℕ) (tagged : List TaggedSlot)
    → AreApart slots room fresh untagged tagged
    → count_by (λ m. m) (map (λ s. is_in s fresh) (range_with_len 0 slots)) ≡ length fresh
fresh_count slots room fresh untagged tagged h = count_table (λ b. b) (λ s. is_in s fresh) slots fresh
    (λ slot. one_of_few (times slot fresh) (let f = few_of slots slot _ (h.once slot) in omega (arith, f)))
    (λ slot some. within slots slot _ (h.once slot) (omega (arith, some)))

pub retired_count : (slots room : ℕ) (fresh untagged : List ℕ) (tagged : List TaggedSlot)
    → AreApart slots room fresh untagged tagged
    → count_by is_retired (map (retired_as untagged tagged) (range_with_len 0 slots)) ≡ length untagged + length tagged
retired_count slots room fresh untagged tagged h =
    count_table is_retired (retired_as untagged tagged) slots (untagged ++ slots_of tagged)
    (λ slot. ap (λ b. cond b 1 0) (retired_is untagged tagged slot)
    ∙ (one_of_few (times slot untagged + times slot (slots_of tagged))
    (let f = few_of slots slot _ (h.once slot) in omega (arith, f)) ∙ sym (times_both slot untagged (slots_of tagged))))
    (λ slot some. within slots slot _ (h.once slot)
    (let e = times_both slot untagged (slots_of tagged) in omega (arith, e, some)))
    ∙ (length-append untagged (slots_of tagged)
    ∙ ap (λ n. length untagged + n) (length-map tagged (λ (entry : TaggedSlot). entry.slot)))

-- at first

pub first_apart : (slots room first : ℕ) (fresh : List ℕ) → IsPermutation (range_with_len first room) fresh
    → first + room ≤ slots → AreApart slots room fresh [] []
first_apart slots room first fresh p low = record {
  once = λ slot. subst (λ n. n ≤ cond (nat_lt slot slots) 1 0)
      (let e : times slot (range_with_len first room) ≡ times slot fresh + 0 + 0 =
      (let q = times_permuted slot (range_with_len first room) fresh p in omega (arith, q)) in e)
      (subst (λ n. n ≤ cond (nat_lt slot slots) 1 0) (sym (times_range first room slot))
      (below first room slots slot low));
  many = (let a = length_permutation (range_with_len first room) fresh p in let b = length-range_with_len first room in
      omega (arith, a, b));
}
  where
    below : (first room slots slot : ℕ) → first + room ≤ slots
        → cond (nat_le first slot && nat_lt slot (first + room)) 1 0 ≤ cond (nat_lt slot slots) 1 0
    below first room slots slot low = grind (arith, nat_tests)

in_cond : (b : Bool) → nat_lt 0 (cond b 1 0) ≡ b
in_cond true = refl
in_cond false = refl

pub first_fresh : (room first : ℕ) (fresh : List ℕ) → IsPermutation (range_with_len first room) fresh → (slot : ℕ)
    → is_in slot fresh ≡ (nat_le first slot && nat_lt slot (first + room))
first_fresh room first fresh p slot = ap (nat_lt 0)
    (sym (times_permuted slot (range_with_len first room) fresh p) ∙ times_range first room slot)
    ∙ in_cond (nat_le first slot && nat_lt slot (first + room))

-- Note

abbrev pub noted : ℕ → List ℕ → List TaggedSlot → List TaggedSlot
noted epoch untagged tagged = map unkept_entry (tagged ++ map (tagged_with epoch) untagged)

noted_slots : (epoch : ℕ) (untagged : List ℕ) (tagged : List TaggedSlot)
    → slots_of (noted epoch untagged tagged) ≡ slots_of tagged ++ untagged
noted_slots epoch untagged tagged = slots_map unkept_entry (λ _. refl) (tagged ++ map (tagged_with epoch) untagged)
    ∙ (slots_append tagged (map (tagged_with epoch) untagged)
    ∙ ap (λ l. slots_of tagged ++ l) (slots_tagged epoch untagged))

pub noted_apart : (slots room : ℕ) (fresh untagged : List ℕ) (tagged : List TaggedSlot) (epoch : ℕ)
    → AreApart slots room fresh untagged tagged → AreApart slots room fresh [] (noted epoch untagged tagged)
noted_apart slots room fresh untagged tagged epoch h = record {
  once = λ slot. (let a = h.once slot in let b = ap (times slot) (noted_slots epoch untagged tagged) in
      let d = times_both slot (slots_of tagged) untagged in omega (arith, a, b, d));
  many = (let a = h.many in let b = length-map (tagged ++ map (tagged_with epoch) untagged) unkept_entry in
      let d = length-append tagged (map (tagged_with epoch) untagged) in
      let e = length-map untagged (tagged_with epoch) in omega (arith, a, b, d, e));
}

pub noted_newest : (newest newest' : Option ℕ) (untagged : List ℕ) (tagged : List TaggedSlot) (epoch : ℕ)
    → IsNewest newest tagged
    → ((e : ℕ)
    → is_above newest' e
    ≡ (is_above newest e && list_all (λ (entry : TaggedSlot). nat_lt entry.tag e) (map (tagged_with epoch) untagged)))
    → IsNewest newest' (noted epoch untagged tagged)
noted_newest newest newest' untagged tagged epoch h is e =
    list_all-map (λ (entry : TaggedSlot). nat_lt entry.tag e) unkept_entry (tagged ++ map (tagged_with epoch) untagged)
    ∙ (list_all-append (λ (entry : TaggedSlot). nat_lt entry.tag e) tagged (map (tagged_with epoch) untagged)
    ∙ (ap (λ b. b && list_all (λ (entry : TaggedSlot). nat_lt entry.tag e) (map (tagged_with epoch) untagged)) (h e)
    ∙ sym (is e)))

noted_at : (slots room : ℕ) (fresh untagged : List ℕ) (tagged : List TaggedSlot) (epoch : ℕ)
    → AreApart slots room fresh untagged tagged → (slot : ℕ)
    → retired_as [] (noted epoch untagged tagged) slot ≡ tag_with epoch (retired_as untagged tagged slot)
noted_at slots room fresh untagged tagged epoch h slot =
    found_map tag_of retire.No unkept_entry (λ _. refl) (tagged ++ new) slot
    ∙ (found_append tag_of retire.No tagged new slot ∙ pick (is_in slot untagged) refl)
  where
    new : List TaggedSlot
    new = map (tagged_with epoch) untagged

    pick : (b : Bool) → is_in slot untagged ≡ b
        → value_found tag_of (tag_at new slot) tagged slot ≡ tag_with epoch (retired_as untagged tagged slot)
    pick true is = found_absent tag_of (tag_at new slot) tagged slot
        (let some = of_in (times slot untagged) is in let f = few_of slots slot _ (h.once slot) in
        omega (arith, some, f))
        ∙ (found_tagged epoch untagged slot
        ∙ (if_true (retire.Tagged epoch) retire.No is
        ∙ ap (tag_with epoch) (sym (if_true retire.Untagged (tag_at tagged slot) is))))
    pick false is = ap (λ r. value_found tag_of r tagged slot)
        (found_tagged epoch untagged slot ∙ if_false (retire.Tagged epoch) retire.No is)
        ∙ (sym (tag_stays epoch tagged slot) ∙ ap (tag_with epoch)
        (sym (if_false retire.Untagged (tag_at tagged slot) is)))

pub noted_retired : (slots room : ℕ) (fresh untagged : List ℕ) (tagged : List TaggedSlot) (epoch : ℕ)
    → AreApart slots room fresh untagged tagged
    → map (retired_as [] (noted epoch untagged tagged)) (range_with_len 0 slots)
    ≡ map (tag_with epoch) (map (retired_as untagged tagged) (range_with_len 0 slots))
noted_retired slots room fresh untagged tagged epoch h =
    map_as (retired_as [] (noted epoch untagged tagged)) (λ s. tag_with epoch (retired_as untagged tagged s))
    (noted_at slots room fresh untagged tagged epoch h) (range_with_len 0 slots)
    ∙ sym (map_twice (tag_with epoch) (retired_as untagged tagged) (range_with_len 0 slots))

pub none_kept : (entries : List TaggedSlot) (slots : ℕ) (others : List Retired) → length others ≡ slots
    → map (kept_of (map unkept_entry entries)) (range_with_len 0 slots) ≡ replicate (length others) false
none_kept entries slots others long = map_to (kept_of (map unkept_entry entries)) false
    (λ s. found_map is_kept false unkept_entry (λ _. refl) entries s ∙ found_same false entries s)
    (range_with_len 0 slots)
    ∙ ap (λ n. replicate n false) (length-range_with_len 0 slots ∙ sym long)

-- a replacement

pub replaced_apart : (slots room : ℕ) (fresh untagged : List ℕ) (tagged : List TaggedSlot) (old new place : ℕ)
    → AreApart slots room fresh untagged tagged → old < slots → is_in old fresh ≡ false
    → retired_as untagged tagged old ≡ retire.No → place < length fresh → get_or fresh place 0 ≡ new
    → AreApart slots room (remove fresh place) (untagged ++ old ∷ []) tagged
replaced_apart slots room fresh untagged tagged old new place h low not_fresh other inside at = record {
  once = λ slot. (let less = sum_by-remove (λ y. cond (eqb y slot) 1 0) fresh place 0 inside in
      let more = sum_by_push (λ y. cond (eqb y slot) 1 0) untagged old in
      let was = h.once slot in
      let here = bound slot in
      omega (arith, less, more, was, here));
  many = (let a = h.many in let b = length-remove fresh place inside in let d = length-append untagged (old ∷ []) in
      omega (arith, a, b, d));
}
  where
    one_below : nat_lt old slots ≡ true
    one_below = (let l = low in grind (arith, nat_tests))

    none_retired : times old untagged + times old (slots_of tagged) ≡ 0
    none_retired = of_out (times old untagged + times old (slots_of tagged))
        (sym (retired_is untagged tagged old) ∙ ap is_retired other)

    bound : (slot : ℕ) → times slot fresh + times slot untagged + times slot (slots_of tagged) + cond (eqb old slot) 1 0
        ≤ cond (nat_lt slot slots) 1 0
    bound slot = dite (ℕ_discrete old slot)
        (λ (same : old ≡ slot). subst
        (λ s. times s fresh + times s untagged + times s (slots_of tagged) + cond (eqb old s) 1 0
        ≤ cond (nat_lt s slots) 1 0) same
        (let a = of_out (times old fresh) not_fresh in let b = none_retired in let d = one_if one_below in
        let e = one_if (eq-eqb old old refl) in omega (arith, a, b, d, e)))
        (λ (apart : old ≢ slot). let was = h.once slot in let z = none_if (ne_eqb old slot apart) in
        omega (arith, was, z))

pub replaced_fresh : (slots room : ℕ) (fresh untagged : List ℕ) (tagged : List TaggedSlot) (new place : ℕ)
    → AreApart slots room fresh untagged tagged → place < length fresh → get_or fresh place 0 ≡ new
    → map (λ s. is_in s (remove fresh place)) (range_with_len 0 slots)
    ≡ set (map (λ s. is_in s fresh) (range_with_len 0 slots)) new false
replaced_fresh slots room fresh untagged tagged new place h inside at =
    table_set (λ s. is_in s fresh) (λ s. is_in s (remove fresh place)) slots new false
    (in_none (times new (remove fresh place))
    (let less = sum_by-remove (λ y. cond (eqb y new) 1 0) fresh place 0 inside in
    let one = one_if (eq-eqb (get_or fresh place 0) new at) in let f = few_of slots new _ (h.once new) in
    omega (arith, less, one, f)))
    (λ other apart. ap (nat_lt 0) (let less = sum_by-remove (λ y. cond (eqb y other) 1 0) fresh place 0 inside in
    let none = none_if (ne_eqb (get_or fresh place 0) other (λ e. apart (sym e ∙ at))) in
    let e : times other (remove fresh place) ≡ times other fresh = omega (arith, less, none) in e))

pub replaced_retired : (slots : ℕ) (untagged : List ℕ) (tagged : List TaggedSlot) (old : ℕ)
    → map (retired_as (untagged ++ old ∷ []) tagged) (range_with_len 0 slots)
    ≡ set (map (retired_as untagged tagged) (range_with_len 0 slots)) old retire.Untagged
replaced_retired slots untagged tagged old =
    table_set (retired_as untagged tagged) (retired_as (untagged ++ old ∷ []) tagged) slots old retire.Untagged
    (if_true retire.Untagged (tag_at tagged old)
    (in_some (times old (untagged ++ old ∷ []))
    (let more = sum_by_push (λ y. cond (eqb y old) 1 0) untagged old in let one = one_if (eq-eqb old old refl) in
    omega (arith, more, one))))
    (λ other apart. ap (λ n. cond (nat_lt 0 n) retire.Untagged (tag_at tagged other))
    (let more = sum_by_push (λ y. cond (eqb y other) 1 0) untagged old in
    let none = none_if (ne_eqb old other (λ e. apart (sym e))) in
    let e : times other (untagged ++ old ∷ []) ≡ times other untagged = omega (arith, more, none) in e))

-- a slot that is kept

pub kept_apart : (slots room : ℕ) (fresh untagged : List ℕ) (tagged : List TaggedSlot) (slot : ℕ)
    → AreApart slots room fresh untagged tagged → AreApart slots room fresh untagged (map (kept_at slot) tagged)
kept_apart slots room fresh untagged tagged slot h = record {
  once = λ other. subst (λ l. times other fresh + times other untagged + times other l ≤ cond (nat_lt other slots) 1 0)
      (sym (slots_map (kept_at slot) (λ _. refl) tagged)) (h.once other);
  many = (let a = h.many in let b = length-map tagged (kept_at slot) in omega (arith, a, b));
}

pub kept_newest : (newest : Option ℕ) (tagged : List TaggedSlot) (f : TaggedSlot → TaggedSlot)
    → ((e : TaggedSlot) → (f e).tag ≡ e.tag) → IsNewest newest tagged → IsNewest newest (map f tagged)
kept_newest newest tagged f same h epoch =
    list_all-map (λ (entry : TaggedSlot). nat_lt entry.tag epoch) f tagged ∙ (tags tagged ∙ h epoch)
  where
    tags : (entries : List TaggedSlot) → list_all (λ (entry : TaggedSlot). nat_lt (f entry).tag epoch) entries
        ≡ list_all (λ (entry : TaggedSlot). nat_lt entry.tag epoch) entries
    tags [] = refl
    tags (e ∷ es) = ap (λ n. nat_lt n epoch && list_all (λ (entry : TaggedSlot). nat_lt (f entry).tag epoch) es)
        (same e) ∙ ap (λ b. nat_lt e.tag epoch && b) (tags es)

pub kept_retired : (slots : ℕ) (untagged : List ℕ) (tagged : List TaggedSlot) (slot : ℕ)
    → map (retired_as untagged (map (kept_at slot) tagged)) (range_with_len 0 slots)
    ≡ map (retired_as untagged tagged) (range_with_len 0 slots)
kept_retired slots untagged tagged slot =
    map_as (retired_as untagged (map (kept_at slot) tagged)) (retired_as untagged tagged)
    (λ s. ap (λ r. cond (is_in s untagged) retire.Untagged r)
    (found_map tag_of retire.No (kept_at slot) (λ _. refl) tagged s)) (range_with_len 0 slots)

pub kept_set : (slots room : ℕ) (fresh untagged : List ℕ) (tagged : List TaggedSlot) (slot : ℕ)
    → AreApart slots room fresh untagged tagged → retired_as untagged tagged slot ≢ retire.Untagged
    → map (kept_of (map (kept_at slot) tagged)) (range_with_len 0 slots)
    ≡ cond (is_retired (retired_as untagged tagged slot))
    (set (map (kept_of tagged) (range_with_len 0 slots)) slot true) (map (kept_of tagged) (range_with_len 0 slots))
kept_set slots room fresh untagged tagged slot h not_untagged =
    pick (is_in slot untagged) refl (is_in slot (slots_of tagged)) refl
  where
    old : List Bool
    old = map (kept_of tagged) (range_with_len 0 slots)

    new : List Bool
    new = map (kept_of (map (kept_at slot) tagged)) (range_with_len 0 slots)

    is_tagged : is_in slot untagged ≡ false → is_retired (retired_as untagged tagged slot)
        ≡ is_in slot (slots_of tagged)
    is_tagged is = ap is_retired (if_false retire.Untagged (tag_at tagged slot) is) ∙ tag_is_retired tagged slot

    same : times slot (slots_of tagged) ≡ 0 → (other : ℕ)
        → kept_of (map (kept_at slot) tagged) other ≡ kept_of tagged other
    same none other = dite (ℕ_discrete other slot)
        (λ (here : other ≡ slot). subst (λ s. kept_of (map (kept_at slot) tagged) s ≡ kept_of tagged s) (sym here)
        (found_absent is_kept false (map (kept_at slot) tagged) slot
        (ap (times slot) (slots_map (kept_at slot) (λ _. refl) tagged) ∙ none)
        ∙ sym (found_absent is_kept false tagged slot none)))
        (λ (apart : other ≢ slot). kept_else tagged slot other apart)

    pick : (a : Bool) → is_in slot untagged ≡ a → (b : Bool) → is_in slot (slots_of tagged) ≡ b
        → new ≡ cond (is_retired (retired_as untagged tagged slot)) (set old slot true) old
    pick true is b there = absurd (not_untagged (if_true retire.Untagged (tag_at tagged slot) is))
    pick false is true there = table_set (kept_of tagged) (kept_of (map (kept_at slot) tagged)) slots slot true
        (kept_here tagged slot (of_in (times slot (slots_of tagged)) there)) (kept_else tagged slot)
        ∙ sym (if_true (set old slot true) old (is_tagged is ∙ there))
    pick false is false there = map_as (kept_of (map (kept_at slot) tagged)) (kept_of tagged)
        (same (of_out (times slot (slots_of tagged)) there)) (range_with_len 0 slots)
        ∙ sym (if_false (set old slot true) old (is_tagged is ∙ there))

-- Give

abbrev pub is_freed : List ℕ → List TaggedSlot → ℕ → Bool
is_freed untagged tagged slot = is_retired (retired_as untagged tagged slot) && not (kept_of tagged slot)

abbrev pub freed : List ℕ → List ℕ → List TaggedSlot → List ℕ
freed fresh untagged tagged = (fresh ++ untagged) ++ slots_of (filter is_given tagged)

abbrev pub left : List TaggedSlot → List TaggedSlot
left tagged = map unkept_entry (filter is_kept tagged)

freed_times : (fresh untagged : List ℕ) (tagged : List TaggedSlot) (slot : ℕ)
    → times slot (freed fresh untagged tagged)
    ≡ times slot fresh + times slot untagged + times slot (slots_of (filter is_given tagged))
freed_times fresh untagged tagged slot = let a =
    times_both slot (fresh ++ untagged) (slots_of (filter is_given tagged)) in let b = times_both slot fresh untagged in
    omega (arith, a, b)

parted : (slots room : ℕ) (fresh untagged : List ℕ) (tagged : List TaggedSlot)
    → AreApart slots room fresh untagged tagged → (slot : ℕ)
    → cond (kept_of tagged slot) 1 0 + times slot (slots_of (filter is_given tagged)) ≡ times slot (slots_of tagged)
parted slots room fresh untagged tagged h slot =
    let a = times_parted tagged slot in
    let b = times_kept tagged slot (let f = few_of slots slot _ (h.once slot) in omega (arith, f)) in
    omega (arith, a, b)

lengths_parted : (tagged : List TaggedSlot)
    → length (filter is_kept tagged) + length (filter is_given tagged) ≡ length tagged
lengths_parted tagged = length-filter_both is_kept is_given (λ _. refl) tagged

pub given_apart : (slots room : ℕ) (fresh untagged : List ℕ) (tagged : List TaggedSlot) (fresh' : List ℕ)
    → AreApart slots room fresh untagged tagged → IsPermutation (freed fresh untagged tagged) fresh'
    → AreApart slots room fresh' [] (left tagged)
given_apart slots room fresh untagged tagged fresh' h p = record {
  once = λ slot. (let was = h.once slot in
      let a = times_permuted slot (freed fresh untagged tagged) fresh' p in
      let b = freed_times fresh untagged tagged slot in
      let d = ap (times slot) (slots_map unkept_entry (λ _. refl) (filter is_kept tagged)) in
      let e = times_parted tagged slot in
      omega (arith, was, a, b, d, e));
  many = (let was = h.many in
      let a = length_permutation (freed fresh untagged tagged) fresh' p in
      let b = length-append (fresh ++ untagged) (slots_of (filter is_given tagged)) in
      let d = length-append fresh untagged in
      let e = length-map (filter is_given tagged) (λ (entry : TaggedSlot). entry.slot) in
      let f = length-map (filter is_kept tagged) unkept_entry in
      let g = lengths_parted tagged in
      omega (arith, was, a, b, d, e, f, g));
}

given_is : (slots : ℕ) (untagged : List ℕ) (tagged : List TaggedSlot)
    → without (map is_retired (map (retired_as untagged tagged) (range_with_len 0 slots)))
    (map (kept_of tagged) (range_with_len 0 slots)) ≡ map (is_freed untagged tagged) (range_with_len 0 slots)
given_is slots untagged tagged = ap (λ l. without l (map (kept_of tagged) (range_with_len 0 slots)))
    (map_twice is_retired (retired_as untagged tagged) (range_with_len 0 slots))
    ∙ without_map (λ s. is_retired (retired_as untagged tagged s)) (kept_of tagged) (range_with_len 0 slots)

pub given_fresh : (slots room : ℕ) (fresh untagged : List ℕ) (tagged : List TaggedSlot) (fresh' : List ℕ)
    → AreApart slots room fresh untagged tagged → IsPermutation (freed fresh untagged tagged) fresh'
    → map (λ s. is_in s fresh') (range_with_len 0 slots)
    ≡ union_of (map (λ s. is_in s fresh) (range_with_len 0 slots))
    (given_slots (sets_of slots room fresh untagged tagged))
given_fresh slots room fresh untagged tagged fresh' h p =
    map_as (λ s. is_in s fresh') (λ s. is_in s fresh || is_freed untagged tagged s) at (range_with_len 0 slots)
    ∙ (sym (united_map (λ s. is_in s fresh) (is_freed untagged tagged) (range_with_len 0 slots))
    ∙ ap (union_of (map (λ s. is_in s fresh) (range_with_len 0 slots))) (sym (given_is slots untagged tagged)))
  where
    at : (slot : ℕ) → is_in slot fresh' ≡ (is_in slot fresh || is_freed untagged tagged slot)
    at slot =
        ap (nat_lt 0) (sym (times_permuted slot (freed fresh untagged tagged) fresh' p)
        ∙ freed_times fresh untagged tagged slot)
        ∙ (given_once (times slot fresh) (times slot untagged) (times slot (slots_of (filter is_given tagged)))
        (times slot (slots_of tagged)) (kept_of tagged slot) (few_of slots slot _ (h.once slot))
        (parted slots room fresh untagged tagged h slot)
        ∙ ap (λ b. is_in slot fresh || (b && not (kept_of tagged slot))) (sym (retired_is untagged tagged slot)))

pub given_retired : (slots room : ℕ) (fresh untagged : List ℕ) (tagged : List TaggedSlot)
    → AreApart slots room fresh untagged tagged
    → map (retired_as [] (left tagged)) (range_with_len 0 slots)
    ≡ slots_without (map (retired_as untagged tagged) (range_with_len 0 slots))
    (given_slots (sets_of slots room fresh untagged tagged))
given_retired slots room fresh untagged tagged h =
    map_as (retired_as [] (left tagged))
    (λ s. cond (is_freed untagged tagged s) retire.No (retired_as untagged tagged s)) at (range_with_len 0 slots)
    ∙ (sym (released_map (retired_as untagged tagged) (is_freed untagged tagged) (range_with_len 0 slots))
    ∙ ap (slots_without (map (retired_as untagged tagged) (range_with_len 0 slots)))
    (sym (given_is slots untagged tagged)))
  where
    and_false : (b : Bool) → (b && false) ≡ false
    and_false true = refl
    and_false false = refl

    gone : (r : Retired) → retire.No ≡ cond (is_retired r && true) retire.No r
    gone retire.No = refl
    gone retire.Untagged = refl
    gone (retire.Tagged tag) = refl

    pick : (slot : ℕ) (k : Bool) → kept_of tagged slot ≡ k
        → cond k (tag_at tagged slot) retire.No ≡ cond (is_retired (retired_as untagged tagged slot) && not k) retire.No
        (retired_as untagged tagged slot)
    pick slot true is =
        sym (if_false retire.Untagged (tag_at tagged slot)
        (in_none (times slot untagged) (let some = kept_is_in tagged slot is in
        let f = few_of slots slot _ (h.once slot) in omega (arith, some, f))))
        ∙ sym (if_false retire.No (retired_as untagged tagged slot)
        (and_false (is_retired (retired_as untagged tagged slot))))
    pick slot false is = gone (retired_as untagged tagged slot)

    at : (slot : ℕ) → retired_as [] (left tagged) slot
        ≡ cond (is_freed untagged tagged slot) retire.No (retired_as untagged tagged slot)
    at slot = found_map tag_of retire.No unkept_entry (λ _. refl) (filter is_kept tagged) slot
        ∙ (found_kept tagged slot (let f = few_of slots slot _ (h.once slot) in omega (arith, f))
        ∙ pick slot (kept_of tagged slot) refl)

pub given_number : (slots room : ℕ) (fresh untagged : List ℕ) (tagged : List TaggedSlot)
    → AreApart slots room fresh untagged tagged
    → count_by (λ m. m) (given_slots (sets_of slots room fresh untagged tagged)) + length (filter is_kept tagged)
    ≡ length untagged + length tagged
given_number slots room fresh untagged tagged h =
    let a = ap (count_by (λ m. m)) (given_is slots untagged tagged) in
    let b = count_table (λ m. m) (is_freed untagged tagged) slots
    (untagged ++ slots_of (filter is_given tagged)) each low in
    let d = length-append untagged (slots_of (filter is_given tagged)) in
    let e = length-map (filter is_given tagged) (λ (entry : TaggedSlot). entry.slot) in
    let f = lengths_parted tagged in
    omega (arith, a, b, d, e, f)
  where
    both : (slot : ℕ) → times slot (untagged ++ slots_of (filter is_given tagged))
        ≡ times slot untagged + times slot (slots_of (filter is_given tagged))
    both slot = times_both slot untagged (slots_of (filter is_given tagged))

    each : (slot : ℕ) → cond (is_freed untagged tagged slot) 1 0
        ≡ times slot (untagged ++ slots_of (filter is_given tagged))
    each slot = ap (λ b. cond (b && not (kept_of tagged slot)) 1 0) (retired_is untagged tagged slot)
        ∙ (given_count (times slot untagged) (times slot (slots_of (filter is_given tagged)))
        (times slot (slots_of tagged)) (kept_of tagged slot)
        (let f = few_of slots slot _ (h.once slot) in omega (arith, f)) (parted slots room fresh untagged tagged h slot)
        ∙ sym (both slot))

    low : (slot : ℕ) → 0 < times slot (untagged ++ slots_of (filter is_given tagged)) → slot < slots
    low slot some = within slots slot _ (h.once slot)
        (let a = both slot in let b = times_parted tagged slot in omega (arith, a, b, some))
