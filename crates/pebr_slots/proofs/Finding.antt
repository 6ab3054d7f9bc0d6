-- What is found of a slot among the retired ones that have a tag.
use Rattle.std.proofs.Common.{◌≡◌, ◌≢◌, ℕ, ◌+◌, ◌<◌, ◌≤◌, Bool, true, false, ◌||◌, cond, List, [], ◌∷◌, ◌++◌, length}
use Rattle.std.proofs.Common.{map, take, refl, sym, ap, ◌∙◌, subst, arith, eqb}
use Rattle.std.specs.List.{filter, sum_by}
use Rattle.std.proofs.lemmas.Bool.{false≢true, ne_eqb}
use Rattle.std.proofs.lemmas.Bool.Decides.{nat_tests}
use Rattle.std.proofs.lemmas.List.{length-map, length-take}
use Rattle.std.proofs.lemmas.List.Sums.{length-filter, count_by-le-length}
use Rattle.std.proofs.lemmas.List.Filters.{sum_by-filter_both}
use Rattle.pebr_core.specs.declared.kinds.Retired.{Retired}
use Rattle.pebr_core.specs.declared.kinds.Retired.TheVariants as retire
use Rattle.pebr_core.specs.State.{is_retired}
use Rattle.pebr_core.specs.Steps.{tag_with}
use Rattle.pebr_slots.specs.declared.tagged.TaggedSlot.{TaggedSlot}
use Rattle.pebr_slots.specs.Shown.{times, is_in, slots_of, tagged_with, is_kept, is_given, unkept_entry, kept_at}
use Rattle.pebr_slots.specs.Shown.{value_found}
use Rattle.pebr_slots.proofs.Listing.{times_cons, one_if, none_if, in_cons}
use Rattle.pebr_slots.proofs.Tables.{count_map}

-- the tag that is found
abbrev pub tag_of : TaggedSlot → Retired
tag_of entry = retire.Tagged entry.tag

abbrev pub tag_at : List TaggedSlot → ℕ → Retired
tag_at entries slot = value_found tag_of retire.No entries slot

abbrev pub kept_of : List TaggedSlot → ℕ → Bool
kept_of entries slot = value_found is_kept false entries slot

pub if_true : {A : Type 0} {b : Bool} (x y : A) → b ≡ true → cond b x y ≡ x
if_true x y h = ap (λ b. cond b x y) h

pub if_false : {A : Type 0} {b : Bool} (x y : A) → b ≡ false → cond b x y ≡ y
if_false x y h = ap (λ b. cond b x y) h

eqb_is : (x y : ℕ) → eqb x y ≡ true → x ≡ y
eqb_is x y h = grind (arith, nat_tests)

head_none : (slot : ℕ) (e : TaggedSlot) (es : List TaggedSlot) → times slot (slots_of (e ∷ es)) ≤ 1
    → eqb e.slot slot ≡ true → times slot (slots_of es) ≡ 0
head_none slot e es few h = let a = times_cons slot e.slot (slots_of es) in let b = one_if h in omega (arith, a, b, few)

rest_few : (slot : ℕ) (e : TaggedSlot) (es : List TaggedSlot) → times slot (slots_of (e ∷ es)) ≤ 1
    → times slot (slots_of es) ≤ 1
rest_few slot e es few = let a = times_cons slot e.slot (slots_of es) in omega (arith, a, few)

pub found_absent : {A : Type 0} (value : TaggedSlot → A) (none : A) (entries : List TaggedSlot) (slot : ℕ)
    → times slot (slots_of entries) ≡ 0 → value_found value none entries slot ≡ none
found_absent value none [] slot h = refl
found_absent value none (e ∷ es) slot h =
    pick (found_absent value none es slot (let a = times_cons slot e.slot (slots_of es) in omega (arith, a, h)))
    (eqb e.slot slot) refl
  where
    pick : value_found value none es slot ≡ none → (b : Bool) → eqb e.slot slot ≡ b
        → cond (eqb e.slot slot) (value e) (value_found value none es slot) ≡ none
    pick rest true is =
        absurd (let a = times_cons slot e.slot (slots_of es) in let b = one_if is in omega (arith, a, b, h))
    pick rest false is = if_false (value e) (value_found value none es slot) is ∙ rest

pub found_append : {A : Type 0} (value : TaggedSlot → A) (none : A) (xs ys : List TaggedSlot) (slot : ℕ)
    → value_found value none (xs ++ ys) slot ≡ value_found value (value_found value none ys slot) xs slot
found_append value none [] ys slot = refl
found_append value none (x ∷ xs) ys slot =
    ap (λ a. cond (eqb x.slot slot) (value x) a) (found_append value none xs ys slot)

or_cond : {A : Type 0} (a b : Bool) (x y : A) → cond a x (cond b x y) ≡ cond (a || b) x y
or_cond true b x y = refl
or_cond false b x y = refl

-- slots that were just tagged
pub found_tagged : (epoch : ℕ) (slots : List ℕ) (slot : ℕ)
    → tag_at (map (tagged_with epoch) slots) slot ≡ cond (is_in slot slots) (retire.Tagged epoch) retire.No
found_tagged epoch [] slot = refl
found_tagged epoch (x ∷ xs) slot =
    ap (λ a. cond (eqb x slot) (retire.Tagged epoch) a) (found_tagged epoch xs slot)
    ∙ (or_cond (eqb x slot) (is_in slot xs) (retire.Tagged epoch) retire.No
    ∙ ap (λ b. cond b (retire.Tagged epoch) retire.No) (sym (in_cons slot x xs)))

-- entries that keep their slots
pub found_map : {A : Type 0} (value : TaggedSlot → A) (none : A) (f : TaggedSlot → TaggedSlot)
    → ((e : TaggedSlot) → (f e).slot ≡ e.slot) → (entries : List TaggedSlot) (slot : ℕ)
    → value_found value none (map f entries) slot ≡ value_found (λ e. value (f e)) none entries slot
found_map value none f same [] slot = refl
found_map value none f same (e ∷ es) slot =
    ap (λ n. cond (eqb n slot) (value (f e)) (value_found value none (map f es) slot)) (same e)
    ∙ ap (λ a. cond (eqb e.slot slot) (value (f e)) a) (found_map value none f same es slot)

pub slots_map : (f : TaggedSlot → TaggedSlot) → ((e : TaggedSlot) → (f e).slot ≡ e.slot) → (entries : List TaggedSlot)
    → slots_of (map f entries) ≡ slots_of entries
slots_map f same [] = refl
slots_map f same (e ∷ es) = ap (λ n. n ∷ slots_of (map f es)) (same e) ∙ ap (λ l. e.slot ∷ l) (slots_map f same es)

pub slots_append : (xs ys : List TaggedSlot) → slots_of (xs ++ ys) ≡ slots_of xs ++ slots_of ys
slots_append [] ys = refl
slots_append (x ∷ xs) ys = ap (λ l. x.slot ∷ l) (slots_append xs ys)

pub slots_tagged : (epoch : ℕ) (slots : List ℕ) → slots_of (map (tagged_with epoch) slots) ≡ slots
slots_tagged epoch [] = refl
slots_tagged epoch (x ∷ xs) = ap (λ l. x ∷ l) (slots_tagged epoch xs)

pub found_same : {A : Type 0} (none : A) (entries : List TaggedSlot) (slot : ℕ)
    → value_found (λ e. none) none entries slot ≡ none
found_same none [] slot = refl
found_same none (e ∷ es) slot = ap (λ a. cond (eqb e.slot slot) none a) (found_same none es slot)
    ∙ twice (eqb e.slot slot)
  where
    twice : (b : Bool) → cond b none none ≡ none
    twice true = refl
    twice false = refl

pub unkept_twice : (entries : List TaggedSlot) → map unkept_entry (map unkept_entry entries) ≡ map unkept_entry entries
unkept_twice [] = refl
unkept_twice (e ∷ es) = ap (λ l. unkept_entry e ∷ l) (unkept_twice es)

pub unkept_tagged : (epoch : ℕ) (slots : List ℕ)
    → map unkept_entry (map (tagged_with epoch) slots) ≡ map (tagged_with epoch) slots
unkept_tagged epoch [] = refl
unkept_tagged epoch (x ∷ xs) = ap (λ l. tagged_with epoch x ∷ l) (unkept_tagged epoch xs)

retired_cond : (b : Bool) (tag : ℕ) (r : Retired) → is_retired (cond b (retire.Tagged tag) r) ≡ (b || is_retired r)
retired_cond true tag r = refl
retired_cond false tag r = refl

pub tag_is_retired : (entries : List TaggedSlot) (slot : ℕ)
    → is_retired (tag_at entries slot) ≡ is_in slot (slots_of entries)
tag_is_retired [] slot = refl
tag_is_retired (e ∷ es) slot = retired_cond (eqb e.slot slot) e.tag (tag_at es slot)
    ∙ (ap (λ b. eqb e.slot slot || b) (tag_is_retired es slot) ∙ sym (in_cons slot e.slot (slots_of es)))

-- a tag stays
pub tag_stays : (epoch : ℕ) (entries : List TaggedSlot) (slot : ℕ)
    → tag_with epoch (tag_at entries slot) ≡ tag_at entries slot
tag_stays epoch [] slot = refl
tag_stays epoch (e ∷ es) slot = through (eqb e.slot slot)
    ∙ ap (λ r. cond (eqb e.slot slot) (retire.Tagged e.tag) r) (tag_stays epoch es slot)
  where
    through : (b : Bool) → tag_with epoch (cond b (retire.Tagged e.tag) (tag_at es slot))
        ≡ cond b (retire.Tagged e.tag) (tag_with epoch (tag_at es slot))
    through true = refl
    through false = refl

pub kept_is_in : (entries : List TaggedSlot) (slot : ℕ) → kept_of entries slot ≡ true
    → 0 < times slot (slots_of entries)
kept_is_in [] slot h = absurd (false≢true h)
kept_is_in (e ∷ es) slot h = pick (kept_is_in es slot) (eqb e.slot slot) refl
  where
    pick : (kept_of es slot ≡ true → 0 < times slot (slots_of es)) → (b : Bool) → eqb e.slot slot ≡ b
        → 0 < times slot (slots_of (e ∷ es))
    pick there true is = let a = times_cons slot e.slot (slots_of es) in let b = one_if is in omega (arith, a, b)
    pick there false is =
        let rest = there (sym (if_false (is_kept e) (kept_of es slot) is) ∙ h) in
        let a = times_cons slot e.slot (slots_of es) in
        omega (arith, a, rest)

-- a shield was found on a slot

pub kept_here : (entries : List TaggedSlot) (slot : ℕ) → 0 < times slot (slots_of entries)
    → kept_of (map (kept_at slot) entries) slot ≡ true
kept_here [] slot h = absurd (omega (arith, h))
kept_here (e ∷ es) slot h = pick (kept_here es slot) (eqb e.slot slot) refl
  where
    pick : (0 < times slot (slots_of es) → kept_of (map (kept_at slot) es) slot ≡ true) → (b : Bool)
        → eqb e.slot slot ≡ b → cond (eqb e.slot slot) (cond (eqb e.slot slot) true e.kept)
        (kept_of (map (kept_at slot) es) slot) ≡ true
    pick rest true is = if_true (cond (eqb e.slot slot) true e.kept) (kept_of (map (kept_at slot) es) slot) is
        ∙ if_true true e.kept is
    pick rest false is = if_false (cond (eqb e.slot slot) true e.kept) (kept_of (map (kept_at slot) es) slot) is
        ∙ rest (let a = times_cons slot e.slot (slots_of es) in let b = none_if is in omega (arith, a, b, h))

pub kept_else : (entries : List TaggedSlot) (slot other : ℕ) → other ≢ slot
    → kept_of (map (kept_at slot) entries) other ≡ kept_of entries other
kept_else [] slot other apart = refl
kept_else (e ∷ es) slot other apart = ap (λ b. cond (eqb e.slot other) (cond (eqb e.slot slot) true e.kept) b)
    (kept_else es slot other apart) ∙ pick (eqb e.slot other) refl
  where
    pick : (b : Bool) → eqb e.slot other ≡ b
        → cond (eqb e.slot other) (cond (eqb e.slot slot) true e.kept) (kept_of es other)
        ≡ cond (eqb e.slot other) e.kept (kept_of es other)
    pick true is = ap (λ k. cond (eqb e.slot other) k (kept_of es other))
        (if_false true e.kept (ne_eqb e.slot slot (λ same. apart (sym (eqb_is e.slot other is) ∙ same))))
    pick false is = if_false (cond (eqb e.slot slot) true e.kept) (kept_of es other) is
        ∙ sym (if_false e.kept (kept_of es other) is)

-- a Give

pub found_kept : (entries : List TaggedSlot) (slot : ℕ) → times slot (slots_of entries) ≤ 1
    → tag_at (filter is_kept entries) slot ≡ cond (kept_of entries slot) (tag_at entries slot) retire.No
found_kept [] slot few = refl
found_kept (e ∷ es) slot few = pick (found_kept es slot (rest_few slot e es few)) e.kept refl (eqb e.slot slot) refl
  where
    Goal : Type 0
    Goal = tag_at (cond (is_kept e) (e ∷ filter is_kept es) (filter is_kept es)) slot
        ≡ cond (kept_of (e ∷ es) slot) (tag_at (e ∷ es) slot) retire.No

    right : (b : Bool) → eqb e.slot slot ≡ b
        → cond (cond b e.kept (kept_of es slot)) (cond b (tag_of e) (tag_at es slot)) retire.No
        ≡ cond (kept_of (e ∷ es) slot) (tag_at (e ∷ es) slot) retire.No
    right b is = ap (λ c. cond (cond c e.kept (kept_of es slot)) (cond c (tag_of e) (tag_at es slot)) retire.No)
        (sym is)

    pick : tag_at (filter is_kept es) slot ≡ cond (kept_of es slot) (tag_at es slot) retire.No → (k : Bool) → e.kept ≡ k
        → (b : Bool) → eqb e.slot slot ≡ b → Goal
    pick rest true kept true is = ap (λ k. tag_at (cond k (e ∷ filter is_kept es) (filter is_kept es)) slot) kept
        ∙ (if_true (tag_of e) (tag_at (filter is_kept es) slot) is
        ∙ (sym (if_true (tag_of e) retire.No kept) ∙ right true is))
    pick rest true kept false is = ap (λ k. tag_at (cond k (e ∷ filter is_kept es) (filter is_kept es)) slot) kept
        ∙ (if_false (tag_of e) (tag_at (filter is_kept es) slot) is ∙ (rest ∙ right false is))
    pick rest false kept true is = ap (λ k. tag_at (cond k (e ∷ filter is_kept es) (filter is_kept es)) slot) kept
        ∙ (rest ∙ (if_false (tag_at es slot) retire.No (found_absent is_kept false es slot (head_none slot e es few is))
        ∙ (sym (if_false (tag_of e) retire.No kept) ∙ right true is)))
    pick rest false kept false is = ap (λ k. tag_at (cond k (e ∷ filter is_kept es) (filter is_kept es)) slot) kept
        ∙ (rest ∙ right false is)

sum_map : (slot : ℕ) (entries : List TaggedSlot)
    → times slot (slots_of entries) ≡ sum_by (λ (e : TaggedSlot). cond (eqb e.slot slot) 1 0) entries
sum_map slot entries = count_map (λ n. eqb n slot) (λ (e : TaggedSlot). e.slot) entries

-- those that are kept, and the others
pub times_parted : (entries : List TaggedSlot) (slot : ℕ)
    → times slot (slots_of (filter is_kept entries)) + times slot (slots_of (filter is_given entries))
    ≡ times slot (slots_of entries)
times_parted entries slot =
    let a = sum_map slot (filter is_kept entries) in
    let b = sum_map slot (filter is_given entries) in
    let d = sum_map slot entries in
    let e = sum_by-filter_both is_kept is_given (λ _. refl) (λ (e : TaggedSlot). cond (eqb e.slot slot) 1 0) entries in
    omega (arith, a, b, d, e)

-- a slot is among those that are kept where it is found so
pub times_kept : (entries : List TaggedSlot) (slot : ℕ) → times slot (slots_of entries) ≤ 1
    → times slot (slots_of (filter is_kept entries)) ≡ cond (kept_of entries slot) 1 0
times_kept [] slot few = refl
times_kept (e ∷ es) slot few = pick (times_kept es slot (rest_few slot e es few)) e.kept refl (eqb e.slot slot) refl
  where
    more : e.kept ≡ true → times slot (slots_of (filter is_kept (e ∷ es)))
        ≡ cond (eqb e.slot slot) 1 0 + times slot (slots_of (filter is_kept es))
    more kept = ap (λ k. times slot (slots_of (cond k (e ∷ filter is_kept es) (filter is_kept es)))) kept
        ∙ times_cons slot e.slot (slots_of (filter is_kept es))

    same : e.kept ≡ false → times slot (slots_of (filter is_kept (e ∷ es))) ≡ times slot (slots_of (filter is_kept es))
    same kept = ap (λ k. times slot (slots_of (cond k (e ∷ filter is_kept es) (filter is_kept es)))) kept

    found_head : eqb e.slot slot ≡ true → ◌≡◌ {A = ℕ} (cond (kept_of (e ∷ es) slot) 1 0) (cond e.kept 1 0)
    found_head is = ap (λ b. cond b 1 0) (if_true (is_kept e) (kept_of es slot) is)

    found_rest : eqb e.slot slot ≡ false → ◌≡◌ {A = ℕ} (cond (kept_of (e ∷ es) slot) 1 0) (cond (kept_of es slot) 1 0)
    found_rest is = ap (λ b. cond b 1 0) (if_false (is_kept e) (kept_of es slot) is)

    none : eqb e.slot slot ≡ true → ◌≡◌ {A = ℕ} (cond (kept_of es slot) 1 0) 0
    none is = none_if (found_absent is_kept false es slot (head_none slot e es few is))

    pick : times slot (slots_of (filter is_kept es)) ≡ cond (kept_of es slot) 1 0 → (k : Bool) → e.kept ≡ k → (b : Bool)
        → eqb e.slot slot ≡ b → times slot (slots_of (filter is_kept (e ∷ es))) ≡ cond (kept_of (e ∷ es) slot) 1 0
    pick rest true kept true is = let a = more kept in let b = one_if is in let d = found_head is in
        let f = one_if kept in let g = none is in omega (arith, a, b, d, f, g, rest)
    pick rest true kept false is = let a = more kept in let b = none_if is in let d = found_rest is in
        omega (arith, a, b, d, rest)
    pick rest false kept true is = let a = same kept in let d = found_head is in let f = none_if kept in
        let g = none is in omega (arith, a, d, f, g, rest)
    pick rest false kept false is = let a = same kept in let d = found_rest is in omega (arith, a, d, rest)

-- so far as the list was gone over
pub given_few : (entries : List TaggedSlot) (index : ℕ)
    → length (slots_of (filter is_given (take index entries))) ≤ index
given_few entries index =
    let a = length-map (filter is_given (take index entries)) (λ (e : TaggedSlot). e.slot) in
    let b = length-filter is_given (take index entries) in
    let d = count_by-le-length is_given (take index entries) in
    let e = length-take index entries in
    omega (arith, a, b, d, e)

-- without a kept one, none is left
pub none_left : (entries : List TaggedSlot) → map unkept_entry entries ≡ entries
    → map unkept_entry (filter is_kept entries) ≡ filter is_kept entries
none_left entries h = subst (λ l. map unkept_entry l ≡ l) (sym (none entries) ∙ ap (filter is_kept) h) refl
  where
    none : (es : List TaggedSlot) → filter is_kept (map unkept_entry es) ≡ []
    none [] = refl
    none (e ∷ es) = none es

-- what is read past the end
abbrev pub nobody : TaggedSlot
nobody = record { slot = 0; tag = 0; kept = false }
