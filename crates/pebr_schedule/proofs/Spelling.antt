-- Pieces, numbers, lines and steps: what is read has its one spelling, and what has this spelling is read.
use Rattle.std.proofs.Common.{◌≡◌, ℕ, ◌<◌, ◌^◌, ◌≤◌, Bool, true, false, not, ◌&&◌, List, [], ◌∷◌, ◌++◌, map, Option}
use Rattle.std.proofs.Common.{Some, None, option_map, option_and_then, cond, codes, decimal, bytes_eq, refl, sym, ◌∙◌}
use Rattle.std.proofs.Common.{ap, subst, arith, eqb, leb, append-nil}
use Rattle.std.specs.List.{list_all}
use Rattle.std.proofs.lemmas.Bool.{and_parts, and_from, le-leb, leb-true, ne_eqb, eqb-true, eq-eqb, not-true}
use Rattle.std.proofs.lemmas.Option.{none-some, same_Some}
use Rattle.std.proofs.lemmas.Slice.Eq.{bytes_eq-Decides}
use Rattle.std.proofs.lemmas.List.Folds.{list_all-append}
use Rattle.pebr_core.specs.declared.kinds.Step.{Step}
use Rattle.pebr_core.specs.declared.kinds.Step.TheVariants as step
use Rattle.pebr_schedule.specs.Numbers.{is_digit, with_front, pieces_of, number_of, numbers_of}
use Rattle.pebr_schedule.specs.Grammar.{is_small, step_of_one, step_of_two, step_of_three, step_of_four, step_with}
use Rattle.pebr_schedule.specs.Grammar.{line_with, step_of}
use Rattle.pebr_schedule.specs.Spelled.{numbers_text, name_of, numbers_in, AreSmall, IsWritable, step_text}
use Rattle.pebr_schedule.proofs.Decimals.{number_decimal, decimal_number, decimal_digits}
use Rattle.pebr_schedule.proofs.Lines.{some_piece}

-- Pieces, joined again

abbrev pub joined_by : ℕ → List (List ℕ) → List ℕ
joined_by at [] = []
joined_by at (piece ∷ []) = piece
joined_by at (piece ∷ next ∷ pieces) = piece ++ at ∷ joined_by at (next ∷ pieces)

joined-front : (at b : ℕ) (piece : List ℕ) (pieces : List (List ℕ))
    → joined_by at ((b ∷ piece) ∷ pieces) ≡ b ∷ joined_by at (piece ∷ pieces)
joined-front at b piece [] = refl
joined-front at b piece (next ∷ pieces) = refl

joined_step : (at b : ℕ) (bs : List ℕ)
    → ((piece : List ℕ) × (pieces : List (List ℕ)) × (pieces_of at bs ≡ piece ∷ pieces))
    → joined_by at (pieces_of at bs) ≡ bs → joined_by at (pieces_of at (b ∷ bs)) ≡ b ∷ bs
joined_step at b bs next whole = pick (eqb b at) refl
  where
    pick : (t : Bool) → eqb b at ≡ t → joined_by at (cond t ([] ∷ pieces_of at bs) (with_front b (pieces_of at bs)))
        ≡ b ∷ bs
    pick true is =
        ap (λ ps. joined_by at ([] ∷ ps)) next.2
        ∙ (ap (λ l. at ∷ l) (ap (joined_by at) (sym next.2) ∙ whole) ∙ ap (λ c. c ∷ bs) (sym (eqb-true b at is)))
    pick false is =
        ap (λ ps. joined_by at (with_front b ps)) next.2
        ∙ (joined-front at b next.0 next.1 ∙ ap (λ l. b ∷ l) (ap (joined_by at) (sym next.2) ∙ whole))

pub joined-pieces : (at : ℕ) (text : List ℕ) → joined_by at (pieces_of at text) ≡ text
joined-pieces at [] = refl
joined-pieces at (b ∷ bs) = joined_step at b bs (some_piece at bs) (joined-pieces at bs)

-- Pieces of a text that is written out

-- the byte isn't among these
abbrev pub lacks : ℕ → List ℕ → Bool
lacks at piece = list_all (λ b. not (eqb b at)) piece

pieces-lacking : (at : ℕ) (piece : List ℕ) → lacks at piece ≡ true → pieces_of at piece ≡ piece ∷ []
pieces-lacking at [] h = refl
pieces-lacking at (b ∷ bs) h =
    let parts = and_parts (not (eqb b at)) (lacks at bs) h in
    ap (λ t. cond t ([] ∷ pieces_of at bs) (with_front b (pieces_of at bs))) (not-true (eqb b at) parts.0)
    ∙ ap (with_front b) (pieces-lacking at bs parts.1)

pub pieces-at : (at : ℕ) (piece rest : List ℕ) → lacks at piece ≡ true
    → pieces_of at (piece ++ at ∷ rest) ≡ piece ∷ pieces_of at rest
pieces-at at [] rest h = ap (λ t. cond t ([] ∷ pieces_of at rest) (with_front at (pieces_of at rest)))
    (eq-eqb at at refl)
pieces-at at (b ∷ bs) rest h =
    let parts = and_parts (not (eqb b at)) (lacks at bs) h in
    ap (λ t. cond t ([] ∷ pieces_of at (bs ++ at ∷ rest)) (with_front b (pieces_of at (bs ++ at ∷ rest))))
    (not-true (eqb b at) parts.0)
    ∙ ap (with_front b) (pieces-at at bs rest parts.1)

digit-lacks : (at b : ℕ) → at < 48 → is_digit b ≡ true → not (eqb b at) ≡ true
digit-lacks at b low h =
    let above = leb-true 48 b (and_parts (leb 48 b) (leb b 57) h).0 in
    ap not (ne_eqb b at (λ e. omega arith))

digits-lack : (at : ℕ) (piece : List ℕ) → at < 48 → list_all is_digit piece ≡ true → lacks at piece ≡ true
digits-lack at [] low h = refl
digits-lack at (b ∷ bs) low h =
    let parts = and_parts (is_digit b) (list_all is_digit bs) h in
    and_from (not (eqb b at)) (lacks at bs) (digit-lacks at b low parts.0) (digits-lack at bs low parts.1)

-- Numbers

abbrev pub AreNumbers : List ℕ → Type 0
AreNumbers [] = Unit {0}
AreNumbers (n ∷ ns) = (n < 2 ^ 64) × AreNumbers ns

pieces-spelled : (piece : List ℕ) (ns : List ℕ) → lacks 32 piece ≡ true → AreNumbers ns
    → pieces_of 32 (piece ++ numbers_text ns) ≡ piece ∷ map decimal ns
pieces-spelled piece [] h k = ap (pieces_of 32) (append-nil piece) ∙ pieces-lacking 32 piece h
pieces-spelled piece (n ∷ ns) h k =
    pieces-at 32 piece (decimal n ++ numbers_text ns) h
    ∙ ap (λ ps. piece ∷ ps)
    (pieces-spelled (decimal n) ns (digits-lack 32 (decimal n) (omega arith) (decimal_digits n k.0)) k.1)

numbers-decimals : (ns : List ℕ) → AreNumbers ns → numbers_of (map decimal ns) ≡ Some ns
numbers-decimals [] k = refl
numbers-decimals (n ∷ ns) k =
    ap (λ o. option_and_then (λ number. option_map (λ numbers. number ∷ numbers) (numbers_of (map decimal ns))) o)
    (number_decimal n k.0)
    ∙ ap (option_map (λ numbers. n ∷ numbers)) (numbers-decimals ns k.1)

numbers-read : (pieces : List (List ℕ)) (ns : List ℕ) → numbers_of pieces ≡ Some ns
    → (pieces ≡ map decimal ns) × AreNumbers ns
numbers-read [] ns h = subst (λ l. ([] ≡ map decimal l) × AreNumbers l) (same_Some [] ns h) (refl, tt)
numbers-read (w ∷ ws) ns h = first (numbers-read ws) (number_of w) refl h
  where
    second : (n : ℕ) → number_of w ≡ Some n → (o : Option (List ℕ))
        → ((more : List ℕ) → o ≡ Some more → (ws ≡ map decimal more) × AreNumbers more)
        → option_map (λ numbers. n ∷ numbers) o ≡ Some ns → (w ∷ ws ≡ map decimal ns) × AreNumbers ns
    second n is None k e = absurd (none-some ns e)
    second n is (Some more) k e =
        let rest = k more refl in
        let one = decimal_number w n is in
        subst (λ l. (w ∷ ws ≡ map decimal l) × AreNumbers l) (same_Some (n ∷ more) ns e)
        (ap (λ x. x ∷ ws) one.0 ∙ ap (λ l. decimal n ∷ l) rest.0, (one.1, rest.1))

    first : ((more : List ℕ) → numbers_of ws ≡ Some more → (ws ≡ map decimal more) × AreNumbers more) → (o : Option ℕ)
        → number_of w ≡ o → option_and_then (λ number. option_map (λ numbers. number ∷ numbers) (numbers_of ws)) o
        ≡ Some ns → (w ∷ ws ≡ map decimal ns) × AreNumbers ns
    first others None is e = absurd (none-some ns e)
    first others (Some n) is e = second n is (numbers_of ws) others e

joined-spelled : (piece : List ℕ) (ns : List ℕ) → joined_by 32 (piece ∷ map decimal ns) ≡ piece ++ numbers_text ns
joined-spelled piece [] = sym (append-nil piece)
joined-spelled piece (n ∷ ns) = ap (λ l. piece ++ 32 ∷ l) (joined-spelled (decimal n) ns)

pub spelled-lack : (piece : List ℕ) (ns : List ℕ) → lacks 10 piece ≡ true → AreNumbers ns
    → lacks 10 (piece ++ numbers_text ns) ≡ true
spelled-lack piece [] h k = ap (lacks 10) (append-nil piece) ∙ h
spelled-lack piece (n ∷ ns) h k =
    list_all-append (λ b. not (eqb b 10)) piece (32 ∷ (decimal n ++ numbers_text ns))
    ∙ and_from (lacks 10 piece) (lacks 10 (32 ∷ (decimal n ++ numbers_text ns))) h
    (spelled-lack (decimal n) ns (digits-lack 10 (decimal n) (omega arith) (decimal_digits n k.0)) k.1)

-- A line of a name and numbers

pub line-read : {A : Type 0} (known : List ℕ → List ℕ → Option A) (text : List ℕ) (a : A)
    → line_with known (pieces_of 32 text) ≡ Some a
    → (name : List ℕ) × (ns : List ℕ) × (text ≡ name ++ numbers_text ns) × AreNumbers ns × (known name ns ≡ Some a)
line-read {A} known text a h = pick (pieces_of 32 text) (joined-pieces 32 text) h
  where
    found : (name : List ℕ) (pieces : List (List ℕ)) → joined_by 32 (name ∷ pieces) ≡ text → (o : Option (List ℕ))
        → numbers_of pieces ≡ o → option_and_then (known name) o ≡ Some a
        → (n : List ℕ) × (ns : List ℕ) × (text ≡ n ++ numbers_text ns) × AreNumbers ns × (known n ns ≡ Some a)
    found name pieces whole None is e = absurd (none-some a e)
    found name pieces whole (Some ns) is e =
        let read = numbers-read pieces ns is in
        (name, ns, sym whole ∙ (ap (λ ws. joined_by 32 (name ∷ ws)) read.0 ∙ joined-spelled name ns), read.1, e)

    pick : (ps : List (List ℕ)) → joined_by 32 ps ≡ text → line_with known ps ≡ Some a
        → (n : List ℕ) × (ns : List ℕ) × (text ≡ n ++ numbers_text ns) × AreNumbers ns × (known n ns ≡ Some a)
    pick [] whole e = absurd (none-some a e)
    pick (name ∷ pieces) whole e = found name pieces whole (numbers_of pieces) refl e

pub line-written : {A : Type 0} (known : List ℕ → List ℕ → Option A) (name : List ℕ) (ns : List ℕ) (a : A)
    → lacks 32 name ≡ true → AreNumbers ns → known name ns ≡ Some a
    → line_with known (pieces_of 32 (name ++ numbers_text ns)) ≡ Some a
line-written known name ns a h k e =
    ap (line_with known) (pieces-spelled name ns h k) ∙ (ap (option_and_then (known name)) (numbers-decimals ns k) ∙ e)

-- Steps

small-from : (n : ℕ) → n ≤ 65535 → is_small n ≡ true
small-from n h = le-leb n 65535 h

small-number : (n : ℕ) → n ≤ 65535 → n < 2 ^ 64
small-number n h = omega arith

are-numbers : (ns : List ℕ) → AreSmall ns → AreNumbers ns
are-numbers [] h = tt
are-numbers (n ∷ ns) h = (small-number n h.0, are-numbers ns h.1)

-- a step is that of its name and numbers
one-known : (name : List ℕ) (i : ℕ) (s : Step) → AreSmall (i ∷ []) → step_of_one name i ≡ Some s
    → step_with name (i ∷ []) ≡ Some s
one-known name i s h e = ap (λ b. cond b (step_of_one name i) None) (small-from i h.0) ∙ e

two-known : (name : List ℕ) (i j : ℕ) (s : Step) → AreSmall (i ∷ j ∷ []) → step_of_two name i j ≡ Some s
    → step_with name (i ∷ j ∷ []) ≡ Some s
two-known name i j s h e = ap (λ b. cond b (step_of_two name i j) None)
    (and_from (is_small i) (is_small j) (small-from i h.0) (small-from j h.1.0)) ∙ e

three-small : (i j k : ℕ) → AreSmall (i ∷ j ∷ k ∷ []) → (is_small i && is_small j && is_small k) ≡ true
three-small i j k h = and_from (is_small i && is_small j) (is_small k)
    (and_from (is_small i) (is_small j) (small-from i h.0) (small-from j h.1.0)) (small-from k h.1.1.0)

three-known : (name : List ℕ) (i j k : ℕ) (s : Step) → AreSmall (i ∷ j ∷ k ∷ []) → step_of_three name i j k ≡ Some s
    → step_with name (i ∷ j ∷ k ∷ []) ≡ Some s
three-known name i j k s h e = ap (λ b. cond b (step_of_three name i j k) None) (three-small i j k h) ∙ e

step-known : (s : Step) → IsWritable s → step_with (name_of s) (numbers_in s) ≡ Some s
step-known (step.Note i) h = one-known (codes "note") i (step.Note i) h refl
step-known (step.Pin i) h = one-known (codes "pin") i (step.Pin i) h refl
step-known (step.Leave i) h = one-known (codes "leave") i (step.Leave i) h refl
step-known (step.Advance i) h = one-known (codes "advance") i (step.Advance i) h refl
step-known (step.Check i) h = one-known (codes "check") i (step.Check i) h refl
step-known (step.Give i) h = one-known (codes "give") i (step.Give i) h refl
step-known (step.Look i j) h = two-known (codes "look") i j (step.Look i j) h refl
step-known (step.Eject i j) h = two-known (codes "eject") i j (step.Eject i j) h refl
step-known (step.Load i root) h = two-known (codes "load") i root (step.Load i root) h refl
step-known (step.Unshield i place) h = two-known (codes "unshield") i place (step.Unshield i place) h refl
step-known (step.Shield i place slot) h = three-known (codes "shield") i place slot (step.Shield i place slot) h refl
step-known (step.Read i slot word) h = three-known (codes "read") i slot word (step.Read i slot word) h refl
step-known (step.Scan i j place) h = three-known (codes "scan") i j place (step.Scan i j place) h refl
step-known (step.Write i slot word value) h =
    ap (λ b. cond b (step_of_four (codes "write") i slot word value) None) (three-small i slot word h.0)
step-known (step.Replace i root old new) h =
    ap (λ b. cond b (step_of_four (codes "replace") i root old new) None)
    (three-small i root old (h.0, (h.1.0, (h.1.1.0, tt))))
    ∙ ap (λ b. cond b (Some (step.Replace i root old new)) None) (small-from new h.1.1.1.0)

pub writable-numbers : (s : Step) → IsWritable s → AreNumbers (numbers_in s)
writable-numbers (step.Write i slot word value) h =
    (small-number i h.0.0, (small-number slot h.0.1.0, (small-number word h.0.1.1.0, (h.1, tt))))
writable-numbers (step.Note i) h = are-numbers (i ∷ []) h
writable-numbers (step.Pin i) h = are-numbers (i ∷ []) h
writable-numbers (step.Leave i) h = are-numbers (i ∷ []) h
writable-numbers (step.Advance i) h = are-numbers (i ∷ []) h
writable-numbers (step.Check i) h = are-numbers (i ∷ []) h
writable-numbers (step.Give i) h = are-numbers (i ∷ []) h
writable-numbers (step.Look i j) h = are-numbers (i ∷ j ∷ []) h
writable-numbers (step.Eject i j) h = are-numbers (i ∷ j ∷ []) h
writable-numbers (step.Load i root) h = are-numbers (i ∷ root ∷ []) h
writable-numbers (step.Unshield i place) h = are-numbers (i ∷ place ∷ []) h
writable-numbers (step.Shield i place slot) h = are-numbers (i ∷ place ∷ slot ∷ []) h
writable-numbers (step.Read i slot word) h = are-numbers (i ∷ slot ∷ word ∷ []) h
writable-numbers (step.Scan i j place) h = are-numbers (i ∷ j ∷ place ∷ []) h
writable-numbers (step.Replace i root old new) h = are-numbers (i ∷ root ∷ old ∷ new ∷ []) h

pub name-lacks : (s : Step) → (lacks 32 (name_of s) ≡ true) × (lacks 10 (name_of s) ≡ true)
name-lacks (step.Note i) = (refl, refl)
name-lacks (step.Pin i) = (refl, refl)
name-lacks (step.Leave i) = (refl, refl)
name-lacks (step.Advance i) = (refl, refl)
name-lacks (step.Check i) = (refl, refl)
name-lacks (step.Give i) = (refl, refl)
name-lacks (step.Look i j) = (refl, refl)
name-lacks (step.Eject i j) = (refl, refl)
name-lacks (step.Load i root) = (refl, refl)
name-lacks (step.Unshield i place) = (refl, refl)
name-lacks (step.Shield i place slot) = (refl, refl)
name-lacks (step.Read i slot word) = (refl, refl)
name-lacks (step.Scan i j place) = (refl, refl)
name-lacks (step.Write i slot word value) = (refl, refl)
name-lacks (step.Replace i root old new) = (refl, refl)

pub step-written : (s : Step) → IsWritable s → step_of (step_text s) ≡ Some s
step-written s h = line-written step_with (name_of s) (numbers_in s) s (name-lacks s).0 (writable-numbers s h)
    (step-known s h)

-- what a known name and numbers tell of the step
abbrev Tells : List ℕ → List ℕ → Step → Type 0
Tells name ns s = (name ≡ name_of s) × (ns ≡ numbers_in s) × IsWritable s

pick_if : (P : Step → Type 0) (b : Bool) (x : Step) (rest : Option Step) (s : Step) → (b ≡ true → P x)
    → (rest ≡ Some s → P s) → cond b (Some x) rest ≡ Some s → P s
pick_if P true x rest s h k e = subst P (same_Some x s e) (h refl)
pick_if P false x rest s h k e = k e

-- where a test failed there is no step
when_small : (b : Bool) (o : Option Step) (s : Step) → cond b o None ≡ Some s → (b ≡ true) × (o ≡ Some s)
when_small true o s e = (refl, e)
when_small false o s e = absurd (none-some s e)

pub named : (name other : List ℕ) → bytes_eq name other ≡ true → name ≡ other
named name other h = (bytes_eq-Decides name other).0 h

one-tells : (name : List ℕ) (i : ℕ) (s : Step) → AreSmall (i ∷ []) → step_of_one name i ≡ Some s → Tells name (i ∷ []) s
one-tells name i s h =
    pick_if (Tells name (i ∷ [])) (bytes_eq name (codes "note")) (step.Note i) _ s
    (λ t. (named name (codes "note") t, refl, h))
    (pick_if (Tells name (i ∷ [])) (bytes_eq name (codes "pin")) (step.Pin i) _ s
    (λ t. (named name (codes "pin") t, refl, h))
    (pick_if (Tells name (i ∷ [])) (bytes_eq name (codes "leave")) (step.Leave i) _ s
    (λ t. (named name (codes "leave") t, refl, h))
    (pick_if (Tells name (i ∷ [])) (bytes_eq name (codes "advance")) (step.Advance i) _ s
    (λ t. (named name (codes "advance") t, refl, h))
    (pick_if (Tells name (i ∷ [])) (bytes_eq name (codes "check")) (step.Check i) _ s
    (λ t. (named name (codes "check") t, refl, h))
    (pick_if (Tells name (i ∷ [])) (bytes_eq name (codes "give")) (step.Give i) None s
    (λ t. (named name (codes "give") t, refl, h))
    (λ e. absurd (none-some s e)))))))

two-tells : (name : List ℕ) (i j : ℕ) (s : Step) → AreSmall (i ∷ j ∷ []) → step_of_two name i j ≡ Some s
    → Tells name (i ∷ j ∷ []) s
two-tells name i j s h =
    pick_if (Tells name (i ∷ j ∷ [])) (bytes_eq name (codes "look")) (step.Look i j) _ s
    (λ t. (named name (codes "look") t, refl, h))
    (pick_if (Tells name (i ∷ j ∷ [])) (bytes_eq name (codes "eject")) (step.Eject i j) _ s
    (λ t. (named name (codes "eject") t, refl, h))
    (pick_if (Tells name (i ∷ j ∷ [])) (bytes_eq name (codes "load")) (step.Load i j) _ s
    (λ t. (named name (codes "load") t, refl, h))
    (pick_if (Tells name (i ∷ j ∷ [])) (bytes_eq name (codes "unshield")) (step.Unshield i j) None s
    (λ t. (named name (codes "unshield") t, refl, h))
    (λ e. absurd (none-some s e)))))

three-tells : (name : List ℕ) (i j k : ℕ) (s : Step) → AreSmall (i ∷ j ∷ k ∷ []) → step_of_three name i j k ≡ Some s
    → Tells name (i ∷ j ∷ k ∷ []) s
three-tells name i j k s h =
    pick_if (Tells name (i ∷ j ∷ k ∷ [])) (bytes_eq name (codes "shield")) (step.Shield i j k) _ s
    (λ t. (named name (codes "shield") t, refl, h))
    (pick_if (Tells name (i ∷ j ∷ k ∷ [])) (bytes_eq name (codes "read")) (step.Read i j k) _ s
    (λ t. (named name (codes "read") t, refl, h))
    (pick_if (Tells name (i ∷ j ∷ k ∷ [])) (bytes_eq name (codes "scan")) (step.Scan i j k) None s
    (λ t. (named name (codes "scan") t, refl, h))
    (λ e. absurd (none-some s e))))

four-tells : (name : List ℕ) (i j k value : ℕ) (s : Step) → AreSmall (i ∷ j ∷ k ∷ []) → value < 2 ^ 64
    → step_of_four name i j k value ≡ Some s → Tells name (i ∷ j ∷ k ∷ value ∷ []) s
four-tells name i j k value s h low =
    pick_if (Tells name (i ∷ j ∷ k ∷ value ∷ [])) (bytes_eq name (codes "write")) (step.Write i j k value) _ s
    (λ t. (named name (codes "write") t, refl, (h, low)))
    (pick_if (Tells name (i ∷ j ∷ k ∷ value ∷ [])) (bytes_eq name (codes "replace") && is_small value)
    (step.Replace i j k value) None s
    (λ t. let parts = and_parts (bytes_eq name (codes "replace")) (is_small value) t in
    (named name (codes "replace") parts.0, refl, (h.0, (h.1.0, (h.1.1.0, (leb-true value 65535 parts.1, tt))))))
    (λ e. absurd (none-some s e)))

three-parts : (i j k : ℕ) → (is_small i && is_small j && is_small k) ≡ true → AreSmall (i ∷ j ∷ k ∷ [])
three-parts i j k h =
    let outer = and_parts (is_small i && is_small j) (is_small k) h in
    let inner = and_parts (is_small i) (is_small j) outer.0 in
    (leb-true i 65535 inner.0, (leb-true j 65535 inner.1, (leb-true k 65535 outer.1, tt)))

step-tells : (name ns : List ℕ) (s : Step) → AreNumbers ns → step_with name ns ≡ Some s → Tells name ns s
step-tells name [] s k e = absurd (none-some s e)
step-tells name (i ∷ []) s k e =
    let w = when_small (is_small i) (step_of_one name i) s e in
    one-tells name i s (leb-true i 65535 w.0, tt) w.1
step-tells name (i ∷ j ∷ []) s k e =
    let w = when_small (is_small i && is_small j) (step_of_two name i j) s e in
    let parts = and_parts (is_small i) (is_small j) w.0 in
    two-tells name i j s (leb-true i 65535 parts.0, (leb-true j 65535 parts.1, tt)) w.1
step-tells name (i ∷ j ∷ m ∷ []) s k e =
    let w = when_small (is_small i && is_small j && is_small m) (step_of_three name i j m) s e in
    three-tells name i j m s (three-parts i j m w.0) w.1
step-tells name (i ∷ j ∷ m ∷ value ∷ []) s k e =
    let w = when_small (is_small i && is_small j && is_small m) (step_of_four name i j m value) s e in
    four-tells name i j m value s (three-parts i j m w.0) k.1.1.1.0 w.1
step-tells name (i ∷ j ∷ m ∷ value ∷ more ∷ others) s k e = absurd (none-some s e)

pub step-read : (text : List ℕ) (s : Step) → step_of text ≡ Some s → (text ≡ step_text s) × IsWritable s
step-read text s h =
    let r = line-read step_with text s h in
    let t = step-tells r.0 r.1 s r.3 r.4 in
    (r.2 ∙ (ap (λ n. n ++ numbers_text r.1) t.0 ∙ ap (λ l. name_of s ++ numbers_text l) t.1), t.2)
