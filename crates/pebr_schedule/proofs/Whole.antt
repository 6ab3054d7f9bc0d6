-- Whole texts: what is read has the spelling of `spelled_text`, and what has this spelling is read.
use Rattle.std.proofs.Common.{◌≡◌, ℕ, ◌+◌, ◌≤◌, Bool, true, false, ◌&&◌, List, [], ◌∷◌, ◌++◌, flat_map, Option, Some}
use Rattle.std.proofs.Common.{None, Result, Ok, Err, cond, codes, bytes_eq, refl, sym, ◌∙◌, ap, subst, arith, leb}
use Rattle.std.proofs.Common.{append_assoc}
use Rattle.std.proofs.lemmas.Bool.{and_parts, and_from, le-leb, leb-true}
use Rattle.std.proofs.lemmas.Option.{none-some, same_Some}
use Rattle.pebr_core.specs.declared.kinds.Shape.{Shape}
use Rattle.pebr_core.specs.declared.kinds.Step.{Step}
use Rattle.pebr_schedule.specs.Numbers.{pieces_of}
use Rattle.pebr_schedule.specs.Grammar.{shape_with, step_of, shape_of, with_step, steps_of, with_shape, lines_of}
use Rattle.pebr_schedule.specs.Grammar.{schedule_of}
use Rattle.pebr_schedule.specs.Printed.{line}
use Rattle.pebr_schedule.specs.Spelled.{numbers_text, name_of, numbers_in, AreWritable, IsPrintable, step_text}
use Rattle.pebr_schedule.specs.Spelled.{shape_text, spelled_text}
use Rattle.pebr_schedule.proofs.Lines.{some_piece, lines_first}
use Rattle.pebr_schedule.proofs.Spelling.{joined_by, joined-pieces, lacks, pieces-at, AreNumbers, spelled-lack, line-read}
use Rattle.pebr_schedule.proofs.Spelling.{line-written, named, name-lacks, writable-numbers, step-written, step-read}

-- The first line

within-from : (n most : ℕ) → 1 ≤ n → n ≤ most → (leb 1 n && leb n most) ≡ true
within-from n most low high = and_from (leb 1 n) (leb n most) (le-leb 1 n low) (le-leb n most high)

within-parts : (n most : ℕ) → (leb 1 n && leb n most) ≡ true → (1 ≤ n) × (n ≤ most)
within-parts n most h = let p = and_parts (leb 1 n) (leb n most) h in (leb-true 1 n p.0, leb-true n most p.1)

abbrev in_limits : ℕ → ℕ → Bool
in_limits n most = leb 1 n && leb n most

shape-known : (shape : Shape) → IsPrintable shape
    → shape_with (codes "core") (shape.roots ∷ shape.seats ∷ shape.shields ∷ shape.batch ∷ shape.width ∷ [])
    ≡ Some shape
shape-known shape h =
    let r = within-from shape.roots 64 h.some_roots h.roots in
    let n = within-from shape.seats 16 h.some_seats h.seats in
    let s = within-from shape.shields 8 h.some_shields h.shields in
    let b = within-from shape.batch 64 h.some_batch h.batch in
    let w = within-from shape.width 10 h.some_width h.width in
    let all : (in_limits shape.roots 64 && in_limits shape.seats 16 && in_limits shape.shields 8 && in_limits
    shape.batch 64 && in_limits shape.width 10) ≡ true =
    and_from (in_limits shape.roots 64 && in_limits shape.seats 16 && in_limits shape.shields 8 && in_limits shape.batch
    64) (in_limits shape.width 10)
    (and_from (in_limits shape.roots 64 && in_limits shape.seats 16 && in_limits shape.shields 8)
    (in_limits shape.batch 64)
    (and_from (in_limits shape.roots 64 && in_limits shape.seats 16) (in_limits shape.shields 8)
    (and_from (in_limits shape.roots 64) (in_limits shape.seats 16) r n) s) b) w in
    ap (λ t. cond t (Some shape) None) all

shape-numbers : (shape : Shape) → IsPrintable shape
    → AreNumbers (shape.roots ∷ shape.seats ∷ shape.shields ∷ shape.batch ∷ shape.width ∷ [])
shape-numbers shape h =
    let r = h.roots in let n = h.seats in let s = h.shields in let b = h.batch in let w = h.width in
    (omega arith, (omega arith, (omega arith, (omega arith, (omega arith, tt)))))

shape-written : (shape : Shape) → IsPrintable shape → shape_of (shape_text shape) ≡ Some shape
shape-written shape h =
    line-written shape_with (codes "core") (shape.roots ∷ shape.seats ∷ shape.shields ∷ shape.batch ∷ shape.width ∷ [])
    shape refl (shape-numbers shape h) (shape-known shape h)

abbrev TellsShape : List ℕ → List ℕ → Shape → Type 0
TellsShape name ns shape = (name ≡ codes "core")
    × (ns ≡ shape.roots ∷ shape.seats ∷ shape.shields ∷ shape.batch ∷ shape.width ∷ []) × IsPrintable shape

shape-tells : (name ns : List ℕ) (shape : Shape) → shape_with name ns ≡ Some shape → TellsShape name ns shape
shape-tells name [] shape e = absurd (none-some shape e)
shape-tells name (r ∷ []) shape e = absurd (none-some shape e)
shape-tells name (r ∷ n ∷ []) shape e = absurd (none-some shape e)
shape-tells name (r ∷ n ∷ s ∷ []) shape e = absurd (none-some shape e)
shape-tells name (r ∷ n ∷ s ∷ b ∷ []) shape e = absurd (none-some shape e)
shape-tells name (r ∷ n ∷ s ∷ b ∷ w ∷ more ∷ others) shape e = absurd (none-some shape e)
shape-tells name (r ∷ n ∷ s ∷ b ∷ w ∷ []) shape e =
    pick (bytes_eq name (codes "core") && in_limits r 64 && in_limits n 16 && in_limits s 8 && in_limits b 64 &&
    in_limits w 10) refl e
  where
    this : Shape
    this = record { roots = r; seats = n; shields = s; batch = b; width = w }

    pick : (t : Bool)
        → (bytes_eq name (codes "core") && in_limits r 64 && in_limits n 16 && in_limits s 8 && in_limits b 64 &&
        in_limits w 10) ≡ t
        → cond t (Some (record { roots = r; seats = n; shields = s; batch = b; width = w })) None ≡ Some shape
        → TellsShape name (r ∷ n ∷ s ∷ b ∷ w ∷ []) shape
    pick false is k = absurd (none-some shape k)
    pick true is k =
        let p5 = and_parts
        (bytes_eq name (codes "core") && in_limits r 64 && in_limits n 16 && in_limits s 8 && in_limits b 64)
        (in_limits w 10) is in
        let p4 = and_parts (bytes_eq name (codes "core") && in_limits r 64 && in_limits n 16 && in_limits s 8)
        (in_limits b 64) p5.0 in
        let p3 = and_parts (bytes_eq name (codes "core") && in_limits r 64 && in_limits n 16) (in_limits s 8) p4.0 in
        let p2 = and_parts (bytes_eq name (codes "core") && in_limits r 64) (in_limits n 16) p3.0 in
        let p1 = and_parts (bytes_eq name (codes "core")) (in_limits r 64) p2.0 in
        let made : Shape = record { roots = r; seats = n; shields = s; batch = b; width = w } in
        subst (TellsShape name (r ∷ n ∷ s ∷ b ∷ w ∷ [])) (same_Some made shape k) (
          named name (codes "core") p1.0,
          refl,
          record {
            some_roots = (within-parts r 64 p1.1).0;
            roots = (within-parts r 64 p1.1).1;
            some_seats = (within-parts n 16 p2.1).0;
            seats = (within-parts n 16 p2.1).1;
            some_shields = (within-parts s 8 p3.1).0;
            shields = (within-parts s 8 p3.1).1;
            some_batch = (within-parts b 64 p4.1).0;
            batch = (within-parts b 64 p4.1).1;
            some_width = (within-parts w 10 p5.1).0;
            width = (within-parts w 10 p5.1).1;
          },
        )

shape-read : (text : List ℕ) (shape : Shape) → shape_of text ≡ Some shape
    → (text ≡ shape_text shape) × IsPrintable shape
shape-read text shape h =
    let r = line-read shape_with text shape h in
    let t = shape-tells r.0 r.1 shape r.4 in
    (r.2 ∙ (ap (λ n. n ++ numbers_text r.1) t.0 ∙ ap (λ l. codes "core" ++ numbers_text l) t.1), t.2)

-- Lines

abbrev lines_text : List Step → List ℕ
lines_text steps = flat_map (λ s. line (step_text s)) steps

line-pieces : (text rest : List ℕ) → lacks 10 text ≡ true → pieces_of 10 (line text ++ rest) ≡ text ∷ pieces_of 10 rest
line-pieces text rest h = ap (pieces_of 10) (append_assoc text (10 ∷ []) rest) ∙ pieces-at 10 text rest h

steps-cut : (number : ℕ) (text rest : List ℕ) (s : Step) → step_of text ≡ Some s
    → steps_of number (text ∷ pieces_of 10 rest) ≡ with_step (Some s) number (steps_of (number + 1) (pieces_of 10 rest))
steps-cut number text rest s known =
    let next = some_piece 10 rest in
    ap (λ ps. steps_of number (text ∷ ps)) next.2
    ∙ (ap (λ o. with_step o number (steps_of (number + 1) (next.0 ∷ next.1))) known
    ∙ ap (λ ps. with_step (Some s) number (steps_of (number + 1) ps)) (sym next.2))

steps-written : (number : ℕ) (steps : List Step) → AreWritable steps
    → steps_of number (pieces_of 10 (lines_text steps)) ≡ Ok steps
steps-written number [] h = refl
steps-written number (s ∷ steps) h =
    ap (steps_of number)
    (line-pieces (step_text s) (lines_text steps)
    (spelled-lack (name_of s) (numbers_in s) (name-lacks s).1 (writable-numbers s h.0)))
    ∙ (steps-cut number (step_text s) (lines_text steps) s (step-written s h.0)
    ∙ ap (with_step (Some s) number) (steps-written (number + 1) steps h.1))

pub whole-written : (shape : Shape) (steps : List Step) → IsPrintable shape → AreWritable steps
    → schedule_of (spelled_text shape steps) ≡ Ok (shape, steps)
whole-written shape steps h k =
    lines_first (shape_text shape) (lines_text steps) (pieces_of 10 (spelled_text shape steps))
    (line-pieces (shape_text shape) (lines_text steps)
    (spelled-lack (codes "core") (shape.roots ∷ shape.seats ∷ shape.shields ∷ shape.batch ∷ shape.width ∷ []) refl
    (shape-numbers shape h)))
    ∙ (ap (λ o. with_shape o (steps_of 2 (pieces_of 10 (lines_text steps)))) (shape-written shape h)
    ∙ ap (with_shape (Some shape)) (steps-written 2 steps k))

pub err_ok : {A : Type 0} (n : ℕ) (a : A) → ◌≡◌ {A = Result A ℕ} (Err n) (Ok a) → ⊥
err_ok n a e = cc

same_ok : (a b : List Step) → ◌≡◌ {A = Result (List Step) ℕ} (Ok a) (Ok b) → a ≡ b
same_ok a b e = cc

abbrev IsRead : List ℕ → List Step → Type 0
IsRead text steps = (text ≡ lines_text steps) × AreWritable steps

steps-read : (number : ℕ) (ps : List (List ℕ)) (steps : List Step) → steps_of number ps ≡ Ok steps
    → IsRead (joined_by 10 ps) steps
steps-read number [] steps e = absurd (err_ok number steps e)
steps-read number ([] ∷ []) steps e = subst (IsRead []) (same_ok [] steps e) (refl, tt)
steps-read number ((b ∷ bs) ∷ []) steps e = absurd (err_ok number steps e)
steps-read number (text ∷ next ∷ lines) steps e =
    first (λ more. steps-read (number + 1) (next ∷ lines) more) (step_of text) refl
    (steps_of (number + 1) (next ∷ lines)) refl e
  where
    first : ((more : List Step) → steps_of (number + 1) (next ∷ lines) ≡ Ok more
        → IsRead (joined_by 10 (next ∷ lines)) more)
        → (o : Option Step) → step_of text ≡ o → (r : Result (List Step) ℕ) → steps_of (number + 1) (next ∷ lines) ≡ r
        → with_step o number r ≡ Ok steps
        → IsRead (text ++ 10 ∷ joined_by 10 (next ∷ lines)) steps
    first others None is r rest k = absurd (err_ok number steps k)
    first others (Some s) is (Err other) rest k = absurd (err_ok other steps k)
    first others (Some s) is (Ok more) rest k =
        let tail = others more rest in
        let head = step-read text s is in
        subst (IsRead (text ++ 10 ∷ joined_by 10 (next ∷ lines))) (same_ok (s ∷ more) steps k) (
          ap (λ l. text ++ 10 ∷ l) tail.0
              ∙ (ap (λ t. t ++ 10 ∷ lines_text more) head.0
              ∙ sym (append_assoc (step_text s) (10 ∷ []) (lines_text more))),
          (head.1, tail.1),
        )

pub same_pair : (a b : Shape) (x y : List Step) → ◌≡◌ {A = Result (Shape × List Step) ℕ} (Ok (a, x)) (Ok (b, y))
    → (a ≡ b) × (x ≡ y)
same_pair a b x y e = let pair : ◌≡◌ {A = Shape × List Step} (a, x) (b, y) = cc in
    (ap (λ (p : Shape × List Step). p.0) pair, ap (λ (p : Shape × List Step). p.1) pair)

pub whole-read : (text : List ℕ) (shape : Shape) (steps : List Step) → schedule_of text ≡ Ok (shape, steps)
    → (text ≡ spelled_text shape steps) × IsPrintable shape × AreWritable steps
whole-read text shape steps h = pick (pieces_of 10 text) (joined-pieces 10 text) h
  where
    found : (first next : List ℕ) (lines : List (List ℕ)) → first ++ 10 ∷ joined_by 10 (next ∷ lines) ≡ text
        → (o : Option Shape) → shape_of first ≡ o → (r : Result (List Step) ℕ) → steps_of 2 (next ∷ lines) ≡ r
        → with_shape o r ≡ Ok (shape, steps)
        → (text ≡ spelled_text shape steps) × IsPrintable shape × AreWritable steps
    found first next lines whole None is r rest k = absurd (err_ok 1 (shape, steps) k)
    found first next lines whole (Some s) is (Err other) rest k = absurd (err_ok other (shape, steps) k)
    found first next lines whole (Some s) is (Ok more) rest k =
        let same = same_pair s shape more steps k in
        let head = shape-read first s is in
        let tail = steps-read 2 (next ∷ lines) more rest in
        let made : text ≡ spelled_text s more =
        sym whole
        ∙ (ap (λ l. first ++ 10 ∷ l) tail.0
        ∙ (ap (λ t. t ++ 10 ∷ lines_text more) head.0
        ∙ sym (append_assoc (shape_text s) (10 ∷ []) (lines_text more)))) in (
          made ∙ (ap (λ z. spelled_text z more) same.0 ∙ ap (spelled_text shape) same.1),
          subst IsPrintable same.0 head.1,
          subst AreWritable same.1 tail.1,
        )

    pick : (ps : List (List ℕ)) → joined_by 10 ps ≡ text → lines_of ps ≡ Ok (shape, steps)
        → (text ≡ spelled_text shape steps) × IsPrintable shape × AreWritable steps
    pick [] whole e = absurd (err_ok 1 (shape, steps) e)
    pick (first ∷ []) whole e = absurd (err_ok 1 (shape, steps) e)
    pick (first ∷ next ∷ lines) whole e = found first next lines whole (shape_of first) refl
        (steps_of 2 (next ∷ lines)) refl e
