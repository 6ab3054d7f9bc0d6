-- Ten words that are read and written one after another.
use Rattle.std.proofs.Common.{◌≡◌, ℕ, zero, suc, ◌+◌, ◌*◌, ◌<◌, List, [], ◌∷◌, ◌++◌, length, map, get_or, set, take}
use Rattle.std.proofs.Common.{drop, sym, refl, ap, ◌∙◌, arith, append_assoc, length-append, Option, None}
use Rattle.std.specs.Prelude.{◌==◌, if◌then◌else◌}
use Rattle.std.proofs.lemmas.List.{append-nil}
use Rattle.flow_parts.specs.declared.fragment.Fragment.{Fragment}
use Rattle.cache_face.specs.Keeping.{entry_of}
use Rattle.turn_cache.specs.Hands.{Hand, entries_of}
use Rattle.turn_cache.specs.Moves.{more_read}

-- one more word of those that were read
pub take_more : (xs : List ℕ) (k n : ℕ) → k < length xs → take (suc k) (set xs k n) ≡ take k xs ++ n ∷ []
take_more [] k n low = absurd (omega (arith, low))
take_more (x ∷ xs) zero n low = refl
take_more (x ∷ xs) (suc k) n low = ap (λ l. x ∷ l) (take_more xs k n (omega (arith, low)))

pub take_whole : (xs : List ℕ) (k : ℕ) → length xs ≡ k → take k xs ≡ xs
take_whole [] zero e = refl
take_whole [] (suc k) e = refl
take_whole (x ∷ xs) zero e = absurd (omega (arith, e))
take_whole (x ∷ xs) (suc k) e = ap (λ l. x ∷ l) (take_whole xs k (omega (arith, e)))

pub read_none : (hand : Hand) → more_read [] hand ≡ hand
read_none hand = ap (λ r. record hand { read = r }) (append-nil hand.read)

pub read_on : (hand : Hand) (xs ys : List ℕ) → more_read ys (more_read xs hand) ≡ more_read (xs ++ ys) hand
read_on hand xs ys = ap (λ r. record hand { read = r }) (append_assoc hand.read xs ys)

-- the words of which the first ones are new
pub mixed : ℕ → List ℕ → List ℕ → List ℕ
mixed k new old = take k new ++ drop k old

pub mixed_written : (k : ℕ) (new old : List ℕ) → k < length new → k < length old
    → set (mixed k new old) k (get_or new k 0) ≡ mixed (suc k) new old
unfolding mixed
mixed_written k [] old low low' = absurd (omega (arith, low))
mixed_written k (x ∷ xs) [] low low' = absurd (omega (arith, low'))
mixed_written zero (x ∷ xs) (y ∷ ys) low low' = refl
mixed_written (suc k) (x ∷ xs) (y ∷ ys) low low' =
    ap (λ l. x ∷ l) (mixed_written k xs ys (omega (arith, low)) (omega (arith, low')))

-- behind the first ones the words are as they were
pub mixed_here : (k : ℕ) (new old : List ℕ) → k < length new → k < length old
    → get_or (mixed k new old) k 0 ≡ get_or old k 0
unfolding mixed
mixed_here k [] old low low' = absurd (omega (arith, low))
mixed_here k (x ∷ xs) [] low low' = absurd (omega (arith, low'))
mixed_here zero (x ∷ xs) (y ∷ ys) low low' = refl
mixed_here (suc k) (x ∷ xs) (y ∷ ys) low low' = mixed_here k xs ys (omega (arith, low)) (omega (arith, low'))

pub mixed_none : (new old : List ℕ) → mixed 0 new old ≡ old
unfolding mixed
mixed_none new [] = refl
mixed_none new (x ∷ xs) = refl

pub mixed_all : (new old : List ℕ) (k : ℕ) → length new ≡ k → length old ≡ k → mixed k new old ≡ new
unfolding mixed
mixed_all [] [] zero e e' = refl
mixed_all [] [] (suc k) e e' = absurd (omega (arith, e))
mixed_all [] (y ∷ ys) zero e e' = absurd (omega (arith, e'))
mixed_all [] (y ∷ ys) (suc k) e e' = absurd (omega (arith, e))
mixed_all (x ∷ xs) old zero e e' = absurd (omega (arith, e))
mixed_all (x ∷ xs) [] (suc k) e e' = absurd (omega (arith, e'))
mixed_all (x ∷ xs) (y ∷ ys) (suc k) e e' = ap (λ l. x ∷ l) (mixed_all xs ys k (omega (arith, e)) (omega (arith, e')))

-- of lists put together, the first so many, and those behind
pub take_front : (xs ys : List ℕ) (k : ℕ) → length xs ≡ k → take k (xs ++ ys) ≡ xs
take_front [] ys zero e = refl
take_front [] ys (suc k) e = absurd (omega (arith, e))
take_front (x ∷ xs) ys zero e = absurd (omega (arith, e))
take_front (x ∷ xs) ys (suc k) e = ap (λ l. x ∷ l) (take_front xs ys k (omega (arith, e)))

pub drop_front : (xs ys : List ℕ) (k : ℕ) → length xs ≡ k → drop k (xs ++ ys) ≡ ys
drop_front [] ys zero e = refl
drop_front [] ys (suc k) e = absurd (omega (arith, e))
drop_front (x ∷ xs) ys zero e = absurd (omega (arith, e))
drop_front (x ∷ xs) ys (suc k) e = drop_front xs ys k (omega (arith, e))

next_is : (k : ℕ) → suc k ≡ k + 1
next_is k = omega arith

-- the same, for the next number as the code writes it
pub take_next : (xs : List ℕ) (k n : ℕ) → k < length xs → take (k + 1) (set xs k n) ≡ take k xs ++ n ∷ []
take_next xs k n low = ap (λ m. take m (set xs k n)) (sym (next_is k)) ∙ take_more xs k n low

pub mixed_next : (k : ℕ) (new old : List ℕ) → k < length new → k < length old
    → set (mixed k new old) k (get_or new k 0) ≡ mixed (k + 1) new old
mixed_next k new old low low' = mixed_written k new old low low' ∙ ap (λ m. mixed m new old) (next_is k)

-- where the next word is new already, no word changes
mixed_same : (k : ℕ) (new old : List ℕ) → k < length new → k < length old → get_or old k 0 ≡ get_or new k 0
    → mixed (suc k) new old ≡ mixed k new old
unfolding mixed
mixed_same k [] old low low' e = absurd (omega (arith, low))
mixed_same k (x ∷ xs) [] low low' e = absurd (omega (arith, low'))
mixed_same zero (x ∷ xs) (y ∷ ys) low low' e = ap (λ z. z ∷ ys) (sym e)
mixed_same (suc k) (x ∷ xs) (y ∷ ys) low low' e =
    ap (λ l. x ∷ l) (mixed_same k xs ys (omega (arith, low)) (omega (arith, low')) e)

pub mixed_stays : (k : ℕ) (new old : List ℕ) → k < length new → k < length old → get_or old k 0 ≡ get_or new k 0
    → mixed (k + 1) new old ≡ mixed k new old
mixed_stays k new old low low' e = ap (λ m. mixed m new old) (sym (next_is k)) ∙ mixed_same k new old low low' e

-- four times ten words
pub forty : (a b c d : List ℕ) → length a ≡ 10 → length b ≡ 10 → length c ≡ 10 → length d ≡ 10
    → length (a ++ (b ++ (c ++ d))) ≡ 40
forty a b c d p q r s = let l = length-append a (b ++ (c ++ d)) in let m = length-append b (c ++ d) in
    let n = length-append c d in omega (arith, l, m, n, p, q, r, s)

-- the entries that forty words show
abbrev pub shown_in : List ℕ → List (Option Fragment)
shown_in words = entry_of (take 10 words) ∷ entry_of (take 10 (drop 10 words)) ∷ entry_of (take 10 (drop 20 words))
    ∷ entry_of (take 10 (drop 30 words)) ∷ []

pub shown_there : (words : List ℕ) → length words ≡ 40 → entries_of words ≡ shown_in words
shown_there words long = ap (λ n. if n == 40 then shown_in words else []) long

-- the entries of four times ten words
pub four_entries : (a b c d : List ℕ) → length a ≡ 10 → length b ≡ 10 → length c ≡ 10 → length d ≡ 10
    → entries_of (a ++ (b ++ (c ++ d))) ≡ entry_of a ∷ entry_of b ∷ entry_of c ∷ entry_of d ∷ []
four_entries a b c d p q r s =
    let front : take 10 (a ++ (b ++ (c ++ d))) ≡ a = take_front a (b ++ (c ++ d)) 10 p in
    let one : drop 10 (a ++ (b ++ (c ++ d))) ≡ b ++ (c ++ d) = drop_front a (b ++ (c ++ d)) 10 p in
    let two : drop 20 (a ++ (b ++ (c ++ d))) ≡ c ++ d =
    ap (drop 20) (sym (append_assoc a b (c ++ d)))
    ∙ drop_front (a ++ b) (c ++ d) 20 (let l = length-append a b in omega (arith, l, p, q)) in
    let three : drop 30 (a ++ (b ++ (c ++ d))) ≡ d =
    ap (drop 30) (sym (append_assoc a b (c ++ d)) ∙ sym (append_assoc (a ++ b) c d))
    ∙ drop_front ((a ++ b) ++ c) d 30 (let l = length-append (a ++ b) c in let m = length-append a b in
    omega (arith, l, m, p, q, r)) in
    shown_there (a ++ (b ++ (c ++ d))) (forty a b c d p q r s)
    ∙ (λ i. entry_of (front i) ∷ entry_of ((ap (take 10) one ∙ take_front b (c ++ d) 10 q) i)
    ∷ entry_of ((ap (take 10) two ∙ take_front c d 10 r) i) ∷ entry_of ((ap (take 10) three ∙ take_whole d 10 s) i)
    ∷ [])

-- the words at a place of four, what stands before and what behind
pub piece : (a b c d : List ℕ) (place : ℕ) → place < 4 → length a ≡ 10 → length b ≡ 10 → length c ≡ 10
    → (before after : List ℕ) × (a ++ (b ++ (c ++ d)) ≡ before ++ (get_or (a ∷ b ∷ c ∷ d ∷ []) place [] ++ after))
    × (length before ≡ 10 * place)
piece a b c d zero low p q r = ([], b ++ (c ++ d), refl, omega arith)
piece a b c d (suc zero) low p q r = (a, c ++ d, refl, omega (arith, p))
piece a b c d (suc (suc zero)) low p q r =
    (a ++ b, d, sym (append_assoc a b (c ++ d)), (let l = length-append a b in omega (arith, l, p, q)))
piece a b c d (suc (suc (suc zero))) low p q r = (
  (a ++ b) ++ c,
  [],
  sym (append_assoc a b (c ++ d))
      ∙ (sym (append_assoc (a ++ b) c d) ∙ ap (λ z. ((a ++ b) ++ c) ++ z) (sym (append-nil d))),
  (let l = length-append (a ++ b) c in let m = length-append a b in omega (arith, l, m, p, q, r)),
)
piece a b c d (suc (suc (suc (suc k)))) low p q r = absurd (omega (arith, low))

-- four contents, each put in its place
pub four_set : (contents : List (List ℕ)) (a b c d : List ℕ) → length contents ≡ 4
    → set (set (set (set contents 0 a) 1 b) 2 c) 3 d ≡ a ∷ b ∷ c ∷ d ∷ []
four_set [] a b c d long = absurd (omega (arith, long))
four_set (x ∷ []) a b c d long = absurd (omega (arith, long))
four_set (x ∷ y ∷ []) a b c d long = absurd (omega (arith, long))
four_set (x ∷ y ∷ z ∷ []) a b c d long = absurd (omega (arith, long))
four_set (x ∷ y ∷ z ∷ w ∷ []) a b c d long = refl
four_set (x ∷ y ∷ z ∷ w ∷ v ∷ vs) a b c d long = absurd (omega (arith, long))

-- the entry at a place is that of the content there
pub entry_there : (contents : List (List ℕ)) (place : ℕ) → place < length contents
    → get_or (map entry_of contents) place None ≡ entry_of (get_or contents place [])
entry_there [] place low = absurd (omega (arith, low))
entry_there (content ∷ contents) zero low = refl
entry_there (content ∷ contents) (suc place) low = entry_there contents place (omega (arith, low))

-- read one after another
pub read_four : (hand : Hand) (a b c d : List ℕ) → hand.read ≡ []
    → more_read d (more_read c (more_read b (more_read a hand))) ≡ record hand { read = a ++ (b ++ (c ++ d)) }
read_four hand a b c d none = ap (λ r. record hand { read = (((r ++ a) ++ b) ++ c) ++ d }) none
    ∙ ap (λ r. record hand { read = r }) (append_assoc (a ++ b) c d ∙ append_assoc a b (c ++ d))
