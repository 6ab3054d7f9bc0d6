-- What several workers have done, each its own list of things.
use Rattle.std.proofs.Common.{◌≡◌, ℕ, suc, ◌+◌, ◌<◌, ◌≤◌, List, [], ◌∷◌, ◌++◌, length, map, get_or, take, drop, refl}
use Rattle.std.proofs.Common.{sym, ap, ◌∙◌, subst, arith, append_assoc, append-nil, length-append, All}
use Rattle.std.specs.Prelude.{flat_map, IsPermutation}
use Rattle.std.specs.List.{AllZip}
use Rattle.std.proofs.lemmas.Grind.{common_steps, flat_map-append}
use Rattle.std.proofs.lemmas.List.{get_or-map, length-map, nil_from_length}
use Rattle.std.proofs.lemmas.List.Elements.{All-nil, All-cons, All-tail, All-weaker, All-append, All-drop, All-same}
use Rattle.std.proofs.lemmas.List.Elements.{All-take}
use Rattle.std.proofs.lemmas.List.Sorted.{IsPermutation-refl, IsPermutation-trans, IsPermutation-append_comm}
use Rattle.std.proofs.lemmas.List.Sorted.{IsPermutation-append_left, IsPermutation-append_right, length_permutation}
use Rattle.std.proofs.lemmas.Slice.Zip.{AllZip-long, all_zipped_more}
use Rattle.work_pieces.specs.Doing.{HasDone, HaveDone}

-- ---- lists

pub snoc : {A B : Type 0} (f : A → List B) (l : List A) (a : A) → flat_map f (l ++ a ∷ []) ≡ flat_map f l ++ f a
snoc f l a = flat_map-append f l (a ∷ []) ∙ ap (λ z. flat_map f l ++ z) (append-nil (f a))

pub flat-flat : {A B C : Type 0} (f : B → List C) (g : A → List B) (l : List A)
    → flat_map f (flat_map g l) ≡ flat_map (λ a. flat_map f (g a)) l
flat-flat f g [] = refl
flat-flat f g (a ∷ l) =
    flat_map-append f (g a) (flat_map g l) ∙ ap (λ z. flat_map f (g a) ++ z) (flat-flat f g l)

-- what holds of what is taken of each
pub all-mapped : {A B : Type 0} (P : B → Type 0) (f : A → B) (l : List A) → All P (map f l) → All (λ a. P (f a)) l
all-mapped P f l all =
    λ k d inside. subst P (get_or-map f l k d (f d) inside) (all k (f d) (rw length-map inside))

-- what holds at each place holds of the lists
pub all-zip : {A : Type 0} (R : A → A → Type 0) (xs ys : List A) → length ys ≡ length xs
    → ((i : ℕ) (d : A) → i < length xs → R (get_or xs i d) (get_or ys i d)) → AllZip R xs ys
all-zip R [] [] len each = tt
all-zip R [] (y ∷ ys) len each = absurd (omega (arith, len))
all-zip R (x ∷ xs) [] len each = absurd (omega (arith, len))
all-zip R (x ∷ xs) (y ∷ ys) len each =
    (each 0 x (omega arith), all-zip R xs ys (omega (arith, len)) (λ i d lt. each (suc i) d (omega (arith, lt))))

pub taken-back : {A : Type 0} (n m : ℕ) (xs ys : List A) → n ≡ length ys → m ≡ length ys → take n (ys ++ drop m xs) ≡ ys
taken-back n m xs ys e f = ap (λ k. take k (ys ++ drop m xs)) e ∙ grind (arith, common_steps)

-- what is taken of each is as much behind as it was before
pub still-many : {A B C : Type 0} (R : A → A → Type 0) (f : A → B) (g : A → C) (xs ys : List A)
    (fs : List B) (gs : List C)
    → map f xs ≡ fs → gs ≡ map g ys → AllZip R xs ys → length gs ≡ length fs
still-many R f g xs ys fs gs had has zip =
    ap length has ∙ length-map ys g ∙ AllZip-long R xs ys zip ∙ sym (length-map xs f) ∙ ap length had

-- one more at the end
pub longer : {A : Type 0} (xs ys : List A) (y : A) → xs ≡ ys ++ y ∷ [] → length xs ≡ length ys + 1
longer xs ys y is = ap length is ∙ length-append ys (y ∷ [])

-- what holds of all holds of those behind the first
pub behind-first : {A : Type 0} (P : A → Type 0) (xs ys : List A) → All P xs → ys ≡ take 0 xs ++ drop 1 xs → All P ys
behind-first P xs ys all is =
    All-same P ys _ is (All-append P (take 0 xs) (drop 1 xs) (All-take P 0 xs all) (All-drop P 1 xs all))

zip-popped : {A B : Type 0} (R : A → B → Type 0) (us : List A) (ys : List B) (y : B) → AllZip R us (ys ++ y ∷ [])
    → (bs : List A) × (b : A) × (us ≡ bs ++ b ∷ []) × AllZip R bs ys × R b y
zip-popped R [] [] y h = absurd h
zip-popped R [] (z ∷ ys) y h = absurd h
zip-popped R (a ∷ []) [] y h = ([], a, refl, tt, h.0)
zip-popped R (a ∷ (b ∷ us)) [] y h = absurd h.1
zip-popped R (a ∷ us) (z ∷ ys) y h =
    let r = zip-popped R us ys y h.1 in (a ∷ r.0, r.1, ap (λ l. a ∷ l) r.2, (h.0, r.3), r.4)

module _ {A : Type 0} where
  abbrev pub all-of : List (List A) → List A
  all-of lists = flat_map (λ (list : List A). list) lists

  -- what was the rest's is put to the others
  pub moved-back : (things rest done rest' list : List A) → IsPermutation things (rest ++ done)
      → IsPermutation rest (rest' ++ list) → IsPermutation things (rest' ++ (done ++ list))
  moved-back things rest done rest' list all some =
      IsPermutation-trans _ (rest ++ done) _ all
      (IsPermutation-trans _ ((rest' ++ list) ++ done) _ (IsPermutation-append_left done rest (rest' ++ list) some)
      (subst (λ l. IsPermutation l (rest' ++ (done ++ list))) (sym (append_assoc rest' list done))
      (IsPermutation-append_right rest' (list ++ done) (done ++ list) (IsPermutation-append_comm list done))))

-- ---- workers

module _ {A W : Type 0} (Has : List A → W → Type 0) where
  pub done-none : (w : W) → HasDone Has [] w w
  done-none w = record { besides = λ done has. subst (λ l. Has l w) (sym (append-nil done)) has }

  pub done-more : (some more : List A) (old then new : W) → HasDone Has some old then → HasDone Has more then new
      → HasDone Has (some ++ more) old new
  done-more some more old then new first second = record {
    besides = λ done has. subst (λ l. Has l new) (append_assoc done some more)
        (second.besides (done ++ some) (first.besides done has));
  }

  -- the last worker has done some of the things, the others have the rest
  pub popped : (things : List A) (xs ys : List W) (x : W) → xs ≡ ys ++ x ∷ [] → HaveDone Has things xs
      → (rest list : List A) × HaveDone Has rest ys × Has list x × IsPermutation things (rest ++ list)
  popped things xs ys x is have =
      let z = zip-popped Has have.lists ys x (subst (λ l. AllZip Has have.lists l) is have.each) in
      let all : all-of have.lists ≡ all-of z.0 ++ z.1 = ap all-of z.2 ∙ snoc (λ (list : List A). list) z.0 z.1 in (
        all-of z.0,
        z.1,
        record { lists = z.0; whole = IsPermutation-refl (all-of z.0); each = z.3 },
        z.4,
        subst (λ l. IsPermutation things l) all have.whole,
      )

  -- of no workers nothing is left
  pub none-left : (rest : List A) (xs : List W) → xs ≡ [] → HaveDone Has rest xs → IsPermutation rest []
  none-left rest xs none have =
      let long = sym (AllZip-long Has have.lists xs have.each) ∙ ap length none in
      subst (λ l. IsPermutation rest (all-of l)) (nil_from_length have.lists long) have.whole

  -- workers that have done nothing
  pub nothing-done : (xs : List W) → All (Has []) xs → HaveDone Has [] xs
  nothing-done [] all = record { lists = []; whole = IsPermutation-refl []; each = tt }
  nothing-done (x ∷ xs) all =
      let rest = nothing-done xs (All-tail (Has []) x xs all) in
      record { lists = [] ∷ rest.lists; whole = rest.whole; each = (all 0 x (omega arith), rest.each) }

  -- and one worker more
  pub one-more : (things list : List A) (xs ys : List W) (x : W) → ys ≡ xs ++ x ∷ []
      → HaveDone Has things xs → Has list x → HaveDone Has (things ++ list) ys
  one-more things list xs ys x is have has = record {
    lists = have.lists ++ list ∷ [];
    whole = subst (IsPermutation (things ++ list)) (sym (snoc (λ (l : List A). l) have.lists list))
        (IsPermutation-append_left list things (all-of have.lists) have.whole);
    each = subst (AllZip Has (have.lists ++ list ∷ [])) (sym is)
        (all_zipped_more Has have.lists xs list x have.each has);
  }

  -- each its own list of them
  pub told-each : {V : Type 0} (worker : V → W) (list : V → List A) (vs : List V)
      → All (λ v. Has (list v) (worker v)) vs → HaveDone Has (flat_map list vs) (map worker vs)
  told-each worker list [] all = record { lists = []; whole = IsPermutation-refl []; each = tt }
  told-each worker list (v ∷ vs) all =
      let rest = told-each worker list vs (All-tail (λ u. Has (list u) (worker u)) v vs all) in
      record {
        lists = list v ∷ rest.lists;
        whole = IsPermutation-append_right (list v) (flat_map list vs) _ rest.whole;
        each = (all 0 v (omega arith), rest.each);
      }

  -- the same things in another order
  pub reordered : (things others : List A) (xs : List W) → IsPermutation others things → HaveDone Has things xs
      → HaveDone Has others xs
  reordered things others xs same have =
      record { lists = have.lists; whole = IsPermutation-trans _ things _ same have.whole; each = have.each }

  -- it has done some of the things
  abbrev pub DidSome : List A → W → Type 0
  DidSome things w = (list : List A) × (length list ≤ length things) × Has list w

  each-of : (lists : List (List A)) (xs : List W) → AllZip Has lists xs → All (DidSome (all-of lists)) xs
  each-of [] [] h = All-nil (DidSome [])
  each-of [] (x ∷ xs) h = absurd h
  each-of (l ∷ lists) [] h = absurd h
  each-of (l ∷ lists) (x ∷ xs) h =
      let long = length-append l (all-of lists) in
      All-cons (DidSome (l ++ all-of lists)) x xs (l, omega (arith, long), h.0)
      (All-weaker (DidSome (all-of lists)) (DidSome (l ++ all-of lists))
      (λ w some. (some.0, (let few = some.1 in omega (arith, few, long)), some.2)) xs (each-of lists xs h.1))

  -- each worker did some of them
  pub each-done : (things : List A) (xs : List W) → HaveDone Has things xs → All (DidSome things) xs
  each-done things xs have =
      let same = length_permutation _ _ have.whole in
      All-weaker (DidSome (all-of have.lists)) (DidSome things)
      (λ w some. (some.0, (let few = some.1 in omega (arith, few, same)), some.2)) xs (each-of have.lists xs have.each)
