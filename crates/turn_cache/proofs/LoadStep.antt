-- A content word is loaded.
use Rattle.std.proofs.Common.{◌≡◌, ℕ, zero, suc, ◌+◌, ◌*◌, ◌<◌, Bool, true, false, cond, eqb, ◌&&◌, List, [], ◌∷◌, ◌++◌}
use Rattle.std.proofs.Common.{length, get_or, set, sym, refl, ap, ◌∙◌, subst, arith, eq-eqb, length-append}
use Rattle.std.proofs.lemmas.List.{set-get_or}
use Rattle.std.proofs.lemmas.Grind.{same_number_lists}
use mathlib.Core.Logic.{dite}
use native.Mathlib.Decide.{ℕ_discrete}
use mathlib.Core.Option.{some, some-injective}
use lib.ListN.{get_elem?}
use Rattle.atomic_table.specs.Table.{State, keeps, Allows}
use Rattle.cache_face.specs.Keeping.{Keeps, IsWhole}
use Rattle.cache_face.proofs.Apart.{all_at}
use Rattle.turn_cache.specs.declared.rule.Told.{Told}
use Rattle.turn_cache.specs.Hands.{Hand, Turn, idle, reading, writing, is_at, turns_held, claim, at_work, total}
use Rattle.turn_cache.specs.Moves.{Sat, Loads, more_read}
use Rattle.turn_cache.specs.Places.{turn_word, set_word, content_place}
use Rattle.turn_cache.specs.Ruled.{Ruled, Fits, FitsTurn}
use Rattle.turn_cache.proofs.Totals.{total-set, none_all}
use Rattle.turn_cache.proofs.Frames.{build, notes_same, not_other}

-- an element within the first of two lists, and behind it
pub in_front : (xs ys : List ℕ) (k : ℕ) → k < length xs → get_or (xs ++ ys) k 0 ≡ get_or xs k 0
in_front [] ys k low = absurd (omega (arith, low))
in_front (x ∷ xs) ys zero low = refl
in_front (x ∷ xs) ys (suc k) low = in_front xs ys k (omega (arith, low))

pub behind : (xs ys : List ℕ) (k : ℕ) → get_or (xs ++ ys) (length xs + k) 0 ≡ get_or ys k 0
behind [] ys k = ap (λ n. get_or ys n 0) (let e : 0 + k ≡ k = omega arith in e)
behind (x ∷ xs) ys k = ap (λ n. get_or (x ∷ (xs ++ ys)) n 0)
    (let e : suc (length xs) + k ≡ suc (length xs + k) = omega arith in e) ∙ behind xs ys k

pub element_at : {A : Type 0} (xs : List A) (k : ℕ) (d : A) → k < length xs → get_elem? xs k ≡ some (get_or xs k d)
element_at [] k d low = absurd (omega (arith, low))
element_at (x ∷ xs) zero d low = refl
element_at (x ∷ xs) (suc k) d low = element_at xs k d (omega (arith, low))

-- nobody writes an entry of a set whose turn another seat has for reading
pub none_writes : (told : Told) (s : State (Unit {0}) Hand) (at_set place id : ℕ) (v : Hand) → Ruled told s
    → get_elem? s.views id ≡ some v → v.turn ≡ reading at_set
    → total (λ hand. at_work at_set place hand.turn) s.views ≡ 0
none_writes told s at_set place id v h at is =
    none_all (λ hand. at_work at_set place hand.turn) s.views
    (λ j u e. dite (ℕ_discrete j id) (λ same. own j u e same)
    (λ ne. off u.turn (not_other told s at_set id j v u h at has ne e)))
  where
    has : is_at at_set v.turn ≡ true
    has = ap (is_at at_set) is ∙ eq-eqb at_set at_set refl

    off : (t : Turn) → is_at at_set t ≡ false → at_work at_set place t ≡ 0
    off idle e = refl
    off (reading x) e = refl
    off (writing x p new now) e = ap (λ (b : Bool). let n : ℕ = cond (b && eqb p place) 1 0 in n) e

    own : (j : ℕ) (u : Hand) → get_elem? s.views j ≡ some u → j ≡ id → at_work at_set place u.turn ≡ 0
    own j u e same = let is_u : u ≡ v = some-injective u v (sym e ∙ (ap (get_elem? s.views) same ∙ at)) in
        ap (λ (x : Hand). at_work at_set place x.turn) is_u ∙ ap (at_work at_set place) is

-- what a seat read of an entry is the entry's content
pub read_content : (told : Told) (s : State (Unit {0}) Hand) (at_set place id : ℕ) (v : Hand) (h : Ruled told s)
    → get_elem? s.views id ≡ some v → v.turn ≡ reading at_set → at_set < told.sets → place < 4
    → (content : List ℕ) → length content ≡ 10
    → ((k : ℕ) → k < 10 → get_or content k 0 ≡ get_or s.words (set_word at_set (10 * place + k)) 0)
    → get_or h.contents (content_place at_set place) [] ≡ content
read_content told s at_set place id v h at is low low' content long reads =
    let ten = h.ten (content_place at_set place) (omega (arith, low, low')) in
    same_number_lists (get_or h.contents (content_place at_set place) []) content (ten ∙ sym long)
    (λ k below. h.settled at_set place k low low' (omega (arith, below, ten))
    (none_writes told s at_set place id v h at is) ∙ sym (reads k (omega (arith, below, ten))))

pub loads : (told : Told) (slots id at_set k : ℕ) (me : Sat) → me.0.turn ≡ reading at_set → length me.0.read ≡ k
    → at_set < told.sets → k < 40
    → Allows (Ruled told) slots id me (64 * at_set + 16 + k) (λ n. n) (Loads me)
loads told slots id at_set k me is long low below s h wide at fits =
    let i : ℕ = 64 * at_set + 16 + k in
    let n : ℕ = get_or s.words i 0 in
    let v : Hand = me.0 in
    let w : Hand = more_read (n ∷ []) v in
    let f = h.each id v at in
    let inside : i < length s.words = (let x = h.wide in omega (arith, x, low, below)) in
    let same : set s.words i n ≡ s.words = set-get_or s.words i 0 in
    let old : FitsTurn told.sets s.words h.contents v.read (reading at_set) =
    subst (FitsTurn told.sets s.words h.contents v.read) is f.turn in
    let more : length w.read ≡ k + 1 = length-append v.read (n ∷ []) ∙ ap (λ m. m + 1) long in
    let reads : (q : ℕ) → q < length w.read → get_or w.read q 0 ≡ get_or s.words (set_word at_set q) 0
    = λ q lower. dite (ℕ_discrete q k)
    (λ last. ap (λ m. get_or w.read m 0) (let e : q ≡ length v.read + 0 = omega (arith, last, long) in e)
    ∙ (behind v.read (n ∷ []) 0 ∙ ap (λ m. get_or s.words (64 * at_set + 16 + m) 0) (sym last)))
    (λ other. in_front v.read (n ∷ []) q (omega (arith, lower, more, other, long))
    ∙ old.2 q (omega (arith, lower, more, other, long))) in
    let now : FitsTurn told.sets s.words h.contents w.read w.turn =
    subst (FitsTurn told.sets s.words h.contents w.read) (sym is) (low, omega (arith, more, below), reads) in
    let mine : Fits told.sets s.words h.contents w =
    record { seats = f.seats; gone = f.gone; live = f.live; turn = now } in (
      w,
      keeps,
      tt,
      build told s h id v w at refl refl i n me.1 h.contents h.many h.ten
          (λ q lower. ap (λ ws. claim q v + get_or ws (turn_word q) 0) (sym same))
          (λ q. (let t = total-set (turns_held q) s.views id v w at in let o = h.once q in omega (arith, t, o)))
          (λ q place m lower lower' lower'' none. h.settled q place m lower lower' lower''
          (let t = total-set (λ hand. at_work q place hand.turn) s.views id v w at in omega (arith, t, none))
          ∙ ap (λ ws. get_or ws (set_word q (10 * place + m)) 0) (sym same))
          (λ j u ne e. subst (λ ws. Fits told.sets ws h.contents u) (sym same) (h.each j u e))
          (subst (λ ws. Fits told.sets ws h.contents w) (sym same) mine)
          (subst (Keeps told.timeouts told.sets h.contents) (sym (notes_same s.views id v w at refl)) h.kept),
      (
        refl,
        λ before content place is_read at_place low' ten.
            let content_is = read_content told s at_set place id v h at is low low' content ten
            (λ m lower. sym (ap (λ r. get_or r (10 * place + m) 0) is_read
            ∙ (ap (λ z. get_or (before ++ content) (z + m) 0) (sym at_place) ∙ behind before content m))
            ∙ reads (10 * place + m)
            (let l : length w.read ≡ length before + length content =
            ap length is_read ∙ length-append before content in omega (arith, l, at_place, ten, lower))) in
            subst IsWhole content_is
            (all_at IsWhole h.contents (content_place at_set place)
            (get_or h.contents (content_place at_set place) []) h.kept.whole
            (element_at h.contents (content_place at_set place) [] (let x = h.many in omega (arith, x, low, low')))),
      ),
    )
