-- The last state of a table, of which one pass stands for all seats.
use Rattle.std.proofs.Common.{◌≡◌, ◌≢◌, ℕ, zero, suc, ◌+◌, ◌*◌, ◌<◌, ◌≤◌, List, [], ◌∷◌, ◌++◌, length, map, get_or}
use Rattle.std.proofs.Common.{take, option_to_list, Result, Ok, Err, IfOk, OnOk, All, sym, refl, ap, ◌∙◌, subst, arith}
use Rattle.std.proofs.lemmas.List.Concat.{flat_map-append}
use Rattle.std.proofs.lemmas.Grind.{same_number_lists}
use mathlib.Core.Logic.{dite}
use native.Mathlib.Decide.{ℕ_discrete}
use mathlib.Core.Option.{some, some-injective, some-ne-none}
use lib.ListN.{get_elem?}
use Rattle.atomic_table.specs.Table.{State}
use Rattle.atomic_table.proofs.Lists.{at_map}
use Rattle.flow_parts.specs.Reaching.{Reaches}
use Rattle.cache_face.specs.Keeping.{entry_of, parts_in, IsBorne}
use Rattle.cache_face.specs.Laws.{IsUnused}
use Rattle.cache_face.specs.Notes.{Note}
use Rattle.cache_face.proofs.Keeping.{kept_at_end}
use Rattle.turn_cache.specs.declared.rule.Told.{Told}
use Rattle.turn_cache.specs.Closing.{content_at, four_at, contents_at}
use Rattle.turn_cache.specs.Hands.{Hand, Turn, idle, reading, writing, at_work, total}
use Rattle.turn_cache.specs.Places.{set_word, content_place}
use Rattle.turn_cache.specs.Ruled.{Ruled, Fits, LiveAt}
use Rattle.turn_cache.proofs.Totals.{total-two, none_all}

pub at_value : (xs : List ℕ) (i a : ℕ) → get_elem? xs i ≡ some a → get_or xs i 0 ≡ a
at_value [] i a e = absurd (some-ne-none a (sym e))
at_value (x ∷ xs) zero a e = some-injective x a e
at_value (x ∷ xs) (suc i) a e = at_value xs i a e

pub if_ok : {A E : Type 0} (r : Result A E) (F G : A → Type 0) → ((a : A) → F a → G a) → IfOk r F → IfOk r G
if_ok (Ok a) F G f h = f a h
if_ok (Err e) F G f h = h

pub on_ok : {A E : Type 0} (r : Result A E) (F : Type 0) → F → OnOk r F
on_ok (Ok a) F f = f
on_ok (Err e) F f = tt

-- the next four contents
pub next_parts : (words : List ℕ) (n : ℕ)
    → parts_in (contents_at words n) ++ parts_in (four_at words n) ≡ parts_in (contents_at words (n + 1))
next_parts words n =
    sym (flat_map-append (λ (content : List ℕ). option_to_list (entry_of content)) (contents_at words n)
    (four_at words n))
    ∙ ap (λ m. parts_in (contents_at words m)) (let e : suc n ≡ n + 1 = omega arith in e)

-- so much of a list as is known
take_one : (xs : List (List ℕ)) (k : ℕ) → k < length xs → take (suc k) xs ≡ take k xs ++ get_or xs k [] ∷ []
take_one [] k low = absurd (omega (arith, low))
take_one (x ∷ xs) zero low = refl
take_one (x ∷ xs) (suc k) low = ap (λ l. x ∷ l) (take_one xs k (omega (arith, low)))

take_four : (xs : List (List ℕ)) (k : ℕ) → k + 3 < length xs
    → take (4 + k) xs ≡ take k xs ++ get_or xs k [] ∷ get_or xs (k + 1) [] ∷ get_or xs (k + 2) []
    ∷ get_or xs (k + 3) [] ∷ []
take_four [] k low = absurd (omega (arith, low))
take_four (a ∷ []) zero low = absurd (omega (arith, low))
take_four (a ∷ b ∷ []) zero low = absurd (omega (arith, low))
take_four (a ∷ b ∷ c ∷ []) zero low = absurd (omega (arith, low))
take_four (a ∷ b ∷ c ∷ d ∷ xs) zero low = refl
take_four (x ∷ xs) (suc k) low =
    ap (λ n. take n (x ∷ xs)) (let e : 4 + suc k ≡ suc (4 + k) = omega arith in e)
    ∙ (ap (λ l. x ∷ l) (take_four xs k (omega (arith, low)))
    ∙ (λ i. x
    ∷ (take k xs ++ get_or xs k [] ∷ get_or (x ∷ xs) (one i) [] ∷ get_or (x ∷ xs) (two i) []
    ∷ get_or (x ∷ xs) (three i) [] ∷ [])))
  where
    one : suc (k + 1) ≡ suc k + 1
    one = omega arith

    two : suc (k + 2) ≡ suc k + 2
    two = omega arith

    three : suc (k + 3) ≡ suc k + 3
    three = omega arith

-- ten words one by one
ten_words : (words : List ℕ) (at_set place k : ℕ) → k < 10
    → get_or (content_at words at_set place) k 0 ≡ get_or words (set_word at_set (10 * place + k)) 0
ten_words words at_set place zero low = refl
ten_words words at_set place (suc zero) low = refl
ten_words words at_set place (suc (suc zero)) low = refl
ten_words words at_set place (suc (suc (suc zero))) low = refl
ten_words words at_set place (suc (suc (suc (suc zero)))) low = refl
ten_words words at_set place (suc (suc (suc (suc (suc zero))))) low = refl
ten_words words at_set place (suc (suc (suc (suc (suc (suc zero)))))) low = refl
ten_words words at_set place (suc (suc (suc (suc (suc (suc (suc zero))))))) low = refl
ten_words words at_set place (suc (suc (suc (suc (suc (suc (suc (suc zero)))))))) low = refl
ten_words words at_set place (suc (suc (suc (suc (suc (suc (suc (suc (suc zero))))))))) low = refl
ten_words words at_set place (suc (suc (suc (suc (suc (suc (suc (suc (suc (suc k)))))))))) low =
    absurd (omega (arith, low))

-- a pass that stands for no seat writes nowhere
idle_where : (sets : ℕ) (words : List ℕ) (contents : List (List ℕ)) (u : Hand) → Fits sets words contents u
    → u.note.seats ≡ 0 → (q p : ℕ) → at_work q p u.turn ≡ 0
idle_where sets words contents u f no_seat q p = off u.turn f.live
  where
    off : (t : Turn) → LiveAt (length u.numbers) t → at_work q p t ≡ 0
    off idle l = refl
    off (reading x) l = refl
    off (writing x y new now) l = absurd (let s = f.seats in omega (arith, l, s, no_seat))

module _ (told : Told) (s : State (Unit {0}) Hand) (h : Ruled told s) (id : ℕ) (v : Hand)
    (at : get_elem? s.views id ≡ some v) (no_turn : v.turn ≡ idle) (all : v.note.seats ≡ told.seats) where
  -- the others stand for no seat
  others_none : (j : ℕ) (u : Hand) → j ≢ id → get_elem? s.views j ≡ some u → u.note.seats ≡ 0
  others_none j u ne e = let t = total-two (λ hand. hand.note.seats) s.views id j v u ne at e in let o = h.seats in
      omega (arith, t, o, all)

  nobody_writes : (q p : ℕ) → total (λ hand. at_work q p hand.turn) s.views ≡ 0
  nobody_writes q p = none_all (λ hand. at_work q p hand.turn) s.views (λ j u e. dite (ℕ_discrete j id)
      (λ same. (let is : u ≡ v = some-injective u v (sym e ∙ (ap (get_elem? s.views) same ∙ at)) in
      ap (λ (x : Hand). at_work q p x.turn) is ∙ ap (at_work q p) no_turn))
      (λ ne. idle_where told.sets s.words h.contents u (h.each j u e) (others_none j u ne e) q p))

  content_is : (q p : ℕ) → q < told.sets → p < 4 → get_or h.contents (content_place q p) [] ≡ content_at s.words q p
  content_is q p low low' =
      let ten = h.ten (content_place q p) (omega (arith, low, low')) in
      same_number_lists (get_or h.contents (content_place q p) []) (content_at s.words q p) ten
      (λ k below. h.settled q p k low low' (omega (arith, below, ten)) (nobody_writes q p)
      ∙ sym (ten_words s.words q p k (omega (arith, below, ten))))

  shown : (n : ℕ) → n ≤ told.sets → take (4 * n) h.contents ≡ contents_at s.words n
  shown zero low = refl
  shown (suc n) low =
      let many = h.many in
      ap (λ m. take m h.contents) (let e : 4 * suc n ≡ 4 + 4 * n = omega arith in e)
      ∙ (take_four h.contents (4 * n) (omega (arith, many, low))
      ∙ (λ i. shown n (omega (arith, low)) i
      ++ (ap (λ m. get_or h.contents m []) (let e : 4 * n ≡ 4 * n + 0 = omega arith in e)
      ∙ content_is n 0 (omega (arith, low)) (omega arith)) i
      ∷ content_is n 1 (omega (arith, low)) (omega arith) i ∷ content_is n 2 (omega (arith, low)) (omega arith) i
      ∷ content_is n 3 (omega (arith, low)) (omega arith) i ∷ []))

  -- what the last pass has, by the rule
  at_end : Reaches told.timeouts v.note.taken (parts_in h.contents ++ v.note.handed)
      × All (IsBorne told.timeouts v.note.taken) v.note.seen
  at_end =
      kept_at_end told.timeouts told.sets h.contents (map (λ (hand : Hand). hand.note) s.views) id v.note h.kept
      (at_map (λ (hand : Hand). hand.note) s.views id v at)
      (λ j note ne e. let found = from_map s.views j note e in
      subst IsUnused found.2 ((h.each j found.0 found.1).gone (others_none j found.0 ne found.1)))
    where
      from_map : (views : List Hand) (j : ℕ) (note : Note)
          → get_elem? (map (λ (hand : Hand). hand.note) views) j ≡ some note
          → (u : Hand) × (get_elem? views j ≡ some u) × (u.note ≡ note)
      from_map [] j note e = absurd (some-ne-none note (sym e))
      from_map (x ∷ xs) zero note e = (x, refl, some-injective x.note note e)
      from_map (x ∷ xs) (suc j) note e = from_map xs j note e

  pub closes : Reaches told.timeouts v.note.taken (parts_in (contents_at s.words told.sets) ++ v.note.handed)
  closes =
      let whole : h.contents ≡ contents_at s.words told.sets =
      sym (take_whole h.contents (4 * told.sets) h.many) ∙ shown told.sets (omega arith) in
      subst (λ cs. Reaches told.timeouts v.note.taken (parts_in cs ++ v.note.handed)) whole at_end.0
    where
      take_whole : (xs : List (List ℕ)) (k : ℕ) → length xs ≡ k → take k xs ≡ xs
      take_whole [] zero e = refl
      take_whole [] (suc k) e = refl
      take_whole (x ∷ xs) zero e = absurd (omega (arith, e))
      take_whole (x ∷ xs) (suc k) e = ap (λ l. x ∷ l) (take_whole xs k (omega (arith, e)))

  pub bears_out : All (IsBorne told.timeouts v.note.taken) v.note.seen
  bears_out = at_end.1

pub if_ok_weaker : {A E : Type 0} (r : Result A E) (P Q : A → Type 0) → ((a : A) → P a → Q a) → IfOk r P → IfOk r Q
if_ok_weaker (Ok a) P Q f h = f a h
if_ok_weaker (Err e) P Q f h = h
