-- Two seats are united.
use Rattle.std.proofs.Common.{◌≡◌, ◌≢◌, ⊎_elim, ℕ, suc, cond, List, [], ◌++◌, length, map, set, sym, refl, ap, ◌∙◌}
use Rattle.std.proofs.Common.{subst, arith, length-append}
use Rattle.std.proofs.lemmas.List.{map-set}
use mathlib.Core.Option.{some}
use lib.ListN.{get_elem?}
use Rattle.atomic_table.specs.Table.{Joins}
use Rattle.atomic_table.proofs.Lists.{at_set, at_map, set_else}
use Rattle.cache_face.specs.Keeping.{Keeps}
use Rattle.cache_face.specs.Notes.{Note, merged_note, empty_note}
use Rattle.cache_face.proofs.Keeping.{keeps_merged}
use Rattle.turn_cache.specs.declared.rule.Told.{Told}
use Rattle.turn_cache.specs.Hands.{Hand, Turn, idle, number_of, is_at, turns_held, claim, at_work, times, total}
use Rattle.turn_cache.specs.Hands.{united_hand}
use Rattle.turn_cache.specs.Hands.{spent_hand}
use Rattle.turn_cache.specs.Ruled.{Ruled, Fits, FitsTurn, LiveAt}
use Rattle.turn_cache.proofs.Totals.{total-set, times-append}

abbrev note_of : Hand → Note
note_of hand = hand.note

nothing_left : {A : Type 0} (xs ys : List A) → xs ≡ [] → ys ≡ [] → xs ++ ys ≡ []
nothing_left xs ys e e' = (λ i. e i ++ e' i)

pub joins : (told : Told) (id : ℕ) (v : Hand) (other : ℕ) (w : Hand) → v.turn ≡ idle → w.turn ≡ idle
    → Joins (Ruled told) id v other w (united_hand v w) spent_hand
joins told id v other w no_turn no_turn' s h at apart at' =
    let both : Hand = united_hand v w in
    let views' : List Hand = set s.views id both in
    let ne : other ≢ id = apart in
    let before : get_elem? s.views other ≡ some w = sym (set_else s.views id other both ne) ∙ at' in
    let f = h.each id v at in
    let g = h.each other w before in
    let one : (F : Hand → ℕ) → F both ≡ F v → F w ≡ 0 → F spent_hand ≡ 0
    → total F (set views' other spent_hand) ≡ total F s.views
    = λ F a b c. (let t = total-set F s.views id v both at in let u = total-set F views' other w spent_hand at' in
    omega (arith, t, u, a, b, c)) in
    let idle_claim : (q : ℕ) → claim q w ≡ 0 =
    λ q. ap (λ (t : Turn). let n : ℕ = cond (is_at q t) (suc (number_of w.numbers)) 0 in n) no_turn' in
    let idle_hold : (q : ℕ) → turns_held q w ≡ 0 =
    λ q. ap (λ (t : Turn). let n : ℕ = cond (is_at q t) 1 0 in n) no_turn' in
    let claim_v : (q : ℕ) → claim q both ≡ claim q v =
    λ q. ap (λ (t : Turn). let n : ℕ = cond (is_at q t) (suc (number_of both.numbers)) 0 in n) no_turn
    ∙ sym (ap (λ (t : Turn). let n : ℕ = cond (is_at q t) (suc (number_of v.numbers)) 0 in n) no_turn) in
    let idle_turn : (read : List ℕ) → FitsTurn told.sets s.words h.contents read v.turn =
    λ read. subst (FitsTurn told.sets s.words h.contents read) (sym no_turn) tt in
    let fits_both : Fits told.sets s.words h.contents both = record {
      seats = (let a = f.seats in let b = g.seats in let l = length-append v.numbers w.numbers in
          omega (arith, a, b, l));
      gone = λ none. (let a = f.gone (omega (arith, none)) in let b = g.gone (omega (arith, none)) in (
        nothing_left v.note.taken w.note.taken a.0 b.0,
        nothing_left v.note.handed w.note.handed a.1 b.1,
        nothing_left v.note.seen w.note.seen a.2 b.2,
      ));
      live = subst (LiveAt (length both.numbers)) (sym no_turn) tt;
      turn = idle_turn v.read;
    } in
    let fits_spent : Fits told.sets s.words h.contents spent_hand =
    record { seats = refl; gone = λ none. (refl, refl, refl); live = tt; turn = tt } in
    let notes : map note_of (set views' other spent_hand)
    ≡ set (set (map note_of s.views) id (merged_note v.note w.note)) other empty_note
    = map-set note_of views' other spent_hand ∙ ap (λ ns. set ns other empty_note) (map-set note_of s.views id both) in
    record {
      contents = h.contents;
      small = h.small;
      wide = h.wide;
      many = h.many;
      ten = h.ten;
      turns = λ q low. one (claim q) (claim_v q) (idle_claim q) refl ∙ h.turns q low;
      once = λ q. (let e = one (turns_held q) refl (idle_hold q) refl in let o = h.once q in omega (arith, e, o));
      settled = λ q p k low low' low'' none. h.settled q p k low low' low''
          (sym (one (λ hand. at_work q p hand.turn) refl (ap (at_work q p) no_turn') refl) ∙ none);
      numbers =
          λ n. (let t = total-set (λ hand. times n hand.numbers) s.views id v both at in
          let u = total-set (λ hand. times n hand.numbers) views' other w spent_hand at' in
          let l = times-append n v.numbers w.numbers in let o = h.numbers n in omega (arith, t, u, l, o));
      seats = (let t = total-set (λ hand. hand.note.seats) s.views id v both at in
          let u = total-set (λ hand. hand.note.seats) views' other w spent_hand at' in let o = h.seats in
          omega (arith, t, u, o));
      each = λ j u e. ⊎_elim
          (λ (x : (j ≡ other) × (spent_hand ≡ u)). subst (Fits told.sets s.words h.contents) x.1 fits_spent)
          (λ (x : (j ≢ other) × (get_elem? views' j ≡ some u)). ⊎_elim
          (λ (y : (j ≡ id) × (both ≡ u)). subst (Fits told.sets s.words h.contents) y.1 fits_both)
          (λ (y : (j ≢ id) × (get_elem? s.views j ≡ some u)). h.each j u y.1) (at_set s.views id j both u x.1))
          (at_set views' other j spent_hand u e);
      kept = subst (Keeps told.timeouts told.sets h.contents) (sym notes)
          (keeps_merged told.timeouts told.sets h.contents (map note_of s.views) id other v.note w.note h.kept ne
          (at_map note_of s.views id v at) (at_map note_of s.views other w before));
    }
