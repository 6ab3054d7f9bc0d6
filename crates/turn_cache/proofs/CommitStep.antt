-- The first word of an entry is stored.
use Rattle.std.proofs.Common.{◌≡◌, ⊎_elim, inl, inr, ℕ, suc, ◌+◌, ◌*◌, ◌/◌, ◌<◌, true, cond, List, [], ◌++◌, length}
use Rattle.std.proofs.Common.{map}
use Rattle.std.proofs.Common.{get_or, set, Option, sym, refl, ap, ◌∙◌, subst, arith, eq-eqb, length-append}
use Rattle.std.proofs.lemmas.List.{length-set, get_or-set_same, get_or-set_other}
use mathlib.Core.Logic.{dite}
use native.Mathlib.Decide.{ℕ_discrete}
use mathlib.Core.Option.{some}
use lib.ListN.{get_elem?}
use Rattle.atomic_table.specs.Table.{keeps, Allows}
use Rattle.atomic_table.proofs.Lists.{at_map}
use Rattle.flow_key.specs.Key.{set_number}
use Rattle.flow_parts.specs.declared.fragment.Fragment.{Fragment}
use Rattle.flow_parts.specs.Parts.{part_words}
use Rattle.cache_face.specs.Choice.{Takes}
use Rattle.cache_face.specs.Keeping.{Keeps, IsInSet, entry_of}
use Rattle.cache_face.proofs.Keeping.{keeps_taken}
use Rattle.turn_cache.specs.declared.rule.Told.{Told}
use Rattle.turn_cache.specs.Hands.{Hand, Turn, reading, number_of, is_at, turns_held, claim, at_work}
use Rattle.turn_cache.specs.Moves.{Sat, Commits, committed_hand, writes_to, IsOwn}
use Rattle.turn_cache.specs.Places.{turn_word, set_word, content_place}
use Rattle.turn_cache.specs.Ruled.{Ruled, Fits, FitsTurn, LiveAt}
use Rattle.turn_cache.proofs.Totals.{total-set}
use Rattle.turn_cache.proofs.Frames.{build, notes_set, not_other, frame_content, SameElsewhere, apart_turn}
use Rattle.turn_cache.proofs.LoadStep.{read_content, in_front, behind, element_at}
use Rattle.turn_cache.proofs.StoreStep.{work_here}

-- another set's contents stay
moved_here : (at_set place : ℕ) (contents : List (List ℕ)) (new : List ℕ) → place < 4
    → SameElsewhere at_set contents (set contents (content_place at_set place) new)
moved_here at_set place contents new low at p ne low' =
    get_or-set_other contents (content_place at_set place) (content_place at p) new []
    (λ e. ne (omega (arith, e, low, low')))

pub commits : (told : Told) (slots id at_set place value : ℕ) (own kept : Fragment)
    (out : Option Fragment) (before old after new : List ℕ) (me : Sat)
    → me.0.turn ≡ reading at_set → at_set < told.sets → place < 4 → me.0.read ≡ before ++ (old ++ after)
    → length before ≡ 10 * place → length old ≡ 10 → length new ≡ 10 → value ≡ get_or new 5 0
    → IsOwn me.0.note own → set_number own.key told.sets ≡ at_set → part_words kept ≡ new
    → Takes told.timeouts own (entry_of old) out kept
    → Allows (Ruled told) slots id me (64 * at_set + 16 + (10 * place + 5)) (λ _. value)
    (λ _. Commits (writes_to at_set place own out old new) me)
commits told slots id at_set place value own kept out before old after new me is low low' read_is at_place long
    long' value_is owned of_set kept_is takes s h wide at fits =
    let i : ℕ = 64 * at_set + 16 + (10 * place + 5) in
    let c : ℕ = content_place at_set place in
    let v : Hand = me.0 in
    let in_set : IsInSet told.sets c own =
    of_set ∙ (let p : at_set ≡ c / 4 = omega (arith, low') in p) in
    let w : Hand = committed_hand (writes_to at_set place own out old new) v in
    let f = h.each id v at in
    let known : FitsTurn told.sets s.words h.contents v.read (reading at_set) =
    subst (FitsTurn told.sets s.words h.contents v.read) is f.turn in
    let inside : i < length s.words = (let x = h.wide in omega (arith, x, low, low')) in
    let c_in : c < length h.contents = (let x = h.many in omega (arith, x, low, low')) in
    let as_read : (m : ℕ) → m < 10 → get_or old m 0 ≡ get_or v.read (10 * place + m) 0
    = λ m lower. sym (ap (λ r. get_or r (10 * place + m) 0) read_is
    ∙ (ap (λ z. get_or (before ++ (old ++ after)) (z + m) 0) (sym at_place)
    ∙ (behind before (old ++ after) m ∙ in_front old after m (omega (arith, lower, long))))) in
    let reads : (m : ℕ) → m < 10 → get_or old m 0 ≡ get_or s.words (set_word at_set (10 * place + m)) 0
    = λ m lower. as_read m lower ∙ known.2 (10 * place + m)
    (let l : length v.read ≡ length before + (length old + length after) =
    ap length read_is ∙ (length-append before (old ++ after) ∙ ap (λ z. length before + z) (length-append old after)) in
    omega (arith, l, at_place, long, lower)) in
    let content_is : get_or h.contents c [] ≡ old =
    read_content told s at_set place id v h at is low low' old long reads in
    let there : get_elem? h.contents c ≡ some old = element_at h.contents c [] c_in ∙ ap some content_is in
    let contents' : List (List ℕ) = set h.contents c new in
    let claims : (q : ℕ) → claim q w ≡ claim q v =
    λ q. sym (ap (λ (t : Turn). let n : ℕ = cond (is_at q t) (suc (number_of v.numbers)) 0 in n) is) in
    let holds : (q : ℕ) → turns_held q w ≡ turns_held q v =
    λ q. sym (ap (λ (t : Turn). let n : ℕ = cond (is_at q t) 1 0 in n) is) in
    let has : is_at at_set v.turn ≡ true = ap (is_at at_set) is ∙ eq-eqb at_set at_set refl in
    let idle_before : (q p : ℕ) → at_work q p v.turn ≡ 0 = λ q p. ap (at_work q p) is in
    let mine : Fits told.sets (set s.words i value) contents' w = record {
      seats = f.seats;
      gone = λ none. absurd (let one = owned.can.single in omega (arith, none, one));
      live = subst (LiveAt (length v.numbers)) is f.live;
      turn = (
        low,
        low',
        length-set old 5 (get_or new 5 0) ∙ long,
        get_or-set_same h.contents c new [] c_in,
        λ m below. dite (ℕ_discrete m 5)
            (λ same. ap (λ x. get_or (set old 5 (get_or new 5 0)) x 0) same
            ∙ (get_or-set_same old 5 (get_or new 5 0) 0 (omega (arith, long))
            ∙ (sym value_is
            ∙ sym (ap (λ x. get_or (set s.words i value) (64 * at_set + 16 + (10 * place + x)) 0) same
            ∙ get_or-set_same s.words i value 0 inside))))
            (λ other. get_or-set_other old 5 m (get_or new 5 0) 0 other
            ∙ (reads m below
            ∙ sym (get_or-set_other s.words i (set_word at_set (10 * place + m)) value 0
            (λ e. other (omega (arith, e)))))),
        λ m below. dite (ℕ_discrete m 5)
            (λ same. inl (ap (λ x. get_or (set old 5 (get_or new 5 0)) x 0) same
            ∙ (get_or-set_same old 5 (get_or new 5 0) 0 (omega (arith, long)) ∙ ap (λ x. get_or new x 0) (sym same))))
            (λ other. inr (get_or-set_other old 5 m (get_or new 5 0) 0 other ∙ as_read m below)),
        known.1,
        λ m below elsewhere. known.2 m below ∙ sym
            (get_or-set_other s.words i (set_word at_set m) value 0
            (λ e. ⊎_elim (λ before. omega (arith, e, before)) (λ behind. omega (arith, e, behind)) elsewhere)),
      );
    } in (
      w,
      keeps,
      tt,
      build told s h id v w at refl refl i value me.1 contents' (length-set h.contents c new ∙ h.many)
          (λ q lower. dite (ℕ_discrete q c)
          (λ same. ap (λ x. length (get_or (set h.contents c new) x [])) same
          ∙ (ap length (get_or-set_same h.contents c new [] c_in) ∙ long'))
          (λ other. ap length (get_or-set_other h.contents c q new [] other) ∙ h.ten q lower))
          (λ q lower. (let e = claims q in
          let keep : get_or (set s.words i value) (turn_word q) 0 ≡ get_or s.words (turn_word q) 0 =
          get_or-set_other s.words i (turn_word q) value 0
          (λ e. apart_turn q at_set (10 * place + 5) (omega (arith, low')) (sym e)) in omega (arith, e, keep)))
          (λ q. (let t = total-set (turns_held q) s.views id v w at in let o = h.once q in let e = holds q in
          omega (arith, t, o, e)))
          (λ q p m lower lower' lower'' none.
          let t = total-set (λ hand. at_work q p hand.turn) s.views id v w at in
          let z = idle_before q p in
          let off : at_set ≡ q → place ≡ p → ⊥ = λ a b.
          (let one = work_here at_set place q p new (set old 5 (get_or new 5 0)) a b in
          omega (arith, t, none, z, one)) in
          ap (λ x. get_or x m 0)
          (get_or-set_other h.contents c (content_place q p) new []
          (λ e. off (omega (arith, e, low', lower')) (omega (arith, e, low', lower'))))
          ∙ (h.settled q p m lower lower' lower'' (omega (arith, t, none, z))
          ∙ sym (get_or-set_other s.words i (set_word q (10 * p + m)) value 0
          (λ e. off (omega (arith, e, low', lower', lower'')) (omega (arith, e, low', lower', lower''))))))
          (λ j u ne e. frame_content told.sets value at_set (10 * place + 5)
          (omega (arith, low')) s.words h.contents contents' (moved_here at_set place h.contents new low') u
          (not_other told s at_set id j v u h at has ne e) (h.each j u e))
          mine
          (subst (Keeps told.timeouts told.sets contents') (sym (notes_set s.views id w))
          (subst (λ x. Keeps told.timeouts told.sets (set h.contents c x)
          (set (map (λ (hand : Hand). hand.note) s.views) id w.note)) kept_is
          (keeps_taken told.timeouts told.sets h.contents (map (λ (hand : Hand). hand.note) s.views) c id old v.note own
          kept out h.kept there (at_map (λ (hand : Hand). hand.note) s.views id v at) owned.can in_set takes))),
      refl,
    )
