-- Each step keeps the rule.
use Rattle.std.proofs.Common.{◌≡◌, ◌≢◌, ℕ, zero, suc, ◌+◌, ◌<◌, ◌⊎◌, ◌||◌, Bool, true, false, true≢false, inl, inr}
use Rattle.std.proofs.Common.{List, [], ◌∷◌, ◌++◌, set, sym, refl, ap, ◌∙◌, subst, ⊎_elim, arith, append_assoc}
use Rattle.std.proofs.Common.{append-nil}
use Rattle.std.specs.Prelude.{All, IsPermutation}
use Rattle.std.proofs.lemmas.List.{set_comm}
use Rattle.std.proofs.lemmas.List.Sums.{sum_by_push}
use Rattle.std.proofs.lemmas.List.Sorted.{IsPermutation-refl, IsPermutation-trans, IsPermutation-append_left}
use Rattle.std.proofs.lemmas.List.Sorted.{All-permutation}
use mathlib.Core.Option.{some, some-ne-none}
use lib.ListN.{get_elem?}
use Rattle.crossbeam_queue.specs.Fifo.{Pushes, Pops, Forks, Merges, Learns}
use Rattle.crossbeam_queue.proofs.Lists.{at_set, at_snoc, set_else}
use Rattle.batch_queue.specs.declared.batch.Batch.{Batch}
use Rattle.batch_queue.specs.declared.seen.Seen.{Seen}
use Rattle.batch_queue.specs.Batches.{IsBefore, AreRising}
use Rattle.batch_queue.specs.Queueing.{all_seats, all_taken, Fits, Queued, first_seen, with_another, other_seen}
use Rattle.batch_queue.specs.Queueing.{both_of, spent_pass, more_of, HasPut, HasTaken, Knows}
use Rattle.batch_queue.proofs.Lists.{sum-set, flat-same, flat-last, flat-more, flat-less, flat-at, flat-only}
use Rattle.batch_queue.proofs.Lists.{rising-last, rising-before}

abbrev seats : Seen → ℕ
seats v = v.seats

abbrev took : Seen → List Batch
took v = v.took

-- one pass at most is the reader's
abbrev Single : List Seen → Type 0
Single views = (i j : ℕ) (v w : Seen) → get_elem? views i ≡ some v → get_elem? views j ≡ some w → v.reader ≡ true
    → w.reader ≡ true → i ≡ j

abbrev Each : (ℕ → Seen → Type 0) → List Seen → Type 0
Each F views = (j : ℕ) (v : Seen) → get_elem? views j ≡ some v → F j v

each-set : (F : ℕ → Seen → Type 0) (views : List Seen) (id : ℕ) (w : Seen) → F id w
    → ((j : ℕ) (u : Seen) → j ≢ id → get_elem? views j ≡ some u → F j u)
    → Each F (set views id w)
each-set F views id w mine others j u at =
    ⊎_elim (λ (x : (j ≡ id) × (w ≡ u)). subst (λ (y : ℕ × Seen). F y.0 y.1) (λ i. (sym x.0 i, x.1 i)) mine)
    (λ (x : (j ≢ id) × (get_elem? views j ≡ some u)). others j u x.0 x.1) (at_set views id j w u at)

each-last : (F : ℕ → Seen → Type 0) (views : List Seen) (w : Seen) → ((j : ℕ) → F j w) → Each F views
    → Each F (views ++ w ∷ [])
each-last F views w mine all j u at = ⊎_elim (λ at'. all j u at') (λ (is : w ≡ u). subst (F j) is (mine j))
    (at_snoc views w u j at)

-- where a pass is the reader's only if it was, one at most stays the reader's
at-most : (views : List Seen) (id : ℕ) (v w : Seen) → get_elem? views id ≡ some v → Single views → w.reader ≡ v.reader
    → Single (set views id w)
at-most views id v w at single same =
    let Was : ℕ → Seen → Type 0 = λ j u. (old : Seen) × (get_elem? views j ≡ some old) × (u.reader ≡ old.reader) in
    let was : Each Was (set views id w) = each-set Was views id w (v, at, same) (λ j u apart at'. (u, at', refl)) in
    λ i j x y atx aty isx isy.
    let a = was i x atx in
    let b = was j y aty in
    single i j a.0 b.0 a.1 b.1 (sym a.2 ∙ isx) (sym b.2 ∙ isy)

-- the rule after a step of one pass
stepped : (items items' : List Batch) (views : List Seen) (id : ℕ) (v w : Seen) (gone' : List Batch)
    → Queued items views → get_elem? views id ≡ some v → w.reader ≡ v.reader → w.seats ≡ v.seats → w.others ≡ v.others
    → AreRising (gone' ++ items')
    → IsPermutation gone' (all_taken (set views id w))
    → (v.reader ≡ true → w.put ≡ gone' ++ items')
    → (v.reader ≡ false → w.put ≡ [])
    → ((j : ℕ) (u : Seen) → j ≢ id → get_elem? views j ≡ some u → u.reader ≡ true → u.put ≡ gone' ++ items')
    → (w.seats ≡ 0 → w.took ≡ [])
    → Queued items' (set views id w)
stepped items items' views id v w gone' h at same seats_is others_is rising once reader other rest idle =
    let fits = h.each id v at in
    let count : all_seats (set views id w) ≡ all_seats views = let sum = sum-set seats views id v w at in
    omega (arith, sum, seats_is) in
    record {
      gone = gone';
      rising = rising;
      once = once;
      single = at-most views id v w at h.single same;
      each = each-set (λ j u. Fits (gone' ++ items') (all_seats (set views id w)) u) views id w
          record {
            reader = λ is. (
              reader (sym same ∙ is),
              count ∙ (fits.reader (sym same ∙ is)).1
                  ∙ ap (λ n. n + 1) (sym others_is),
            );
            other = λ is. (other (sym same ∙ is), others_is ∙ (fits.other (sym same ∙ is)).1);
            idle = idle;
          }
          (λ j u apart at'. (let f = h.each j u at' in record {
            reader = λ is. (rest j u apart at' is, count ∙ (f.reader is).1);
            other = f.other;
            idle = f.idle;
          }));
    }

only : (i : ℕ) (v : Seen) → get_elem? (first_seen ∷ []) i ≡ some v → i ≡ 0
only zero v at = refl
only (suc i) v at = absurd (some-ne-none v (sym at))

pub begins : Queued [] (first_seen ∷ [])
begins = record {
  gone = [];
  rising = tt;
  once = IsPermutation-refl [];
  single = λ i j v w atv atw isv isw. only i v atv ∙ sym (only j w atw);
  each = each-last (λ j v. Fits [] 1 v) [] first_seen
      (λ j. record { reader = λ is. (refl, refl); other = λ is. absurd (true≢false is); idle = λ none. refl })
      (λ j v at. absurd (some-ne-none v (sym at)));
}

-- a batch is put
pub pushes : (n id : ℕ) (v : Seen) (x : Batch) → v.reader ≡ true → All (λ b. IsBefore b x) v.put
    → Pushes Queued n id v x (HasPut v x)
pushes n id v x reader before items views room h at =
    let w : Seen = more_of (x ∷ []) [] v in
    let log : v.put ≡ h.gone ++ items = ((h.each id v at).reader reader).0 in
    let same : h.gone ++ (items ++ x ∷ []) ≡ (h.gone ++ items) ++ x ∷ [] = sym (append_assoc h.gone items (x ∷ [])) in (
      w,
      stepped items (items ++ x ∷ []) views id v w h.gone h at refl refl refl
          (subst AreRising (sym same)
          (rising-last (h.gone ++ items) x h.rising (subst (All (λ b. IsBefore b x)) log before)))
          (subst (IsPermutation h.gone) (sym (flat-same took views id v w at (append-nil v.took))) h.once)
          (λ is. ap (λ l. l ++ x ∷ []) log ∙ sym same)
          (λ is. absurd (true≢false (sym reader ∙ is)))
          (λ j u apart at' is. absurd (apart (h.single j id u v at' at is reader)))
          (λ none. append-nil v.took ∙ (h.each id v at).idle none),
      refl,
    )

-- a batch is taken
pub pops : (id : ℕ) (v : Seen) → 0 < v.seats → Pops Queued id v (HasTaken v)
pops id v some_seat x items views h at =
    let w : Seen = more_of [] (x ∷ []) v in
    let gone : List Batch = h.gone ++ x ∷ [] in
    let same : gone ++ items ≡ h.gone ++ x ∷ items = append_assoc h.gone (x ∷ []) items in
    let before : All (λ b. IsBefore b x) v.took =
    flat-at took (λ b. IsBefore b x) views id v at
    (All-permutation (λ b. IsBefore b x) h.gone (all_taken views) h.once (rising-before h.gone x items h.rising)) in (
      w,
      stepped (x ∷ items) items views id v w gone h at refl refl refl
          (subst AreRising (sym same) h.rising)
          (IsPermutation-trans gone (all_taken views ++ x ∷ []) (all_taken (set views id w))
          (IsPermutation-append_left (x ∷ []) h.gone (all_taken views) h.once)
          (flat-more took views id v w (x ∷ []) at refl))
          (λ is. append-nil v.put ∙ ((h.each id v at).reader is).0 ∙ sym same)
          (λ is. append-nil v.put ∙ ((h.each id v at).other is).0)
          (λ j u apart at' is. ((h.each j u at').reader is).0 ∙ sym same)
          (λ none. absurd (omega (arith, none, some_seat))),
      (refl, before),
    )

-- what a pass can tell
pub learns : (id : ℕ) (v : Seen) → Learns Queued id v (Knows v)
learns id v items views h at = record {
  last = λ is. (h.gone, ((h.each id v at).reader is).0);
  all = λ is. (let fits = (h.each id v at).reader is.0 in
      let mine : all_taken views ≡ v.took = flat-only took seats views id v at (λ j u at'. (h.each j u at').idle)
      (fits.1 ∙ sym is.1) in
      subst (λ l. IsPermutation l (v.took ++ items)) (sym fits.0)
      (IsPermutation-append_left items h.gone v.took (subst (IsPermutation h.gone) mine h.once)));
}

-- one more seat
single-last : (views : List Seen) (w : Seen) → w.reader ≡ false → Single views → Single (views ++ w ∷ [])
single-last views w none single i j x y atx aty isx isy =
    ⊎_elim
    (λ atx'. ⊎_elim (λ aty'. single i j x y atx' aty' isx isy)
    (λ (is : w ≡ y). absurd (true≢false (sym isy ∙ ap (λ (v : Seen). v.reader) (sym is) ∙ none)))
    (at_snoc views w y j aty))
    (λ (is : w ≡ x). absurd (true≢false (sym isx ∙ ap (λ (v : Seen). v.reader) (sym is) ∙ none)))
    (at_snoc views w x i atx)

pub forks : (id : ℕ) (v : Seen) → v.reader ≡ true → Forks Queued id v (with_another v) other_seen
forks id v reader items views h at =
    let left : Seen = with_another v in
    let vs : List Seen = set views id left in
    let fits = h.each id v at in
    let count : all_seats (vs ++ other_seen ∷ []) ≡ all_seats views + 1 =
    let a = sum-set seats views id v left at in let b = sum_by_push seats vs other_seen in omega (arith, a, b) in
    record {
      gone = h.gone;
      rising = h.rising;
      once = subst (IsPermutation h.gone)
          (sym (flat-last took vs other_seen refl ∙ flat-same took views id v left at refl)) h.once;
      single = single-last vs other_seen refl (at-most views id v left at h.single refl);
      each = each-last (λ j u. Fits (h.gone ++ items) (all_seats (vs ++ other_seen ∷ [])) u) vs other_seen
          (λ j. record { reader = λ is. absurd (true≢false (sym is)); other = λ is. (refl, refl); idle = λ none. refl })
          (each-set (λ j u. Fits (h.gone ++ items) (all_seats (vs ++ other_seen ∷ [])) u) views id left
          record {
            reader = λ is. ((fits.reader is).0, count ∙ ap (λ n. n + 1) (fits.reader is).1);
            other = λ is. absurd (true≢false (sym reader ∙ is));
            idle = fits.idle;
          }
          (λ j u apart at'. (let f = h.each j u at' in record {
            reader = λ is. absurd (apart (h.single j id u v at' at is reader));
            other = f.other;
            idle = f.idle;
          })));
    }

-- two passes become one
or-true : (a b : Bool) → (a || b) ≡ true → (a ≡ true) ⊎ (b ≡ true)
or-true true b is = inl refl
or-true false b is = inr is

or-false : (a b : Bool) → (a || b) ≡ false → (a ≡ false) × (b ≡ false)
or-false true b is = absurd (true≢false is)
or-false false b is = (refl, is)

either : (b : Bool) → (b ≡ true) ⊎ (b ≡ false)
either true = inl refl
either false = inr refl

fits-both : (log : List Batch) (n : ℕ) (v u : Seen) → Fits log n v → Fits log n u
    → (v.reader ≡ true → u.reader ≡ true → ⊥) → Fits log n (both_of v u)
fits-both log n v u f g apart = record {
  reader = λ is. ⊎_elim
      (λ (mine : v.reader ≡ true). ⊎_elim (λ (theirs : u.reader ≡ true). absurd (apart mine theirs))
      (λ (none : u.reader ≡ false). (
        (λ i. (f.reader mine).0 i ++ (g.other none).0 i) ∙ append-nil log,
        (let a = (f.reader mine).1 in let b = (g.other none).1 in omega (arith, a, b)),
      )) (either u.reader))
      (λ (theirs : u.reader ≡ true). ⊎_elim (λ (mine : v.reader ≡ true). absurd (apart mine theirs))
      (λ (none : v.reader ≡ false). (
        (λ i. (f.other none).0 i ++ (g.reader theirs).0 i),
        (let a = (g.reader theirs).1 in let b = (f.other none).1 in omega (arith, a, b)),
      )) (either v.reader))
      (or-true v.reader u.reader is);
  other = λ is. (let none = or-false v.reader u.reader is in (
    (λ i. (f.other none.0).0 i ++ (g.other none.1).0 i),
    (let a = (f.other none.0).1 in let b = (g.other none.1).1 in omega (arith, a, b)),
  ));
  idle = λ none. (λ i. f.idle (omega (arith, none)) i ++ g.idle (omega (arith, none)) i);
}

-- where a pass comes from that is the reader's behind the union
abbrev Origin : List Seen → ℕ → ℕ → ℕ → Type 0
Origin views id other j = (k : ℕ) × (old : Seen) × (get_elem? views k ≡ some old) × (old.reader ≡ true)
    × ((k ≡ j) ⊎ ((k ≡ other) × (j ≡ id)))

single-merged : (views : List Seen) (id other : ℕ) (v u : Seen) → get_elem? views id ≡ some v
    → get_elem? views other ≡ some u → Single views
    → Single (set (set views id (both_of v u)) other spent_pass)
single-merged views id other v u at was single =
    let both : Seen = both_of v u in
    let first : Each (λ j x. x.reader ≡ true → Origin views id other j) (set views id both) =
    each-set (λ j x. x.reader ≡ true → Origin views id other j) views id both
    (λ is. ⊎_elim (λ (mine : v.reader ≡ true). (id, v, at, mine, inl refl))
    (λ (theirs : u.reader ≡ true). (other, u, was, theirs, inr (refl, refl)))
    (or-true v.reader u.reader is))
    (λ j x apart at' is. (j, x, at', is, inl refl)) in
    let all : Each (λ j x. x.reader ≡ true → (j ≢ other) × Origin views id other j)
    (set (set views id both) other spent_pass) =
    each-set (λ j x. x.reader ≡ true → (j ≢ other) × Origin views id other j) (set views id both) other spent_pass
    (λ is. absurd (true≢false (sym is)))
    (λ j x apart at' is. (apart, first j x at' is)) in
    λ i j x y atx aty isx isy.
    let a = all i x atx isx in
    let b = all j y aty isy in
    let same : a.1.0 ≡ b.1.0 = single a.1.0 b.1.0 a.1.1 b.1.1 a.1.2 b.1.2 a.1.3 b.1.3 in
    ⊎_elim
    (λ (ai : a.1.0 ≡ i). ⊎_elim (λ (bj : b.1.0 ≡ j). sym ai ∙ same ∙ bj)
    (λ (bj : (b.1.0 ≡ other) × (j ≡ id)). absurd (a.0 (sym ai ∙ same ∙ bj.0))) b.1.4)
    (λ (ai : (a.1.0 ≡ other) × (i ≡ id)). ⊎_elim (λ (bj : b.1.0 ≡ j). absurd (b.0 (sym bj ∙ sym same ∙ ai.0)))
    (λ (bj : (b.1.0 ≡ other) × (j ≡ id)). ai.1 ∙ sym bj.1) b.1.4) a.1.4

pub merges : (id : ℕ) (v : Seen) (other : ℕ) (u : Seen) → Merges Queued id v other u (both_of v u) spent_pass
merges id v other u items views h at apart at' =
    let both : Seen = both_of v u in
    let vs : List Seen = set views id both in
    let end : List Seen = set vs other spent_pass in
    let was : get_elem? views other ≡ some u =
    ⊎_elim (λ x. absurd (apart x.0)) (λ x. x.1) (at_set views id other both u at') in
    let rest : List Seen = set views other spent_pass in
    let still : get_elem? rest id ≡ some v = set_else views other id spent_pass (λ e. apart (sym e)) ∙ at in
    let turned : set rest id both ≡ end = sym (set_comm views id other both spent_pass (λ e. apart (sym e))) in
    let count : all_seats end ≡ all_seats views =
    let a = sum-set seats views id v both at in let b = sum-set seats vs other u spent_pass at' in
    omega (arith, a, b) in
    let F : ℕ → Seen → Type 0 = λ j x. Fits (h.gone ++ items) (all_seats views) x in
    record {
      gone = h.gone;
      rising = h.rising;
      once = IsPermutation-trans h.gone (all_taken views) (all_taken end) h.once
          (IsPermutation-trans (all_taken views) (all_taken rest ++ u.took) (all_taken end)
          (flat-less took views other u spent_pass was refl)
          (subst (λ l. IsPermutation (all_taken rest ++ u.took) (all_taken l)) turned
          (flat-more took rest id v both u.took still refl)));
      single = single-merged views id other v u at was h.single;
      each = subst (λ n. Each (λ j x. Fits (h.gone ++ items) n x) end) (sym count)
          (each-set F vs other spent_pass
          record { reader = λ is. absurd (true≢false (sym is)); other = λ is. (refl, refl); idle = λ none. refl }
          (λ j x _ atx. each-set F views id both
          (fits-both (h.gone ++ items) (all_seats views) v u (h.each id v at) (h.each other u was)
          (λ mine theirs. apart (h.single other id u v was at theirs mine)))
          (λ k y _ aty. h.each k y aty) j x atx));
    }
