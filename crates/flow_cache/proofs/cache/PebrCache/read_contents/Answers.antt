use Rattle.std.proofs.Common.{◌≡◌, ◌<◌, ◌∙◌, ◌∷◌, [], ℕ, zero, suc, List, length, set, map, Option, Some, refl, sym, ap}
use Rattle.std.proofs.Common.{subst, arith}
use Rattle.std.specs.Prelude.{slice_index, All}
use Rattle.flow_parts.specs.declared.fragment.Fragment.{Fragment}
use Rattle.cache_face.specs.Keeping.{entry_of, IsWhole}
use Rattle.cache_face.proofs.Four.{all_four}
use Rattle.pebr_core.specs.State.{Seat}
use Rattle.pebr_words.specs.Pasts.{Load, Read, History, shown_at, written_at}
use Rattle.pebr_roots.specs.Under.{slot_at}
use Rattle.pebr_roots.specs.Passes.{known_by_pass, past_by}
use Rattle.flow_cache.specs.Places.{root_of}
use Rattle.flow_cache.specs.Reading.{words_read}
use Rattle.flow_cache.specs.Trying.{HasMore, HasTen}
use Rattle.flow_cache.proofs.Histories.{more_more}
use Rattle.flow_cache.proofs.Sets.{has_ten, ten_stay, words_stay, words_are, four_read}
use Rattle.pebr_roots.specs.Passes.{shape_at, number_by, operations_by}
use Rattle.flow_cache.proofs.Sparing.{spared_on}
use Rattle.flow_cache.proofs.cache.PebrCache.read_contents.Goals as goal

each_of_four : (P : ℕ → Type 0) → P 0 → P 1 → P 2 → P 3 → (place : ℕ) → place < 4 → P place
each_of_four P a b c d zero low = a
each_of_four P a b c d (suc zero) low = b
each_of_four P a b c d (suc (suc zero)) low = c
each_of_four P a b c d (suc (suc (suc zero))) low = d
each_of_four P a b c d (suc (suc (suc (suc n)))) low = absurd (omega (arith, low))

same_four : (a b c d a' b' c' d' : Option Fragment) → a ≡ a' → b ≡ b' → c ≡ c' → d ≡ d'
    → a ∷ b ∷ c ∷ d ∷ [] ≡ a' ∷ b' ∷ c' ∷ d' ∷ []
same_four a b c d a' b' c' d' p q r s = λ i. p i ∷ q i ∷ r i ∷ s i ∷ []

-- an entry as it was read first is read so at the end
read_so : (words : List ℕ) (then reads : List Read) (slot slot' : ℕ) → length words ≡ 10
    → ((word : ℕ) → word < 10 → written_at then slot word ≡ Some (slice_index words word)) → HasMore then reads
    → slot ≡ slot' → entry_of words ≡ entry_of (words_read reads slot')
read_so words then reads slot slot' long each more same = ap entry_of (words_are then slot words long each)
    ∙ ap entry_of (words_stay then reads slot more (has_ten then slot words long each))
    ∙ ap (λ s. entry_of (words_read reads s)) same

-- four contents, each put in its place
four_set : (contents : List (List ℕ)) (a b c d : List ℕ) → length contents ≡ 4
    → set (set (set (set contents 0 a) 1 b) 2 c) 3 d ≡ a ∷ b ∷ c ∷ d ∷ []
four_set [] a b c d long = absurd (omega (arith, long))
four_set (x ∷ []) a b c d long = absurd (omega (arith, long))
four_set (x ∷ y ∷ []) a b c d long = absurd (omega (arith, long))
four_set (x ∷ y ∷ z ∷ []) a b c d long = absurd (omega (arith, long))
four_set (x ∷ y ∷ z ∷ w ∷ []) a b c d long = refl
four_set (x ∷ y ∷ z ∷ w ∷ v ∷ vs) a b c d long = absurd (omega (arith, long))

pub returns-clause-ten : goal.returns-clause-ten
returns-clause-ten c =
    let f = c.read_ends in
    let a = c.read_rest in let b = c.read_rest-2 in let d = c.read_rest-3 in let e = c.read_rest-4 in
    let known = known_by_pass c.args.pass.now in
    let r : List Read = (past_by e.new.pass).reads in
    let at_a : slot_at (known_by_pass f.new.pass) 0 ≡ slot_at known 0 =
    ap (λ (s : Seat). slot_at s 0) f.ensures.known in
    let at_b : slot_at (known_by_pass a.new.pass) 1 ≡ slot_at known 1 =
    ap (λ (s : Seat). slot_at s 1) (a.ensures.known ∙ f.ensures.known) in
    let at_d : slot_at (known_by_pass b.new.pass) 2 ≡ slot_at known 2 =
    ap (λ (s : Seat). slot_at s 2) (b.ensures.known ∙ a.ensures.known ∙ f.ensures.known) in
    let at_e : slot_at (known_by_pass d.new.pass) 3 ≡ slot_at known 3 =
    ap (λ (s : Seat). slot_at s 3) (d.ensures.known ∙ b.ensures.known ∙ a.ensures.known ∙ f.ensures.known) in
    let from_b = more_more (past_by b.new.pass).reads (past_by d.new.pass).reads r d.ensures.more e.ensures.more in
    let from_a = more_more (past_by a.new.pass).reads (past_by b.new.pass).reads r b.ensures.more from_b in
    each_of_four (λ place. HasTen r (slot_at known place))
    (subst (HasTen r) at_a (ten_stay (past_by a.new.pass).reads r (slot_at (known_by_pass f.new.pass) 0) from_a
    (has_ten (past_by a.new.pass).reads (slot_at (known_by_pass f.new.pass) 0) a.new.words a.ensures.long
    a.ensures.read)))
    (subst (HasTen r) at_b (ten_stay (past_by b.new.pass).reads r (slot_at (known_by_pass a.new.pass) 1) from_b
    (has_ten (past_by b.new.pass).reads (slot_at (known_by_pass a.new.pass) 1) b.new.words b.ensures.long
    b.ensures.read)))
    (subst (HasTen r) at_d (ten_stay (past_by d.new.pass).reads r (slot_at (known_by_pass b.new.pass) 2) e.ensures.more
    (has_ten (past_by d.new.pass).reads (slot_at (known_by_pass b.new.pass) 2) d.new.words d.ensures.long
    d.ensures.read)))
    (subst (HasTen r) at_e
    (has_ten r (slot_at (known_by_pass d.new.pass) 3) e.new.words e.ensures.long e.ensures.read))

pub returns-clause-entries : goal.returns-clause-entries
returns-clause-entries c set protected =
    let f = c.read_ends in
    let a = c.read_rest in let b = c.read_rest-2 in let d = c.read_rest-3 in let e = c.read_rest-4 in
    let known = known_by_pass c.args.pass.now in
    let past : History = past_by e.new.pass in
    let loads : past.loads ≡ (past_by c.args.pass.now).loads =
    ap (λ (p : History). p.loads) e.ensures.past ∙ ap (λ (p : History). p.loads) d.ensures.past
    ∙ ap (λ (p : History). p.loads) b.ensures.past ∙ ap (λ (p : History). p.loads) a.ensures.past
    ∙ ap (λ (p : History). p.loads) f.ensures.past in
    let at_a : slot_at (known_by_pass f.new.pass) 0 ≡ slot_at known 0 =
    ap (λ (s : Seat). slot_at s 0) f.ensures.known in
    let at_b : slot_at (known_by_pass a.new.pass) 1 ≡ slot_at known 1 =
    ap (λ (s : Seat). slot_at s 1) (a.ensures.known ∙ f.ensures.known) in
    let at_d : slot_at (known_by_pass b.new.pass) 2 ≡ slot_at known 2 =
    ap (λ (s : Seat). slot_at s 2) (b.ensures.known ∙ a.ensures.known ∙ f.ensures.known) in
    let at_e : slot_at (known_by_pass d.new.pass) 3 ≡ slot_at known 3 =
    ap (λ (s : Seat). slot_at s 3) (d.ensures.known ∙ b.ensures.known ∙ a.ensures.known ∙ f.ensures.known) in
    let from_b = more_more (past_by b.new.pass).reads
    (past_by d.new.pass).reads past.reads d.ensures.more e.ensures.more in
    let from_a = more_more (past_by a.new.pass).reads (past_by b.new.pass).reads past.reads b.ensures.more from_b in
    let at : (place : ℕ) → place < 4 → shown_at past.loads (root_of set place) ≡ Some (slot_at known place) =
    λ place low. ap (λ (ls : List Load). shown_at ls (root_of set place)) loads ∙ (protected.each place low).1.0 in
    let entry : ℕ → Option Fragment = λ place. entry_of (words_read past.reads (slot_at known place)) in
    ap (map entry_of) (four_set c.args.contents.now a.new.words b.new.words d.new.words e.new.words c.told-contents)
    ∙ same_four (entry_of a.new.words) (entry_of b.new.words) (entry_of d.new.words) (entry_of e.new.words)
    (entry 0) (entry 1) (entry 2) (entry 3)
    (read_so a.new.words (past_by a.new.pass).reads past.reads (slot_at (known_by_pass f.new.pass) 0) (slot_at known 0)
    a.ensures.long a.ensures.read from_a at_a)
    (read_so b.new.words (past_by b.new.pass).reads past.reads (slot_at (known_by_pass a.new.pass) 1) (slot_at known 1)
    b.ensures.long b.ensures.read from_b at_b)
    (read_so d.new.words (past_by d.new.pass).reads past.reads (slot_at (known_by_pass b.new.pass) 2) (slot_at known 2)
    d.ensures.long d.ensures.read e.ensures.more at_d)
    (read_so e.new.words past.reads past.reads (slot_at (known_by_pass d.new.pass) 3) (slot_at known 3)
    e.ensures.long e.ensures.read (λ slot word value is. is) at_e)
    ∙ sym (four_read past set (slot_at known) at (returns-clause-ten c))

pub returns-clause-whole : goal.returns-clause-whole
returns-clause-whole c =
    let f = c.read_ends in
    let a = c.read_rest in let b = c.read_rest-2 in let d = c.read_rest-3 in let e = c.read_rest-4 in
    subst (All IsWhole)
    (sym (four_set c.args.contents.now a.new.words b.new.words d.new.words e.new.words c.told-contents))
    (all_four IsWhole a.new.words b.new.words d.new.words e.new.words a.ensures.whole b.ensures.whole d.ensures.whole
    e.ensures.whole)

pub returns-clause-few : goal.returns-clause-few
returns-clause-few c =
    let shape = shape_at c.args.self.now.roots in
    let me : ℕ = number_by c.args.pass.now in
    let x = operations_by c.args.pass.now in
    let f = c.read_ends in
    let a = c.read_rest in let b = c.read_rest-2 in let d = c.read_rest-3 in let e = c.read_rest-4 in
    let at_f : number_by f.new.pass ≡ me = f.ensures.same.still.1 in
    let at_a : number_by a.new.pass ≡ me = a.ensures.same.still.1 ∙ at_f in
    let at_b : number_by b.new.pass ≡ me = b.ensures.same.still.1 ∙ at_a in
    let at_d : number_by d.new.pass ≡ me = d.ensures.same.still.1 ∙ at_b in
    spared_on shape me 32 8 (number_by d.new.pass) x (operations_by d.new.pass) (operations_by e.new.pass) at_d
    (spared_on shape me 24 8 (number_by b.new.pass) x (operations_by b.new.pass) (operations_by d.new.pass) at_b
    (spared_on shape me 16 8 (number_by a.new.pass) x (operations_by a.new.pass) (operations_by b.new.pass) at_a
    (spared_on shape me 8 8 (number_by f.new.pass) x (operations_by f.new.pass) (operations_by a.new.pass) at_f
    f.ensures.few a.ensures.few) b.ensures.few) d.ensures.few)
    e.ensures.few

-- what was read at first of a word of a slot is read so still, when its other words are read
read_still : (slot slot' word value : ℕ) (old new : List Read) → slot' ≡ slot → written_at old slot word ≡ Some value
    → HasMore old new → written_at new slot' word ≡ Some value
read_still slot slot' word value old new same is more =
    subst (λ n. written_at new n word ≡ Some value) (sym same) (more slot word value is)

pub read_rest-requires-3-clause-first : goal.read_rest-requires-3-clause-first
read_rest-requires-3-clause-first c =
    let f = c.read_ends in let a = c.read_rest in let b = c.read_rest-2 in
    read_still (slot_at (known_by_pass c.args.pass.now) 2) (slot_at (known_by_pass b.new.pass) 2) 0
    (slice_index f.result.0 2) (past_by f.new.pass).reads (past_by b.new.pass).reads
    (ap (λ (s : Seat). slot_at s 2) (b.ensures.known ∙ a.ensures.known ∙ f.ensures.known))
    (f.ensures.firsts 2 (omega arith))
    (more_more (past_by f.new.pass).reads (past_by a.new.pass).reads (past_by b.new.pass).reads a.ensures.more
    b.ensures.more)

pub read_rest-requires-3-clause-last : goal.read_rest-requires-3-clause-last
read_rest-requires-3-clause-last c =
    let f = c.read_ends in let a = c.read_rest in let b = c.read_rest-2 in
    read_still (slot_at (known_by_pass c.args.pass.now) 2) (slot_at (known_by_pass b.new.pass) 2) 9
    (slice_index f.result.1 2) (past_by f.new.pass).reads (past_by b.new.pass).reads
    (ap (λ (s : Seat). slot_at s 2) (b.ensures.known ∙ a.ensures.known ∙ f.ensures.known))
    (f.ensures.lasts 2 (omega arith))
    (more_more (past_by f.new.pass).reads (past_by a.new.pass).reads (past_by b.new.pass).reads a.ensures.more
    b.ensures.more)

pub read_rest-requires-4-clause-first : goal.read_rest-requires-4-clause-first
read_rest-requires-4-clause-first c =
    let f = c.read_ends in let a = c.read_rest in let b = c.read_rest-2 in let d = c.read_rest-3 in
    read_still (slot_at (known_by_pass c.args.pass.now) 3) (slot_at (known_by_pass d.new.pass) 3) 0
    (slice_index f.result.0 3) (past_by f.new.pass).reads (past_by d.new.pass).reads
    (ap (λ (s : Seat). slot_at s 3) (d.ensures.known ∙ b.ensures.known ∙ a.ensures.known ∙ f.ensures.known))
    (f.ensures.firsts 3 (omega arith))
    (more_more (past_by f.new.pass).reads (past_by b.new.pass).reads (past_by d.new.pass).reads
    (more_more (past_by f.new.pass).reads (past_by a.new.pass).reads (past_by b.new.pass).reads a.ensures.more
    b.ensures.more) d.ensures.more)

pub read_rest-requires-4-clause-last : goal.read_rest-requires-4-clause-last
read_rest-requires-4-clause-last c =
    let f = c.read_ends in let a = c.read_rest in let b = c.read_rest-2 in let d = c.read_rest-3 in
    read_still (slot_at (known_by_pass c.args.pass.now) 3) (slot_at (known_by_pass d.new.pass) 3) 9
    (slice_index f.result.1 3) (past_by f.new.pass).reads (past_by d.new.pass).reads
    (ap (λ (s : Seat). slot_at s 3) (d.ensures.known ∙ b.ensures.known ∙ a.ensures.known ∙ f.ensures.known))
    (f.ensures.lasts 3 (omega arith))
    (more_more (past_by f.new.pass).reads (past_by b.new.pass).reads (past_by d.new.pass).reads
    (more_more (past_by f.new.pass).reads (past_by a.new.pass).reads (past_by b.new.pass).reads a.ensures.more
    b.ensures.more) d.ensures.more)
