-- The entries of a set, and the content that is put in place of one.
use Rattle.std.proofs.Common.{◌≡◌, ℕ, zero, suc, ◌+◌, ◌/◌, ◌<◌, ◌≤◌, Bool, true, false, List, [], ◌∷◌, ◌++◌, length}
use Rattle.std.proofs.Common.{map}
use Rattle.std.proofs.Common.{set, Option, Some, None, refl, sym, ap, ◌∙◌, subst, arith}
use Rattle.std.specs.Prelude.{◌==◌, ◌%◌, option_map, slice_index, if◌then◌else◌, filter_map}
use Rattle.std.specs.List.{range_with_len, cons_option}
use Rattle.std.proofs.lemmas.List.{ext_get_or}
use Rattle.std.proofs.lemmas.List.FromFn.{get_or-map-range_with_len}
use mathlib.Core.Option.{some, some-injective}
use lib.ListN.{get_elem?}
use Rattle.flow_parts.specs.declared.fragment.Fragment.{Fragment}
use Rattle.flow_parts.specs.declared.timeouts.Timeouts.{Timeouts}
use Rattle.flow_parts.specs.Parts.{part_words}
use Rattle.cache_face.specs.Choice.{Takes, entry_at}
use Rattle.cache_face.specs.Keeping.{Keeps, IsWhole, IsInSet, AreBacking, entry_of}
use Rattle.cache_face.specs.Laws.{CanTake}
use Rattle.cache_face.specs.Notes.{Note, note_with, note_seeing}
use Rattle.cache_face.specs.Meaning.{Written}
use Rattle.cache_face.proofs.Contents.{words_show}
use Rattle.cache_face.proofs.Apart.{here, all_at}
use Rattle.cache_face.proofs.Keeping.{keeps_taken, keeps_passed, keeps_seen, backs_taken, backs_seen, kept_is_backed}
use Rattle.pebr_core.specs.declared.kinds.Shape.{Shape}
use Rattle.pebr_words.specs.Pasts.{Read, History, written_at, shown_at}
use Rattle.pebr_words.specs.Making.{act_on}
use Rattle.pebr_core.specs.State.{Seat}
use Rattle.pebr_core.specs.Steps.{is_shielded}
use Rattle.pebr_words.specs.Ruled.{CanNote, CanReplace, HasReadWhole}
use Rattle.flow_cache.specs.declared.act.CacheAct.TheVariants.{Puts}
use Rattle.flow_cache.specs.Acts.{acted_note}
use Rattle.flow_cache.specs.Places.{root_of}
use Rattle.flow_cache.specs.Reading.{written_in, words_read, entry_found, entry_read, entries_read}
use Rattle.flow_cache.specs.Trying.{IsOwn, HasMore, HasTen}
use Rattle.flow_cache.proofs.Histories.{found_read}

-- two lists of ten words with the same words are one
pub ten_words : (one other : List ℕ) → length one ≡ 10 → length other ≡ 10
    → ((word : ℕ) → word < 10 → slice_index one word ≡ slice_index other word) → one ≡ other
ten_words one other a b same = ext_get_or 0 one other (a ∙ sym b) (λ word low. same word (omega (arith, low, a)))

-- what is found of each number of a range is all that is found there
all_found : (find : ℕ → Option ℕ) (from count : ℕ) (words : List ℕ) → length words ≡ count
    → ((k : ℕ) → k < count → find (from + k) ≡ Some (slice_index words k))
    → words ≡ filter_map find (range_with_len from count)
all_found find from zero [] long each = refl
all_found find from zero (word ∷ words) long each = absurd (omega (arith, long))
all_found find from (suc n) [] long each = absurd (omega (arith, long))
all_found find from (suc n) (word ∷ words) long each =
    let first : from ≡ from + 0 = omega arith in
    let here : find from ≡ Some word = ap find first ∙ each 0 (omega arith) in
    let rest : words ≡ filter_map find (range_with_len (from + 1) n) = all_found find (from + 1) n words
    (omega (arith, long)) (λ k low. (let next : from + 1 + k ≡ from + suc k = omega arith in
    ap find next ∙ each (suc k) (omega (arith, low)))) in
    ap (λ ws. word ∷ ws) rest ∙ ap (λ o. cons_option o (filter_map find (range_with_len (from + 1) n))) (sym here)

-- no more is found than there are numbers
one_more : (o : Option ℕ) (rest : List ℕ) (n : ℕ) → length rest ≤ n → length (cons_option o rest) ≤ suc n
one_more None rest n few = omega (arith, few)
one_more (Some word) rest n few = omega (arith, few)

few_found : (find : ℕ → Option ℕ) (from count : ℕ) → length (filter_map find (range_with_len from count)) ≤ count
few_found find from zero = omega arith
few_found find from (suc n) = one_more (find from) (filter_map find (range_with_len (from + 1) n)) n
    (few_found find (from + 1) n)

-- where as many are found as there are numbers, each is found
found_on : (find : ℕ → Option ℕ) (from n : ℕ) (rest : List ℕ) (o : Option ℕ) → find from ≡ o → length rest ≤ n
    → (length rest ≡ n → (k : ℕ) → k < n → find (from + 1 + k) ≡ Some (slice_index rest k))
    → length (cons_option o rest) ≡ suc n
    → (k : ℕ) → k < suc n → find (from + k) ≡ Some (slice_index (cons_option o rest) k)
found_on find from n rest None is few each all k low = absurd (omega (arith, few, all))
found_on find from n rest (Some word) is few each all zero low =
    let first : from + 0 ≡ from = omega arith in ap find first ∙ is
found_on find from n rest (Some word) is few each all (suc k) low =
    let next : from + suc k ≡ from + 1 + k = omega arith in
    ap find next ∙ each (omega (arith, all)) k (omega (arith, low))

each_found : (find : ℕ → Option ℕ) (from count : ℕ) → length (filter_map find (range_with_len from count)) ≡ count
    → (k : ℕ) → k < count → find (from + k) ≡ Some (slice_index (filter_map find (range_with_len from count)) k)
each_found find from zero all k low = absurd (omega (arith, low))
each_found find from (suc n) all k low = found_on find from n (filter_map find (range_with_len (from + 1) n))
    (find from) refl (few_found find (from + 1) n) (each_found find (from + 1) n) all k low

-- the words that were read are these
pub words_are : (reads : List Read) (slot : ℕ) (words : List ℕ) → length words ≡ 10
    → ((word : ℕ) → word < 10 → written_at reads slot word ≡ Some (slice_index words word))
    → words ≡ words_read reads slot
unfolding words_read
words_are reads slot words long each = all_found (written_at reads slot) 0 10 words long
    (λ word low. (let same : 0 + word ≡ word = omega arith in ap (written_at reads slot) same ∙ each word low))

pub has_ten : (reads : List Read) (slot : ℕ) (words : List ℕ) → length words ≡ 10
    → ((word : ℕ) → word < 10 → written_at reads slot word ≡ Some (slice_index words word)) → HasTen reads slot
has_ten reads slot words long each = ap length (sym (words_are reads slot words long each)) ∙ long

-- a word as it was last read
pub last_read : (reads : List Read) (slot : ℕ) → HasTen reads slot → (word : ℕ) → word < 10
    → written_at reads slot word ≡ Some (slice_index (words_read reads slot) word)
unfolding words_read
last_read reads slot ten word low =
    let same : word ≡ 0 + word = omega arith in
    ap (written_at reads slot) same ∙ each_found (written_at reads slot) 0 10 ten word low

-- what was read of ten words is so later
pub words_stay : (old new : List Read) (slot : ℕ) → HasMore old new → HasTen old slot
    → words_read old slot ≡ words_read new slot
words_stay old new slot more ten = words_are new slot (words_read old slot) ten
    (λ word low. more slot word (slice_index (words_read old slot) word) (last_read old slot ten word low))

pub ten_stay : (old new : List Read) (slot : ℕ) → HasMore old new → HasTen old slot → HasTen new slot
ten_stay old new slot more ten = ap length (sym (words_stay old new slot more ten)) ∙ ten

-- the entry of a root that was loaded, where the words of its slot were read
pub entry_is : (past : History) (root slot : ℕ) → shown_at past.loads root ≡ Some slot → HasTen past.reads slot
    → entry_read past root ≡ entry_of (words_read past.reads slot) ∷ []
entry_is past root slot shown ten = ap (entry_found past.reads) shown
    ∙ ap (λ n. if n == 10 then entry_of (words_read past.reads slot) ∷ [] else []) ten

-- a note that stays
set_self : {A : Type 0} (l : List A) (i : ℕ) (a : A) → get_elem? l i ≡ some a → set l i a ≡ l
set_self [] i a e = refl
set_self (x ∷ xs) zero a e = ap (λ y. y ∷ xs) (sym (some-injective x a e))
set_self (x ∷ xs) (suc i) a e = ap (λ l. x ∷ l) (set_self xs i a e)

-- what a pass that leaves does to its note
pub can_end : (limits : Timeouts) (sets number : ℕ) (shape : Shape) (known : Seat) (past : History) (note : Note)
    (own : Fragment) (passes_by : Bool)
    → (passes_by ≡ true → CanTake note own)
    → CanNote (Keeps limits sets) (AreBacking limits) shape known past number note
    (act_on acted_note (if passes_by then Some (Puts own (Some own)) else None) note)
can_end limits sets number shape known past note own true can contents notes keeps at backed = (
  keeps_passed limits sets contents notes number note own keeps at (can refl),
  λ content backing. backs_taken limits notes content number note own (Some own) backing at,
)
can_end limits sets number shape known past note own false can contents notes keeps at backed = (
  subst (Keeps limits sets contents) (sym (set_self notes number note at)) keeps,
  λ content backing. subst (λ ns. AreBacking limits ns content) (sym (set_self notes number note at)) backing,
)

-- a pass that has read an entry in full under a valid shield notes that it saw it
pub can_see : (limits : Timeouts) (sets number slot : ℕ) (shape : Shape) (known : Seat) (past : History) (note : Note)
    (entry : Fragment)
    → shape.width ≡ 10 → is_shielded known slot ≡ true → HasTen past.reads slot
    → entry_of (words_read past.reads slot) ≡ Some entry
    → CanNote (Keeps limits sets) (AreBacking limits) shape known past number note (note_seeing note entry)
can_see limits sets number slot shape known past note entry width shielded ten shows contents notes keeps at backed =
    let words : List ℕ = words_read past.reads slot in
    let read : HasReadWhole shape past slot words = (
      ten ∙ sym width,
      λ word low. (let f = found_read past.reads slot word (slice_index words word)
          (last_read past.reads slot ten word (subst (λ n. word < n) width low)) in
          (f.0, f.1, f.2, f.3, f.4)),
    ) in (
      keeps_seen limits sets contents notes number note entry keeps at (backed slot words shielded read entry shows),
      λ content backing. backs_seen limits notes content number note entry backing at,
    )

-- the four entries of a set that was read
pub four_read : (past : History) (set : ℕ) (slots : ℕ → ℕ)
    → ((place : ℕ) → place < 4 → shown_at past.loads (root_of set place) ≡ Some (slots place))
    → ((place : ℕ) → place < 4 → HasTen past.reads (slots place))
    → entries_read past set ≡ map (λ place. entry_of (words_read past.reads (slots place))) (range_with_len 0 4)
four_read past set slots loaded ten = λ i. each 0 (omega arith) i ++ (each 1 (omega arith) i
    ++ (each 2 (omega arith) i ++ (each 3 (omega arith) i ++ [])))
  where
    each : (place : ℕ) → place < 4
        → entry_read past (root_of set place) ≡ entry_of (words_read past.reads (slots place)) ∷ []
    each place low = entry_is past (root_of set place) (slots place) (loaded place low) (ten place low)

-- the entry at a place of it
pub at_place : (past : History) (set : ℕ) (slots : ℕ → ℕ)
    → ((place : ℕ) → place < 4 → shown_at past.loads (root_of set place) ≡ Some (slots place))
    → ((place : ℕ) → place < 4 → HasTen past.reads (slots place)) → (place : ℕ) → place < 4
    → entry_at (entries_read past set) place ≡ entry_of (words_read past.reads (slots place))
at_place past set slots loaded ten place low =
    ap (λ es. entry_at es place) (four_read past set slots loaded ten)
    ∙ get_or-map-range_with_len (λ p. entry_of (words_read past.reads (slots p))) 0 4 place place None low (omega arith)

-- an entry is replaced
pub can_replace : (limits : Timeouts) (sets set_at place : ℕ) (shape : Shape) (past : History)
    (number slot fresh : ℕ) (note : Note) (own kept : Fragment) (out : Option Fragment)
    → place < 4 → shape.width ≡ 10 → HasTen past.reads slot
    → ((word : ℕ) → word < 10 → written_at past.written fresh word ≡ Some (slice_index (part_words kept) word))
    → IsOwn sets set_at note own → Takes limits own (entry_of (words_read past.reads slot)) out kept
    → CanReplace (Keeps limits sets) IsWhole (AreBacking limits) shape past number (root_of set_at place)
    slot fresh note
    (note_with note own out)
can_replace limits sets set_at place shape past number slot fresh note own kept out low width ten filled owned takes
    contents notes from to keeps at at' long long' read written =
    let root : ℕ = root_of set_at place in
    let from_is : from ≡ words_read past.reads slot =
    ten_words from (words_read past.reads slot) (long ∙ width) ten (λ word low. (let f = found_read past.reads slot word
    (slice_index (words_read past.reads slot) word) (last_read past.reads slot ten word low) in
    ap (slice_index from) (sym f.3) ∙ read f.0 f.1 f.2 ∙ f.4)) in
    let to_is : to ≡ part_words kept = ten_words to (part_words kept) (long' ∙ width) refl
    (λ word low. written word (slice_index (part_words kept) word) (filled word low)) in
    let in_set : IsInSet sets root own = owned.of_set ∙ (let p : set_at ≡ root / 4 = omega (arith, low) in p) in
    let state = keeps_taken limits sets contents notes root number from note own kept out keeps at at' owned.can in_set
    (subst (λ c. Takes limits own (entry_of c) out kept) (sym from_is) takes) in
    let kept_state =
    subst (λ c. Keeps limits sets (set contents root c) (set notes number (note_with note own out)))
    (sym to_is) state in
    let there = here contents root from to at in (
      (
        all_at IsWhole (set contents root to) root to kept_state.whole there,
        kept_is_backed limits sets (set contents root to) (set notes number (note_with note own out)) root to kept_state
            there,
      ),
      kept_state,
      λ content backing. backs_taken limits notes content number note own out backing at',
    )

-- what is put into a root shows the fragment whose words were written
pub written_is : (writes : List Read) (set_at place slot : ℕ) (kept : Fragment) → place < 4
    → ((word : ℕ) → word < 10 → written_at writes slot word ≡ Some (slice_index (part_words kept) word))
    → written_in (Some (record { root = root_of set_at place; slot = slot; written = writes }))
    ≡ Some (record { place = place; kept = kept })
written_is writes set_at place slot kept low filled =
    let rest : root_of set_at place % 4 ≡ place = omega (arith, low) in
    let as_kept : ℕ → Fragment → Written = λ p f. record { place = p; kept = f } in
    ap (λ (ws : List ℕ). option_map (as_kept (root_of set_at place % 4)) (entry_of ws))
    (sym (words_are writes slot (part_words kept) refl filled))
    ∙ (ap (option_map (as_kept (root_of set_at place % 4))) (words_show kept)
    ∙ ap (λ p. Some (as_kept p kept)) rest)
