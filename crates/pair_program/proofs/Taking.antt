-- Records are taken out of those that aren't taken yet.
use Rattle.std.proofs.Common.{◌≡◌, ◌<◌, ◌≤◌, ◌+◌, ℕ, suc, Bool, true, false, nat_le, List, [], ◌∷◌, length, drop}
use Rattle.std.proofs.Common.{get_or, Some, None, if◌then◌else◌, inl, inr, refl, sym, ap, subst, ◌∙◌, arith, add-one}
use Rattle.std.proofs.Common.{length-drop}
use Rattle.std.proofs.Math.Seq.{drop-cons}
use Rattle.std.proofs.lemmas.List.{drop_all, get_or_default}
use Rattle.std.proofs.lemmas.Bool.{cases_lt, leb-true, le-leb, lt-leb}
use Rattle.flow_key.specs.declared.key.FlowKey.{FlowKey}
use Rattle.record_ledger.specs.declared.record.FlowRecord.{FlowRecord}
use Rattle.pair_program.specs.Mates.{is_same, are_mates}
use Rattle.pair_program.specs.Pairs.{first_mate, without_mate}
use Rattle.pair_program.specs.Chains.{HasKeyAt, IsFirstPlace, untaken_records}
use Rattle.pair_program.proofs.Keys.{same_key, same_itself}

differ : false ≡ true → ⊥
differ is = cc

pub has_key : (records : List FlowRecord) (k : ℕ) (d : FlowRecord) (key : FlowKey) → k < length records
    → (get_or records k d).part.key ≡ key → HasKeyAt records k key
has_key records k d key inside is d' = ap (λ (r : FlowRecord). r.part.key) (get_or_default records k d' d inside) ∙ is

nothing : {X : Type 0} (x : X) (xs : List X) → x ∷ xs ≡ [] → ⊥
nothing x xs is = cc

head_same : {X : Type 0} (x y : X) (xs ys : List X) → x ∷ xs ≡ y ∷ ys → x ≡ y
head_same x y xs ys is = cc

tail_same : {X : Type 0} (x y : X) (xs ys : List X) → x ∷ xs ≡ y ∷ ys → xs ≡ ys
tail_same x y xs ys is = cc

-- the front of what lies from a place on
pub record IsFront (records : List FlowRecord) (m : ℕ) (g : FlowRecord) (gs : List FlowRecord) : Type 0 where
  pub inside : m < length records
  pub first_is : get_or records m g ≡ g
  pub behind : gs ≡ drop (m + 1) records

pub front_of : (records : List FlowRecord) (m : ℕ) (g : FlowRecord) (gs : List FlowRecord) → g ∷ gs ≡ drop m records
    → IsFront records m g gs
front_of records m g gs is = elim (cases_lt m (length records)) [
  | inl inside ↦
      (let whole = is ∙ drop-cons records m g inside in
      record {
        inside = inside;
        first_is = sym (head_same g (get_or records m g) gs (drop (suc m) records) whole);
        behind = tail_same g (get_or records m g) gs (drop (suc m) records) whole
            ∙ ap (λ n. drop n records) (sym (add-one m));
      })
  | inr past ↦ absurd (nothing g gs (is ∙ drop_all m records past))
]

-- places that give the same tests leave the same records
pub untaken_records-agree : (records : List FlowRecord) (heads heads' : FlowKey → ℕ) (m : ℕ) (xs : List FlowRecord)
    → xs ≡ drop m records
    → ((k : ℕ) (d : FlowRecord) → m ≤ k → k < length records
    → nat_le (heads (get_or records k d).part.key) k ≡ nat_le (heads' (get_or records k d).part.key) k)
    → untaken_records heads m xs ≡ untaken_records heads' m xs
untaken_records-agree records heads heads' m [] is agree = refl
untaken_records-agree records heads heads' m (g ∷ gs) is agree =
    let front = front_of records m g gs is in
    let here : nat_le (heads g.part.key) m ≡ nat_le (heads' g.part.key) m =
    ap (λ (r : FlowRecord). nat_le (heads r.part.key) m) (sym front.first_is) ∙ agree m g (omega arith) front.inside
    ∙ ap (λ (r : FlowRecord). nat_le (heads' r.part.key) m) front.first_is in
    let rest = untaken_records-agree records heads heads' (m + 1) gs front.behind
    (λ k d low inside. agree k d (omega arith) inside) in
    λ i. if here i then g ∷ rest i else rest i

-- a place was given to a key
abbrev pub IsSet : (FlowKey → ℕ) → (FlowKey → ℕ) → FlowKey → ℕ → Type 0
IsSet old new key place = (other : FlowKey) → new other ≡ (if is_same other key then place else old other)

set-same : (old new : FlowKey → ℕ) (key other : FlowKey) (place : ℕ) → IsSet old new key place
    → is_same other key ≡ true → new other ≡ place
set-same old new key other place set same = set other ∙ ap (λ (b : Bool). if b then place else old other) same

set-other : (old new : FlowKey → ℕ) (key other : FlowKey) (place : ℕ) → IsSet old new key place
    → is_same other key ≡ false → new other ≡ old other
set-other old new key other place set apart = set other ∙ ap (λ (b : Bool). if b then place else old other) apart

-- the link of a taken record's key changes nothing behind it
pub untaken_records-linked : (records : List FlowRecord) (old new : FlowKey → ℕ) (key : FlowKey) (place from link : ℕ)
    → old key ≤ place → place + 1 ≤ from
    → IsFirstPlace records (place + 1) key link → IsSet old new key link
    → untaken_records old from (drop from records) ≡ untaken_records new from (drop from records)
untaken_records-linked records old new key place from link reached later first set =
    untaken_records-agree records old new from (drop from records) refl
    (λ k d low inside. by k d low inside (is_same (get_or records k d).part.key key) refl)
  where
    by : (k : ℕ) (d : FlowRecord) → from ≤ k → k < length records → (b : Bool)
        → is_same (get_or records k d).part.key key ≡ b
        → nat_le (old (get_or records k d).part.key) k ≡ nat_le (new (get_or records k d).part.key) k
    by k d low inside true same =
        let own = get_or records k d in
        let key_is : own.part.key ≡ key = same_key own.part.key key same in
        let before : old own.part.key ≤ k = subst (λ key. old key ≤ k) (sym key_is) (omega arith) in
        let behind : link ≤ k = first.first k (omega arith) inside (has_key records k d key inside key_is) in
        let new_is = set-same old new key own.part.key link set same in
        le-leb (old own.part.key) k before ∙ sym (le-leb (new own.part.key) k (omega arith))
    by k d low inside false apart =
        ap (λ n. nat_le n k) (sym (set-other old new key (get_or records k d).part.key link set apart))

-- where none of them is a mate, nothing is taken
pub record NoneIsTaken (idle : ℕ) (forward : FlowRecord) (left : List FlowRecord) : Type 0 where
  pub mate : first_mate idle forward left ≡ None
  pub rest : without_mate idle forward left ≡ left

none_behind : (idle : ℕ) (forward g : FlowRecord) (left : List FlowRecord) → are_mates idle forward g ≡ false
    → NoneIsTaken idle forward left
    → NoneIsTaken idle forward (g ∷ left)
none_behind idle forward g left apart_is rest = record {
  mate = ap (λ (b : Bool). if b then Some g else first_mate idle forward left) apart_is ∙ rest.mate;
  rest = ap (λ (b : Bool). if b then left else g ∷ without_mate idle forward left) apart_is
      ∙ ap (λ xs. g ∷ xs) rest.rest;
}

pub none_taken : (idle : ℕ) (forward : FlowRecord) (records : List FlowRecord) (heads : FlowKey → ℕ) (m : ℕ)
    (xs : List FlowRecord) → xs ≡ drop m records
    → ((k : ℕ) (d : FlowRecord) → m ≤ k → k < length records → heads (get_or records k d).part.key ≤ k
    → are_mates idle forward (get_or records k d) ≡ false)
    → NoneIsTaken idle forward (untaken_records heads m xs)
none_taken idle forward records heads m [] is none = record { mate = refl; rest = refl }
none_taken idle forward records heads m (g ∷ gs) is none =
    let front = front_of records m g gs is in
    by (nat_le (heads g.part.key) m) refl front
    (none_taken idle forward records heads (m + 1) gs front.behind
    (λ k d low inside here. none k d (omega arith) inside here))
  where
    by : (b : Bool) → nat_le (heads g.part.key) m ≡ b → IsFront records m g gs
        → NoneIsTaken idle forward (untaken_records heads (m + 1) gs)
        → NoneIsTaken idle forward
        (if b then g ∷ untaken_records heads (m + 1) gs else untaken_records heads (m + 1) gs)
    by true test front rest =
        let reached : heads (get_or records m g).part.key ≤ m =
        subst (λ (r : FlowRecord). heads r.part.key ≤ m) (sym front.first_is) (leb-true (heads g.part.key) m test) in
        none_behind idle forward g (untaken_records heads (m + 1) gs)
        (ap (are_mates idle forward) (sym front.first_is) ∙ none m g (omega arith) front.inside reached) rest
    by false test front rest = rest

-- a mate at a place is taken out
pub record MateIsTaken (idle : ℕ) (forward mate : FlowRecord) (old new : List FlowRecord) : Type 0 where
  pub mate_is : first_mate idle forward old ≡ Some mate
  pub rest : new ≡ without_mate idle forward old

taken_here : (idle : ℕ) (forward g mate : FlowRecord) (left new : List FlowRecord) → are_mates idle forward g ≡ true
    → g ≡ mate → new ≡ left
    → MateIsTaken idle forward mate (g ∷ left) new
taken_here idle forward g mate left new mates_is is same = record {
  mate_is = ap (λ (b : Bool). if b then Some g else first_mate idle forward left) mates_is ∙ ap Some is;
  rest = same ∙ ap (λ (b : Bool). if b then left else g ∷ without_mate idle forward left) (sym mates_is);
}

taken_behind : (idle : ℕ) (forward g mate : FlowRecord) (left new : List FlowRecord) → are_mates idle forward g ≡ false
    → MateIsTaken idle forward mate left new → MateIsTaken idle forward mate (g ∷ left) (g ∷ new)
taken_behind idle forward g mate left new apart_is rest = record {
  mate_is = ap (λ (b : Bool). if b then Some g else first_mate idle forward left) apart_is ∙ rest.mate_is;
  rest = ap (λ xs. g ∷ xs) rest.rest ∙ ap (λ (b : Bool). if b then left else g ∷ without_mate idle forward left)
      (sym apart_is);
}

-- what is known of the place of a mate
pub record IsMateAt (idle : ℕ) (forward : FlowRecord) (records : List FlowRecord) (old new : FlowKey → ℕ)
    (key : FlowKey) (j link : ℕ) (mate : FlowRecord) : Type 0 where
  pub inside : j < length records
  pub place : old key ≡ j
  pub mate_is : (d : FlowRecord) → get_or records j d ≡ mate
  pub key_is : mate.part.key ≡ key
  pub linked : IsFirstPlace records (j + 1) key link
  pub set : IsSet old new key link
  pub mates : are_mates idle forward mate ≡ true
  pub others : (g : FlowRecord) → is_same g.part.key key ≡ false → are_mates idle forward g ≡ false

pub mate_taken : (idle : ℕ) (forward : FlowRecord) (records : List FlowRecord) (old new : FlowKey → ℕ) (key : FlowKey)
    (j link : ℕ) (mate : FlowRecord)
    (m : ℕ) (xs : List FlowRecord) → IsMateAt idle forward records old new key j link mate → xs ≡ drop m records → m ≤ j
    → MateIsTaken idle forward mate (untaken_records old m xs) (untaken_records new m xs)
mate_taken idle forward records old new key j link mate m [] there is low =
    absurd (let empty = ap length is ∙ length-drop m records in let inside = there.inside in omega (arith, empty))
mate_taken idle forward records old new key j link mate m (g ∷ gs) there is low =
    let front = front_of records m g gs is in
    elim (cases_lt m j) [
      | inl before ↦
          by front (mate_taken idle forward records old new key j link mate (m + 1) gs there front.behind (omega arith))
          before (is_same g.part.key key) refl
      | inr past ↦ here front (omega (arith, low, past))
    ]
  where
    here : IsFront records m g gs → m ≡ j → MateIsTaken idle forward mate (untaken_records old m (g ∷ gs))
        (untaken_records new m (g ∷ gs))
    here front place_is =
        let g_is : g ≡ mate = sym front.first_is ∙ ap (λ n. get_or records n g) place_is ∙ there.mate_is g in
        let g_key : g.part.key ≡ key = ap (λ (r : FlowRecord). r.part.key) g_is ∙ there.key_is in
        let same : is_same g.part.key key ≡ true = ap (λ k. is_same k key) g_key ∙ same_itself key in
        let old_is : old g.part.key ≡ j = ap old g_key ∙ there.place in
        let new_is : new g.part.key ≡ link = set-same old new key g.part.key link there.set same in
        let link_far = there.linked.one.behind in
        let taken : nat_le (old g.part.key) m ≡ true = le-leb (old g.part.key) m (omega arith) in
        let left : nat_le (new g.part.key) m ≡ false = lt-leb (new g.part.key) m (omega arith) in
        let rest : untaken_records old (m + 1) gs ≡ untaken_records new (m + 1) gs =
        ap (untaken_records old (m + 1)) front.behind
        ∙ untaken_records-linked records old new key j (m + 1) link (omega (arith, there.place))
        (omega arith) there.linked there.set
        ∙ ap (untaken_records new (m + 1)) (sym front.behind) in
        rw (taken, left)
        (taken_here idle forward g mate (untaken_records old (m + 1) gs) (untaken_records new (m + 1) gs)
        (ap (are_mates idle forward) g_is ∙ there.mates) g_is (sym rest))

    kept : (b : Bool) → (apart_is : are_mates idle forward g ≡ false)
        → MateIsTaken idle forward mate (untaken_records old (m + 1) gs) (untaken_records new (m + 1) gs)
        → MateIsTaken idle forward mate
        (if b then g ∷ untaken_records old (m + 1) gs else untaken_records old (m + 1) gs)
        (if b then g ∷ untaken_records new (m + 1) gs else untaken_records new (m + 1) gs)
    kept true apart_is rest = taken_behind idle forward g mate (untaken_records old (m + 1) gs)
        (untaken_records new (m + 1) gs) apart_is rest
    kept false apart_is rest = rest

    by : IsFront records m g gs
        → MateIsTaken idle forward mate (untaken_records old (m + 1) gs) (untaken_records new (m + 1) gs)
        → m < j
        → (b : Bool) → is_same g.part.key key ≡ b
        → MateIsTaken idle forward mate (untaken_records old m (g ∷ gs)) (untaken_records new m (g ∷ gs))
    by front rest before true same =
        let old_is : old g.part.key ≡ j = ap old (same_key g.part.key key same) ∙ there.place in
        let new_is : new g.part.key ≡ link = set-same old new key g.part.key link there.set same in
        let link_far = there.linked.one.behind in
        rw (lt-leb (old g.part.key) m (omega arith), lt-leb (new g.part.key) m (omega arith)) rest
    by front rest before false apart =
        let new_is : new g.part.key ≡ old g.part.key = set-other old new key g.part.key link there.set apart in
        subst (λ n. MateIsTaken idle forward mate (untaken_records old m (g ∷ gs))
        (if nat_le n m then g ∷ untaken_records new (m + 1) gs else untaken_records new (m + 1) gs)) (sym new_is)
        (kept (nat_le (old g.part.key) m) (there.others g apart) rest)
