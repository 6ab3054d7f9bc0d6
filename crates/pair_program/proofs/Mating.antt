-- When a record is a mate, and when it isn't.
use Rattle.std.proofs.Common.{◌≡◌, ◌<◌, ◌≤◌, ◌+◌, ◌-◌, ℕ, Bool, true, false, nat_le, List, [], ◌∷◌, length, drop}
use Rattle.std.proofs.Common.{get_or, Option, Some, None, refl, sym, ap, subst, ◌∙◌, arith, ◌++◌, append-nil}
use Rattle.std.proofs.Common.{append_assoc, add-one, if◌then◌else◌}
use Rattle.std.proofs.Math.Seq.{drop-cons}
use Rattle.std.proofs.lemmas.Bool.{le-leb, lt-leb, and_right}
use Rattle.std.proofs.lemmas.List.{get_or_default, drop_all}
use Rattle.flow_key.specs.declared.key.FlowKey.{FlowKey}
use Rattle.flow_parts.specs.Joining.{gap}
use Rattle.record_ledger.specs.declared.record.FlowRecord.{FlowRecord}
use Rattle.pair_program.specs.Mates.{is_same, is_reverse, are_mates}
use Rattle.pair_program.specs.declared.biflow.Biflow.{Biflow}
use Rattle.pair_program.specs.Pairs.{first_mate, without_mate, IsFirstPair, ArePaired}
use Rattle.pair_program.specs.Chains.{HasKeyAt, IsPlace, IsFirstPlace, ArePlaces, AreLinks, RisesFrom, untaken_records}
use Rattle.pair_program.specs.Chains.{TakesMate, TakesPair, pair_list}
use Rattle.pair_program.proofs.Keys.{same_key, same_itself}
use Rattle.pair_program.proofs.Taking.{IsSet, none_taken, mate_taken, has_key, front_of, untaken_records-linked}

differ : false ≡ true → ⊥
differ is = cc

-- the key is the reverse of a record's
abbrev pub IsReverseKey : FlowRecord → FlowKey → Type 0
IsReverseKey forward key = (other : FlowKey) → is_reverse forward.part.key other ≡ is_same key other

-- keys that differ do so in either order
apart_sym : (one other : FlowKey) → is_same one other ≡ false → (b : Bool) → is_same other one ≡ b → b ≡ false
apart_sym one other apart true is =
    absurd (differ (sym apart ∙ ap (is_same one) (same_key other one is) ∙ same_itself one))
apart_sym one other apart false is = refl

apart_back : (g : FlowRecord) (key : FlowKey) → is_same g.part.key key ≡ false → (b : Bool) → is_same key g.part.key ≡ b
    → b ≡ false
apart_back g key apart b is = apart_sym g.part.key key apart b is

pub no_mate-key : (idle : ℕ) (forward g : FlowRecord) (key : FlowKey) → IsReverseKey forward key
    → is_same key g.part.key ≡ false → are_mates idle forward g ≡ false
unfolding are_mates
no_mate-key idle forward g key reverse apart = rw (reverse g.part.key ∙ apart) refl

no_mate-own : (idle : ℕ) (forward g : FlowRecord) (key : FlowKey) → IsReverseKey forward key → key ≡ forward.part.key
    → (b : Bool) → is_same key g.part.key ≡ b
    → are_mates idle forward g ≡ false
unfolding are_mates
no_mate-own idle forward g key reverse own true is =
    let same : is_same forward.part.key g.part.key ≡ true = ap (λ k. is_same k g.part.key) (sym own) ∙ is in
    rw (reverse g.part.key ∙ is, same) refl
no_mate-own idle forward g key reverse own false is = no_mate-key idle forward g key reverse is

pub no_mate-far : (idle : ℕ) (forward g : FlowRecord) → idle < g.part.first - forward.part.last
    → are_mates idle forward g ≡ false
unfolding are_mates
no_mate-far idle forward g far = and_right _ (nat_le (gap forward.part g.part) idle)
    (lt-leb (gap forward.part g.part) idle (omega arith))

not_own : (forward g : FlowRecord) (key : FlowKey) → g.part.key ≡ key → is_same key forward.part.key ≡ false
    → (b : Bool)
    → is_same forward.part.key g.part.key ≡ b → b ≡ false
not_own forward g key g_key other true is =
    absurd (differ (sym other ∙ ap (is_same key) (same_key forward.part.key g.part.key is ∙ g_key) ∙ same_itself key))
not_own forward g key g_key other false is = refl

pub is_mate : (idle : ℕ) (forward g : FlowRecord) (key : FlowKey) → IsReverseKey forward key → g.part.key ≡ key
    → is_same key forward.part.key ≡ false
    → forward.part.first ≤ g.part.first → g.part.first - forward.part.last ≤ idle → are_mates idle forward g ≡ true
unfolding are_mates
is_mate idle forward g key reverse g_key other later near =
    let span = g.part.spanned in
    let reversed : is_reverse forward.part.key g.part.key ≡ true =
    reverse g.part.key ∙ ap (is_same key) g_key ∙ same_itself key in
    let apart : is_same forward.part.key g.part.key ≡ false =
    not_own forward g key g_key other (is_same forward.part.key g.part.key) refl in
    let close : nat_le (gap forward.part g.part) idle ≡ true = le-leb (gap forward.part g.part) idle (omega arith) in
    rw (reversed, apart, close) refl

-- nothing is taken
pub takes_none : (idle : ℕ) (records : List FlowRecord) (from : ℕ) (forward : FlowRecord) (heads : FlowKey → ℕ)
    → ((k : ℕ) (d : FlowRecord) → from ≤ k → k < length records → heads (get_or records k d).part.key ≤ k
    → are_mates idle forward (get_or records k d) ≡ false)
    → TakesMate idle records from forward heads heads None
takes_none idle records from forward heads none =
    let all = none_taken idle forward records heads from (drop from records) refl none in
    record { mate_is = sym all.mate; left = sym all.rest }

-- since the key is its own reverse
pub takes_none-own : (idle : ℕ) (records : List FlowRecord) (from : ℕ) (forward : FlowRecord) (heads : FlowKey → ℕ)
    (key : FlowKey)
    → IsReverseKey forward key → is_same key forward.part.key ≡ true
    → TakesMate idle records from forward heads heads None
takes_none-own idle records from forward heads key reverse own =
    takes_none idle records from forward heads (λ k d low inside here.
    no_mate-own idle forward (get_or records k d) key reverse (same_key key forward.part.key own)
    (is_same key (get_or records k d).part.key) refl)

-- since no record with the reverse key is left, or the first that is left is too late
by_key : (idle : ℕ) (records : List FlowRecord) (from : ℕ) (forward : FlowRecord) (heads : FlowKey → ℕ) (key : FlowKey)
    → IsReverseKey forward key
    → ((k : ℕ) (d : FlowRecord) → k < length records → heads key ≤ k → (get_or records k d).part.key ≡ key
    → are_mates idle forward (get_or records k d) ≡ false)
    → (k : ℕ) (d : FlowRecord) → from ≤ k → k < length records → heads (get_or records k d).part.key ≤ k
    → (b : Bool) → is_same key (get_or records k d).part.key ≡ b → are_mates idle forward (get_or records k d) ≡ false
by_key idle records from forward heads key reverse none k d low inside here true is =
    let key_is : key ≡ (get_or records k d).part.key = same_key key (get_or records k d).part.key is in
    none k d inside (subst (λ other. heads other ≤ k) (sym key_is) here) (sym key_is)
by_key idle records from forward heads key reverse none k d low inside here false is =
    no_mate-key idle forward (get_or records k d) key reverse is

pub takes_none-past : (idle : ℕ) (records : List FlowRecord) (from : ℕ) (forward : FlowRecord) (heads : FlowKey → ℕ)
    (key : FlowKey) (there : ℕ)
    → IsReverseKey forward key → there ≡ heads key → length records ≤ there
    → TakesMate idle records from forward heads heads None
takes_none-past idle records from forward heads key there reverse there_is past =
    takes_none idle records from forward heads (λ k d low inside here.
    by_key idle records from forward heads key reverse
    (λ k d inside' reached is. absurd (omega (arith, there_is, past, inside', reached)))
    k d low inside here (is_same key (get_or records k d).part.key) refl)

pub takes_none-far : (idle : ℕ) (records : List FlowRecord) (from : ℕ) (forward mate : FlowRecord) (heads : FlowKey → ℕ)
    (key : FlowKey) (there : ℕ)
    → IsReverseKey forward key → there ≡ heads key → RisesFrom records → mate ≡ get_or records there mate
    → idle < mate.part.first - forward.part.last → TakesMate idle records from forward heads heads None
takes_none-far idle records from forward mate heads key there reverse there_is rises mate_is far =
    takes_none idle records from forward heads (λ k d low inside here.
    by_key idle records from forward heads key reverse (λ k d inside' reached is.
    let reach : there ≤ k = omega (arith, there_is, reached) in
    let later : mate.part.first ≤ (get_or records k d).part.first =
    subst (λ (r : FlowRecord). r.part.first ≤ (get_or records k d).part.first)
    (sym (mate_is ∙ get_or_default records there mate d (omega (arith, reach, inside'))))
    (rises there k d reach inside') in
    no_mate-far idle forward (get_or records k d) (omega (arith, later, far)))
    k d low inside here (is_same key (get_or records k d).part.key) refl)

-- the first of them is taken
pub takes_mate : (idle : ℕ) (records : List FlowRecord) (links : List ℕ) (place : ℕ) (forward mate : FlowRecord)
    (old new : FlowKey → ℕ) (key : FlowKey) (there : ℕ)
    → IsReverseKey forward key → is_same key forward.part.key ≡ false → there ≡ old key → there < length records
    → place < length records → forward ≡ get_or records place forward → AreLinks records links 0
    → ArePlaces records (place + 1) old → RisesFrom records
    → mate ≡ get_or records there mate → mate.part.first - forward.part.last ≤ idle
    → IsSet old new key (get_or links there 0)
    → TakesMate idle records (place + 1) forward old new (Some mate)
takes_mate idle records links place forward mate old new key there reverse other there_is inside placed forward_is
    linked places rises mate_is near set =
    let own = places key in
    let low : place + 1 ≤ there = omega (arith, own.behind, there_is) in
    let at_mate : (d : FlowRecord) → get_or records there d ≡ mate =
    λ d. get_or_default records there d mate inside ∙ sym mate_is in
    let mate_key : mate.part.key ≡ key =
    ap (λ (r : FlowRecord). r.part.key) (sym (at_mate mate))
    ∙ subst (λ n. n < length records → HasKeyAt records n key) (sym there_is) own.there inside mate in
    let first : IsFirstPlace records (there + 1) key (get_or links there 0) =
    subst (λ k. IsFirstPlace records (there + 1) k (get_or links there 0))
    (ap (λ (r : FlowRecord). r.part.key) (at_mate mate) ∙ mate_key)
    (linked there mate (omega arith) inside) in
    let later : forward.part.first ≤ mate.part.first =
    subst (λ (r : FlowRecord). forward.part.first ≤ r.part.first) (at_mate forward)
    (subst (λ (r : FlowRecord). r.part.first ≤ (get_or records there forward).part.first) (sym forward_is)
    (rises place there forward (omega arith) inside)) in
    let taken = mate_taken idle forward records old new key there (get_or links there 0) mate (place + 1)
    (drop (place + 1) records)
    (record {
      inside = inside;
      place = sym there_is;
      mate_is = at_mate;
      key_is = mate_key;
      linked = first;
      set = set;
      mates = is_mate idle forward mate key reverse mate_key other later near;
      others = λ g apart. no_mate-key idle forward g key reverse (apart_back g key apart (is_same key g.part.key) refl);
    }) refl low in
    record { mate_is = sym taken.mate_is; left = taken.rest }

-- the link is a place behind the one before
pub link_place : (records : List FlowRecord) (links : List ℕ) (from there : ℕ) (mate : FlowRecord) (old : FlowKey → ℕ)
    (key : FlowKey)
    → there ≡ old key → there < length records → AreLinks records links 0 → ArePlaces records from old
    → IsPlace records from key (get_or links there 0)
link_place records links from there mate old key there_is inside linked places =
    let own = places key in
    let key_there : (get_or records there mate).part.key ≡ key =
    subst (λ n. n < length records → HasKeyAt records n key) (sym there_is) own.there inside mate in
    let one = (linked there mate (omega arith) inside).one in
    let far = one.behind in
    record {
      behind = omega (arith, own.behind, there_is, far);
      within = one.within;
      there = λ inside'. subst (HasKeyAt records (get_or links there 0)) key_there (one.there inside');
    }

-- the record at a place and its mate are taken
pub takes_pair : (idle : ℕ) (records : List FlowRecord) (place : ℕ) (own : FlowRecord) (old middle new : FlowKey → ℕ)
    (link : ℕ) (reverse : Option FlowRecord)
    → place < length records → own ≡ get_or records place own → old own.part.key ≤ place
    → IsFirstPlace records (place + 1) own.part.key link
    → IsSet old middle own.part.key link → TakesMate idle records (place + 1) own middle new reverse
    → IsFirstPair idle (untaken_records old place (drop place records)) (record { forward = own; reverse = reverse })
    (untaken_records new (place + 1) (drop (place + 1) records))
takes_pair idle records place own old middle new link reverse inside own_is reached first set takes =
    let more = drop (place + 1) records in
    let front : drop place records ≡ own ∷ more =
    drop-cons records place own inside ∙ (λ i. sym own_is i ∷ drop (sym (add-one place) i) records) in
    let same : untaken_records old (place + 1) more ≡ untaken_records middle (place + 1) more =
    untaken_records-linked records old middle own.part.key place (place + 1) link reached (omega arith) first set in
    record {
      others = untaken_records old (place + 1) more;
      forward = ap (untaken_records old place) front
          ∙ ap (λ (b : Bool). if b then own
          ∷ untaken_records old (place + 1) more else untaken_records old (place + 1) more)
          (le-leb (old own.part.key) place reached);
      reverse = takes.mate_is ∙ ap (first_mate idle own) (sym same);
      left = takes.left ∙ ap (without_mate idle own) (sym same);
    }

-- at first no record is taken
pub untaken_records-every : (records : List FlowRecord) (heads : FlowKey → ℕ) (m : ℕ) (xs : List FlowRecord)
    → xs ≡ drop m records
    → ((k : ℕ) (d : FlowRecord) → m ≤ k → k < length records → heads (get_or records k d).part.key ≤ k)
    → untaken_records heads m xs ≡ xs
untaken_records-every records heads m [] is every = refl
untaken_records-every records heads m (g ∷ gs) is every =
    let front = front_of records m g gs is in
    let reached : heads g.part.key ≤ m = subst (λ (r : FlowRecord). heads r.part.key ≤ m) front.first_is
    (every m g (omega arith) front.inside) in
    let rest = untaken_records-every records heads (m + 1) gs front.behind
    (λ k d low inside. every k d (omega arith) inside) in
    ap (λ (b : Bool). if b then g ∷ untaken_records heads (m + 1) gs else untaken_records heads (m + 1) gs)
    (le-leb (heads g.part.key) m reached) ∙ ap (λ xs. g ∷ xs) rest

pub untaken_records-start : (records : List FlowRecord) (heads : FlowKey → ℕ)
    → ((key : FlowKey) → IsFirstPlace records 0 key (heads key))
    → untaken_records heads 0 (drop 0 records) ≡ records
untaken_records-start records heads first =
    untaken_records-every records heads 0 (drop 0 records) refl
    (λ k d low inside. (first (get_or records k d).part.key).first k low inside
    (has_key records k d (get_or records k d).part.key inside refl))

-- one more place: its pair, if it has one
pub paired-more : (idle : ℕ) (records : List FlowRecord) (place : ℕ) (old new : FlowKey → ℕ) (taken : Option Biflow)
    (pairs more : List Biflow)
    → TakesPair idle records place old new taken → more ≡ pairs ++ pair_list taken
    → ((rest : List Biflow) → ArePaired idle (untaken_records old place (drop place records)) rest
    → ArePaired idle records (pairs ++ rest))
    → (rest : List Biflow) → ArePaired idle (untaken_records new (place + 1) (drop (place + 1) records)) rest
    → ArePaired idle records (more ++ rest)
paired-more idle records place old new None pairs more takes is before rest paired =
    subst (λ ps. ArePaired idle records (ps ++ rest)) (sym (is ∙ append-nil pairs))
    (before rest (subst (λ left. ArePaired idle left rest) (sym takes) paired))
paired-more idle records place old new (Some pair) pairs more takes is before rest paired =
    subst (λ ps. ArePaired idle records ps) (sym (append_assoc pairs (pair ∷ []) rest) ∙ ap (λ ps. ps ++ rest) (sym is))
    (before (pair ∷ rest) (untaken_records new (place + 1) (drop (place + 1) records), takes, paired))

-- the end
pub paired-end : (idle : ℕ) (records : List FlowRecord) (heads : FlowKey → ℕ) (place : ℕ) (pairs : List Biflow)
    → length records ≤ place
    → ((rest : List Biflow) → ArePaired idle (untaken_records heads place (drop place records)) rest
    → ArePaired idle records (pairs ++ rest))
    → ArePaired idle records pairs
paired-end idle records heads place pairs past before =
    subst (ArePaired idle records) (append-nil pairs)
    (before [] (ap (untaken_records heads place) (drop_all place records past)))
