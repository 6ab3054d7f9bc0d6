-- A step that the layer above may make keeps the log true.
use Rattle.std.proofs.Common.{◌≡◌, ℕ, zero, suc, Bool, true, false, List, [], ◌∷◌, ◌++◌, get_or, set, map, eqb, sym}
use Rattle.std.proofs.Common.{refl, ap, ◌∙◌, subst}
use Rattle.std.proofs.lemmas.List.{map-set, map-append, set-get_or}
use Rattle.std.specs.Prelude.{if◌then◌else◌}
use mathlib.Core.Option.{some, some-injective, some-ne-none}
use lib.ListN.{get_elem?}
use prog.Atomic.{either}
use Rattle.atomic_table.specs.Table.{State, Me, Allows, Splits, Joins, Seen, Final, stepped}
use Rattle.atomic_table.proofs.Lists.{at_map, set_again}
use Rattle.pebr_table.specs.declared.recorded.Recorded.{Recorded}
use Rattle.pebr_table.specs.Operations.{Op, load, store, exchange, IsTrueOf, words_after}
use Rattle.pebr_table.specs.Recorded.{Event, made, came, went, bare_state, bare, Records, lists_of}

-- what is there is read
read_at : {A : Type 0} (l : List A) (i : ℕ) (a d : A) → get_elem? l i ≡ some a → get_or l i d ≡ a
read_at [] i a d e = absurd (some-ne-none a (sym e))
read_at (x ∷ xs) zero a d e = some-injective x a e
read_at (x ∷ xs) (suc i) a d e = read_at xs i a d e

-- what an operation makes of the words is what the step does to its word, whatever stands there
abbrev pub IsOf : (ℕ → Op) → ℕ → (ℕ → ℕ) → Type 0
IsOf op word f = (words : List ℕ) → IsTrueOf (op (get_or words word 0)) words
    × (set words word (f (get_or words word 0)) ≡ words_after (op (get_or words word 0)) words)

pub loads_are : (word : ℕ) → IsOf (load word) word (λ n. n)
loads_are word words = (refl, set-get_or words word 0)

pub stores_are : (word new : ℕ) → IsOf (λ _. store word new) word (λ _. new)
stores_are word new words = (tt, refl)

pub exchanges_are : (word old new : ℕ) → IsOf (exchange word old new) word (λ n. either (eqb n old) new n)
exchanges_are word old new words = (refl, pick (eqb (get_or words word 0) old))
  where
    pick : (b : Bool) → set words word (either b new (get_or words word 0))
        ≡ (if b then set words word new else words)
    pick true = refl
    pick false = set-get_or words word 0

module _ {V : Type 0} (holds : State (Unit {0}) V → Type 0) where
  -- the lists of operations, where a seat's view was replaced
  listed : (views : List (Recorded V)) (id : ℕ) (v : Recorded V) (log : List Event)
      → map (λ (v : Recorded V). v.operations) views ≡ lists_of log
      → map (λ (v : Recorded V). v.operations) (set views id v) ≡ set (lists_of log) id v.operations
  listed views id v log is = map-set (λ (v : Recorded V). v.operations) views id v
      ∙ ap (λ l. set l id v.operations) is

  its_list : (views : List (Recorded V)) (id : ℕ) (v : Recorded V) (log : List Event)
      → map (λ (v : Recorded V). v.operations) views ≡ lists_of log → get_elem? views id ≡ some v
      → get_or (lists_of log) id [] ≡ v.operations
  its_list views id v log is at = read_at (lists_of log) id v.operations []
      (subst (λ l. get_elem? l id ≡ some v.operations) is (at_map (λ (v : Recorded V). v.operations) views id v at))

  pub recorded : (op : ℕ → Op) (slots id word : ℕ) (me : Me (Unit {0}) (Recorded V)) (f : ℕ → ℕ)
      (told : ℕ → Me (Unit {0}) V → Type 0) → IsOf op word f
      → Allows holds slots id (bare me) word f told
      → Allows (Records holds) slots id me word f
      (λ found after. (after.0.operations ≡ op found ∷ me.0.operations) × told found (bare after))
  recorded op slots id word me f told is_op allows s rule long at small =
      let found : ℕ = get_or s.words word 0 in
      let r = allows (bare_state s) rule.above long (at_map (λ (v : Recorded V). v.view) s.views id me.0 at) small in
      let v : Recorded V = record { operations = op found ∷ me.0.operations; view = r.0 } in
      let its = is_op s.words in (
        v,
        r.1,
        r.2,
        record {
          above = subst (λ views. holds record {
            words = set s.words word (f found);
            homes = (stepped s word (f found) id me.1 v r.1).homes;
            views = views;
          }) (sym (map-set (λ (v : Recorded V). v.view) s.views id v)) r.3;
          first = rule.first;
          log = made id (op found) ∷ rule.log;
          found = (subst (IsTrueOf (op found)) rule.words its.0, rule.found);
          words = its.1 ∙ ap (words_after (op found)) rule.words;
          lists = listed s.views id v rule.log rule.lists
              ∙ ap (λ l. set (lists_of rule.log) id (op found ∷ l))
              (sym (its_list s.views id me.0 rule.log rule.lists at));
        },
        (refl, r.4),
      )

  pub splits : (id : ℕ) (v : Recorded V) (left right : V) → Splits holds id v.view left right
      → Splits (Records holds) id v record { operations = v.operations; view = left }
      record { operations = []; view = right }
  splits id v left right may s rule at =
      let l : Recorded V = record { operations = v.operations; view = left } in
      let r : Recorded V = record { operations = []; view = right } in
      let same = set_again (lists_of rule.log) id v.operations
      (subst (λ l. get_elem? l id ≡ some v.operations) rule.lists
      (at_map (λ (v : Recorded V). v.operations) s.views id v at)) in
      record {
        above = subst (λ views. holds record { words = s.words; homes = s.homes; views = views })
            (sym (map-append (λ (v : Recorded V). v.view) (set s.views id l) (r ∷ [])
            ∙ ap (λ m. m ++ right ∷ []) (map-set (λ (v : Recorded V). v.view) s.views id l)))
            (may (bare_state s) rule.above (at_map (λ (v : Recorded V). v.view) s.views id v at));
        first = rule.first;
        log = came ∷ rule.log;
        found = rule.found;
        words = rule.words;
        lists = map-append (λ (v : Recorded V). v.operations) (set s.views id l) (r ∷ [])
            ∙ ap (λ m. m ++ [] ∷ []) (listed s.views id l rule.log rule.lists ∙ same);
      }

  pub joins : (id : ℕ) (v : Recorded V) (other : ℕ) (w : Recorded V) (both spent : V)
      → Joins holds id v.view other w.view both spent
      → Joins (Records holds) id v other w record { operations = v.operations; view = both }
      record { operations = []; view = spent }
  joins id v other w both spent may s rule at apart at' =
      let b : Recorded V = record { operations = v.operations; view = both } in
      let x : Recorded V = record { operations = []; view = spent } in
      let views : List V = map (λ (v : Recorded V). v.view) s.views in
      let same = set_again (lists_of rule.log) id v.operations
      (subst (λ l. get_elem? l id ≡ some v.operations) rule.lists
      (at_map (λ (v : Recorded V). v.operations) s.views id v at)) in
      let once : map (λ (v : Recorded V). v.view) (set s.views id b) ≡ set views id both =
      map-set (λ (v : Recorded V). v.view) s.views id b in
      record {
        above = subst (λ views. holds record { words = s.words; homes = s.homes; views = views })
            (sym (map-set (λ (v : Recorded V). v.view) (set s.views id b) other x
            ∙ ap (λ m. set m other spent) once))
            (may (bare_state s) rule.above (at_map (λ (v : Recorded V). v.view) s.views id v at) apart
            (subst (λ m. get_elem? m other ≡ some w.view) once
            (at_map (λ (v : Recorded V). v.view) (set s.views id b) other w at')));
        first = rule.first;
        log = went other ∷ rule.log;
        found = rule.found;
        words = rule.words;
        lists = map-set (λ (v : Recorded V). v.operations) (set s.views id b) other x
            ∙ ap (λ m. set m other []) (listed s.views id b rule.log rule.lists ∙ same);
      }

  pub opens : (words : List ℕ) (view : V) → holds record { words = words; homes = []; views = view ∷ [] }
      → Records holds record {
        words = words;
        homes = [];
        views =
            (record { operations = []; view = view }) ∷ [];
      }
  opens words view h = record { above = h; first = words; log = []; found = tt; words = refl; lists = refl }

  pub closes : (id : ℕ) (v : Recorded V) (words : List ℕ) (slots : List (Unit {0}))
      → Final (Seen (Records holds) id v) words slots → Final (Seen holds id v.view) words slots
  closes id v words slots last = (
    bare_state last.0,
    (last.1.0.above, at_map (λ (v : Recorded V). v.view) last.0.views id v last.1.1),
    last.2,
    last.3,
    last.4,
  )
