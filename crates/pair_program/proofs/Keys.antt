-- Keys that are the same.
use Rattle.std.proofs.Common.{◌≡◌, ◌&&◌, ◌==◌, ℕ, Bool, true, false, List, [], ◌∷◌, Some, None, cond, unwrap_or}
use Rattle.std.proofs.Common.{if◌then◌else◌, refl, sym, ap, ◌∙◌, eqb-true, eq-eqb}
use Rattle.std.specs.Map.{lookup}
use Rattle.indexmap.specs.IndexMap.{insert_entry}
use Rattle.flow_key.specs.declared.key.FlowKey.{FlowKey}
use Rattle.flow_key.proofs.KeyFields.{same_fields}
use Rattle.pair_program.specs.Mates.{is_same}
use Rattle.pair_program.specs.Chains.{place_in}

differ : false ≡ true → ⊥
differ is = cc

-- both of two tests that hold together
both_true : (a b : Bool) → (a && b) ≡ true → (a ≡ true) × (b ≡ true)
both_true true b is = (refl, is)
both_true false b is = absurd (differ is)

pub same_key : (one other : FlowKey) → is_same one other ≡ true → one ≡ other
same_key one other is =
    let last =
    both_true
    (((((one.version == other.version) && (one.source == other.source)) && (one.destination == other.destination))
    && (one.protocol == other.protocol)) && (one.source_port == other.source_port))
    (one.destination_port == other.destination_port) is in
    let fifth =
    both_true
    ((((one.version == other.version) && (one.source == other.source)) && (one.destination == other.destination))
    && (one.protocol == other.protocol)) (one.source_port == other.source_port) last.0 in
    let fourth =
    both_true
    (((one.version == other.version) && (one.source == other.source)) && (one.destination == other.destination))
    (one.protocol == other.protocol) fifth.0 in
    let third = both_true ((one.version == other.version) && (one.source == other.source))
    (one.destination == other.destination) fourth.0 in
    let first = both_true (one.version == other.version) (one.source == other.source) third.0 in
    same_fields one other (λ i. record {
      version = eqb-true one.version other.version first.0 i;
      source = eqb-true one.source other.source first.1 i;
      destination = eqb-true one.destination other.destination third.1 i;
      protocol = eqb-true one.protocol other.protocol fourth.1 i;
      source_port = eqb-true one.source_port other.source_port fifth.1 i;
      destination_port = eqb-true one.destination_port other.destination_port last.1 i;
    })

pub same_itself : (key : FlowKey) → is_same key key ≡ true
same_itself key =
    rw (
      eq-eqb key.version key.version refl,
      eq-eqb key.source key.source refl,
      eq-eqb key.destination key.destination refl,
      eq-eqb key.protocol key.protocol refl,
      eq-eqb key.source_port key.source_port refl,
      eq-eqb key.destination_port key.destination_port refl,
    ) refl

-- the place of a key after one was put in
pub place_in-insert : (entries : List (FlowKey × ℕ)) (none : ℕ) (key : FlowKey) (place : ℕ) (other : FlowKey)
    → place_in (insert_entry is_same entries key place) none other
    ≡ (if is_same other key then place else place_in entries none other)
place_in-insert [] none key place other =
    elim (is_same other key) as (λ d. unwrap_or (cond d (Some place) None) none ≡ (if d then place else none))
    [ true ↦ refl | false ↦ refl ]
place_in-insert (e ∷ entries) none key place other =
    choose (is_same key e.0) refl (place_in-insert entries none key place other)
  where
    other_key : is_same key e.0 ≡ false → is_same other e.0 ≡ true → (d : Bool) → is_same other key ≡ d → d ≡ false
    other_key apart same true is =
        absurd (differ (sym apart ∙ ap (is_same key) (sym (same_key other e.0 same) ∙ same_key other key is)
        ∙ same_itself key))
    other_key apart same false is = refl

    behind : is_same key e.0 ≡ false → (c : Bool) → is_same other e.0 ≡ c
        → place_in (insert_entry is_same entries key place) none other
        ≡ (if is_same other key then place else place_in entries none other)
        → unwrap_or (cond c (Some e.1) (lookup (is_same other) (insert_entry is_same entries key place))) none
        ≡ (if is_same other key then place else unwrap_or (cond c (Some e.1) (lookup (is_same other) entries)) none)
    behind apart true same rest = rw (other_key apart same (is_same other key) refl) refl
    behind apart false same rest = rest

    choose : (b : Bool) → is_same key e.0 ≡ b
        → place_in (insert_entry is_same entries key place) none other
        ≡ (if is_same other key then place else place_in entries none other)
        → place_in (if b then (e.0, place) ∷ entries else e ∷ insert_entry is_same entries key place) none other
        ≡ (if is_same other key then place else place_in (e ∷ entries) none other)
    choose true is rest =
        let there : is_same other e.0 ≡ is_same other key = ap (is_same other) (sym (same_key key e.0 is)) in
        (λ i. unwrap_or (cond (there i) (Some place) (lookup (is_same other) entries)) none)
        ∙ (elim (is_same other key) as (λ d. unwrap_or (cond d (Some place) (lookup (is_same other) entries)) none
        ≡ (if d then place else unwrap_or (cond d (Some e.1) (lookup (is_same other) entries)) none))
        [ true ↦ refl | false ↦ refl ])
        ∙ (λ i. if is_same other key then place else unwrap_or
        (cond (sym there i) (Some e.1) (lookup (is_same other) entries)) none)
    choose false is rest = behind is (is_same other e.0) refl rest

-- the same by another test that answers alike
pub place_in-insert_by : (eq : FlowKey → FlowKey → Bool) → ((x y : FlowKey) → eq x y ≡ is_same x y)
    → (entries : List (FlowKey × ℕ)) (none : ℕ) (key : FlowKey) (place : ℕ) (other : FlowKey)
    → place_in (insert_entry eq entries key place) none other
    ≡ (if is_same other key then place else place_in entries none other)
place_in-insert_by eq alike entries none key place other =
    (λ i. place_in (insert_entry (λ x y. alike x y i) entries key place) none other)
    ∙ place_in-insert entries none key place other
