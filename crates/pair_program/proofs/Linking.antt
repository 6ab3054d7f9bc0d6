-- Links and places, record by record.
use Rattle.std.proofs.Common.{◌≡◌, ◌<◌, ◌≤◌, ◌+◌, ◌-◌, ℕ, Bool, true, false, List, length, get_or, if◌then◌else◌, inl}
use Rattle.std.proofs.Common.{inr, refl, sym, ap, subst, ◌∙◌, arith, slice_set}
use Rattle.std.proofs.lemmas.Bool.{cases_lt}
use Rattle.std.proofs.lemmas.List.{get_or_default, get_or-set_same, get_or-set_other}
use Rattle.flow_key.specs.declared.key.FlowKey.{FlowKey}
use Rattle.record_ledger.specs.declared.record.FlowRecord.{FlowRecord}
use Rattle.pair_program.specs.Mates.{is_same}
use Rattle.pair_program.specs.Chains.{HasKeyAt, IsPlace, IsFirstPlace, ArePlaces, AreLinks}
use Rattle.pair_program.proofs.Keys.{same_key, same_itself}
use Rattle.pair_program.proofs.Taking.{IsSet, has_key}

differ : false ≡ true → ⊥
differ is = cc

-- one more link in front
pub links-more : (records : List FlowRecord) (links : List ℕ) (p link : ℕ) (own : FlowRecord) → 0 < p
    → p ≤ length records → length links ≡ length records
    → own ≡ get_or records (p - 1) own → IsFirstPlace records p own.part.key link → AreLinks records links p
    → AreLinks records (slice_set links (p - 1) link) (p - 1)
links-more records links p link own some inside count own_is first more k d low far = elim (cases_lt k p) [
  | inl before ↦
      (let here : p - 1 ≡ k = omega arith in
      let next : p ≡ k + 1 = omega arith in
      let own_at : own ≡ get_or records k d = own_is ∙ ap (λ n. get_or records n own) here
      ∙ get_or_default records k own d far in
      let at_link : get_or (slice_set links (p - 1) link) k 0 ≡ link =
      ap (λ n. get_or (slice_set links n link) k 0) here ∙ get_or-set_same links k link 0 (omega arith) in
      subst (λ n. IsFirstPlace records (k + 1) (get_or records k d).part.key n) (sym at_link)
      (subst (λ (r : FlowRecord). IsFirstPlace records (k + 1) r.part.key link) own_at
      (subst (λ n. IsFirstPlace records n own.part.key link) next first)))
  | inr past ↦
      (let same : get_or (slice_set links (p - 1) link) k 0 ≡ get_or links k 0 =
      get_or-set_other links (p - 1) k link 0 (λ e. omega arith) in
      subst (λ n. IsFirstPlace records (k + 1) (get_or records k d).part.key n) (sym same) (more k d past far))
]

-- and its key's place
pub places-more : (records : List FlowRecord) (old new : FlowKey → ℕ) (p : ℕ) (own : FlowRecord) → 0 < p
    → p ≤ length records
    → own ≡ get_or records (p - 1) own → IsSet old new own.part.key (p - 1)
    → ((key : FlowKey) → IsFirstPlace records p key (old key))
    → (key : FlowKey) → IsFirstPlace records (p - 1) key (new key)
places-more records old new p own some inside own_is set first key = by (is_same key own.part.key) refl
  where
    here : HasKeyAt records (p - 1) own.part.key
    here = has_key records (p - 1) own own.part.key (omega arith) (ap (λ (r : FlowRecord). r.part.key) (sym own_is))

    by : (b : Bool) → is_same key own.part.key ≡ b → IsFirstPlace records (p - 1) key (new key)
    by true same =
        let new_is : new key ≡ p - 1 = set key ∙ ap (λ (b : Bool). if b then p - 1 else old key) same in
        let key_is : own.part.key ≡ key = sym (same_key key own.part.key same) in
        subst (λ n. IsFirstPlace records (p - 1) key n) (sym new_is)
        (record {
          one = record {
            behind = omega arith;
            within = omega arith;
            there =
                λ inside'. subst (HasKeyAt records (p - 1)) key_is here;
          };
          first = λ k low far is. low;
        })
    by false apart =
        let new_is : new key ≡ old key = set key ∙ ap (λ (b : Bool). if b then p - 1 else old key) apart in
        let one = (first key).one in
        let behind = one.behind in
        subst (λ n. IsFirstPlace records (p - 1) key n) (sym new_is)
        (record {
          one = record { behind = omega arith; within = one.within; there = one.there };
          first = λ k low far is. elim (cases_lt k p) [
            | inl before ↦
                (let at_place : p - 1 ≡ k = omega arith in
                let own_key : key ≡ own.part.key = sym (is own)
                ∙ ap (λ n. (get_or records n own).part.key) (sym at_place)
                ∙ ap (λ (r : FlowRecord). r.part.key) (sym own_is) in
                absurd (differ (sym apart ∙ ap (is_same key) (sym own_key) ∙ same_itself key)))
            | inr past ↦ (first key).first k past far is
          ];
        })

-- a place that was set
pub places-set : (records : List FlowRecord) (from : ℕ) (old new : FlowKey → ℕ) (key : FlowKey) (link : ℕ)
    → ArePlaces records from old → IsSet old new key link
    → IsPlace records from key link → ArePlaces records from new
places-set records from old new key link places set there other = by (is_same other key) refl
  where
    by : (b : Bool) → is_same other key ≡ b → IsPlace records from other (new other)
    by true same =
        let new_is : new other ≡ link = set other ∙ ap (λ (b : Bool). if b then link else old other) same in
        let key_is : key ≡ other = sym (same_key other key same) in
        subst (λ n. IsPlace records from other n) (sym new_is) (subst (λ k. IsPlace records from k link) key_is there)
    by false apart =
        let new_is : new other ≡ old other = set other ∙ ap (λ (b : Bool). if b then link else old other) apart in
        subst (λ n. IsPlace records from other n) (sym new_is) (places other)

-- behind a record that is taken
pub places-behind : (records : List FlowRecord) (place : ℕ) (old new : FlowKey → ℕ) (own : FlowRecord) (link : ℕ)
    → place < length records
    → own ≡ get_or records place own → ArePlaces records place old → IsSet old new own.part.key link
    → IsFirstPlace records (place + 1) own.part.key link
    → ArePlaces records (place + 1) new
places-behind records place old new own link inside own_is places set first other = by (is_same other own.part.key) refl
  where
    by : (b : Bool) → is_same other own.part.key ≡ b → IsPlace records (place + 1) other (new other)
    by true same =
        let new_is : new other ≡ link = set other ∙ ap (λ (b : Bool). if b then link else old other) same in
        let key_is : own.part.key ≡ other = sym (same_key other own.part.key same) in
        subst (λ n. IsPlace records (place + 1) other n) (sym new_is)
        (subst (λ k. IsPlace records (place + 1) k link) key_is first.one)
    by false apart =
        let new_is : new other ≡ old other = set other ∙ ap (λ (b : Bool). if b then link else old other) apart in
        let one = places other in
        let behind = one.behind in
        let not_here : old other ≡ place → ⊥ = λ e.
        (let other_key : other ≡ own.part.key =
        sym (subst (λ n. n < length records → HasKeyAt records n other) e one.there inside own)
        ∙ ap (λ (r : FlowRecord). r.part.key) (sym own_is) in
        differ (sym apart ∙ ap (is_same other) (sym other_key) ∙ same_itself other)) in
        subst (λ n. IsPlace records (place + 1) other n) (sym new_is)
        (record { behind = omega (arith, behind, not_here); within = one.within; there = one.there })
