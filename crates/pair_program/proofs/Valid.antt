-- The reverse flow of a pair has the reverse key.
use Rattle.std.proofs.Common.{◌≡◌, ◌&&◌, ◌==◌, ℕ, Bool, true, false, not, nat_le, List, [], ◌∷◌, Some, if◌then◌else◌}
use Rattle.std.proofs.Common.{refl, sym, subst, eqb-true}
use Rattle.std.proofs.lemmas.List.Elements.{All-nil, All-cons}
use Rattle.flow_key.specs.declared.key.FlowKey.{FlowKey}
use Rattle.flow_key.specs.Fields.{fields_of}
use Rattle.flow_parts.specs.Joining.{gap}
use Rattle.record_ledger.specs.declared.record.FlowRecord.{FlowRecord}
use Rattle.pair_program.specs.declared.biflow.Biflow.{Biflow}
use Rattle.pair_program.specs.Mates.{is_same, is_reverse, are_mates}
use Rattle.pair_program.specs.Pairs.{first_mate, ArePaired}
use Rattle.pair_program.specs.BiFlows.{reverse_of}
use Rattle.pair_program.specs.BiLaws.{IsReverseOf, AreBiflows}

differ : false ≡ true → ⊥
differ is = cc

both_true : (a b : Bool) → (a && b) ≡ true → (a ≡ true) × (b ≡ true)
both_true true b is = (refl, is)
both_true false b is = absurd (differ is)

reverse_key : (one other : FlowKey) → is_reverse one other ≡ true → fields_of other ≡ reverse_of (fields_of one)
reverse_key one other is =
    let last =
    both_true
    (((((one.version == other.version) && (one.destination == other.source)) && (one.source == other.destination))
    && (one.protocol == other.protocol)) && (one.destination_port == other.source_port))
    (one.source_port == other.destination_port) is in
    let fifth =
    both_true
    ((((one.version == other.version) && (one.destination == other.source)) && (one.source == other.destination))
    && (one.protocol == other.protocol)) (one.destination_port == other.source_port) last.0 in
    let fourth =
    both_true
    (((one.version == other.version) && (one.destination == other.source)) && (one.source == other.destination))
    (one.protocol == other.protocol) fifth.0 in
    let third = both_true ((one.version == other.version) && (one.destination == other.source))
    (one.source == other.destination) fourth.0 in
    let first = both_true (one.version == other.version) (one.destination == other.source) third.0 in
    sym (λ i. record {
      version = eqb-true one.version other.version first.0 i;
      source = eqb-true one.destination other.source first.1 i;
      destination = eqb-true one.source other.destination third.1 i;
      protocol = eqb-true one.protocol other.protocol fourth.1 i;
      source_port = eqb-true one.destination_port other.source_port fifth.1 i;
      destination_port = eqb-true one.source_port other.destination_port last.1 i;
    })

mates_reverse : (idle : ℕ) (forward other : FlowRecord) → are_mates idle forward other ≡ true
    → fields_of other.part.key ≡ reverse_of (fields_of forward.part.key)
unfolding are_mates
mates_reverse idle forward other is =
    let near = both_true (is_reverse forward.part.key other.part.key && not (is_same forward.part.key other.part.key))
    (nat_le (gap forward.part other.part) idle) is in
    let keys = both_true (is_reverse forward.part.key other.part.key)
    (not (is_same forward.part.key other.part.key)) near.0 in
    reverse_key forward.part.key other.part.key keys.0

first_mate-valid : (idle : ℕ) (forward : FlowRecord) (others : List FlowRecord)
    → IsReverseOf forward (first_mate idle forward others)
first_mate-valid idle forward [] = tt
first_mate-valid idle forward (other ∷ others) =
    by (are_mates idle forward other) refl (first_mate-valid idle forward others)
  where
    by : (b : Bool) → are_mates idle forward other ≡ b → IsReverseOf forward (first_mate idle forward others)
        → IsReverseOf forward (if b then Some other else first_mate idle forward others)
    by true is rest = mates_reverse idle forward other is
    by false is rest = rest

pub pairs-valid : (idle : ℕ) (records : List FlowRecord) (pairs : List Biflow) → ArePaired idle records pairs
    → AreBiflows pairs
pairs-valid idle records [] paired = All-nil (λ (pair : Biflow). IsReverseOf pair.forward pair.reverse)
pairs-valid idle records (pair ∷ pairs) paired =
    All-cons (λ (p : Biflow). IsReverseOf p.forward p.reverse) pair pairs
    (subst (IsReverseOf pair.forward) (sym paired.1.reverse) (first_mate-valid idle pair.forward paired.1.others))
    (pairs-valid idle paired.0 pairs paired.2)
