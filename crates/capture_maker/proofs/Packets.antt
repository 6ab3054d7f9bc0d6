-- Packets that are written one behind the other.
use Rattle.std.proofs.Common.{◌≡◌, ◌≤◌, ◌<◌, ◌+◌, ◌-◌, ◌%◌, ℕ, suc, List, ◌++◌, refl, sym, ap, ◌∙◌, append_assoc}
use Rattle.std.proofs.Common.{append-nil, arith}
use Rattle.capture_maker.specs.Draws.{state_behind, number_of}
use Rattle.capture_maker.specs.Made.{packet_record, packets_from}

-- the packets from a number on: the one of this number, then the others
one : (keys state number left : ℕ)
    → packets_from keys state number (suc left)
    ≡ packet_record number (number_of (state_behind state) % 1000)
    (number_of (state_behind (state_behind state)) % keys)
    ++ packets_from keys (state_behind (state_behind state)) (suc number) left
unfolding packets_from
one keys state number left = refl

-- one more packet, by the two numbers that were drawn for it
pub written-next : (old new all : List ℕ) (keys packets state between behind number first second : ℕ) → number < packets
    → between ≡ state_behind state → first ≡ number_of (state_behind state)
    → behind ≡ state_behind between → second ≡ number_of (state_behind between)
    → new ≡ old ++ packet_record number (first % 1000) (second % keys)
    → old ++ packets_from keys state number (packets - number) ≡ all
    → new ++ packets_from keys behind (number + 1) (packets - (number + 1)) ≡ all
written-next old new all keys packets state between behind number first second inside between-is first-is behind-is
    second-is is before =
    let left = packets - (number + 1) in
    let state-behind : behind ≡ state_behind (state_behind state) = behind-is ∙ ap state_behind between-is in
    let key : second ≡ number_of (state_behind (state_behind state)) =
    second-is ∙ ap (λ s. number_of (state_behind s)) between-is in
    let next : number + 1 ≡ suc number = omega arith in
    let count : suc left ≡ packets - number = omega (arith, inside) in
    let rest = packets_from keys (state_behind (state_behind state)) (suc number) left in
    let row = packet_record number (number_of (state_behind state) % 1000)
    (number_of (state_behind (state_behind state)) % keys) in
    ap (λ s. new ++ packets_from keys s (number + 1) left) state-behind
    ∙ ap (λ n. new ++ packets_from keys (state_behind (state_behind state)) n left) next
    ∙ ap (λ text. text ++ rest) is
    ∙ ap (λ f. (old ++ packet_record number (f % 1000) (second % keys)) ++ rest) first-is
    ∙ ap (λ s. (old ++ packet_record number (number_of (state_behind state) % 1000) (s % keys)) ++ rest) key
    ∙ append_assoc old row rest
    ∙ ap (λ text. old ++ text) (sym (one keys state number left))
    ∙ ap (λ n. old ++ packets_from keys state number n) count
    ∙ before

-- all packets
pub written-all : (text all : List ℕ) (keys packets state number : ℕ) → packets ≤ number
    → text ++ packets_from keys state number (packets - number) ≡ all → text ≡ all
unfolding packets_from
written-all text all keys packets state number past is =
    let none : 0 ≡ packets - number = omega (arith, past) in
    sym (append-nil text) ∙ ap (λ n. text ++ packets_from keys state number n) none ∙ is
