-- The keys of the first packets.
use Rattle.std.proofs.Common.{◌≡◌, ◌≤◌, ◌+◌, ℕ, zero, suc, arith, List, [], ◌∷◌, ◌++◌, length, take, drop, refl, sym}
use Rattle.std.proofs.Common.{ap, ◌∙◌, subst}
use Rattle.std.specs.Prelude.{Result, Ok, Err}
use Rattle.std.proofs.Math.Seq.{take-append_seam}
use Rattle.std.proofs.lemmas.List.{map-append, append-nil, take-append-drop, take_all, length-map}
use Rattle.flow_key.specs.declared.key.FlowKey.{FlowKey}
use Rattle.packet_accept.specs.declared.packet.Packet.{Packet}
use Rattle.packet_accept.specs.declared.ignored.Ignored.{Ignored}
use Rattle.packet_accept.specs.Packets.{packets_in}
use Rattle.watch_program.specs.Answers.{keys_in, asked_keys, count_of}

count : (keys : List FlowKey) (packets : List Packet) → keys ≡ keys_in packets → length keys ≡ length packets
count keys packets are = ap length are ∙ length-map packets _

-- one more answer
next : (n : ℕ) (answers : List (Result Packet Ignored)) (answer : Result Packet Ignored) (keys : List FlowKey)
    → packets_in (take (n + 1) answers) ≡ packets_in (take n answers) ++ packets_in (answer ∷ [])
    → keys ≡ keys_in (packets_in (take n answers))
    → keys ++ keys_in (packets_in (answer ∷ [])) ≡ keys_in (packets_in (take (n + 1) answers))
next n answers answer keys grows are =
    ap (λ k. k ++ keys_in (packets_in (answer ∷ []))) are
    ∙ sym (map-append _ (packets_in (take n answers)) (packets_in (answer ∷ []))) ∙ ap keys_in (sym grows)

pub next-accepted : (n : ℕ) (answers : List (Result Packet Ignored)) (answer : Result Packet Ignored) (packet : Packet)
    (keys : List FlowKey)
    → packets_in (take (n + 1) answers) ≡ packets_in (take n answers) ++ packets_in (answer ∷ []) → answer ≡ Ok packet
    → keys ≡ keys_in (packets_in (take n answers))
    → keys ++ packet.key ∷ [] ≡ keys_in (packets_in (take (n + 1) answers))
next-accepted n answers answer packet keys grows is are =
    ap (λ a. keys ++ keys_in (packets_in (a ∷ []))) (sym is) ∙ next n answers answer keys grows are

pub next-ignored : (n : ℕ) (answers : List (Result Packet Ignored)) (answer : Result Packet Ignored) (cause : Ignored)
    (keys : List FlowKey)
    → packets_in (take (n + 1) answers) ≡ packets_in (take n answers) ++ packets_in (answer ∷ []) → answer ≡ Err cause
    → keys ≡ keys_in (packets_in (take n answers)) → keys ≡ keys_in (packets_in (take (n + 1) answers))
next-ignored n answers answer cause keys grows is are =
    sym (append-nil keys) ∙ ap (λ a. keys ++ keys_in (packets_in (a ∷ []))) (sym is)
    ∙ next n answers answer keys grows are

-- so many are the first of all
pub enough : (most n : ℕ) (answers : List (Result Packet Ignored)) (keys : List FlowKey)
    → ((xs ys : List (Result Packet Ignored)) → packets_in (xs ++ ys) ≡ packets_in xs ++ packets_in ys)
    → keys ≡ keys_in (packets_in (take n answers)) → length keys ≡ most → keys ≡ asked_keys most (packets_in answers)
enough most n answers keys together are many =
    let xs = packets_in (take n answers) in
    let ys = packets_in (drop n answers) in
    let split : packets_in answers ≡ xs ++ ys =
    ap packets_in (sym (take-append-drop n answers)) ∙ together (take n answers) (drop n answers) in
    let size : length xs ≡ most = sym (count keys xs are) ∙ many in
    let first : take most (packets_in answers) ≡ xs =
    ap (take most) split ∙ subst (λ m. take m (xs ++ ys) ≡ xs) size (take-append_seam xs ys) in
    are ∙ ap keys_in (sym first)

-- all are the first of all, where they are few
pub all : (most : ℕ) (packets : List Packet) (keys : List FlowKey) → keys ≡ keys_in packets → length keys ≤ most
    → keys ≡ asked_keys most packets
all most packets keys are few = are ∙ ap keys_in
    (sym (take_all most packets (subst (λ k. k ≤ most) (count keys packets are) few)))

-- the number of asks is the same by the keys that are asked for and by the packets
pub count-same : (asks : ℕ) (packets : List Packet) → count_of asks (asked_keys asks packets) ≡ count_of asks packets
count-same asks [] = ap (λ (l : List Packet). count_of asks (keys_in l)) (take_all asks [] (omega arith))
count-same zero (p ∷ ps) = refl
count-same (suc n) (p ∷ ps) = refl
