-- Counts of answers that are put together.
use Rattle.std.proofs.Common.{◌≡◌, ◌≤◌, ◌<◌, ◌+◌, ◌*◌, ℕ, List, [], ◌∷◌, ◌++◌, length, Option, Result, Ok, Err, refl}
use Rattle.std.proofs.Common.{sym, ap, ◌∙◌, subst, arith, Some}
use Rattle.std.specs.Prelude.{◌^◌, count_by, slice_set, slice_index_or, cond, All}
use Rattle.std.proofs.lemmas.List.Sums.{sum_by-append, sum_by_push, sum_by-le, count_by-le-length}
use Rattle.std.proofs.lemmas.List.Sorted.{length_permutation, sum_by-IsPermutation}
use Rattle.std.specs.Prelude.{IsPermutation}
use Rattle.packet_accept.specs.declared.packet.Packet.{Packet}
use Rattle.packet_accept.specs.declared.ignored.Ignored.{Ignored}
use Rattle.packet_accept.specs.declared.ignored.Ignored.TheVariants.{NotIp, Short, BadHeader, ShortTransport, BadTime}
use Rattle.packet_accept.specs.Packets.{packets_in}
use Rattle.std.proofs.lemmas.List.Elements.{All-cons}
use Rattle.packet_accept.specs.Clock.{IsClock}
use Rattle.capture_tally.specs.declared.tally.Tally.{Tally}
use Rattle.capture_tally.specs.Tallies.{IsTallyOf, HasRoom, cause_number, is_ignored_for, ignored_counts, octets_of}

-- ---- a count of answers that are put together

pub count-together : (number : ℕ) (one two : List (Result Packet Ignored))
    → count_by (is_ignored_for number) (one ++ two)
    ≡ count_by (is_ignored_for number) one + count_by (is_ignored_for number) two
count-together number one two = sum_by-append (λ x. cond (is_ignored_for number x) 1 0) one two

-- what one answer adds to a count
abbrev counted : ℕ → Result Packet Ignored → ℕ
counted number answer = cond (is_ignored_for number answer) 1 0

count-more : (number : ℕ) (answers : List (Result Packet Ignored)) (answer : Result Packet Ignored)
    → count_by (is_ignored_for number) (answers ++ answer ∷ [])
    ≡ count_by (is_ignored_for number) answers + counted number answer
count-more number answers answer = sum_by_push (λ x. cond (is_ignored_for number x) 1 0) answers answer

five : (a b c d e a' b' c' d' e' : ℕ) → a ≡ a' → b ≡ b' → c ≡ c' → d ≡ d' → e ≡ e'
    → a ∷ b ∷ c ∷ d ∷ e ∷ [] ≡ a' ∷ b' ∷ c' ∷ d' ∷ e' ∷ []
five a b c d e a' b' c' d' e' p q r s t =
    ap (λ x. x ∷ b ∷ c ∷ d ∷ e ∷ []) p ∙ ap (λ x. a' ∷ x ∷ c ∷ d ∷ e ∷ []) q ∙ ap (λ x. a' ∷ b' ∷ x ∷ d ∷ e ∷ []) r
    ∙ ap (λ x. a' ∷ b' ∷ c' ∷ x ∷ e ∷ []) s ∙ ap (λ x. a' ∷ b' ∷ c' ∷ d' ∷ x ∷ []) t

-- the counts of all answers are the sums of those of both parts
pub counts-together : (one two : List (Result Packet Ignored)) (xs ys : List ℕ) → xs ≡ ignored_counts one
    → ys ≡ ignored_counts two
    → (slice_index_or xs 0 0 + slice_index_or ys 0 0) ∷ (slice_index_or xs 1 0 + slice_index_or ys 1 0)
    ∷ (slice_index_or xs 2 0 + slice_index_or ys 2 0)
    ∷ (slice_index_or xs 3 0 + slice_index_or ys 3 0) ∷ (slice_index_or xs 4 0 + slice_index_or ys 4 0) ∷ []
    ≡ ignored_counts (one ++ two)
counts-together one two xs ys xs_are ys_are =
    ap (λ l. (slice_index_or l 0 0 + slice_index_or ys 0 0) ∷ (slice_index_or l 1 0 + slice_index_or ys 1 0)
    ∷ (slice_index_or l 2 0 + slice_index_or ys 2 0)
    ∷ (slice_index_or l 3 0 + slice_index_or ys 3 0) ∷ (slice_index_or l 4 0 + slice_index_or ys 4 0) ∷ []) xs_are
    ∙ ap (λ l. (count_by (is_ignored_for 1) one + slice_index_or l 0 0)
    ∷ (count_by (is_ignored_for 2) one + slice_index_or l 1 0)
    ∷ (count_by (is_ignored_for 3) one + slice_index_or l 2 0)
    ∷ (count_by (is_ignored_for 4) one + slice_index_or l 3 0)
    ∷ (count_by (is_ignored_for 5) one + slice_index_or l 4 0) ∷ []) ys_are
    ∙ five _ _ _ _ _ _ _ _ _ _ (sym (count-together 1 one two)) (sym (count-together 2 one two))
    (sym (count-together 3 one two))
    (sym (count-together 4 one two)) (sym (count-together 5 one two))

-- ---- one more answer

same : (number : ℕ) (answers : List (Result Packet Ignored)) (answer : Result Packet Ignored)
    → counted number answer ≡ 0
    → count_by (is_ignored_for number) answers ≡ count_by (is_ignored_for number) (answers ++ answer ∷ [])
same number answers answer none = omega (arith, none, count-more number answers answer)

more : (number : ℕ) (answers : List (Result Packet Ignored)) (answer : Result Packet Ignored)
    → counted number answer ≡ 1
    → count_by (is_ignored_for number) answers + 1 ≡ count_by (is_ignored_for number) (answers ++ answer ∷ [])
more number answers answer one = omega (arith, one, count-more number answers answer)

-- a packet changes no count by cause
pub counts-packet : (answers : List (Result Packet Ignored)) (packet : Packet)
    → ignored_counts answers ≡ ignored_counts (answers ++ Ok packet ∷ [])
counts-packet answers packet =
    five _ _ _ _ _ _ _ _ _ _ (same 1 answers (Ok packet) refl) (same 2 answers (Ok packet) refl)
    (same 3 answers (Ok packet) refl)
    (same 4 answers (Ok packet) refl) (same 5 answers (Ok packet) refl)

abbrev bumped : List ℕ → ℕ → List ℕ
bumped xs place = slice_set xs place (slice_index_or xs place 0 + 1)

at-cause : (answers : List (Result Packet Ignored)) (cause : Ignored) (place : ℕ) → place + 1 ≡ cause_number cause
    → bumped (ignored_counts answers) place ≡ ignored_counts (answers ++ Err cause ∷ [])
at-cause answers NotIp place is =
    let at : place ≡ 0 = omega (arith, is) in
    ap (bumped (ignored_counts answers)) at
    ∙ five _ _ _ _ _ _ _ _ _ _ (more 1 answers (Err NotIp) refl) (same 2 answers (Err NotIp) refl)
    (same 3 answers (Err NotIp) refl)
    (same 4 answers (Err NotIp) refl) (same 5 answers (Err NotIp) refl)
at-cause answers Short place is =
    let at : place ≡ 1 = omega (arith, is) in
    ap (bumped (ignored_counts answers)) at
    ∙ five _ _ _ _ _ _ _ _ _ _ (same 1 answers (Err Short) refl) (more 2 answers (Err Short) refl)
    (same 3 answers (Err Short) refl)
    (same 4 answers (Err Short) refl) (same 5 answers (Err Short) refl)
at-cause answers BadHeader place is =
    let at : place ≡ 2 = omega (arith, is) in
    ap (bumped (ignored_counts answers)) at
    ∙ five _ _ _ _ _ _ _ _ _ _ (same 1 answers (Err BadHeader) refl) (same 2 answers (Err BadHeader) refl)
    (more 3 answers (Err BadHeader) refl)
    (same 4 answers (Err BadHeader) refl) (same 5 answers (Err BadHeader) refl)
at-cause answers ShortTransport place is =
    let at : place ≡ 3 = omega (arith, is) in
    ap (bumped (ignored_counts answers)) at
    ∙ five _ _ _ _ _ _ _ _ _ _ (same 1 answers (Err ShortTransport) refl) (same 2 answers (Err ShortTransport) refl)
    (same 3 answers (Err ShortTransport) refl) (more 4 answers (Err ShortTransport) refl)
    (same 5 answers (Err ShortTransport) refl)
at-cause answers BadTime place is =
    let at : place ≡ 4 = omega (arith, is) in
    ap (bumped (ignored_counts answers)) at
    ∙ five _ _ _ _ _ _ _ _ _ _ (same 1 answers (Err BadTime) refl) (same 2 answers (Err BadTime) refl)
    (same 3 answers (Err BadTime) refl)
    (same 4 answers (Err BadTime) refl) (more 5 answers (Err BadTime) refl)

-- an ignored record raises the count of its cause
pub counts-ignored : (answers : List (Result Packet Ignored)) (cause : Ignored) (place : ℕ) (counts : List ℕ)
    → place + 1 ≡ cause_number cause
    → counts ≡ ignored_counts answers → slice_set counts place (slice_index_or counts place 0 + 1)
    ≡ ignored_counts (answers ++ Err cause ∷ [])
counts-ignored answers cause place counts is are = ap (λ l. bumped l place) are ∙ at-cause answers cause place is

pub octets-together : (one two : List Packet) → octets_of (one ++ two) ≡ octets_of one + octets_of two
octets-together one two = sum_by-append (λ (p : Packet). p.octets) one two

-- ---- the counts are no more than the answers

pub packets-few : (answers : List (Result Packet Ignored)) → length (packets_in answers) ≤ length answers
packets-few [] = omega arith
packets-few (Ok packet ∷ answers) = let rest = packets-few answers in omega (arith, rest)
packets-few (Err cause ∷ answers) = let rest = packets-few answers in omega (arith, rest)

-- the clock of one packet is its time
pub clock-alone : (packet : Packet) → IsClock (packet ∷ []) (Some packet.time)
clock-alone packet = record {
  bound = All-cons (λ (p : Packet). p.time ≤ packet.time) packet [] (omega arith)
      (λ k d inside. absurd (omega (arith, inside)));
  reached = (0, packet, omega arith, refl, refl);
}

-- ---- no number of a tally runs over

below : (number : ℕ) (answers : List (Result Packet Ignored)) → length answers < 2 ^ 38
    → count_by (is_ignored_for number) answers < 2 ^ 63
below number answers few = omega (arith, few, count_by-le-length (is_ignored_for number) answers)

counts-below : (answers : List (Result Packet Ignored)) → length answers < 2 ^ 38
    → All (λ count. count < 2 ^ 63) (ignored_counts answers)
counts-below answers few =
    let P : ℕ → Type 0 = λ count. count < 2 ^ 63 in
    let n : ℕ → ℕ = λ number. count_by (is_ignored_for number) answers in
    All-cons P (n 1) (n 2 ∷ n 3 ∷ n 4 ∷ n 5 ∷ []) (below 1 answers few)
    (All-cons P (n 2) (n 3 ∷ n 4 ∷ n 5 ∷ []) (below 2 answers few)
    (All-cons P (n 3) (n 4 ∷ n 5 ∷ []) (below 3 answers few) (All-cons P (n 4) (n 5 ∷ []) (below 4 answers few)
    (All-cons P (n 5) [] (below 5 answers few) (λ k d inside. absurd (omega (arith, inside)))))))

octets-few : (packets : List Packet) → All (λ (p : Packet). p.octets < 2 ^ 24) packets
    → octets_of packets ≤ length packets * 2 ^ 24
octets-few packets little = sum_by-le (λ (p : Packet). p.octets) (2 ^ 24) packets
    (λ k d inside. let one = little k d inside in omega (arith, one))

pub has-room : (tally : Tally) (answers : List (Result Packet Ignored)) → IsTallyOf tally answers
    → length answers < 2 ^ 38
    → All (λ (p : Packet). p.octets < 2 ^ 24) (packets_in answers) → HasRoom tally
has-room tally answers is few little =
    let packets = packets-few answers in
    let octets = octets-few (packets_in answers) little in
    record {
      captured = omega (arith, is.captured, few);
      accepted = omega (arith, is.accepted, few, packets);
      ignored = subst (λ counts. All (λ count. count < 2 ^ 63) counts) (sym is.ignored) (counts-below answers few);
      octets = omega (arith, is.octets, few, packets, octets);
    }

-- ---- the order of the answers plays no part

pub tally-permuted : (tally : Tally) (answers others : List (Result Packet Ignored))
    → (IsPermutation answers others → IsPermutation (packets_in answers) (packets_in others))
    → ((packets others : List Packet) (clock : Option ℕ) → IsPermutation packets others → IsClock packets clock
    → IsClock others clock)
    → IsPermutation answers others → IsTallyOf tally answers → IsTallyOf tally others
tally-permuted tally answers others packets clocks same is =
    let alike = packets same in
    let counted : (number : ℕ) → count_by (is_ignored_for number) answers ≡ count_by (is_ignored_for number) others =
    λ number. sym (sum_by-IsPermutation (λ x. cond (is_ignored_for number x) 1 0) answers others same) in
    record {
      captured = is.captured ∙ sym (length_permutation answers others same);
      accepted = is.accepted ∙ sym (length_permutation (packets_in answers) (packets_in others) alike);
      ignored = is.ignored ∙ five _ _ _ _ _ _ _ _ _ _ (counted 1) (counted 2) (counted 3) (counted 4) (counted 5);
      octets = is.octets
          ∙ sym (sum_by-IsPermutation (λ (p : Packet). p.octets) (packets_in answers) (packets_in others) alike);
      clock = clocks (packets_in answers) (packets_in others) tally.clock alike is.clock;
    }
