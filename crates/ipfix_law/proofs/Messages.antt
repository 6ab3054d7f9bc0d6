-- Messages are read as their records.
use Rattle.std.proofs.Common.{◌≡◌, ◌<◌, ◌≤◌, ◌+◌, ◌-◌, ◌%◌, ◌^◌, ℕ, true, List, ◌++◌, length, take, drop, Ok, refl, sym}
use Rattle.std.proofs.Common.{ap, ◌∙◌, arith, length-append}
use Rattle.std.proofs.lemmas.Bool.{le-ltb}
use Rattle.std.proofs.Math.Seq.{drop-append_seam}
use Rattle.octets.specs.Numbers.{octets_of, number_at}
use Rattle.ipfix_writer.specs.Encoding.{message_header, message}
use Rattle.ipfix_writer.proofs.Sizes.{length-message}
use Rattle.ipfix_reader.specs.Part.{Part, behind, first_part}
use Rattle.ipfix_reader.specs.Known.{Sequences, expected_in, with_expected}
use Rattle.ipfix_reader.specs.Sets.{Contents, message_sets}
use Rattle.ipfix_reader.specs.Messages.{Progress, message_version, message_length, message_sequence, message_domain}
use Rattle.ipfix_reader.specs.Messages.{is_next, checked_length, stream_messages}
use Rattle.ipfix_reader.proofs.MessageSteps.{stream_messages-next}
use Rattle.ipfix_law.proofs.Numbers.{number-front, number-behind, take-front}

-- the header of a message in front of more bytes
message-version : (time sequence : ℕ) (sets rest : List ℕ) → number_at 0 2 (message time sequence sets ++ rest) ≡ 10
unfolding message message_header
message-version time sequence sets rest =
    number-front 2 10 (octets_of 2 (16 + length sets)
    ++ (octets_of 4 time ++ (octets_of 4 sequence ++ (octets_of 4 1 ++ (sets ++ rest))))) (omega arith)

message-size : (time sequence : ℕ) (sets rest : List ℕ) → 16 + length sets < 2 ^ 16
    → number_at 2 2 (message time sequence sets ++ rest) ≡ 16 + length sets
unfolding message message_header
message-size time sequence sets rest fits =
    number-behind (octets_of 2 10) (octets_of 2 (16 + length sets)
    ++ (octets_of 4 time ++ (octets_of 4 sequence ++ (octets_of 4 1 ++ (sets ++ rest))))) 0 2
    ∙ number-front 2 (16 + length sets) (octets_of 4 time
    ++ (octets_of 4 sequence ++ (octets_of 4 1 ++ (sets ++ rest)))) fits

message-number : (time sequence : ℕ) (sets rest : List ℕ) → sequence < 2 ^ 32
    → number_at 8 4 (message time sequence sets ++ rest) ≡ sequence
unfolding message message_header
message-number time sequence sets rest fits =
    number-behind (octets_of 2 10 ++ (octets_of 2 (16 + length sets) ++ octets_of 4 time))
    (octets_of 4 sequence ++ (octets_of 4 1 ++ (sets ++ rest))) 0 4
    ∙ number-front 4 sequence (octets_of 4 1 ++ (sets ++ rest)) fits

message-domain : (time sequence : ℕ) (sets rest : List ℕ) → number_at 12 4 (message time sequence sets ++ rest) ≡ 1
unfolding message message_header
message-domain time sequence sets rest =
    number-behind (octets_of 2 10 ++ (octets_of 2 (16 + length sets) ++ (octets_of 4 time ++ octets_of 4 sequence)))
    (octets_of 4 1 ++ (sets ++ rest)) 0 4
    ∙ number-front 4 1 (sets ++ rest) (omega arith)

message-inside : (time sequence : ℕ) (sets : List ℕ) → drop 16 (message time sequence sets) ≡ sets
unfolding message message_header
message-inside time sequence sets = refl

-- a header without fault
checked_length-fine : (sequences : Sequences) (part : Part) → 16 ≤ length part.bytes → message_version part ≡ 10
    → 16 ≤ message_length part
    → message_length part ≤ length part.bytes
    → is_next (message_sequence part) (expected_in sequences (message_domain part)) ≡ true
    → checked_length sequences part ≡ Ok (message_length part)
unfolding checked_length
checked_length-fine sequences part whole version least inside next =
    rw (
      le-ltb (length part.bytes) 16 whole,
      version,
      le-ltb (message_length part) 16 least,
      le-ltb (length part.bytes)
          (message_length part) inside,
      next,
    ) refl

-- a message in front of more bytes: its records, and what lies behind it
pub message-decoded : (time sequence at : ℕ) (sets rest : List ℕ) (before : Progress) (after : Contents)
    → 16 + length sets < 2 ^ 16 → sequence < 2 ^ 32
    → is_next sequence (expected_in before.sequences 1) ≡ true
    → message_sets 1 before.contents (record { at = at + 16; bytes = sets }) ≡ Ok after
    → stream_messages before (record { at = at; bytes = message time sequence sets ++ rest })
    ≡ stream_messages (record {
      contents = after;
      sequences = with_expected before.sequences 1
          ((sequence + (length after.records - length before.contents.records)) % 2 ^ 32);
    }) (record { at = at + (16 + length sets); bytes = rest })
message-decoded time sequence at sets rest before after size_fits sequence_fits next is =
    let bytes = message time sequence sets ++ rest in
    let part : Part = record { at = at; bytes = bytes } in
    let size = 16 + length sets in
    let long : length (message time sequence sets) ≡ size = length-message time sequence sets in
    let all : length bytes ≡ size + length rest =
    length-append (message time sequence sets) rest ∙ ap (λ n. n + length rest) long in
    let size_is : message_length part ≡ size = message-size time sequence sets rest size_fits in
    let number_is : message_sequence part ≡ sequence = message-number time sequence sets rest sequence_fits in
    let domain_is : message_domain part ≡ 1 = message-domain time sequence sets rest in
    let expected : is_next (message_sequence part) (expected_in before.sequences (message_domain part)) ≡ true =
    (λ i. is_next (number_is i) (expected_in before.sequences (domain_is i))) ∙ next in
    let fine : checked_length before.sequences part ≡ Ok (message_length part) =
    checked_length-fine before.sequences part (omega arith) (message-version time sequence sets rest) (omega arith)
    (omega arith) expected in
    let content : drop 16 (take (message_length part) bytes) ≡ sets =
    ap (λ n. drop 16 (take n bytes)) (size_is ∙ sym long) ∙ ap (drop 16) (take-front (message time sequence sets) rest)
    ∙ message-inside time sequence sets in
    let behind_it : drop (message_length part) bytes ≡ rest =
    ap (λ n. drop n bytes) (size_is ∙ sym long) ∙ drop-append_seam (message time sequence sets) rest in
    let contents : message_sets (message_domain part) before.contents
    (behind 16 (first_part (message_length part) part))
    ≡ Ok after =
    (λ i. message_sets (domain_is i) before.contents (record { at = at + 16; bytes = content i })) ∙ is in
    stream_messages-next before after part (message_length part) (omega arith) fine contents
    ∙ (λ i. stream_messages (record {
      contents = after;
      sequences = with_expected before.sequences (domain_is i)
          ((number_is i + (length after.records - length before.contents.records)) % 2 ^ 32);
    }) (record { at = at + size_is i; bytes = behind_it i }))
