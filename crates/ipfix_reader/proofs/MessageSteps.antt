-- The messages of a stream, one at a time.
use Rattle.std.proofs.Common.{◌≡◌, ◌<◌, ◌≤◌, ◌+◌, ◌-◌, ◌%◌, ◌^◌, ◌==◌, ℕ, not, List, length, drop, Ok, Err, refl, sym}
use Rattle.std.proofs.Common.{ap, ◌∙◌, arith, nat_lt, length-drop}
use Rattle.std.proofs.lemmas.Bool.{ltb-false}
use Rattle.ipfix_reader.specs.declared.fault.StreamFault.{StreamFault}
use Rattle.ipfix_reader.specs.declared.fault.StreamError.{StreamError}
use Rattle.ipfix_reader.specs.Outcome.{IsFaultOf}
use Rattle.octets.specs.Outcome.{◌>>=◌}
use Rattle.ipfix_reader.specs.Part.{Part, behind, first_part}
use Rattle.ipfix_reader.specs.Walk.{all_items}
use Rattle.ipfix_reader.specs.Known.{Sequences, expected_in, with_expected}
use Rattle.ipfix_reader.specs.Sets.{Contents, message_sets}
use Rattle.ipfix_reader.specs.Messages.{Progress, message_version, message_length, message_sequence, message_domain}
use Rattle.ipfix_reader.specs.Messages.{is_next, checked_length, next_number, behind_message, stream_message}
use Rattle.ipfix_reader.specs.Messages.{stream_messages, nothing_read, decode}
use Rattle.ipfix_reader.proofs.Items.{TakesBytes, goes_on, same_behind, same_choice, not_fault, same_ok, given}
use Rattle.ipfix_reader.proofs.Items.{fault_behind, fault_of-same}
use Rattle.ipfix_reader.proofs.SetSteps.{above-eqb}

-- a length without fault lies between the header and the end
pub checked_length-bounds : (sequences : Sequences) (part : Part) (size : ℕ) → checked_length sequences part ≡ Ok size
    → (16 ≤ size) × (size ≤ length part.bytes)
unfolding checked_length
checked_length-bounds sequences part size is =
    let whole = not_fault (nat_lt (length part.bytes) 16) _ _ size is in
    let version = not_fault (not (message_version part == 10)) _ _ size whole.1 in
    let least = not_fault (nat_lt (message_length part) 16) _ _ size version.1 in
    let inside = not_fault (nat_lt (length part.bytes) (message_length part)) _ _ size least.1 in
    let next = not_fault (not (is_next (message_sequence part) (expected_in sequences (message_domain part)))) _
    (given (message_length part)) size inside.1 in
    let same : message_length part ≡ size = same_ok (message_length part) size next.1 in (
      omega (arith, ltb-false (message_length part) 16 least.0, same),
      omega
          (arith, ltb-false (length part.bytes) (message_length part) inside.0, same),
    )

-- behind a message less is left
message-shorter : (size : ℕ) (bytes : List ℕ) → 16 ≤ size → size ≤ length bytes
    → length (drop size bytes) < length bytes
message-shorter size bytes least inside = let left = length-drop size bytes in omega arith

-- so the walk over messages goes on
pub stream_message-takes : TakesBytes stream_message
stream_message-takes go other before part same =
    same_choice (length part.bytes == 0) _ _ _ (λ some.
    same_behind (checked_length before.sequences part) _ _ (λ size fine.
    same_behind (message_sets (message_domain part) before.contents (behind 16 (first_part size part))) _ _ (λ after is.
    let bounds = checked_length-bounds before.sequences part size fine in
    same (behind_message part before after) (behind size part) (message-shorter size part.bytes bounds.0 bounds.1))))

-- the end of the stream
pub stream_messages-end : (before : Progress) (part : Part) → length part.bytes ≡ 0
    → stream_messages before part ≡ Ok before
unfolding stream_messages
stream_messages-end before part none = goes_on stream_message stream_message-takes before part ∙ rw none refl

-- a message whose header has a fault
pub stream_messages-bad : (before : Progress) (part : Part) (fault : StreamFault) → 0 < length part.bytes
    → checked_length before.sequences part ≡ Err fault → stream_messages before part ≡ Err fault
unfolding stream_messages
stream_messages-bad before part fault some is =
    goes_on stream_message stream_message-takes before part ∙ rw (above-eqb (length part.bytes) some, is) refl

-- a message, and those behind it
pub stream_messages-next : (before : Progress) (after : Contents) (part : Part) (size : ℕ) → 0 < length part.bytes
    → checked_length before.sequences part ≡ Ok size
    → message_sets (message_domain part) before.contents (behind 16 (first_part size part)) ≡ Ok after
    → stream_messages before part ≡ stream_messages (behind_message part before after) (behind size part)
unfolding stream_messages
stream_messages-next before after part size some fine is =
    goes_on stream_message stream_message-takes before part ∙ rw (above-eqb (length part.bytes) some, fine, is) refl

-- a message whose sets have a fault
pub stream_messages-fault : (before : Progress) (part : Part) (size : ℕ) (error : StreamError) → 0 < length part.bytes
    → checked_length before.sequences part ≡ Ok size
    → IsFaultOf (message_sets (message_domain part) before.contents (behind 16 (first_part size part))) error
    → IsFaultOf (stream_messages before part) error
unfolding stream_messages
stream_messages-fault before part size error some fine is =
    let rule = λ (after : Contents). all_items stream_message (behind_message part before after) (behind size part) in
    let sets = message_sets (message_domain part) before.contents (behind 16 (first_part size part)) in
    fault_of-same (all_items stream_message before part) (sets >>= rule) error
    (goes_on stream_message stream_message-takes before part ∙ rw (above-eqb (length part.bytes) some, fine) refl)
    (fault_behind sets rule error is)

-- the step, with the names of the code
pub message-read : (before : Progress) (after : Contents) (part sets rest : Part) (size domain number : ℕ)
    (sequences : Sequences) → 0 < length part.bytes
    → checked_length before.sequences part ≡ Ok size → domain ≡ message_domain part
    → sets ≡ behind 16 (first_part size part)
    → message_sets domain before.contents sets ≡ Ok after
    → number ≡ next_number part before.contents after → sequences ≡ with_expected before.sequences domain number
    → rest ≡ behind size part
    → stream_messages before part ≡ stream_messages (record { contents = after; sequences = sequences }) rest
message-read before after part sets rest size domain number sequences some fine domain_is sets_are is number_is
    sequences_are rest_is =
    stream_messages-next before after part size some fine
    (sym (ap (λ d. message_sets d before.contents (behind 16 (first_part size part))) domain_is)
    ∙ sym (ap (message_sets domain before.contents) sets_are) ∙ is)
    ∙ sym (ap (λ s. stream_messages (record { contents = after; sequences = s }) rest)
    (sequences_are ∙ ap (λ d. with_expected before.sequences d number) domain_is
    ∙ ap (with_expected before.sequences (message_domain part)) number_is)
    ∙ ap (stream_messages (behind_message part before after)) rest_is)

pub message-refused : (before : Progress) (part sets : Part) (size domain : ℕ) (error : StreamError)
    → 0 < length part.bytes
    → checked_length before.sequences part ≡ Ok size → domain ≡ message_domain part
    → sets ≡ behind 16 (first_part size part)
    → IsFaultOf (message_sets domain before.contents sets) error → IsFaultOf (stream_messages before part) error
message-refused before part sets size domain error some fine domain_is sets_are is =
    stream_messages-fault before part size error some fine
    (fault_of-same _ (message_sets domain before.contents sets) error
    (sym (ap (λ d. message_sets d before.contents (behind 16 (first_part size part))) domain_is)
    ∙ sym (ap (message_sets domain before.contents) sets_are)) is)

-- the whole stream
pub decode-read : (bytes : List ℕ) (read : Progress)
    → stream_messages nothing_read (record { at = 0; bytes = bytes }) ≡ Ok read
    → decode bytes ≡ Ok read.contents.records
unfolding decode
decode-read bytes read is = rw is refl

pub decode-refused : (bytes : List ℕ) (error : StreamError)
    → IsFaultOf (stream_messages nothing_read (record { at = 0; bytes = bytes })) error
    → IsFaultOf (decode bytes) error
unfolding decode
decode-refused bytes error is =
    fault_behind (stream_messages nothing_read (record { at = 0; bytes = bytes }))
    (λ (read : Progress). Ok read.contents.records) error is

-- the number of the next message, by the count of the records that were taken
pub number-counted : (number sequence sequence' count all old : ℕ) → number ≡ (sequence + count) % 2 ^ 32
    → sequence ≡ sequence' → all ≡ old + count → number ≡ (sequence' + (all - old)) % 2 ^ 32
number-counted number sequence sequence' count all old is sequence_is counted =
    let count_is : count ≡ all - old = omega (arith, counted) in
    is ∙ ap (λ n. (n + count) % 2 ^ 32) sequence_is ∙ ap (λ n. (sequence' + n) % 2 ^ 32) count_is
