-- A whole message with more bytes behind it.
use Rattle.std.proofs.Common.{◌≡◌, ◌≤◌, ◌+◌, ◌-◌, ◌==◌, ℕ, max, not, List, [], ◌++◌, length, take, drop}
use Rattle.std.proofs.Common.{Result, Ok, Err, refl, sym, ap, ◌∙◌, subst, arith, nat_lt, append_assoc, append-nil}
use Rattle.std.proofs.lemmas.Bool.{le-ltb}
use Rattle.std.proofs.lemmas.List.{length-append, take-append-drop, length-take-le}
use Rattle.std.proofs.Math.Seq.{take-append_seam, drop-append_seam, take-length, drop-length}
use Rattle.ipfix_model.specs.declared.values.DataRecord.{DataRecord}
use Rattle.ipfix_reader.specs.declared.fault.StreamFault.{StreamFault}
use Rattle.ipfix_reader.specs.declared.fault.StreamError.{StreamError}
use Rattle.ipfix_reader.specs.declared.fault.StreamError.TheVariants.{Fault}
use Rattle.octets.specs.declared.endianness.Endianness.TheVariants.{Big}
use Rattle.octets.specs.Numbers.{number, number_at}
use Rattle.octets.specs.Outcome.{◌>>=◌}
use Rattle.octets.proofs.Reading.{number-drop-append}
use Rattle.ipfix_reader.specs.Outcome.{IsFaultOf}
use Rattle.ipfix_reader.specs.Part.{Part, behind, first_part}
use Rattle.ipfix_reader.specs.Known.{Sequences, expected_in}
use Rattle.ipfix_reader.specs.Sets.{Contents, message_sets}
use Rattle.ipfix_reader.specs.Messages.{Progress, message_version, message_length, message_sequence, message_domain}
use Rattle.ipfix_reader.specs.Messages.{is_next, checked_length, behind_message, stream_messages, decode}
use Rattle.ipfix_reader.specs.Pieces.{WalkState, HasRead, IsFront}
use Rattle.ipfix_reader.specs.Taking.{progress_of}
use Rattle.ipfix_reader.proofs.Items.{fault_behind, fault_of-same, not_fault, given, same_ok}
use Rattle.ipfix_reader.proofs.MessageSteps.{stream_messages-end, stream_messages-bad, stream_messages-next}
use Rattle.ipfix_reader.proofs.MessageSteps.{stream_messages-fault, checked_length-bounds}

-- a number of the first bytes
number-same : (place size : ℕ) (bytes more : List ℕ) → place + size ≤ length bytes
    → number_at place size (bytes ++ more) ≡ number_at place size bytes
unfolding number_at number
number-same place size bytes more within = number-drop-append Big size place bytes more within

-- the length of a message is the one in its header
checked_length-is : (sequences : Sequences) (part : Part) (size : ℕ) → checked_length sequences part ≡ Ok size
    → message_length part ≡ size
unfolding checked_length
checked_length-is sequences part size is =
    let whole = not_fault (nat_lt (length part.bytes) 16) _ _ size is in
    let version = not_fault (not (message_version part == 10)) _ _ size whole.1 in
    let least = not_fault (nat_lt (message_length part) 16) _ _ size version.1 in
    let inside = not_fault (nat_lt (length part.bytes) (message_length part)) _ _ size least.1 in
    let next = not_fault (not (is_next (message_sequence part) (expected_in sequences (message_domain part)))) _
    (given (message_length part)) size inside.1 in
    same_ok (message_length part) size next.1

module _ (before : Progress) (at : ℕ) (bytes more : List ℕ) (long : 16 ≤ length bytes)
    (claimed : length bytes ≡ max (number_at 2 2 bytes) 16) where
  abbrev one : Part
  one = record { at = at; bytes = bytes }

  abbrev grown : Part
  grown = record { at = at; bytes = bytes ++ more }

  abbrev behind_one : Part
  behind_one = record { at = at + length bytes; bytes = more }

  all : length (bytes ++ more) ≡ length bytes + length more
  all = length-append bytes more

  -- the header tells the same
  domain-same : message_domain grown ≡ message_domain one
  domain-same = number-same 12 4 bytes more long

  length-same : message_length grown ≡ message_length one
  length-same = number-same 2 2 bytes more (omega arith)

  sequence-same : message_sequence grown ≡ message_sequence one
  sequence-same = number-same 8 4 bytes more (omega arith)

  version-same : message_version grown ≡ message_version one
  version-same = number-same 0 2 bytes more (omega arith)

  checked-same : checked_length before.sequences grown ≡ checked_length before.sequences one
  unfolding checked_length
  checked-same =
      rw (
        domain-same,
        length-same,
        sequence-same,
        version-same,
        le-ltb (length (bytes ++ more)) 16 (omega (arith, all)),
        le-ltb (length bytes) 16 long,
        le-ltb (length (bytes ++ more)) (number_at 2 2 bytes) (omega (arith, all)),
        le-ltb (length bytes) (number_at 2 2 bytes) (omega arith),
      ) refl

  -- and so do the sets
  abbrev sets_of : Part → Result Contents StreamFault
  sets_of part = message_sets (message_domain part) before.contents (behind 16 (first_part (length bytes) part))

  front-same : first_part (length bytes) grown ≡ first_part (length bytes) one
  front-same = ap (λ l. record { at = at; bytes = l }) (take-append_seam bytes more ∙ sym (take-length bytes))

  sets-same : sets_of grown ≡ sets_of one
  sets-same = ap (λ d. message_sets d before.contents (behind 16 (first_part (length bytes) grown))) domain-same
      ∙ ap (λ part. message_sets (message_domain one) before.contents (behind 16 part)) front-same

  known-same : (after : Contents) → behind_message grown before after ≡ behind_message one before after
  known-same after = rw (domain-same, sequence-same) refl

  behind-grown : behind (length bytes) grown ≡ behind_one
  behind-grown = ap (λ l. record { at = at + length bytes; bytes = l }) (drop-append_seam bytes more)

  abbrev onward : Result Progress StreamFault → Result Progress StreamFault
  onward read = read >>= λ known. stream_messages known behind_one

  by_sets : (read : Result Contents StreamFault) → sets_of one ≡ read
      → checked_length before.sequences one ≡ Ok (length bytes)
      → stream_messages before grown ≡ onward (stream_messages before one)
  by_sets (Err fault) is fine =
      let whole : stream_messages before grown ≡ Err fault =
      stream_messages-fault before grown (length bytes) (Fault fault) (omega (arith, all)) (checked-same ∙ fine)
      (sets-same ∙ is) in
      let alone : stream_messages before one ≡ Err fault =
      stream_messages-fault before one (length bytes) (Fault fault) (omega arith) fine is in
      whole ∙ sym (ap onward alone)
  by_sets (Ok after) is fine =
      let alone : stream_messages before one ≡ Ok (behind_message one before after) =
      stream_messages-next before after one (length bytes) (omega arith) fine is
      ∙ stream_messages-end (behind_message one before after) (behind (length bytes) one)
      (ap length (drop-length bytes)) in
      stream_messages-next before after grown (length bytes) (omega (arith, all)) (checked-same ∙ fine) (sets-same ∙ is)
      ∙ ap (λ known. stream_messages known (behind (length bytes) grown)) (known-same after)
      ∙ ap (stream_messages (behind_message one before after)) behind-grown
      ∙ sym (ap onward alone)

  by_length : (read : Result ℕ StreamFault) → checked_length before.sequences one ≡ read
      → stream_messages before grown ≡ onward (stream_messages before one)
  by_length (Err fault) is =
      stream_messages-bad before grown fault (omega (arith, all)) (checked-same ∙ is)
      ∙ sym (ap onward (stream_messages-bad before one fault (omega arith) is))
  by_length (Ok size) is =
      let least = checked_length-bounds before.sequences one size is in
      let told = checked_length-is before.sequences one size is in
      let size_is : size ≡ length bytes = omega arith in
      by_sets (sets_of one) refl (is ∙ ap (λ n. given n) size_is)

  pub message-onward : stream_messages before grown ≡ onward (stream_messages before one)
  message-onward = by_length (checked_length before.sequences one) refl

-- ---- what was read

abbrev records_in : Result Progress StreamFault → Result (List DataRecord) StreamFault
records_in read = read >>= λ next. Ok next.contents.records

module _ (walk : WalkState) (front bytes : List ℕ) (size : ℕ) (before : List DataRecord) (is : IsFront size bytes)
    (read : HasRead front before walk) where
  abbrev message : List ℕ
  message = take size bytes

  abbrev known : Progress
  known = progress_of walk.templates before walk.sequences

  abbrev alone : Result Progress StreamFault
  alone = stream_messages known (record { at = walk.at; bytes = message })

  long : length message ≡ size
  long = length-take-le size bytes is.inside

  claims : number_at 2 2 message ≡ number_at 2 2 bytes
  claims =
      let claimed = is.claimed in
      sym (number-same 2 2 message (drop size bytes) (omega (arith, long)))
      ∙ ap (number_at 2 2) (take-append-drop size bytes)

  with_more : (more : List ℕ) → decode (front ++ (message ++ more))
      ≡ records_in (alone >>= λ next. stream_messages next (record { at = walk.at + length message; bytes = more }))
  with_more more =
      let claimed = is.claimed in
      read.onward (message ++ more)
      ∙ ap records_in (message-onward known walk.at message more (omega (arith, long))
      (long ∙ claimed ∙ ap (λ n. max n 16) (sym claims)))

  pub front-read : (next : WalkState) (after : List DataRecord) → next.at ≡ walk.at + size
      → alone ≡ Ok (progress_of next.templates after next.sequences) → HasRead (front ++ message) after next
  front-read next after at_is ok = record {
    place =
        let so_far = read.place in
        at_is ∙ omega (arith, length-append front message, long);
    onward = λ more. ap decode (append_assoc front message more) ∙ with_more more
        ∙ ap (λ r. records_in (r >>= λ k. stream_messages k
        (record { at = walk.at + length message; bytes = more }))) ok
        ∙ ap (λ n. records_in (stream_messages (progress_of next.templates after next.sequences)
        (record { at = n; bytes = more }))) (ap (λ n. walk.at + n) long ∙ sym at_is);
  }

  pub front-fault : (error : StreamError) → IsFaultOf alone error → (more : List ℕ)
      → IsFaultOf (decode (front ++ (bytes ++ more))) error
  front-fault error fault more =
      let rest : List ℕ = drop size bytes ++ more in
      let whole : bytes ++ more ≡ message ++ rest =
      ap (λ l. l ++ more) (sym (take-append-drop size bytes)) ∙ append_assoc message (drop size bytes) more in
      fault_of-same _ _ error (ap (λ l. decode (front ++ l)) whole ∙ with_more rest)
      (fault_behind _ _ error (fault_behind alone _ error fault))

-- the last bytes
pub last-read : (walk : WalkState) (front bytes : List ℕ) (before : List DataRecord) (next : Progress)
    → HasRead front before walk
    → stream_messages (progress_of walk.templates before walk.sequences) (record { at = walk.at; bytes = bytes })
    ≡ Ok next → decode (front ++ bytes) ≡ Ok next.contents.records
last-read walk front bytes before next read ok = read.onward bytes ∙ ap records_in ok

pub last-fault : (walk : WalkState) (front bytes : List ℕ) (before : List DataRecord) (error : StreamError)
    → HasRead front before walk
    → IsFaultOf (stream_messages (progress_of walk.templates before walk.sequences)
    (record { at = walk.at; bytes = bytes })) error → IsFaultOf (decode (front ++ bytes)) error
last-fault walk front bytes before error read fault =
    fault_of-same _ _ error (read.onward bytes) (fault_behind _ _ error fault)

-- nothing was read
pub nothing-read : HasRead [] [] (record { templates = []; sequences = []; at = 0 })
unfolding decode
nothing-read = record { place = refl; onward = λ more. refl }

-- ---- message by message

-- what was read of a piece, and what is left of it
pub record HasWalked (has has_now : List DataRecord → Type 0) (walk now : WalkState) (piece rest : List ℕ)
    : Type 0 where
  pub done : List ℕ
  pub whole : piece ≡ done ++ rest
  pub place : now.at ≡ walk.at + length done
  pub taken : (front : List ℕ) (before : List DataRecord) → HasRead front before walk → has before
      → (after : List DataRecord) × has_now after × HasRead (front ++ done) after now

-- nothing yet
pub walked-none : (has : List DataRecord → Type 0) (walk : WalkState) (piece : List ℕ)
    → HasWalked has has walk walk piece piece
walked-none has walk piece = record {
  done = [];
  whole = refl;
  place = omega arith;
  taken = λ front before read taken.
      (before, taken, subst (λ l. HasRead l before walk) (sym (append-nil front)) read);
}

-- one message more
pub walked-more : (has has_now has_then : List DataRecord → Type 0) (walk now next : WalkState)
    (piece rest : List ℕ) (size : ℕ) → HasWalked has has_now walk now piece rest → size ≤ length rest
    → next.at ≡ now.at + size
    → ((front : List ℕ) (before : List DataRecord) → HasRead front before now → has_now before
    → (after : List DataRecord) × has_then after × HasRead (front ++ take size rest) after next)
    → HasWalked has has_then walk next piece (drop size rest)
walked-more has has_now has_then walk now next piece rest size h inside at step = record {
  done = h.done ++ take size rest;
  whole = h.whole ∙ ap (λ l. h.done ++ l) (sym (take-append-drop size rest))
      ∙ sym (append_assoc h.done (take size rest) (drop size rest));
  place =
      let so_far = h.place in
      omega (arith, length-append h.done (take size rest), length-take-le size rest inside);
  taken = λ front before read taken.
      let one = h.taken front before read taken in
      let two = step (front ++ h.done) one.0 one.2 one.1 in (
        two.0,
        two.1,
        subst (λ l. HasRead l two.0 next) (append_assoc front h.done (take size rest)) two.2,
      );
}

-- a fault behind what was read is one of the whole
pub walked-fault : (has has_now : List DataRecord → Type 0) (walk now : WalkState) (piece rest : List ℕ)
    (error : StreamError) → HasWalked has has_now walk now piece rest
    → ((front : List ℕ) (before : List DataRecord) → HasRead front before now → has_now before → (more : List ℕ)
    → IsFaultOf (decode (front ++ (rest ++ more))) error)
    → (front : List ℕ) (before : List DataRecord) → HasRead front before walk → has before → (more : List ℕ)
    → IsFaultOf (decode (front ++ (piece ++ more))) error
walked-fault has has_now walk now piece rest error h fault front before read taken more =
    let one = h.taken front before read taken in
    let whole : front ++ (piece ++ more) ≡ (front ++ h.done) ++ (rest ++ more) =
    ap (λ l. front ++ (l ++ more)) h.whole ∙ ap (λ l. front ++ l) (append_assoc h.done rest more)
    ∙ sym (append_assoc front h.done (rest ++ more)) in
    fault_of-same _ _ error (ap decode whole) (fault (front ++ h.done) one.0 one.2 one.1 more)

-- all that isn't left was read
pub walked-all : (has has_now : List DataRecord → Type 0) (walk now : WalkState) (piece rest : List ℕ) (count : ℕ)
    → HasWalked has has_now walk now piece rest → count ≡ length piece - length rest
    → (now.at ≡ walk.at + count)
    × ((front : List ℕ) (before : List DataRecord) → HasRead front before walk → has before
    → (after : List DataRecord) × has_now after × HasRead (front ++ take count piece) after now)
walked-all has has_now walk now piece rest count h is =
    let long = ap length h.whole ∙ length-append h.done rest in
    let count_is : count ≡ length h.done = omega arith in
    let done_is : h.done ≡ take count piece =
    sym (ap (λ l. take count l) h.whole ∙ ap (λ n. take n (h.done ++ rest)) count_is ∙ take-append_seam h.done rest) in
    let at = h.place in (
      omega arith,
      λ front before read taken.
          let one = h.taken front before read taken in
          (one.0, one.1, subst (λ l. HasRead (front ++ l) one.0 now) done_is one.2),
    )

pub walked-within : (has has_now : List DataRecord → Type 0) (walk now : WalkState) (piece rest : List ℕ)
    → HasWalked has has_now walk now piece rest → length piece ≡ length piece - length rest + length rest
walked-within has has_now walk now piece rest h =
    let long = ap length h.whole ∙ length-append h.done rest in omega arith
