-- A stream of messages of records decodes to them: of anything that is written as data records.
use Rattle.std.proofs.Common.{◌≡◌, ◌<◌, ◌≤◌, ◌+◌, ◌-◌, ◌%◌, ◌^◌, ℕ, List, [], ◌∷◌, ◌++◌, length, map, Ok, refl, sym, ap}
use Rattle.std.proofs.Common.{◌∙◌, arith, length-append, append_assoc, append-nil, false}
use Rattle.std.proofs.lemmas.Bool.{eq-eqb}
use Rattle.std.proofs.lemmas.List.{map-append, length-map}
use Rattle.ipfix_model.specs.declared.values.DataRecord.{DataRecord}
use Rattle.ipfix_writer.specs.Encoding.{message, set}
use Rattle.ipfix_writer.specs.Layout.{RecordSet, body_in, length_in, messages_in, together, AreFilledBy, IsStream}
use Rattle.ipfix_writer.proofs.Sizes.{length-set}
use Rattle.ipfix_writer.proofs.OneLayout.{filled-fits, filled-rest}
use Rattle.ipfix_reader.specs.Part.{Part}
use Rattle.octets.specs.Outcome.{◌>>=◌}
use Rattle.ipfix_reader.specs.Known.{Templates, expected_in, with_expected}
use Rattle.ipfix_reader.specs.Records.{template_records}
use Rattle.ipfix_reader.specs.Sets.{set_contents, message_sets}
use Rattle.ipfix_reader.specs.Messages.{Progress, stream_messages, nothing_read, decode}
use Rattle.ipfix_reader.proofs.SetSteps.{message_sets-end, set_contents-templates}
use Rattle.ipfix_reader.proofs.MessageSteps.{stream_messages-end, decode-read}
use Rattle.ipfix_law.proofs.DataSets.{IsReadAs}
use Rattle.ipfix_law.proofs.Sets.{set-decoded, contents_with, body-decoded}
use Rattle.ipfix_law.proofs.Messages.{message-decoded}

-- the set of template records in the first message
template_set-decoded : (records : List ℕ) (templates : Templates) → 4 + length records < 2 ^ 16
    → template_records false 1 [] (record { at = 20; bytes = records }) ≡ Ok templates
    → message_sets 1 nothing_read.contents (record { at = 16; bytes = set 2 records }) ≡ Ok (contents_with templates [])
template_set-decoded records templates small is =
    let contents : set_contents 1 2 16 nothing_read.contents (record { at = 20; bytes = records })
    ≡ Ok (contents_with templates []) =
    set_contents-templates 1 2 16 nothing_read.contents (record { at = 20; bytes = records }) refl
    ∙ ap (λ read. read >>= λ (known : Templates). Ok (record { templates = known; records = [] })) is in
    ap (λ bytes. message_sets 1 nothing_read.contents (record { at = 16; bytes = bytes }))
    (sym (append-nil (set 2 records)))
    ∙ set-decoded 1 2 16 records [] nothing_read.contents (contents_with templates []) (omega arith) small contents
    ∙ message_sets-end 1 (contents_with templates []) (record { at = 16 + (4 + length records); bytes = [] }) refl

-- what is read behind so many data records, with these among them
abbrev pub progress_at : Templates → ℕ → List DataRecord → Progress
progress_at templates count records = record {
  contents = contents_with templates records;
  sequences = (1, count % 2 ^ 32) ∷ [];
}

template_message-decoded : (time : ℕ) (records rest : List ℕ) (templates : Templates) → 20 + length records < 2 ^ 16
    → template_records false 1 [] (record { at = 20; bytes = records }) ≡ Ok templates
    → (at : ℕ) × (stream_messages nothing_read (record { at = 0; bytes = message time 0 (set 2 records) ++ rest })
    ≡ stream_messages (progress_at templates 0 []) (record { at = at; bytes = rest }))
unfolding with_expected expected_in
template_message-decoded time records rest templates small is =
    let fits : 16 + length (set 2 records) < 2 ^ 16 = omega (arith, length-set 2 records) in (
      0 + (16 + length (set 2 records)),
      message-decoded time 0 0 (set 2 records) rest nothing_read (contents_with templates []) fits (omega arith) refl
          (template_set-decoded records templates (omega arith) is),
    )

-- the number behind a message
number-next : (count more all old : ℕ) → all ≡ old + more
    → (count % 2 ^ 32 + (all - old)) % 2 ^ 32 ≡ (count + more) % 2 ^ 32
number-next count more all old is =
    let added : all - old ≡ more = omega arith in
    ap (λ n. (count % 2 ^ 32 + n) % 2 ^ 32) added ∙ omega arith

-- a data message, and those behind it
data_message-decoded : {A : Type 0} (templates : Templates) (encode : A → RecordSet) (read_as : A → DataRecord)
    (time count at : ℕ) (xs : List A)
    (rest : List ℕ) (before : List DataRecord) → ((x : A) → IsReadAs templates (encode x) (read_as x))
    → 16 + length (body_in encode xs) < 2 ^ 16
    → stream_messages (progress_at templates count before)
    (record { at = at; bytes = message time (count % 2 ^ 32) (body_in encode xs) ++ rest })
    ≡ stream_messages (progress_at templates (count + length xs) (before ++ map read_as xs))
    (record { at = at + (16 + length (body_in encode xs)); bytes = rest })
unfolding with_expected expected_in
data_message-decoded templates encode read_as time count at xs rest before is small =
    let after = before ++ map read_as xs in
    let longer : length after ≡ length before + length xs =
    length-append before (map read_as xs) ∙ ap (λ n. length before + n) (length-map xs read_as) in
    message-decoded time (count % 2 ^ 32) at (body_in encode xs) rest (progress_at templates count before)
    (contents_with templates after) small (omega arith)
    (eq-eqb (count % 2 ^ 32) (count % 2 ^ 32) refl)
    (body-decoded templates encode read_as xs before (at + 16) is (omega arith))
    ∙ ap (λ n. stream_messages (record { contents = contents_with templates after; sequences = (1, n) ∷ [] })
    (record { at = at + (16 + length (body_in encode xs)); bytes = rest }))
    (number-next count (length xs) (length after) (length before) longer)

-- the first of some filled messages fits
first-fits : {A : Type 0} (encode : A → RecordSet) (size : ℕ) (xs : List A) (parts : List (List A))
    → AreFilledBy encode size (xs ∷ parts)
    → 16 + length (body_in encode xs) ≤ size
unfolding length_in
first-fits encode size xs parts filled = filled-fits encode size xs parts filled

-- what a stream gives in the end
record GivesRecords (before : Progress) (part : Part) (records : List DataRecord) : Type 0 where
  read : Progress
  gives : stream_messages before part ≡ Ok read
  all : read.contents.records ≡ records

messages_in-decoded : {A : Type 0} (templates : Templates) (encode : A → RecordSet) (read_as : A → DataRecord)
    (size time count at : ℕ) (parts : List (List A))
    (before : List DataRecord) → ((x : A) → IsReadAs templates (encode x) (read_as x)) → size ≤ 65535
    → AreFilledBy encode size parts
    → GivesRecords (progress_at templates count before)
    (record { at = at; bytes = messages_in encode time count parts }) (before ++ map read_as (together parts))
unfolding messages_in
messages_in-decoded templates encode read_as size time count at [] before is small filled = record {
  read = progress_at templates count before;
  gives = stream_messages-end (progress_at templates count before) (record { at = at; bytes = [] }) refl;
  all = sym (append-nil before);
}
messages_in-decoded templates encode read_as size time count at (xs ∷ parts) before is small filled =
    let first = first-fits encode size xs parts filled in
    let rest = messages_in-decoded templates encode read_as size time (count + length xs)
    (at + (16 + length (body_in encode xs))) parts (before ++ map read_as xs) is small
    (filled-rest encode size xs parts filled) in
    record {
      read = rest.read;
      gives = data_message-decoded templates encode read_as time count at xs
          (messages_in encode time (count + length xs) parts) before is (omega arith) ∙ rest.gives;
      all = rest.all ∙ append_assoc before (map read_as xs) (map read_as (together parts))
          ∙ ap (λ more. before ++ more) (sym (map-append read_as xs (together parts)));
    }

-- the whole: a stream whose first message has template records that make these templates known
pub stream-decoded : {A : Type 0} (templates : Templates) (encode : A → RecordSet) (read_as : A → DataRecord)
    (records : List ℕ) (xs : List A) (bytes : List ℕ)
    (size time : ℕ) → ((x : A) → IsReadAs templates (encode x) (read_as x)) → 20 + length records < 2 ^ 16
    → template_records false 1 [] (record { at = 20; bytes = records }) ≡ Ok templates → size ≤ 65535
    → IsStream encode size time (message time 0 (set 2 records)) xs bytes → decode bytes ≡ Ok (map read_as xs)
stream-decoded templates encode read_as records xs bytes size time is short known small stream =
    let start = template_message-decoded time records (messages_in encode time 0 stream.parts) templates short known in
    let all = messages_in-decoded templates encode read_as size time 0 start.0 stream.parts [] is small stream.filled in
    let whole : stream_messages nothing_read (record { at = 0; bytes = bytes }) ≡ Ok all.read =
    ap (λ b. stream_messages nothing_read (record { at = 0; bytes = b })) stream.written ∙ start.1 ∙ all.gives in
    decode-read bytes all.read whole ∙ ap Ok (all.all ∙ ap (map read_as) stream.whole)
