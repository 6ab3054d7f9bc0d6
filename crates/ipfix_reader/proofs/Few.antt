-- A stream has no more data records than bytes.
use Rattle.std.proofs.Common.{◌≡◌, ◌<◌, ◌≤◌, ◌+◌, ◌==◌, ◌++◌, ◌∷◌, [], ℕ, zero, suc, Bool, true, false, List, length}
use Rattle.std.proofs.Common.{take, drop, Option, Some, None, Result, Ok, Err, ap, arith, nat_lt, if◌then◌else◌}
use Rattle.std.proofs.Common.{length-drop, length-append}
use Rattle.std.proofs.lemmas.List.{length-take}
use Rattle.ipfix_model.specs.declared.fields.FieldSpec.{FieldSpec}
use Rattle.ipfix_model.specs.declared.values.DataRecord.{DataRecord}
use Rattle.ipfix_model.specs.Fields.{least_length}
use Rattle.ipfix_reader.specs.declared.fault.StreamFault.{StreamFault}
use Rattle.ipfix_reader.specs.declared.fault.StreamFault.TheVariants.{BadLength, BadPadding}
use Rattle.octets.specs.Outcome.{◌>>=◌}
use Rattle.octets.specs.Numbers.{number_at}
use Rattle.ipfix_reader.specs.Part.{Part, behind, first_part, are_zeros}
use Rattle.ipfix_reader.specs.Walk.{Reading, at_most, all_items}
use Rattle.ipfix_reader.specs.Values.{Values, values_of}
use Rattle.ipfix_reader.specs.Known.{Templates, fields_in}
use Rattle.ipfix_reader.specs.Records.{padding_end, template_records, data_record, data_records}
use Rattle.ipfix_reader.specs.Sets.{Contents, template_set, data_set, set_contents, set_length, is_bad_length}
use Rattle.ipfix_reader.specs.Sets.{message_set, message_sets}
use Rattle.ipfix_reader.specs.Messages.{Progress, message_domain, checked_length, behind_message, stream_message}
use Rattle.ipfix_reader.specs.Messages.{stream_messages, nothing_read, decode}
use Rattle.ipfix_reader.specs.Taking.{contents_of}
use Rattle.ipfix_reader.proofs.Items.{behind_ok, not_fault, same_ok, given}

-- a reading adds no more, by a count, than its part has bytes
abbrev AddsFew : {S : Type 0} → (S → ℕ) → Reading S → Type 0
AddsFew {S} count go = (before after : S) (part : Part) → go before part ≡ Ok after
    → count after ≤ count before + length part.bytes

-- of two readings one gave it
module _ {A : Type 0} (P : Type 0) (one other : Result A StreamFault) (x : A) where
  either : (test : Bool) → (if test then one else other) ≡ Ok x → (one ≡ Ok x → P) → (other ≡ Ok x → P) → P
  either true is first second = first is
  either false is first second = second is

-- what nothing is read of adds nothing
same-few : {S : Type 0} (count : S → ℕ) (before after : S) (long : ℕ) → given before ≡ Ok after
    → count after ≤ count before + long
same-few count before after long is = (let same = ap count (same_ok before after is) in omega arith)

-- where an item adds few before a reading that does, all items do
module _ {S : Type 0} (count : S → ℕ) (item : Reading S → Reading S)
    (step : (go : Reading S) → AddsFew count go → AddsFew count (item go)) where
  at_most-few : (n : ℕ) → AddsFew count (at_most n item)
  unfolding at_most
  at_most-few zero = λ before after part is. cc
  at_most-few (suc n) = step (at_most n item) (at_most-few n)

  all_items-few : AddsFew count (all_items item)
  unfolding all_items
  all_items-few = λ before after part is. at_most-few (suc (length part.bytes)) before after part is

-- ---- the data records of a set

module _ (domain number : ℕ) (fields : List FieldSpec) where
  padded-same : (before after : List DataRecord) (part : Part) → padding_end before part ≡ Ok after
      → length after ≡ length before
  padded-same before after part is =
      either (length after ≡ length before) (given before) (Err (BadPadding part.at)) after (are_zeros part.bytes) is
      (λ same. (let same' = ap length (same_ok before after same) in omega arith)) (λ bad. cc)

  -- an item adds one record
  items-few : (n : ℕ) (before after : List DataRecord) (part : Part)
      → at_most n (data_record domain number fields) before part ≡ Ok after → length after < length before + n
  unfolding at_most
  items-few zero before after part is = cc
  items-few (suc n) before after part is =
      either (length after < length before + suc n) (padding_end before part)
      (values_of (BadLength part.at) fields [] part >>= λ (read : Values). at_most n (data_record domain number fields)
      (before ++ record { domain = domain; template = number; fields = read.values } ∷ []) read.rest) after
      (nat_lt (length part.bytes) (least_length fields)) is
      (λ end. (let same = padded-same before after part end in omega arith))
      (λ more.
      let read = behind_ok (values_of (BadLength part.at) fields [] part)
      (λ (read : Values). at_most n (data_record domain number fields)
      (before ++ record { domain = domain; template = number; fields = read.values } ∷ []) read.rest) after more in
      let one : DataRecord = record { domain = domain; template = number; fields = (read.0).values } in
      let few = items-few n (before ++ one ∷ []) after (read.0).rest read.2 in
      omega (arith, length-append before (one ∷ [])))

  data_records-few : AddsFew length (data_records domain number fields)
  unfolding data_records all_items
  data_records-few = λ before after part is.
      let few = items-few (suc (length part.bytes)) before after part is in omega arith

-- ---- sets

abbrev in_contents : Contents → ℕ
in_contents contents = length contents.records

template_set-few : (options : Bool) (domain : ℕ) → AddsFew in_contents (template_set options domain)
template_set-few options domain = λ before after part is.
    let read = behind_ok (template_records options domain before.templates part)
    (λ (templates : Templates). Ok (contents_of templates before.records)) after is in
    same-few in_contents (contents_of read.0 before.records) after (length part.bytes) read.2

data_set-few : (domain number at : ℕ) (known : Option (List FieldSpec))
    → AddsFew in_contents (data_set domain number at known)
data_set-few domain number at None = λ before after part is. cc
data_set-few domain number at (Some fields) = λ before after part is.
    let read = behind_ok (data_records domain number fields before.records part)
    (λ (records : List DataRecord). Ok (contents_of before.templates records)) after is in
    let few = data_records-few domain number fields before.records read.0 part read.1 in
    let same = ap in_contents (same_ok (contents_of before.templates read.0) after read.2) in
    omega arith

set_contents-few : (domain number at : ℕ) → AddsFew in_contents (set_contents domain number at)
unfolding set_contents
set_contents-few domain number at = λ before after part is.
    either (in_contents after ≤ in_contents before + length part.bytes) _ _ after (number == 2) is
    (template_set-few false domain before after part)
    (λ other. either (in_contents after ≤ in_contents before + length part.bytes) _ _ after (number == 3) other
    (template_set-few true domain before after part)
    (λ other'. either (in_contents after ≤ in_contents before + length part.bytes) _ _ after (nat_lt number 256) other'
    (same-few in_contents before after (length part.bytes))
    (data_set-few domain number at (fields_in before.templates domain number) before after part)))

-- what is inside an item at the front and what lies behind it aren't more than all
front-behind : (header size : ℕ) (bytes : List ℕ)
    → length (drop header (take size bytes)) + length (drop size bytes) ≤ length bytes
front-behind header size bytes =
    omega (arith, length-drop header (take size bytes), length-take size bytes, length-drop size bytes)

message_set-few : (domain : ℕ) (go : Reading Contents) → AddsFew in_contents go
    → AddsFew in_contents (message_set domain go)
message_set-few domain go few = λ before after part is.
    either (in_contents after ≤ in_contents before + length part.bytes) _ _ after (length part.bytes == 0) is
    (same-few in_contents before after (length part.bytes))
    (λ some.
    let content = behind 4 (first_part (set_length part) part) in
    let good = not_fault (is_bad_length part) _ _ after some in
    let read = behind_ok (set_contents domain (number_at 0 2 part.bytes) part.at before content)
    (λ inside. go inside (behind (set_length part) part)) after good.1 in
    let inside = set_contents-few domain (number_at 0 2 part.bytes) part.at before read.0 content read.1 in
    let rest = few read.0 after (behind (set_length part) part) read.2 in
    omega (arith, front-behind 4 (set_length part) part.bytes))

message_sets-few : (domain : ℕ) → AddsFew in_contents (message_sets domain)
unfolding message_sets
message_sets-few domain = all_items-few in_contents (message_set domain) (message_set-few domain)

-- ---- messages

abbrev in_progress : Progress → ℕ
in_progress progress = length progress.contents.records

stream_message-few : (go : Reading Progress) → AddsFew in_progress go → AddsFew in_progress (stream_message go)
stream_message-few go few = λ before after part is.
    either (in_progress after ≤ in_progress before + length part.bytes) _ _ after (length part.bytes == 0) is
    (same-few in_progress before after (length part.bytes))
    (λ some.
    let size = behind_ok (checked_length before.sequences part) _ after some in
    let content = behind 16 (first_part size.0 part) in
    let read = behind_ok (message_sets (message_domain part) before.contents content)
    (λ inside. go (behind_message part before inside) (behind size.0 part)) after size.2 in
    let inside = message_sets-few (message_domain part) before.contents read.0 content read.1 in
    let rest = few (behind_message part before read.0) after (behind size.0 part) read.2 in
    omega (arith, front-behind 16 size.0 part.bytes))

stream_messages-few : AddsFew in_progress stream_messages
unfolding stream_messages
stream_messages-few = all_items-few in_progress stream_message stream_message-few

-- the whole stream
pub decode-few : (bytes : List ℕ) (records : List DataRecord) → decode bytes ≡ Ok records
    → length records ≤ length bytes
unfolding decode
decode-few bytes records is =
    let read = behind_ok (stream_messages nothing_read (record { at = 0; bytes = bytes }))
    (λ (read : Progress). Ok read.contents.records) records is in
    let few = stream_messages-few nothing_read read.0 (record { at = 0; bytes = bytes }) read.1 in
    let same = ap length (same_ok (read.0).contents.records records read.2) in
    omega arith
