-- The length of a message that takes in one more record.
use Rattle.std.proofs.Common.{◌≡◌, ◌≤◌, ◌+◌, ◌*◌, ◌==◌, ℕ, Bool, true, false, List, [], ◌∷◌, ◌++◌, length}
use Rattle.std.proofs.Common.{if◌then◌else◌, Option, Some, None, refl, ap, arith, length-append, append-nil}
use Rattle.std.proofs.Common.{append_assoc}
use Rattle.record_ledger.specs.declared.record.FlowRecord.{FlowRecord}
use Rattle.ipfix_writer.specs.Encoding.{set}
use Rattle.ipfix_writer.specs.Layout.{RecordSet, put_before, sets_in, bytes_of_sets, body_in, length_in, encode_flow}
use Rattle.ipfix_writer.specs.Layout.{message_length}
use Rattle.ipfix_writer.specs.Emitting.{last_template, header_before}
use Rattle.ipfix_writer.proofs.Sizes.{length-set, record_size-bounds}
use Rattle.ipfix_model.specs.Sizes.{v4_record_length}

-- a set header where the template changes
abbrev pub header_between : ℕ → ℕ → ℕ
header_between one other = if one == other then 0 else 4

-- a set header has four bytes at most
header_if : (same : Bool) → (if same then 0 else 4) ≤ 4
header_if true = omega arith
header_if false = omega arith

pub header_before-bound : (last : Option ℕ) (template : ℕ) → header_before last template ≤ 4
header_before-bound None template = omega arith
header_before-bound (Some last) template = header_if (last == template)

-- the length of the body of records, from the front
abbrev pub body_length : {A : Type 0} → (A → RecordSet) → List A → ℕ
body_length encode [] = 0
body_length encode (x ∷ []) = 4 + length (encode x).records
body_length encode (x ∷ (next ∷ xs)) =
    length (encode x).records + header_between (encode x).template (encode next).template
    + body_length encode (next ∷ xs)

-- a set header where the first set is not of the template
abbrev header_for : ℕ → List RecordSet → ℕ
header_for template [] = 4
header_for template (first ∷ sets) = header_between template first.template

length-put_before-if : (b : Bool) (template : ℕ) (bytes : List ℕ) (first : RecordSet) (sets : List RecordSet)
    → length (bytes_of_sets (if b then record { template = template; records = bytes ++ first.records } ∷ sets
    else record { template = template; records = bytes } ∷ (first ∷ sets)))
    ≡ length bytes + (if b then 0 else 4) + length (bytes_of_sets (first ∷ sets))
length-put_before-if true template bytes first sets =
    let whole = length-append (set template (bytes ++ first.records)) (bytes_of_sets sets) in
    let own = length-append (set first.template first.records) (bytes_of_sets sets) in
    let long = length-set template (bytes ++ first.records) in
    let short = length-set first.template first.records in
    let both = length-append bytes first.records in
    omega arith
length-put_before-if false template bytes first sets =
    let whole = length-append (set template bytes) (bytes_of_sets (first ∷ sets)) in
    let long = length-set template bytes in
    omega arith

length-put_before : (template : ℕ) (bytes : List ℕ) (sets : List RecordSet)
    → length (bytes_of_sets (put_before template bytes sets))
    ≡ length bytes + header_for template sets + length (bytes_of_sets sets)
unfolding put_before
length-put_before template bytes [] =
    let whole = length-append (set template bytes) [] in
    let long = length-set template bytes in
    omega arith
length-put_before template bytes (first ∷ sets) =
    length-put_before-if (template == first.template) template bytes first sets

-- the first set of a record that was put before is of its template
header_for-if : (b : Bool) (template kind : ℕ) (bytes : List ℕ) (first : RecordSet) (sets : List RecordSet)
    → header_for template (if b then record { template = kind; records = bytes ++ first.records } ∷ sets
    else record { template = kind; records = bytes } ∷ (first ∷ sets)) ≡ header_between template kind
header_for-if true template kind bytes first sets = refl
header_for-if false template kind bytes first sets = refl

header_for-put_before : (template kind : ℕ) (bytes : List ℕ) (sets : List RecordSet)
    → header_for template (put_before kind bytes sets) ≡ header_between template kind
unfolding put_before
header_for-put_before template kind bytes [] = refl
header_for-put_before template kind bytes (first ∷ sets) =
    header_for-if (kind == first.template) template kind bytes first sets

length-body_in : {A : Type 0} (encode : A → RecordSet) (xs : List A)
    → length (body_in encode xs) ≡ body_length encode xs
unfolding body_in sets_in
length-body_in encode [] = refl
length-body_in encode (x ∷ []) =
    let put = length-put_before (encode x).template (encode x).records [] in
    omega arith
length-body_in encode (x ∷ (next ∷ xs)) =
    let rest = length-body_in encode (next ∷ xs) in
    let put = length-put_before (encode x).template (encode x).records (sets_in encode (next ∷ xs)) in
    let between = header_for-put_before (encode x).template (encode next).template (encode next).records
    (sets_in encode xs) in
    omega arith

-- one more record behind
body_length-snoc : {A : Type 0} (encode : A → RecordSet) (xs : List A) (x : A)
    → body_length encode (xs ++ x ∷ []) ≡ body_length encode xs
    + header_before (last_template encode xs) (encode x).template + length (encode x).records
body_length-snoc encode [] x = omega arith
body_length-snoc encode (first ∷ []) x = omega arith
body_length-snoc encode (first ∷ (next ∷ xs)) x =
    let rest = body_length-snoc encode (next ∷ xs) x in
    omega arith

pub last_template-snoc : {A : Type 0} (encode : A → RecordSet) (xs : List A) (x : A)
    → last_template encode (xs ++ x ∷ []) ≡ Some (encode x).template
last_template-snoc encode [] x = refl
last_template-snoc encode (first ∷ []) x = refl
last_template-snoc encode (first ∷ (next ∷ xs)) x = last_template-snoc encode (next ∷ xs) x

-- the length of a message that takes in one more record
pub length_in-snoc : {A : Type 0} (encode : A → RecordSet) (xs : List A) (x : A)
    → length_in encode (xs ++ x ∷ []) ≡ length_in encode xs
    + header_before (last_template encode xs) (encode x).template + length (encode x).records
unfolding length_in
length_in-snoc encode xs x =
    let longer = length-body_in encode (xs ++ x ∷ []) in
    let before = length-body_in encode xs in
    let more = body_length-snoc encode xs x in
    omega arith

pub length_in-nil : {A : Type 0} (encode : A → RecordSet) → length_in encode [] ≡ 16
unfolding length_in body_in sets_in
length_in-nil encode = refl

-- a message is no shorter than a beginning of it
pub length_in-more : {A : Type 0} (encode : A → RecordSet) (xs more : List A)
    → length_in encode xs ≤ length_in encode (xs ++ more)
length_in-more encode xs [] = let whole = ap (length_in encode) (append-nil xs) in omega arith
length_in-more encode xs (x ∷ more) =
    let one = length_in-snoc encode xs x in
    let rest = length_in-more encode (xs ++ x ∷ []) more in
    let whole = ap (length_in encode) (append_assoc xs (x ∷ []) more) in
    omega arith

body_length-bound : (flows : List FlowRecord) → v4_record_length * length flows ≤ body_length encode_flow flows
body_length-bound [] = omega arith
body_length-bound (flow ∷ []) = let own = record_size-bounds flow in omega arith
body_length-bound (flow ∷ (next ∷ flows)) =
    let rest = body_length-bound (next ∷ flows) in
    let own = record_size-bounds flow in
    grind arith

-- how many records a message has at most
pub message_length-bound : (flows : List FlowRecord) → 16 + v4_record_length * length flows ≤ message_length flows
unfolding length_in
message_length-bound flows =
    let exact = length-body_in encode_flow flows in
    let below = body_length-bound flows in
    omega arith
