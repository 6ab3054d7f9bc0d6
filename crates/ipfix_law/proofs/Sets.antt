-- The sets of a message are read as their records.
use Rattle.std.proofs.Common.{◌≡◌, ◌<◌, ◌+◌, ◌^◌, ◌||◌, ℕ, false, List, [], ◌∷◌, ◌++◌, length, map, take, drop, Some}
use Rattle.std.proofs.Common.{Ok, refl, sym, ap, subst, ◌∙◌, arith, nat_lt, length-append, append_assoc, append-nil}
use Rattle.std.proofs.lemmas.Bool.{le-ltb, or_from}
use Rattle.std.proofs.Math.Seq.{drop-append_seam}
use Rattle.std.proofs.lemmas.List.{map-append}
use Rattle.octets.specs.Numbers.{octets_of, number_at}
use Rattle.octets.specs.Outcome.{◌>>=◌}
use Rattle.ipfix_model.specs.declared.values.DataRecord.{DataRecord}
use Rattle.ipfix_writer.specs.Encoding.{set}
use Rattle.ipfix_writer.specs.Layout.{RecordSet, records_in, bytes_of_sets, body_in}
use Rattle.ipfix_writer.proofs.Sizes.{length-set}
use Rattle.ipfix_reader.specs.Part.{Part, behind, first_part}
use Rattle.ipfix_reader.specs.Known.{Templates}
use Rattle.ipfix_reader.specs.Sets.{Contents, set_contents, set_length, is_bad_length, message_sets}
use Rattle.ipfix_reader.proofs.SetSteps.{message_sets-next, message_sets-end, set_contents-data}
use Rattle.ipfix_law.proofs.Numbers.{number-front, number-behind, take-front}
use Rattle.ipfix_law.proofs.DataSets.{IsReadAs, AllOf, data_records-decoded, Group, set_of, groups_of, sets_in-groups}
use Rattle.ipfix_law.proofs.DataSets.{AreGroups, groups_of-groups, members, groups_of-members}

-- the header of a set in front of more bytes
set-number : (number : ℕ) (records rest : List ℕ) → number < 2 ^ 16
    → number_at 0 2 (set number records ++ rest) ≡ number
unfolding set
set-number number records rest fits = number-front 2 number (octets_of 2 (4 + length records) ++ (records ++ rest)) fits

set-size : (number : ℕ) (records rest : List ℕ) → 4 + length records < 2 ^ 16
    → number_at 2 2 (set number records ++ rest) ≡ 4 + length records
unfolding set
set-size number records rest fits =
    number-behind (octets_of 2 number) (octets_of 2 (4 + length records) ++ (records ++ rest)) 0 2
    ∙ number-front 2 (4 + length records) (records ++ rest) fits

set-inside : (number : ℕ) (records : List ℕ) → drop 4 (set number records) ≡ records
unfolding set
set-inside number records = refl

-- a set in front of more bytes: its records, and what lies behind it
pub set-decoded : (domain number at : ℕ) (records rest : List ℕ) (before after : Contents) → number < 2 ^ 16
    → 4 + length records < 2 ^ 16
    → set_contents domain number at before (record { at = at + 4; bytes = records }) ≡ Ok after
    → message_sets domain before (record { at = at; bytes = set number records ++ rest })
    ≡ message_sets domain after (record { at = at + (4 + length records); bytes = rest })
set-decoded domain number at records rest before after number_fits size_fits is =
    let bytes = set number records ++ rest in
    let part : Part = record { at = at; bytes = bytes } in
    let size = 4 + length records in
    let long : length (set number records) ≡ size = length-set number records in
    let all : length bytes ≡ size + length rest =
    length-append (set number records) rest ∙ ap (λ n. n + length rest) long in
    let size_is : set_length part ≡ size = set-size number records rest size_fits in
    let good : is_bad_length part ≡ false =
    or_from (nat_lt (length bytes) 4 || nat_lt (set_length part) 4) (nat_lt (length bytes) (set_length part))
    (or_from (nat_lt (length bytes) 4) (nat_lt (set_length part) 4) (le-ltb (length bytes) 4 (omega arith))
    (le-ltb (set_length part) 4 (omega arith)))
    (le-ltb (length bytes) (set_length part) (omega arith)) in
    let content : drop 4 (take (set_length part) bytes) ≡ records =
    ap (λ n. drop 4 (take n bytes)) (size_is ∙ sym long) ∙ ap (drop 4) (take-front (set number records) rest)
    ∙ set-inside number records in
    let behind_it : drop (set_length part) bytes ≡ rest =
    ap (λ n. drop n bytes) (size_is ∙ sym long) ∙ drop-append_seam (set number records) rest in
    let contents : set_contents domain (number_at 0 2 bytes) at before (behind 4 (first_part (set_length part) part))
    ≡ Ok after =
    (λ i. set_contents domain (set-number number records rest number_fits i) at before
    (record { at = at + 4; bytes = content i })) ∙ is in
    message_sets-next domain before after part (omega arith) good contents
    ∙ (λ i. message_sets domain after (record { at = at + size_is i; bytes = behind_it i }))

-- what was read so far under these known templates
abbrev pub contents_with : Templates → List DataRecord → Contents
contents_with templates records = record { templates = templates; records = records }

-- a set of one template
data_set-decoded : {A : Type 0} (templates : Templates) (encode : A → RecordSet) (read_as : A → DataRecord)
    (g : Group A) (before : List DataRecord) (at at' : ℕ)
    → ((x : A) → IsReadAs templates (encode x) (read_as x)) → AllOf encode (encode g.first).template g.others
    → set_contents 1 (encode g.first).template at (contents_with templates before)
    (record { at = at'; bytes = records_in encode (g.first ∷ g.others) })
    ≡ Ok (contents_with templates (before ++ map read_as (g.first ∷ g.others)))
data_set-decoded templates encode read_as g before at at' is all =
    let one = is g.first in
    set_contents-data 1 (encode g.first).template at (contents_with templates before)
    (record { at = at'; bytes = records_in encode (g.first ∷ g.others) })
    (Some one.fields) one.high one.known
    ∙ ap (λ read. read >>= λ (records : List DataRecord). Ok (contents_with templates records))
    (data_records-decoded templates encode read_as (encode g.first).template one.fields
    (g.first ∷ g.others) before at' is one.known one.some (refl, all))

-- all sets of a message
pub groups-decoded : {A : Type 0} (templates : Templates) (encode : A → RecordSet) (read_as : A → DataRecord)
    (groups : List (Group A)) (before : List DataRecord) (at : ℕ)
    → ((x : A) → IsReadAs templates (encode x) (read_as x)) → AreGroups encode groups
    → length (bytes_of_sets (map (set_of encode) groups)) < 2 ^ 16
    → message_sets 1 (contents_with templates before)
    (record { at = at; bytes = bytes_of_sets (map (set_of encode) groups) })
    ≡ Ok (contents_with templates (before ++ map read_as (members groups)))
groups-decoded templates encode read_as [] before at is all small =
    message_sets-end 1 (contents_with templates before) (record { at = at; bytes = [] }) refl
    ∙ ap (λ records. Ok (contents_with templates records)) (sym (append-nil before))
groups-decoded templates encode read_as (g ∷ groups) before at is all small =
    let xs = g.first ∷ g.others in
    let number = (encode g.first).template in
    let records = records_in encode xs in
    let rest = bytes_of_sets (map (set_of encode) groups) in
    let lengths : length (set number records ++ rest) ≡ 4 + length records + length rest =
    length-append (set number records) rest ∙ ap (λ n. n + length rest) (length-set number records) in
    set-decoded 1 number at records rest (contents_with templates before)
    (contents_with templates (before ++ map read_as xs)) (is g.first).low (omega arith)
    (data_set-decoded templates encode read_as g before at (at + 4) is all.0)
    ∙ groups-decoded templates encode read_as groups (before ++ map read_as xs) (at + (4 + length records)) is all.1
    (omega arith)
    ∙ ap (λ records. Ok (contents_with templates records))
    (append_assoc before (map read_as xs) (map read_as (members groups))
    ∙ ap (λ more. before ++ more) (sym (map-append read_as xs (members groups))))

pub body-decoded : {A : Type 0} (templates : Templates) (encode : A → RecordSet) (read_as : A → DataRecord)
    (xs : List A) (before : List DataRecord) (at : ℕ)
    → ((x : A) → IsReadAs templates (encode x) (read_as x)) → length (body_in encode xs) < 2 ^ 16
    → message_sets 1 (contents_with templates before) (record { at = at; bytes = body_in encode xs })
    ≡ Ok (contents_with templates (before ++ map read_as xs))
unfolding body_in
body-decoded templates encode read_as xs before at is small =
    let sets = sets_in-groups encode xs in
    ap (λ s. message_sets 1 (contents_with templates before) (record { at = at; bytes = bytes_of_sets s })) sets
    ∙ groups-decoded templates encode read_as (groups_of encode xs) before at is (groups_of-groups encode xs)
    (subst (λ s. length (bytes_of_sets s) < 2 ^ 16) sets small)
    ∙ ap (λ all. Ok (contents_with templates (before ++ map read_as all))) (groups_of-members encode xs)
