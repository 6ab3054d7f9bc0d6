-- The records of biflows.
use Rattle.std.proofs.Common.{◌≡◌, ◌≤◌, ◌+◌, ℕ, Bool, true, false, List, [], ◌∷◌, ◌++◌, length, Option, Some, None}
use Rattle.std.proofs.Common.{refl, ap, ◌∙◌, arith, append_assoc, append-nil, length-append}
use Rattle.octets.specs.Numbers.{octets_of}
use Rattle.record_ledger.specs.declared.record.FlowRecord.{FlowRecord}
use Rattle.ipfix_model.specs.Templates.{v4_template, v4_fields, v6_template, v6_fields, v4_bi_template, v4_bi_fields}
use Rattle.ipfix_model.specs.Templates.{v6_bi_template, v6_bi_fields}
use Rattle.ipfix_model.specs.Sizes.{counts_length, v6_bi_record_length, template_record_length, bi_template_set_length}
use Rattle.ipfix_model.specs.Sizes.{bi_template_message_length}
use Rattle.ipfix_writer.specs.Encoding.{message_header, message, set, template_record, field_specifier, data_record}
use Rattle.ipfix_writer.specs.DataParts.{counts_part}
use Rattle.ipfix_writer.specs.Layout.{length_in}
use Rattle.ipfix_writer.proofs.Sizes.{length-set, length-message, length-counts_part}
use Rattle.ipfix_writer.proofs.Rests.{length_in-one}
use Rattle.pair_program.specs.declared.biflow.Biflow.{Biflow}
use Rattle.pair_program.specs.BiLayout.{bi_record, encode_both, encode_biflow, bi_template_records, bi_template_message}
use Rattle.pair_program.specs.BiSizes.{is_v4, has_reverse, length_by, length-both}

-- a record of both directions is that of the forward flow and then the values of the reverse one
parts-v4 : (forward reverse : FlowRecord) → is_v4 forward ≡ true
    → bi_record forward reverse ≡ data_record forward ++ counts_part reverse
unfolding bi_record data_record counts_part
parts-v4 forward reverse v4 = rw v4 (simp (append_assoc, append-nil))

parts-v6 : (forward reverse : FlowRecord) → is_v4 forward ≡ false
    → bi_record forward reverse ≡ data_record forward ++ counts_part reverse
unfolding bi_record data_record counts_part
parts-v6 forward reverse v6 = rw v6 (simp (append_assoc, append-nil))

parts-if : (forward reverse : FlowRecord) (b : Bool) → is_v4 forward ≡ b
    → bi_record forward reverse ≡ data_record forward ++ counts_part reverse
parts-if forward reverse true is = parts-v4 forward reverse is
parts-if forward reverse false is = parts-v6 forward reverse is

pub bi_record-parts : (forward reverse : FlowRecord)
    → bi_record forward reverse ≡ data_record forward ++ counts_part reverse
bi_record-parts forward reverse = parts-if forward reverse (is_v4 forward) refl

-- so it is longer by these
pub length-bi_record : (forward reverse : FlowRecord)
    → length (bi_record forward reverse) ≡ length (data_record forward) + counts_length
length-bi_record forward reverse =
    ap length (bi_record-parts forward reverse) ∙ length-append (data_record forward) (counts_part reverse)
    ∙ ap (λ n. length (data_record forward) + n) (length-counts_part reverse)

-- the forward flow's part of it
pub forward_within : (forward : FlowRecord) (reverse : Option FlowRecord)
    → length (data_record forward) ≤ length (encode_both forward reverse).records
forward_within forward None = omega arith
forward_within forward (Some reverse) = omega (arith, length-bi_record forward reverse)

-- a message of one biflow fits
length_by-bound : (both v4 : Bool) → length_by both v4 ≤ v6_bi_record_length
length_by-bound true true = omega arith
length_by-bound true false = omega arith
length_by-bound false true = omega arith
length_by-bound false false = omega arith

pub biflow-fits : (size : ℕ) (pair : Biflow) → bi_template_message_length ≤ size
    → length_in encode_biflow (pair ∷ []) ≤ size
biflow-fits size pair room =
    let one = length_in-one encode_biflow pair in
    let long = length-both pair.forward pair.reverse in
    let bound = length_by-bound (has_reverse pair.reverse) (is_v4 pair.forward) in
    omega arith

-- the lengths of the template records
pub length-v4_record : length (template_record v4_template v4_fields) ≡ template_record_length
unfolding template_record field_specifier
length-v4_record = refl

pub length-v6_record : length (template_record v6_template v6_fields) ≡ template_record_length
unfolding template_record field_specifier
length-v6_record = refl

pub length-v4_bi_record : length (template_record v4_bi_template v4_bi_fields) ≡ 96
unfolding template_record field_specifier
length-v4_bi_record = refl

pub length-v6_bi_record : length (template_record v6_bi_template v6_bi_fields) ≡ 96
unfolding template_record field_specifier
length-v6_bi_record = refl

pub length-bi_template_records : length bi_template_records ≡ 288
unfolding template_record field_specifier
length-bi_template_records = refl

pub length-bi_template_message : (export_time : ℕ) → length (bi_template_message export_time)
    ≡ bi_template_message_length
unfolding bi_template_message
length-bi_template_message export_time =
    length-message export_time 0 (set 2 bi_template_records)
    ∙ ap (λ n. 16 + n) (length-set 2 bi_template_records ∙ ap (λ n. 4 + n) length-bi_template_records)

-- the first message, written part by part
pub bi_template_message-is : (export_time : ℕ)
    → bi_template_message export_time ≡ message_header bi_template_message_length export_time 0
    ++ (octets_of 2 2 ++ (octets_of 2 bi_template_set_length ++ bi_template_records))
unfolding bi_template_message message set
bi_template_message-is export_time =
    ap (λ n. message_header (16 + n) export_time 0 ++ set 2 bi_template_records)
    (length-set 2 bi_template_records ∙ ap (λ n. 4 + n) length-bi_template_records)
    ∙ ap (λ n. message_header bi_template_message_length export_time 0
    ++ (octets_of 2 2 ++ (octets_of 2 (4 + n) ++ bi_template_records)))
    length-bi_template_records

pub bi_template_message-written : (export_time : ℕ) (empty header number size one two three all : List ℕ) → empty ≡ []
    → header ≡ empty ++ message_header bi_template_message_length export_time 0 → number ≡ header ++ octets_of 2 2
    → size ≡ number ++ octets_of 2 bi_template_set_length
    → one ≡ size ++ template_record v4_template v4_fields → two ≡ one ++ template_record v6_template v6_fields
    → three ≡ two ++ template_record v4_bi_template v4_bi_fields
    → all ≡ three ++ template_record v6_bi_template v6_bi_fields
    → all ≡ bi_template_message export_time
bi_template_message-written export_time empty header number size one two three all e0 e1 e2 e3 e4 e5 e6 e7 =
    rw (bi_template_message-is export_time, e7, e6, e5, e4, e3, e2, e1, e0) (simp append_assoc)

-- a template record at the end makes a list longer by its length
pub longer_by-v4 : (old new : List ℕ) → new ≡ old ++ template_record v4_template v4_fields
    → length new ≡ length old + template_record_length
longer_by-v4 old new is =
    ap length is ∙ length-append old (template_record v4_template v4_fields) ∙ ap (λ k. length old + k) length-v4_record

pub longer_by-v6 : (old new : List ℕ) → new ≡ old ++ template_record v6_template v6_fields
    → length new ≡ length old + template_record_length
longer_by-v6 old new is =
    ap length is ∙ length-append old (template_record v6_template v6_fields) ∙ ap (λ k. length old + k) length-v6_record

pub longer_by-v4_bi : (old new : List ℕ) → new ≡ old ++ template_record v4_bi_template v4_bi_fields
    → length new ≡ length old + 96
longer_by-v4_bi old new is =
    ap length is ∙ length-append old (template_record v4_bi_template v4_bi_fields)
    ∙ ap (λ k. length old + k) length-v4_bi_record
