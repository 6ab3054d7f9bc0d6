-- The message with the templates.
use Rattle.std.proofs.Common.{◌≡◌, ◌+◌, ℕ, List, [], ◌++◌, length, refl, ap, ◌∙◌, append_assoc}
use Rattle.octets.specs.Numbers.{octets_of}
use Rattle.ipfix_model.specs.Templates.{v4_fields, v6_fields, v4_template, v6_template}
use Rattle.ipfix_model.specs.Sizes.{template_record_length, template_set_length, template_message_length}
use Rattle.ipfix_writer.specs.Encoding.{message_header, message, set, field_specifier, template_record}
use Rattle.ipfix_writer.specs.Encoding.{template_records, template_message}
use Rattle.ipfix_writer.proofs.Sizes.{length-set, length-message}

pub length-template_records : length template_records ≡ 96
unfolding template_record field_specifier
length-template_records = refl

-- each of them
pub length-v4_record : length (template_record v4_template v4_fields) ≡ template_record_length
unfolding template_record field_specifier
length-v4_record = refl

pub length-v6_record : length (template_record v6_template v6_fields) ≡ template_record_length
unfolding template_record field_specifier
length-v6_record = refl

pub length-template_set : length (set 2 template_records) ≡ template_set_length
length-template_set = length-set 2 template_records ∙ ap (λ n. 4 + n) length-template_records

pub length-template_message : (export_time : ℕ) → length (template_message export_time) ≡ template_message_length
unfolding template_message
length-template_message export_time = length-message export_time 0 (set 2 template_records)
    ∙ ap (λ n. 16 + n) length-template_set

-- the first message with its lengths
pub template_message-is : (export_time : ℕ)
    → template_message export_time ≡ message_header template_message_length export_time 0
    ++ (octets_of 2 2 ++ (octets_of 2 template_set_length ++ template_records))
unfolding template_message message set
template_message-is export_time =
    ap (λ n. message_header (16 + n) export_time 0 ++ set 2 template_records) length-template_set
    ∙ ap (λ n. message_header template_message_length export_time 0
    ++ (octets_of 2 2 ++ (octets_of 2 (4 + n) ++ template_records)))
    length-template_records

-- the first message, written part by part
pub template_message-written : (export_time : ℕ) (empty header number size first both : List ℕ) → empty ≡ []
    → header ≡ empty ++ message_header template_message_length export_time 0 → number ≡ header ++ octets_of 2 2
    → size ≡ number ++ octets_of 2 template_set_length
    → first ≡ size ++ template_record v4_template v4_fields → both ≡ first ++ template_record v6_template v6_fields
    → both ≡ template_message export_time
template_message-written export_time empty header number size first both e0 e1 e2 e3 e4 e5 =
    rw (template_message-is export_time, e5, e4, e3, e2, e1, e0) (simp append_assoc)
