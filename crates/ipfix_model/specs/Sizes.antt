-- Lengths in octets that the fields of the templates add up to. Each number stands here once, for all that write or
-- read records; `ipfix_model::laws` says that the fields add up to it.
use Rattle.std.specs.Prelude.{ℕ}

-- What a record of a flow has behind its key: flags, counts, times and end reason.
abbrev pub counts_length : ℕ
counts_length = 35

-- A data record of a flow, over IPv4 and over IPv6.
abbrev pub v4_record_length : ℕ
v4_record_length = 48

abbrev pub v6_record_length : ℕ
v6_record_length = 72

-- A data record of a biflow.
abbrev pub v4_bi_record_length : ℕ
v4_bi_record_length = 83

abbrev pub v6_bi_record_length : ℕ
v6_bi_record_length = 107

-- A template record of a flow, and the set of both of these, with its header.
abbrev pub template_record_length : ℕ
template_record_length = 48

abbrev pub template_set_length : ℕ
template_set_length = 100

-- The message that has the templates of flows: no stream may limit its messages to fewer octets.
abbrev pub template_message_length : ℕ
template_message_length = 116

-- The set and the message that have the templates of biflows as well.
abbrev pub bi_template_set_length : ℕ
bi_template_set_length = 292

abbrev pub bi_template_message_length : ℕ
bi_template_message_length = 308
