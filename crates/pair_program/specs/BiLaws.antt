-- The laws of streams of biflows.
use Rattle.std.specs.Prelude.{◌≡◌, ◌≤◌, ◌+◌, ℕ, All, List, Some, Option, None, length}
use Rattle.flow_key.specs.Fields.{fields_of}
use Rattle.record_ledger.specs.declared.record.FlowRecord.{FlowRecord}
use Rattle.pair_program.specs.declared.biflow.Biflow.{Biflow}
use Rattle.pair_program.specs.Pairs.{ArePairs}
use Rattle.pair_program.specs.BiLayout.{IsBiLayout, bi_template_records, bi_template_message}
use Rattle.pair_program.specs.BiFlows.{reverse_of, biflows_of}
use Rattle.ipfix_model.specs.Sizes.{bi_template_set_length, bi_template_message_length}

-- A reverse flow has the reverse key.
abbrev pub IsReverseOf : FlowRecord → Option FlowRecord → Type 0
IsReverseOf forward None = Unit {0}
IsReverseOf forward (Some reverse) = fields_of reverse.part.key ≡ reverse_of (fields_of forward.part.key)

abbrev pub AreBiflows : List Biflow → Type 0
AreBiflows pairs = All (λ (pair : Biflow). IsReverseOf pair.forward pair.reverse) pairs

-- Flow records have one list of pairs.
abbrev pub ArePairedOnce : Type 0
ArePairedOnce = (idle : ℕ) (records : List FlowRecord) (one other : List Biflow) → ArePairs idle records one
    → ArePairs idle records other → one ≡ other

-- The layout of biflows in messages of at most 65,535 octets decodes to these biflows, where each reverse flow has the
-- reverse key.
abbrev pub ReadsBack : Type 0
ReadsBack = (size export_time : ℕ) (pairs : List Biflow) (bytes : List ℕ) → size ≤ 65535 → AreBiflows pairs
    → IsBiLayout size export_time pairs bytes → biflows_of bytes ≡ Some pairs

-- Biflows have one layout.
abbrev pub IsOneBiLayout : Type 0
IsOneBiLayout = (size export_time : ℕ) (pairs : List Biflow) (one other : List ℕ)
    → IsBiLayout size export_time pairs one → IsBiLayout size export_time pairs other → one ≡ other

-- The length of the set of templates, with its header, and of the message that has it.
abbrev pub HasTemplateSetLength : Type 0
HasTemplateSetLength = 4 + length bi_template_records ≡ bi_template_set_length

abbrev pub HasTemplateMessageLength : Type 0
HasTemplateMessageLength = (export_time : ℕ) → length (bi_template_message export_time) ≡ bi_template_message_length
