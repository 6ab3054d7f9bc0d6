-- Data records of the templates of flows: their values, and the flow records that they are.
use Rattle.std.proofs.Common.{◌≡◌, ◌≤◌, ◌+◌, ℕ, List, [], ◌∷◌, ◌++◌, length, take, Option, Ok, Err, refl}
use Rattle.std.proofs.Common.{sym, ap, subst, ◌∙◌, arith}
use Rattle.std.proofs.Math.Seq.{take-length}
use Rattle.record_ledger.specs.declared.record.FlowRecord.{FlowRecord}
use Rattle.ipfix_model.specs.declared.fields.FieldSpec.{FieldSpec}
use Rattle.ipfix_model.specs.declared.values.FieldValue.{FieldValue}
use Rattle.ipfix_model.specs.declared.values.DataRecord.{DataRecord}
use Rattle.ipfix_model.specs.Elements.{source_ipv4_address, destination_ipv4_address, source_ipv6_address}
use Rattle.ipfix_model.specs.Elements.{destination_ipv6_address}
use Rattle.ipfix_model.specs.Sizes.{counts_length, v4_record_length, v6_record_length}
use Rattle.ipfix_model.specs.Templates.{v4_fields, v6_fields}
use Rattle.octets.specs.Numbers.{number_at}
use Rattle.ipfix_reader.specs.declared.flow_octets.FlowOctets.{FlowOctets}
use Rattle.ipfix_reader.specs.declared.flow_template.FlowTemplate.TheVariants.{V4, V6}
use Rattle.ipfix_reader.specs.declared.fault.StreamFault.{StreamFault}
use Rattle.ipfix_reader.specs.declared.fault.StreamFault.TheVariants.{BadLength}
use Rattle.ipfix_reader.specs.declared.fault.StreamError.{StreamError}
use Rattle.ipfix_reader.specs.declared.fault.StreamError.TheVariants.{Fault}
use Rattle.ipfix_reader.specs.Outcome.{IsFaultOf}
use Rattle.ipfix_reader.specs.Part.{Part, behind}
use Rattle.ipfix_reader.specs.Values.{Values, values_of}
use Rattle.ipfix_reader.specs.Records.{data_records}
use Rattle.ipfix_reader.specs.FlowTemplates.{flow_template_fields, flow_record_length}
use Rattle.ipfix_reader.specs.FixedPlaces.{values_at, record_of}
use Rattle.ipfix_reader.specs.FlowFields.{FlowFields, IsFlowWith, fields_in}
use Rattle.ipfix_reader.specs.Flows.{flow}
use Rattle.ipfix_reader.specs.Numbers.{fields_behind}
use Rattle.ipfix_reader.proofs.FlowFields.{flow-v4, flow-v6}
use Rattle.ipfix_reader.proofs.Items.{same_ok}
use Rattle.ipfix_reader.proofs.RecordSteps.{data_records-next}
use Rattle.ipfix_reader.proofs.FixedPlaces.{are_values_of-at, number_taken, number_at-taken, flow_fields-least}
use Rattle.ipfix_reader.proofs.FixedPlaces.{flow_fields-some, values_of-flow}

-- a data record, and the ones behind it
pub data_records-flow : (rec : FlowOctets) (before : List DataRecord) (part rest : Part)
    → flow_record_length rec.flow ≤ length part.bytes
    → rec.octets.now ≡ take (flow_record_length rec.flow) part.bytes
    → rest ≡ behind (flow_record_length rec.flow) part
    → data_records rec.domain rec.template (flow_template_fields rec.flow) before part
    ≡ data_records rec.domain rec.template (flow_template_fields rec.flow) (before ++ record_of rec ∷ []) rest
unfolding record_of
data_records-flow rec before part rest inside octets_are rest_is =
    let fields = flow_template_fields rec.flow in
    let least = flow_fields-least rec.flow in
    let some = flow_fields-some rec.flow in
    let read : Values = record { values = values_at 0 fields rec.octets.now; rest = rest } in
    let is : values_of (BadLength part.at) fields [] part ≡ Ok read =
    values_of-flow (BadLength part.at) rec.flow part inside
    ∙ (λ i. Ok (record { values = values_at 0 fields (sym octets_are i); rest = sym rest_is i })) in
    data_records-next rec.domain rec.template fields before part read (omega arith) (omega arith) is

-- the values in the octets of a record
values_of-octets : (beyond : StreamFault) (rec : FlowOctets) (fields : List FieldSpec) (at : ℕ)
    → fields ≡ flow_template_fields rec.flow
    → values_of beyond fields [] (record { at = at; bytes = rec.octets.now })
    ≡ Ok (record {
      values = values_at 0 (flow_template_fields rec.flow) rec.octets.now;
      rest = behind (flow_record_length rec.flow) (record { at = at; bytes = rec.octets.now });
    })
values_of-octets beyond rec fields at is =
    let part : Part = record { at = at; bytes = rec.octets.now } in
    let long = rec.whole in
    let all : take (flow_record_length rec.flow) rec.octets.now ≡ rec.octets.now =
    ap (λ n. take n rec.octets.now) (sym long) ∙ take-length rec.octets.now in
    ap (λ fs. values_of beyond fs [] part) is ∙ values_of-flow beyond rec.flow part (omega arith)
    ∙ (λ i. Ok (record {
      values = values_at 0 (flow_template_fields rec.flow) (all i);
      rest = behind (flow_record_length rec.flow) part;
    }))

pub octets-no_fault : (beyond : StreamFault) (rec : FlowOctets) (fields : List FieldSpec) (at : ℕ) (error : StreamError)
    (fault : StreamFault)
    → fields ≡ flow_template_fields rec.flow → error ≡ Fault fault
    → IsFaultOf (values_of beyond fields [] (record { at = at; bytes = rec.octets.now })) error → ⊥
octets-no_fault beyond rec fields at error fault is error_is bad =
    let read = values_of beyond fields [] (record { at = at; bytes = rec.octets.now }) in
    let fails : read ≡ Err fault = subst (λ e. IsFaultOf read e) error_is bad in
    let reads = values_of-octets beyond rec fields at is in
    cc

pub record_of-read : (beyond : StreamFault) (rec : FlowOctets) (fields : List FieldSpec) (at : ℕ) (read : Values)
    (values : List FieldValue)
    → fields ≡ flow_template_fields rec.flow
    → values_of beyond fields [] (record { at = at; bytes = rec.octets.now }) ≡ Ok read → values ≡ read.values
    → ◌≡◌ {A = DataRecord} (record { domain = rec.domain; template = rec.template; fields = values }) (record_of rec)
unfolding record_of
record_of-read beyond rec fields at read values is reads values_are =
    let same = ap (λ (r : Values). r.values) (same_ok _ _ (sym reads ∙ values_of-octets beyond rec fields at is)) in
    λ i. record { domain = rec.domain; template = rec.template; fields = (values_are ∙ same) i }

-- the numbers behind the addresses, out of the octets at the place of each
abbrev fields_taken : ℕ → ℕ → ℕ → ℕ → List ℕ → FlowFields
fields_taken version source destination place octets = record {
  part = record {
    key = record {
      version = version;
      source = source;
      destination = destination;
      protocol = number_taken (place + 4) 1 octets;
      source_port = number_taken place 2 octets;
      destination_port = number_taken (place + 2) 2 octets;
    };
    packets = number_taken (place + 7) 8 octets;
    octets = number_taken (place + 15) 8 octets;
    first = number_taken (place + 23) 8 octets;
    last = number_taken (place + 31) 8 octets;
    flags = number_taken (place + 5) 2 octets;
  };
  reason = number_taken (place + 39) 1 octets;
}

fields_behind-taken : (version source source' destination destination' place : ℕ) (octets : List ℕ)
    → place + 5 + counts_length ≤ length octets → source ≡ source' → destination ≡ destination'
    → fields_behind version source destination place octets
    ≡ fields_taken version source' destination' place octets
fields_behind-taken version source source' destination destination' place octets long source_is destination_is =
    let protocol = number_at-taken (place + 4) 1 octets (omega arith) in
    let source_port = number_at-taken place 2 octets (omega arith) in
    let destination_port = number_at-taken (place + 2) 2 octets (omega arith) in
    let packets = number_at-taken (place + 7) 8 octets (omega arith) in
    let count = number_at-taken (place + 15) 8 octets (omega arith) in
    let first = number_at-taken (place + 23) 8 octets (omega arith) in
    let last = number_at-taken (place + 31) 8 octets (omega arith) in
    let flags = number_at-taken (place + 5) 2 octets (omega arith) in
    let reason = number_at-taken (place + 39) 1 octets (omega arith) in
    λ i. record {
      part = record {
        key = record {
          version = version;
          source = source_is i;
          destination = destination_is i;
          protocol = protocol i;
          source_port = source_port i;
          destination_port = destination_port i;
        };
        packets = packets i;
        octets = count i;
        first = first i;
        last = last i;
        flags = flags i;
      };
      reason = reason i;
    }

-- they are the numbers in the values of the data record
fields_in-v4 : (octets : List ℕ) → v4_record_length ≤ length octets
    → fields_behind 4 (number_at 0 4 octets) (number_at 4 4 octets) 8 octets
    ≡ fields_in 4 source_ipv4_address destination_ipv4_address (values_at 0 v4_fields octets)
fields_in-v4 octets long =
    fields_behind-taken 4 (number_at 0 4 octets) (number_taken 0 4 octets) (number_at 4 4 octets)
    (number_taken 4 4 octets) 8 octets (omega arith) (number_at-taken 0 4 octets (omega arith))
    (number_at-taken 4 4 octets (omega arith))

fields_in-v6 : (octets : List ℕ) → v6_record_length ≤ length octets
    → fields_behind 6 (number_at 0 16 octets) (number_at 16 16 octets) 32 octets
    ≡ fields_in 6 source_ipv6_address destination_ipv6_address (values_at 0 v6_fields octets)
fields_in-v6 octets long =
    fields_behind-taken 6 (number_at 0 16 octets) (number_taken 0 16 octets) (number_at 16 16 octets)
    (number_taken 16 16 octets) 32 octets (omega arith) (number_at-taken 0 16 octets (omega arith))
    (number_at-taken 16 16 octets (omega arith))

-- the flow record with these numbers is that of the data record
pub flow-octets_v4 : (rec : FlowOctets) (shown : FlowFields) (answer : Option FlowRecord) → rec.flow ≡ V4
    → shown ≡ fields_behind 4 (number_at 0 4 rec.octets.now) (number_at 4 4 rec.octets.now) 8 rec.octets.now
    → IsFlowWith shown answer → answer ≡ flow (record_of rec)
unfolding record_of
flow-octets_v4 rec shown answer is shown_is answers =
    let octets = rec.octets.now in
    let long : length octets ≡ v4_record_length = rec.whole ∙ ap flow_record_length is in
    let inside : v4_record_length ≤ length octets = omega arith in
    rw is
    (flow-v4 (record { domain = rec.domain; template = rec.template; fields = values_at 0 v4_fields octets })
    (values_at 0 v4_fields octets) shown answer refl (are_values_of-at 0 v4_fields octets inside)
    (shown_is ∙ fields_in-v4 octets inside) answers)

pub flow-octets_v6 : (rec : FlowOctets) (shown : FlowFields) (answer : Option FlowRecord) → rec.flow ≡ V6
    → shown ≡ fields_behind 6 (number_at 0 16 rec.octets.now) (number_at 16 16 rec.octets.now) 32 rec.octets.now
    → IsFlowWith shown answer → answer ≡ flow (record_of rec)
unfolding record_of
flow-octets_v6 rec shown answer is shown_is answers =
    let octets = rec.octets.now in
    let long : length octets ≡ v6_record_length = rec.whole ∙ ap flow_record_length is in
    let inside : v6_record_length ≤ length octets = omega arith in
    rw is
    (flow-v6 (record { domain = rec.domain; template = rec.template; fields = values_at 0 v6_fields octets })
    (values_at 0 v6_fields octets) shown answer refl refl (are_values_of-at 0 v6_fields octets inside)
    (shown_is ∙ fields_in-v6 octets inside) answers)
