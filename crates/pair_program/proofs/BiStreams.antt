-- A stream of biflows is read as these biflows.
use Rattle.std.proofs.Common.{◌≡◌, ◌<◌, ◌≤◌, ◌^◌, ℕ, Bool, true, false, List, [], ◌∷◌, ◌++◌, map, if◌then◌else◌, Option}
use Rattle.std.proofs.Common.{Some, None, Ok, option_map, refl, sym, ap, ◌∙◌, arith, lit<, eqb-true}
use Rattle.std.proofs.lemmas.Bool.{eqb-false}
use Rattle.std.proofs.lemmas.List.Elements.{All-head, All-tail}
use Rattle.std.specs.Option.{option_and_then}
use Rattle.std.specs.Result.{result_ok}
use Rattle.octets.specs.Numbers.{number_at}
use Rattle.flow_key.specs.Fields.{KeyFields, fields_of}
use Rattle.record_ledger.specs.declared.record.FlowRecord.{FlowRecord}
use Rattle.ipfix_model.specs.declared.fields.FieldSpec.{FieldSpec}
use Rattle.ipfix_model.specs.declared.values.DataRecord.{DataRecord}
use Rattle.ipfix_model.specs.Fields.{least_length}
use Rattle.ipfix_model.specs.Templates.{iana_field, reverse_field, reverse_fields, v4_template, v4_fields, v6_template}
use Rattle.ipfix_model.specs.Templates.{v6_fields, template_of, fields_of as template_fields_of, v4_bi_template}
use Rattle.ipfix_model.specs.Templates.{v4_bi_fields, v6_bi_template, v6_bi_fields, bi_template_of, bi_fields_of}
use Rattle.ipfix_model.specs.Values.{field_value, bi_field_value}
use Rattle.ipfix_model.specs.Sizes.{template_message_length, bi_template_message_length}
use Rattle.ipfix_writer.specs.Encoding.{template_record, field_specifier, data_record}
use Rattle.ipfix_reader.specs.Part.{Part}
use Rattle.ipfix_reader.specs.Known.{Templates, fields_in as known_fields, with_template}
use Rattle.ipfix_reader.specs.Specifiers.{template_fields}
use Rattle.ipfix_reader.specs.Records.{template_records}
use Rattle.ipfix_reader.specs.Messages.{decode}
use Rattle.ipfix_reader.specs.FlowFields.{FlowFields, flow_fields}
use Rattle.ipfix_reader.specs.FlowWith.{flow_with}
use Rattle.ipfix_reader.specs.Flows.{flow}
use Rattle.ipfix_reader.proofs.FlowFields.{flow_with-flow}
use Rattle.ipfix_reader.proofs.RecordSteps.{template_records-next, template_records-end}
use Rattle.ipfix_law.proofs.Values.{AreFixed, values_with, number_in-with}
use Rattle.ipfix_law.proofs.DataSets.{IsReadAs}
use Rattle.ipfix_law.proofs.Records.{IsReadBack, read_behind-flow, fields_in-v4, fields_in-v6, data_of, flow-data_of}
use Rattle.ipfix_law.proofs.Streams.{stream-decoded}
use Rattle.pair_program.specs.declared.biflow.Biflow.{Biflow}
use Rattle.pair_program.specs.BiLayout.{bi_record, encode_both, encode_biflow, bi_template_records, bi_template_message}
use Rattle.pair_program.specs.BiLayout.{IsBiLayout}
use Rattle.pair_program.specs.BiFlows.{reverse_of, reverse_fields_in, biflow_with, biflow, biflows_in, biflows_of}
use Rattle.pair_program.specs.BiLaws.{IsReverseOf, AreBiflows}
use Rattle.pair_program.specs.BiSizes.{is_v4}
use Rattle.pair_program.proofs.BiRecords.{length-bi_template_records}

-- the templates that the first message makes known
abbrev known : Templates
known =
    ((1, v4_template), v4_fields) ∷ ((1, v6_template), v6_fields) ∷ ((1, v4_bi_template), v4_bi_fields)
    ∷ ((1, v6_bi_template), v6_bi_fields) ∷ []

templates-read : template_records false 1 [] (record { at = 20; bytes = bi_template_records }) ≡ Ok known
unfolding template_record field_specifier template_fields number_at with_template
templates-read =
    let fourth : Part = record { at = 212; bytes = template_record v6_bi_template v6_bi_fields } in
    let third : Part =
    record {
      at = template_message_length;
      bytes = template_record v4_bi_template v4_bi_fields
          ++ template_record v6_bi_template v6_bi_fields;
    } in
    let second : Part =
    record {
      at = 68;
      bytes = template_record v6_template v6_fields
          ++ (template_record v4_bi_template v4_bi_fields ++ template_record v6_bi_template v6_bi_fields);
    } in
    template_records-next false 1 [] (record { at = 20; bytes = bi_template_records })
    (record { fields = v4_fields; rest = second }) (omega arith) refl
    ∙ template_records-next false 1 (((1, v4_template), v4_fields) ∷ []) second
    (record { fields = v6_fields; rest = third }) (omega arith) refl
    ∙ template_records-next false 1 (((1, v4_template), v4_fields) ∷ ((1, v6_template), v6_fields) ∷ []) third
    (record { fields = v4_bi_fields; rest = fourth }) (omega arith) refl
    ∙ template_records-next false 1 (((1, v4_template), v4_fields) ∷ ((1, v6_template), v6_fields)
    ∷ ((1, v4_bi_template), v4_bi_fields) ∷ []) fourth
    (record { fields = v6_bi_fields; rest = record { at = bi_template_message_length; bytes = [] } }) (omega arith) refl
    ∙ template_records-end false 1 known (record { at = bi_template_message_length; bytes = [] }) (omega arith)

-- the facts on the templates
abbrev template_for : Bool → Bool → ℕ
template_for both v4 = if both then (if v4 then v4_bi_template else v6_bi_template)
    else (if v4 then v4_template else v6_template)

abbrev fields_for : Bool → Bool → List FieldSpec
fields_for both v4 = if both then (if v4 then v4_bi_fields else v6_bi_fields) else (if v4 then v4_fields else v6_fields)

known-for : (both v4 : Bool) → known_fields known 1 (template_for both v4) ≡ Some (fields_for both v4)
unfolding known_fields
known-for true true = refl
known-for true false = refl
known-for false true = refl
known-for false false = refl

high-for : (both v4 : Bool) → 256 ≤ template_for both v4
high-for true true = omega arith
high-for true false = omega arith
high-for false true = omega arith
high-for false false = omega arith

low-for : (both v4 : Bool) → template_for both v4 < 2 ^ 16
low-for true true = omega arith
low-for true false = omega arith
low-for false true = omega arith
low-for false false = omega arith

least-for : (both v4 : Bool) → 0 < least_length (fields_for both v4)
least-for true true = lit< tt
least-for true false = lit< tt
least-for false true = lit< tt
least-for false false = lit< tt

fixed-for : (both v4 : Bool) → AreFixed (fields_for both v4)
fixed-for true true = (
  refl,
  (
    refl,
    (
      refl,
      (
        refl,
        (refl, (refl, (refl, (refl, (refl, (refl, (refl, (refl, (refl, (refl, (refl, (refl, (refl, tt))))))))))))),
      ),
    ),
  ),
)
fixed-for true false = (
  refl,
  (
    refl,
    (
      refl,
      (
        refl,
        (refl, (refl, (refl, (refl, (refl, (refl, (refl, (refl, (refl, (refl, (refl, (refl, (refl, tt))))))))))))),
      ),
    ),
  ),
)
fixed-for false true = (refl, (refl, (refl, (refl, (refl, (refl, (refl, (refl, (refl, (refl, (refl, tt)))))))))))
fixed-for false false = (refl, (refl, (refl, (refl, (refl, (refl, (refl, (refl, (refl, (refl, (refl, tt)))))))))))

-- the data record that a biflow is written as
abbrev read_both : FlowRecord → Option FlowRecord → DataRecord
read_both forward None = data_of forward
read_both forward (Some reverse) =
    record {
      domain = 1;
      template = bi_template_of forward;
      fields =
          values_with (bi_field_value forward reverse) (bi_fields_of forward);
    }

abbrev read_as : Biflow → DataRecord
read_as pair = read_both pair.forward pair.reverse

is_read_both : (forward : FlowRecord) (reverse : Option FlowRecord)
    → IsReadAs known (encode_both forward reverse) (read_both forward reverse)
unfolding template_of data_record bi_template_of bi_record
is_read_both forward None =
    let v4 = is_v4 forward in
    record {
      fields = template_fields_of forward;
      value = field_value forward;
      known = known-for false v4;
      high = high-for false v4;
      low = low-for false v4;
      some = least-for false v4;
      fixed = fixed-for false v4;
      bytes = refl;
      gives = refl;
    }
is_read_both forward (Some reverse) =
    let v4 = is_v4 forward in
    record {
      fields = bi_fields_of forward;
      value = bi_field_value forward reverse;
      known = known-for true v4;
      high = high-for true v4;
      low = low-for true v4;
      some = least-for true v4;
      fixed = fixed-for true v4;
      bytes = refl;
      gives = refl;
    }

-- the numbers of both flows are read back out of the values of both
back-forward : (f r : FlowRecord) → IsReadBack (bi_field_value f r) iana_field f
back-forward f r element long = number_in-with (bi_field_value f r) (iana_field element long)

back-reverse : (f r : FlowRecord) → IsReadBack (bi_field_value f r) reverse_field r
back-reverse f r element long = number_in-with (bi_field_value f r) (reverse_field element long)

-- those of the reverse flow stand behind the fields of the forward one
reverse_in : (f r : FlowRecord) (key : KeyFields) (v4 : Bool) → fields_of r.part.key ≡ reverse_of key
    → reverse_fields_in key (values_with (bi_field_value f r) (if v4 then v4_bi_fields else v6_bi_fields))
    ≡ flow_fields r
reverse_in f r key true is = read_behind-flow (bi_field_value f r) reverse_field r (reverse_of key) (back-reverse f r)
    (sym is)
reverse_in f r key false is = read_behind-flow (bi_field_value f r) reverse_field r (reverse_of key) (back-reverse f r)
    (sym is)

-- so the record is read as the biflow
biflow-both : (f r : FlowRecord) (key : FlowFields) (v4 : Bool) → key ≡ flow_fields f
    → fields_of r.part.key ≡ reverse_of (fields_of f.part.key)
    → biflow_with key (values_with (bi_field_value f r) (if v4 then v4_bi_fields else v6_bi_fields))
    ≡ Some (record { forward = f; reverse = Some r })
biflow-both f r key v4 forward_is reverse_is =
    let values = values_with (bi_field_value f r) (if v4 then v4_bi_fields else v6_bi_fields) in
    ap (λ k. biflow_with k values) forward_is
    ∙ ap (option_and_then (λ (x : FlowRecord). option_map (λ (y : FlowRecord). record { forward = x; reverse = Some y })
    (flow_with (reverse_fields_in (fields_of f.part.key) values)))) (flow_with-flow f)
    ∙ ap (option_map (λ (y : FlowRecord). record { forward = f; reverse = Some y }))
    (ap flow_with (reverse_in f r (fields_of f.part.key) v4 reverse_is) ∙ flow_with-flow r)

biflow-v4 : (f r : FlowRecord) (template : ℕ) → f.part.key.version ≡ 4
    → fields_of r.part.key ≡ reverse_of (fields_of f.part.key)
    → biflow (record { domain = 1; template = template; fields = values_with (bi_field_value f r) v4_bi_fields })
    ≡ Some (record { forward = f; reverse = Some r })
unfolding biflow
biflow-v4 f r template v4 is = biflow-both f r _ true
    (fields_in-v4 (bi_field_value f r) f reverse_fields (back-forward f r) v4) is

biflow-v6 : (f r : FlowRecord) (template : ℕ) → f.part.key.version ≡ 6
    → fields_of r.part.key ≡ reverse_of (fields_of f.part.key)
    → biflow (record { domain = 1; template = template; fields = values_with (bi_field_value f r) v6_bi_fields })
    ≡ Some (record { forward = f; reverse = Some r })
unfolding biflow
biflow-v6 f r template v6 is = biflow-both f r _ false
    (fields_in-v6 (bi_field_value f r) f reverse_fields (back-forward f r) v6) is

biflow-by : (f r : FlowRecord) (template : ℕ) (v4 : Bool) → is_v4 f ≡ v4
    → fields_of r.part.key ≡ reverse_of (fields_of f.part.key)
    → biflow (record {
      domain = 1;
      template = template;
      fields =
          values_with (bi_field_value f r) (if v4 then v4_bi_fields else v6_bi_fields);
    })
    ≡ Some (record { forward = f; reverse = Some r })
biflow-by f r template true v4 is = biflow-v4 f r template (eqb-true f.part.key.version 4 v4) is
biflow-by f r template false v4 is = biflow-v6 f r template (f.part.key.known (eqb-false f.part.key.version 4 v4)) is

-- a flow record alone is one without a reverse flow
biflow-alone : (f : FlowRecord) (template : ℕ) (v4 : Bool) → is_v4 f ≡ v4
    → flow (record {
      domain = 1;
      template = template;
      fields =
          values_with (field_value f) (if v4 then v4_fields else v6_fields);
    }) ≡ Some f
    → biflow (record {
      domain = 1;
      template = template;
      fields =
          values_with (field_value f) (if v4 then v4_fields else v6_fields);
    })
    ≡ Some (record { forward = f; reverse = None })
unfolding biflow
biflow-alone f template true v4 is = ap (option_map (λ (x : FlowRecord). record { forward = x; reverse = None })) is
biflow-alone f template false v4 is = ap (option_map (λ (x : FlowRecord). record { forward = x; reverse = None })) is

biflow-read_both : (forward : FlowRecord) (reverse : Option FlowRecord) → IsReverseOf forward reverse
    → biflow (read_both forward reverse) ≡ Some (record { forward = forward; reverse = reverse })
biflow-read_both forward None is = biflow-alone forward (template_of forward) (is_v4 forward) refl
    (flow-data_of forward)
biflow-read_both forward (Some reverse) is = biflow-by forward reverse (bi_template_of forward) (is_v4 forward) refl is

biflows_in-read_as : (pairs : List Biflow) → AreBiflows pairs → biflows_in (map read_as pairs) ≡ Some pairs
biflows_in-read_as [] valid = refl
biflows_in-read_as (pair ∷ pairs) valid =
    ap (option_and_then
    (λ (first : Biflow). option_map (λ (more : List Biflow). first ∷ more) (biflows_in (map read_as pairs))))
    (biflow-read_both pair.forward pair.reverse
    (All-head (λ (p : Biflow). IsReverseOf p.forward p.reverse) pair pairs valid))
    ∙ ap (option_map (λ (more : List Biflow). pair ∷ more))
    (biflows_in-read_as pairs (All-tail (λ (p : Biflow). IsReverseOf p.forward p.reverse) pair pairs valid))

bi_layout-decoded : (size time : ℕ) (pairs : List Biflow) (bytes : List ℕ) → size ≤ 65535
    → IsBiLayout size time pairs bytes
    → decode bytes ≡ Ok (map read_as pairs)
unfolding bi_template_message
bi_layout-decoded size time pairs bytes small layout =
    stream-decoded known encode_biflow read_as bi_template_records pairs bytes size time
    (λ pair. is_read_both pair.forward pair.reverse)
    (omega (arith, length-bi_template_records)) templates-read small layout

pub biflows-back : (size time : ℕ) (pairs : List Biflow) (bytes : List ℕ) → size ≤ 65535 → AreBiflows pairs
    → IsBiLayout size time pairs bytes
    → biflows_of bytes ≡ Some pairs
unfolding biflows_of
biflows-back size time pairs bytes small valid layout =
    ap (λ read. option_and_then biflows_in (result_ok read)) (bi_layout-decoded size time pairs bytes small layout)
    ∙ biflows_in-read_as pairs valid
