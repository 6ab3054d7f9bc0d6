-- The fields of a fragment as plain numbers, and the fragment that has them.
use Rattle.std.specs.Prelude.{◌≡◌, ℕ, ◌<◌, ◌≤◌, ◌^◌, List, Option, MatchOption, slice_index}
use Rattle.flow_key.specs.Fields.{KeyFields, fields_of, fields_in, AreFit}
use Rattle.flow_parts.specs.declared.fragment.Fragment.{Fragment}

-- Numbers in the places of a fragment's fields.
pub record PartFields : Type 0 where
  pub key : KeyFields
  pub packets : ℕ
  pub octets : ℕ
  pub first : ℕ
  pub last : ℕ
  pub flags : ℕ

-- The fields that a fragment has.
abbrev pub part_fields : Fragment → PartFields
part_fields f = record {
  key = fields_of f.key;
  packets = f.packets;
  octets = f.octets;
  first = f.first;
  last = f.last;
  flags = f.flags;
}

-- The numbers behind the key fit a fragment: it has a packet, its first time isn't after its last, counts and times
-- have 64 bits and flags 16.
pub record AreCounts (fields : PartFields) : Type 0 where
  pub counted : 1 ≤ fields.packets
  pub spanned : fields.first ≤ fields.last
  pub sized : (fields.packets < 2 ^ 64) × (fields.octets < 2 ^ 64) × (fields.last < 2 ^ 64) × (fields.flags < 2 ^ 16)

-- The answer to such numbers: the fragment that has them as its fields, and none where the key's or the others don't
-- fit.
abbrev pub IsPartOf : PartFields → Option Fragment → Type 0
IsPartOf fields answer = MatchOption answer (¬ (AreFit fields.key × AreCounts fields)) (λ f. part_fields f ≡ fields)

-- The numbers that ten words hold in the places of a fragment's fields.
abbrev pub part_fields_in : List ℕ → PartFields
part_fields_in words = record {
  key = fields_in words;
  packets = slice_index words 5;
  octets = slice_index words 6;
  first = slice_index words 7;
  last = slice_index words 8;
  flags = slice_index words 9;
}
