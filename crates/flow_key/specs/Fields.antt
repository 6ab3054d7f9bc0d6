-- The six fields of a key as plain numbers, and the key that has them.
use Rattle.std.specs.Prelude.{◌≡◌, ◌≢◌, ℕ, ◌<◌, ◌^◌, ◌/◌, ◌%◌, ◌*◌, ◌+◌, List, Option, MatchOption, slice_index}
use Rattle.flow_key.specs.declared.key.FlowKey.{FlowKey}

-- Six numbers in the places of a key's fields.
pub record KeyFields : Type 0 where
  pub version : ℕ
  pub source : ℕ
  pub destination : ℕ
  pub protocol : ℕ
  pub source_port : ℕ
  pub destination_port : ℕ

-- The fields that a key has.
abbrev pub fields_of : FlowKey → KeyFields
fields_of key = record {
  version = key.version;
  source = key.source;
  destination = key.destination;
  protocol = key.protocol;
  source_port = key.source_port;
  destination_port = key.destination_port;
}

-- The numbers fit the fields of a key: the version is 4 or 6, addresses of version 4 have 32 bits (RFC 791), and
-- others 128 (RFC 8200), the protocol has 8 bits and each port 16.
pub record AreFit (fields : KeyFields) : Type 0 where
  pub known : fields.version ≢ 4 → fields.version ≡ 6
  pub narrow : fields.version ≡ 4 → (fields.source < 2 ^ 32) × (fields.destination < 2 ^ 32)
  pub sized : (fields.source < 2 ^ 128) × (fields.destination < 2 ^ 128)
      × (fields.protocol < 2 ^ 8) × (fields.source_port < 2 ^ 16) × (fields.destination_port < 2 ^ 16)

-- The answer to six numbers: the key that has them as its fields, and none where they don't fit.
abbrev pub IsKeyOf : KeyFields → Option FlowKey → Type 0
IsKeyOf fields answer = MatchOption answer (¬ AreFit fields) (λ key. fields_of key ≡ fields)

-- The numbers that five words hold in the places of a key's fields.
abbrev pub fields_in : List ℕ → KeyFields
fields_in words = record {
  version = slice_index words 0 / 2 ^ 40;
  source = slice_index words 1 * 2 ^ 64 + slice_index words 2;
  destination = slice_index words 3 * 2 ^ 64 + slice_index words 4;
  protocol = slice_index words 0 / 2 ^ 32 % 2 ^ 8;
  source_port = slice_index words 0 / 2 ^ 16 % 2 ^ 16;
  destination_port = slice_index words 0 % 2 ^ 16;
}
