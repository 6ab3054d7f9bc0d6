-- The code's own: the numbers that it finds in the values or the octets of a record, as the fields of a flow record.
use Rattle.std.specs.Prelude.{ℕ, ◌+◌, List}
use Rattle.octets.specs.Numbers.{number_at}
use Rattle.ipfix_reader.specs.declared.flow.Numbers.{Numbers}
use Rattle.ipfix_reader.specs.FlowFields.{FlowFields}

abbrev pub numbers_shown : ℕ → Numbers → FlowFields
numbers_shown version numbers = record {
  part = record {
    key = record {
      version = version;
      source = numbers.source;
      destination = numbers.destination;
      protocol = numbers.protocol;
      source_port = numbers.source_port;
      destination_port = numbers.destination_port;
    };
    packets = numbers.packets;
    octets = numbers.octets;
    first = numbers.first;
    last = numbers.last;
    flags = numbers.flags;
  };
  reason = numbers.reason;
}

-- the numbers in the octets of a record, those of the fields behind the addresses from a place on
abbrev pub fields_behind : ℕ → ℕ → ℕ → ℕ → List ℕ → FlowFields
fields_behind version source destination place octets = record {
  part = record {
    key = record {
      version = version;
      source = source;
      destination = destination;
      protocol = number_at (place + 4) 1 octets;
      source_port = number_at place 2 octets;
      destination_port = number_at (place + 2) 2 octets;
    };
    packets = number_at (place + 7) 8 octets;
    octets = number_at (place + 15) 8 octets;
    first = number_at (place + 23) 8 octets;
    last = number_at (place + 31) 8 octets;
    flags = number_at (place + 5) 2 octets;
  };
  reason = number_at (place + 39) 1 octets;
}
