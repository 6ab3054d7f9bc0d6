-- The message of the first records, and how long it is.
use Rattle.std.proofs.Common.{◌≡◌, ◌≤◌, ◌-◌, length, take}
use Rattle.ipfix_writer.specs.Layout.{length_in}
use Rattle.ipfix_writer.specs.Emitting.{last_template}
use Rattle.ipfix_writer.proofs.messages.first_message.Given as goal

abbrev pub invariant-loop-count : goal.invariant-loop-count
invariant-loop-count g l = record {
  within : l.count ≤ length l.records;
  exact : l.filled ≡ length_in g.R.Encode.encode (take l.count l.records);
  fits : l.filled ≤ l.size;
  last : l.last ≡ last_template g.R.Encode.encode (take l.count l.records);
}

abbrev pub decreases-loop-count : goal.decreases-loop-count
decreases-loop-count g l = length l.records - l.count
