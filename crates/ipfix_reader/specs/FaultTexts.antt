-- What is said of a fault of a stream.
use Rattle.std.specs.Prelude.{ℕ, List, ◌++◌, codes, decimal}
use Rattle.ipfix_reader.specs.declared.fault.StreamFault.{StreamFault}
use Rattle.ipfix_reader.specs.declared.fault.StreamFault.TheVariants.{Cut, BadVersion, BadLength, NoTemplate}
use Rattle.ipfix_reader.specs.declared.fault.StreamFault.TheVariants.{BadTemplate, BadPadding, BadSequence, Withdrawal}

-- Its kind and its offset.
abbrev pub stream_fault_text : StreamFault → List ℕ
stream_fault_text (Cut at) = codes "cut at " ++ decimal at
stream_fault_text (BadVersion at) = codes "version at " ++ decimal at
stream_fault_text (BadLength at) = codes "length at " ++ decimal at
stream_fault_text (NoTemplate at id) = codes "template " ++ decimal id ++ codes " at " ++ decimal at
stream_fault_text (BadTemplate at) = codes "bad template at " ++ decimal at
stream_fault_text (BadPadding at) = codes "padding at " ++ decimal at
stream_fault_text (BadSequence at) = codes "sequence at " ++ decimal at
stream_fault_text (Withdrawal at) = codes "withdrawal at " ++ decimal at
