-- What reading gives: something read, or the first fault that is met.
use Rattle.std.specs.Prelude.{◌≡◌, Result, Err}
use Rattle.ipfix_reader.specs.declared.fault.StreamFault.{StreamFault}
use Rattle.ipfix_reader.specs.declared.fault.StreamError.{StreamError}
use Rattle.ipfix_reader.specs.declared.fault.StreamError.TheVariants.{Fault, NoMemory}

-- The error is the fault that reading gives, or out of memory.
abbrev pub IsFaultOf : {A : Type 0} → Result A StreamFault → StreamError → Type 0
IsFaultOf reading (Fault fault) = reading ≡ Err fault
IsFaultOf reading NoMemory = Unit {0}
