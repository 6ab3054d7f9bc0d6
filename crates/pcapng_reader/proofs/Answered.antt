-- The capture of the records of an index is the answer.
use Rattle.std.proofs.Common.{ℕ, List, refl}
use Rattle.std.specs.Prelude.{IsSome}
use Rattle.octets.specs.Numbers.{AreOctets}
use Rattle.pcapng_reader.specs.declared.index.Place.{Place}
use Rattle.pcapng_reader.specs.Blocks.{file_order}
use Rattle.pcapng_reader.specs.Index.{IsIndexOf, records_at, found_at}
use Rattle.pcapng_reader.specs.Filtered.{capture_of}
use Rattle.pcapng_reader.specs.Outcome.{IsAnswer}
use Rattle.pcapng_reader.proofs.Fitting.{records-fit}
use Rattle.pcapng_reader.proofs.Written.{written_file, written-is_file, written-rest, written-undamaged}
use Rattle.pcapng_reader.proofs.Written.{written-packets}

pub answer-is : (bytes : List ℕ) (places : List Place) → IsSome (file_order bytes) → AreOctets bytes
    → IsIndexOf places bytes
    → IsAnswer bytes (capture_of (records_at bytes places))
answer-is bytes places opened each index =
    let records = records_at bytes places in
    let fits = records-fit bytes places each index.whole in
    record {
      is_pcapng = opened;
      found = found_at bytes index.interfaces places;
      told = index.found;
      octets = refl;
      file = written_file records;
      is_file = written-is_file records;
      link = refl;
      nanos = refl;
      undamaged = written-undamaged records fits;
      whole = written-rest records fits;
      packets = written-packets records fits;
    }
