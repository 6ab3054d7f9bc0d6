-- What a run means, by its words and its status.
use Rattle.std.specs.Prelude.{ℕ, ◌≡◌, ◌⊎◌, ◌≤◌, ◌^◌, Bool, true, false, IsTrue, List, [], ◌∷◌, length, codes, Option}
use Rattle.std.specs.Prelude.{Some, None, IsSome, Ok, Err, ⊤}
use Rattle.std.specs.Str.{bytes_eq}
use Rattle.meter_io.specs.Sides.{Side, HasFailed, IsUntouched, IsRead, IsTooLarge, IsBroken, IsWrong, HasTaken}
use Rattle.meter_io.specs.Sides.{HasBegun}
use Rattle.pcap_reader.specs.File.{CaptureFile, capture_file}
use Rattle.pcap_reader.specs.Records.{damage_of, rest_of}
use Rattle.packet_accept.specs.Packets.{packets_of}
use Rattle.pcapng_reader.specs.declared.status.PngStatus.{PngStatus}
use Rattle.pcapng_reader.specs.declared.status.PngStatus.TheVariants.{Done, ReadFault, Usage, WriteFault, NotPcapng}
use Rattle.pcapng_reader.specs.declared.status.PngStatus.TheVariants.{BadBlock, TooLarge, NoMemory}
use Rattle.pcapng_reader.specs.Blocks.{file_order}
use Rattle.pcapng_reader.specs.Reading.{Found, found_in}
use Rattle.pcapng_reader.specs.Filtered.{packets_from, capture_of}

-- The one word of the command.
abbrev pub is_command : List (List ℕ) → Bool
is_command [] = false
is_command (word ∷ []) = bytes_eq word (codes "pcapng")
is_command (word ∷ (another ∷ words)) = false

-- The most bytes of an input.
abbrev pub limit : ℕ
limit = 2 ^ 30

-- The input is a file that tells these records, and what is written is their capture. That is a classic capture of raw
-- IP with nanoseconds and nothing behind its records, and its packets are those of the input, with the same numbers.
pub record IsAnswer (input written : List ℕ) : Type 0 where
  pub is_pcapng : IsSome (file_order input)
  pub found : Found
  pub told : found_in input ≡ Ok found
  pub octets : written ≡ capture_of found.records
  pub file : CaptureFile
  pub is_file : capture_file written ≡ Some file
  pub link : file.link ≡ 101
  pub nanos : file.nanos ≡ true
  pub undamaged : damage_of file ≡ None
  pub whole : rest_of file ≡ []
  pub packets : packets_of file ≡ packets_from 0 found.records

-- All was done: the input was read to its end, and the output took the answer to it.
pub record IsDone (input output : Side) : Type 0 where
  pub bytes : List ℕ
  pub read : IsRead input limit bytes
  pub written : List ℕ
  pub answer : IsAnswer bytes written
  pub taken : HasTaken output written

-- A write failed: the input was read to its end, and the output took a beginning of the answer.
pub record IsCutOff (input output : Side) : Type 0 where
  pub bytes : List ℕ
  pub read : IsRead input limit bytes
  pub written : List ℕ
  pub answer : IsAnswer bytes written
  pub begun : HasBegun output written
  pub cause : HasFailed output

-- What a refusal with this status means of the input. `Done` and `WriteFault` are no refusals.
abbrev pub Refuses : Side → PngStatus → Type 0
Refuses input ReadFault = IsBroken input limit
Refuses input TooLarge = IsTooLarge input limit
Refuses input NotPcapng = IsWrong input limit (λ bytes. file_order bytes ≡ None)
Refuses input (BadBlock at) = IsWrong input limit (λ bytes. IsSome (file_order bytes) × (found_in bytes ≡ Err at))
Refuses input NoMemory = ⊤
Refuses input Usage = IsUntouched input
Refuses input Done = ⊥
Refuses input WriteFault = ⊥

-- A run that refuses has a cause, and wrote nothing.
pub record IsRefused (input output : Side) (status : PngStatus) : Type 0 where
  pub cause : Refuses input status
  pub unwritten : IsUntouched output

-- How a run ends, by its status.
abbrev pub Ends : Side → Side → PngStatus → Type 0
Ends input output Done = IsDone input output
Ends input output WriteFault = IsCutOff input output
Ends input output ReadFault = IsRefused input output ReadFault
Ends input output Usage = IsRefused input output Usage
Ends input output NotPcapng = IsRefused input output NotPcapng
Ends input output (BadBlock at) = IsRefused input output (BadBlock at)
Ends input output TooLarge = IsRefused input output TooLarge
Ends input output NoMemory = IsRefused input output NoMemory

-- For the command's word and an input that is a file without a bad block, where no call failed, the run is done, or
-- memory is out.
abbrev pub IsComplete : List (List ℕ) → Side → Side → PngStatus → Type 0
IsComplete words input output status =
    (bytes : List ℕ) (found : Found) → IsTrue (is_command words) → input.before ≡ Some bytes → length bytes ≤ limit
    → IsSome (file_order bytes) → found_in bytes ≡ Ok found → ¬ HasFailed input → ¬ HasFailed output
    → (status ≡ Done) ⊎ (status ≡ NoMemory)
