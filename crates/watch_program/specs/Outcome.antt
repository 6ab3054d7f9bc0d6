-- What the status of a run means, for each command line.
use Rattle.std.specs.Prelude.{ℕ, ◌≡◌, ◌⊎◌, ◌≤◌, ◌^◌, List, length, Option, Some, None, All, ⊤}
use Rattle.meter_io.specs.Sides.{Side, HasFailed, IsUntouched, IsRead, IsTooLarge, IsBroken, IsWrong, HasTaken}
use Rattle.meter_io.specs.Sides.{HasBegun}
use Rattle.pcap_reader.specs.File.{CaptureFile, IsCaptureOf, capture_file, IsKnownLink}
use Rattle.pcap_reader.specs.Records.{damage_of}
use Rattle.packet_accept.specs.Packets.{packets_of}
use Rattle.capture_tally.specs.Tallies.{octets_of}
use Rattle.watch_program.specs.declared.answer.Answer.{Answer}
use Rattle.watch_program.specs.declared.status.WatchStatus.{WatchStatus}
use Rattle.watch_program.specs.declared.status.WatchStatus.TheVariants.{Done, ReadFault, Usage, WriteFault, NotCapture}
use Rattle.watch_program.specs.declared.status.WatchStatus.TheVariants.{LinkUnknown, Damaged, TooLarge, NoMemory}
use Rattle.watch_program.specs.Answers.{IsSound, AreAnswers, asked_keys, count_of}
use Rattle.watch_program.specs.Lines.{text_of}
use Rattle.watch_program.specs.Words.{Asked}

-- The most bytes that a capture may have.
abbrev pub limit : ℕ
limit = 2 ^ 30

-- The bytes are an undamaged capture. What is written is a line for each ask, or none where the capture has no accepted
-- packet, and then the number and the octets of its accepted packets. Ask k, counted from 0, is for the key of accepted
-- packet k, modulo the number of accepted packets. A flow that was held has this key and is that of some of the
-- accepted packets, which are a heap of it. It has at least one packet, and its first time isn't after its last.
pub record IsWatched (asks : ℕ) (capture written : List ℕ) : Type 0 where
  pub file : CaptureFile
  pub is_file : capture_file capture ≡ Some file
  pub known : IsKnownLink file.link
  pub undamaged : damage_of file ≡ None
  pub answers : List Answer
  pub many : length answers ≡ count_of asks (packets_of file)
  pub sound : All IsSound answers
  pub answered : AreAnswers (packets_of file) (asked_keys asks (packets_of file)) answers
  pub text : written ≡ text_of answers (length (packets_of file)) (octets_of (packets_of file))

-- All was done: the input was read to its end, and the output took the answer to it.
pub record IsDone (asked : Asked) (input output : Side) : Type 0 where
  pub bytes : List ℕ
  pub read : IsRead input limit bytes
  pub written : List ℕ
  pub answer : IsWatched asked.asks bytes written
  pub taken : HasTaken output written

-- A write failed: the input was read to its end, and the output took a beginning of the answer.
pub record IsCutOff (asked : Asked) (input output : Side) : Type 0 where
  pub bytes : List ℕ
  pub read : IsRead input limit bytes
  pub written : List ℕ
  pub answer : IsWatched asked.asks bytes written
  pub begun : HasBegun output written
  pub cause : HasFailed output

-- Why bytes are refused with each status; where this is `⊥`, they are never refused with that status.
abbrev pub BytesRefuse : List ℕ → WatchStatus → Type 0
BytesRefuse bytes NotCapture = capture_file bytes ≡ None
BytesRefuse bytes (LinkUnknown link) = IsCaptureOf (λ file. (file.link ≡ link) × ¬ IsKnownLink link) bytes
BytesRefuse bytes (Damaged at) = IsCaptureOf (λ file. IsKnownLink file.link × (damage_of file ≡ Some at)) bytes
BytesRefuse bytes NoMemory = ⊤
BytesRefuse bytes ReadFault = ⊥
BytesRefuse bytes TooLarge = ⊥
BytesRefuse bytes Usage = ⊥
BytesRefuse bytes Done = ⊥
BytesRefuse bytes WriteFault = ⊥

-- Why a command refuses with each status; where this is `⊥`, a command never refuses with that status.
abbrev pub Refuses : Side → WatchStatus → Type 0
Refuses input ReadFault = IsBroken input limit
Refuses input TooLarge = IsTooLarge input limit
Refuses input NotCapture = IsWrong input limit (λ bytes. BytesRefuse bytes NotCapture)
Refuses input (LinkUnknown link) = IsWrong input limit (λ bytes. BytesRefuse bytes (LinkUnknown link))
Refuses input (Damaged at) = IsWrong input limit (λ bytes. BytesRefuse bytes (Damaged at))
Refuses input NoMemory = ⊤
Refuses input Usage = ⊥
Refuses input Done = ⊥
Refuses input WriteFault = ⊥

-- The command refused: it has a cause, and wrote nothing.
pub record IsRefused (input output : Side) (status : WatchStatus) : Type 0 where
  pub cause : Refuses input status
  pub unwritten : IsUntouched output

-- How a command ends, by its status.
abbrev pub Ends : Asked → Side → Side → WatchStatus → Type 0
Ends asked input output Done = IsDone asked input output
Ends asked input output WriteFault = IsCutOff asked input output
Ends asked input output ReadFault = IsRefused input output ReadFault
Ends asked input output Usage = IsRefused input output Usage
Ends asked input output NotCapture = IsRefused input output NotCapture
Ends asked input output (LinkUnknown link) = IsRefused input output (LinkUnknown link)
Ends asked input output (Damaged at) = IsRefused input output (Damaged at)
Ends asked input output TooLarge = IsRefused input output TooLarge
Ends asked input output NoMemory = IsRefused input output NoMemory

-- The words are no command, and the run says so or runs out of memory: nothing is read and nothing is written.
pub record IsUsage (input output : Side) (status : WatchStatus) : Type 0 where
  pub usage : (status ≡ Usage) ⊎ (status ≡ NoMemory)
  pub unread : IsUntouched input
  pub unwritten : IsUntouched output

-- What the status of a run means: the words are no command, or they ask for a watch.
abbrev pub RunMeans : Option Asked → Side → Side → WatchStatus → Type 0
RunMeans None input output status = IsUsage input output status
RunMeans (Some asked) input output status = Ends asked input output status

-- The bytes are an undamaged capture of a known link type, no longer than the limit.
abbrev pub IsValid : List ℕ → Type 0
IsValid bytes = (length bytes ≤ limit) × IsCaptureOf (λ file. IsKnownLink file.link × (damage_of file ≡ None)) bytes

-- A command whose input is such a capture is done, or runs out of memory, where no call on the input or the output
-- failed.
abbrev pub IsComplete : Option Asked → Side → Side → WatchStatus → Type 0
IsComplete words input output status =
    (asked : Asked) (bytes : List ℕ) → words ≡ Some asked → input.before ≡ Some bytes → IsValid bytes
    → ¬ HasFailed input → ¬ HasFailed output → (status ≡ Done) ⊎ (status ≡ NoMemory)
