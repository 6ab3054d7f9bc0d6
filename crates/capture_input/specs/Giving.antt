-- How far a capture was read part by part.
use Rattle.std.specs.Prelude.{◌≡◌, ℕ, ◌+◌, ◌-◌, ◌<◌, ◌≤◌, ◌^◌, List, ◌++◌, length, drop, true, cond, Some, None}
use Rattle.std.specs.declared.option.Option.{Option}
use Rattle.std.specs.Io.KnownBytes.{Consumes, IsAtEnd}
use Rattle.pcap_reader.specs.File.{CaptureFile, capture_file, IsKnownLink}
use Rattle.pcap_reader.specs.Records.{records_of, rest_of, damage_of, tail_of}
use Rattle.pcap_reader.specs.Views.{part_of}
use Rattle.pcap_reader.specs.declared.head.Head.{Head}
use Rattle.packet_accept.specs.Packets.{answers_of}
use Rattle.capture_input.specs.declared.reading.Reading.{Reading}
use Rattle.capture_input.specs.Parts.{Answer}
use Rattle.capture_input.specs.Places.{IsSound, IsAt}

-- The part that was read last, and how many records stand before it.
abbrev pub part_in : Reading → CaptureFile
part_in reading = part_of reading.head reading.input.window.bytes

abbrev pub base_in : Reading → ℕ
base_in reading = reading.base

abbrev pub head_in : Reading → Head
head_in reading = reading.head

-- The size of its window: the most bytes that it can have.
abbrev pub size_in : Reading → ℕ
size_in reading = reading.input.window.size

-- The part is the last one.
abbrev pub IsLast : Reading → Type 0
IsLast reading = reading.input.ended ≡ true

-- How much can still be read: a number that falls with each part.
abbrev pub left_in : Reading → ℕ
left_in reading = reading.input.limit - reading.input.taken + cond reading.input.ended 0 1

-- So far the source gave a beginning of an undamaged capture, of at most `limit` bytes; `before` is what it had left at
-- first. `answers` are those to the records of that beginning, all of which were given in parts. The window has what is
-- left behind these records, from `next` on; the next part begins with it.
pub record HasGiven (before left : Option (List ℕ)) (limit : ℕ) (reading : Reading) (answers : List Answer)
    : Type 0 where
  pub file : CaptureFile
  pub are : answers ≡ answers_of file
  pub given : Consumes before left file.bytes
  pub sound : IsSound reading.head file
  pub known : IsKnownLink file.link
  pub low : reading.next ≤ length reading.input.window.bytes
  pub rest : drop reading.next reading.input.window.bytes ≡ rest_of file
  pub count : reading.input.taken ≡ length file.bytes
  pub limit_is : reading.input.limit ≡ limit
  pub within : reading.input.taken ≤ limit
  pub small : limit ≤ 2 ^ 30
  pub short : length (rest_of file) < reading.input.window.size
  pub fits : length reading.input.window.bytes ≤ reading.input.window.size
  pub large : 262184 ≤ reading.input.window.size
  pub ended : reading.input.ended ≡ true → IsAtEnd left
  pub records : reading.base + reading.count ≡ length (records_of file)

-- The same, where the window was filled again: it begins with what was left, and more bytes stand behind that.
pub record HasFilled (before left : Option (List ℕ)) (limit : ℕ) (reading : Reading) (answers : List Answer)
    : Type 0 where
  pub file : CaptureFile
  pub more : List ℕ
  pub are : answers ≡ answers_of file
  pub given : Consumes before left (file.bytes ++ more)
  pub at : IsAt reading.head reading.input.window.bytes 0 reading.input.taken file more
  pub limit_is : reading.input.limit ≡ limit
  pub within : reading.input.taken ≤ limit
  pub small : limit ≤ 2 ^ 30
  pub fits : length reading.input.window.bytes ≤ reading.input.window.size
  pub large : 262184 ≤ reading.input.window.size
  pub ended : reading.input.ended ≡ true → IsAtEnd left
  pub records : reading.base + reading.count ≡ length (records_of file)

-- The source gave an undamaged capture of at most `limit` bytes, and has nothing left. `answers` are those to its
-- records, and `tail` bytes are left behind the last of them.
pub record IsReadWhole (before left : Option (List ℕ)) (limit : ℕ) (answers : List Answer) (tail : ℕ) : Type 0 where
  pub file : CaptureFile
  pub given : Consumes before left file.bytes
  pub ended : IsAtEnd left
  pub within : length file.bytes ≤ limit
  pub is_file : capture_file file.bytes ≡ Some file
  pub known : IsKnownLink file.link
  pub undamaged : damage_of file ≡ None
  pub are : answers ≡ answers_of file
  pub tail_is : tail ≡ tail_of file
