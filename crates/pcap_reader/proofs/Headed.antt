-- The file header of bytes with more behind them.
use Rattle.std.proofs.Common.{◌≡◌, ℕ, ◌+◌, ◌≤◌, true, false, Bool, List, ◌++◌, length, take, drop, Some, None, refl}
use Rattle.std.proofs.Common.{sym, ap, ◌∙◌, arith, inl, inr}
use Rattle.std.specs.Prelude.{Option, nat_lt, map, if◌then◌else◌}
use Rattle.std.specs.Option.{option_map, option_and_then}
use Rattle.std.proofs.lemmas.List.{length-append, length-take, take-append-drop}
use Rattle.std.proofs.lemmas.Bool.{cases_Bool}
use Rattle.std.proofs.lemmas.Bool.Decides.{nat_tests}
use Rattle.octets.specs.declared.endianness.Endianness.{Endianness}
use Rattle.octets.specs.declared.endianness.Endianness.TheVariants.{Big}
use Rattle.octets.specs.Numbers.{ordered_number_at}
use Rattle.octets.proofs.Reading.{number-drop-append}
use Rattle.pcap_reader.specs.File.{CaptureFile, capture_file, file_header_len, told_by_magic, is_version_2_4}
use Rattle.pcap_reader.specs.Parts.{grown_file, front_of, GrowsFromFront}
use Rattle.pcap_reader.specs.Records.{packet_record}
use Rattle.pcap_reader.proofs.InParts.{at_front}

-- the header's numbers are read from its own bytes
at-same : (order : Endianness) (place size : ℕ) (bytes more : List ℕ) → place + size ≤ length bytes
    → ordered_number_at order place size (bytes ++ more) ≡ ordered_number_at order place size bytes
at-same order place size bytes more within = number-drop-append order size place bytes more within

version-same : (order : Endianness) (bytes more : List ℕ) → 24 ≤ length bytes
    → is_version_2_4 order (bytes ++ more) ≡ is_version_2_4 order bytes
version-same order bytes more long =
    rw (at-same order 4 2 bytes more (omega arith), at-same order 6 2 bytes more (omega arith)) refl

-- what the version and the link type make of the magic number
abbrev told : List ℕ → Endianness × Bool → Option CaptureFile
told bytes m =
    if is_version_2_4 m.0 bytes
    then Some
    (record {
      bytes = bytes;
      start = file_header_len;
      order = m.0;
      nanos = m.1;
      link =
          ordered_number_at m.0 20 4 bytes;
    })
    else None

version-cases : (version : Bool) (file : CaptureFile) (more : List ℕ)
    → (if version then Some (grown_file file more) else None)
    ≡ option_map (λ (f : CaptureFile). grown_file f more) (if version then Some file else None)
version-cases true file more = refl
version-cases false file more = refl

magic-cases : (bytes more : List ℕ) (magic : Option (Endianness × Bool)) → 24 ≤ length bytes
    → option_and_then (told (bytes ++ more)) magic
    ≡ option_map (λ (f : CaptureFile). grown_file f more) (option_and_then (told bytes) magic)
magic-cases bytes more None long = refl
magic-cases bytes more (Some m) long =
    rw (version-same m.0 bytes more long, at-same m.0 20 4 bytes more (omega arith))
    (version-cases (is_version_2_4 m.0 bytes)
    (record {
      bytes = bytes;
      start = file_header_len;
      order = m.0;
      nanos = m.1;
      link =
          ordered_number_at m.0 20 4 bytes;
    }) more)

pub header_grown : (bytes more : List ℕ) → 24 ≤ length bytes
    → capture_file (bytes ++ more) ≡ option_map (λ (file : CaptureFile). grown_file file more) (capture_file bytes)
unfolding capture_file
header_grown bytes more long =
    let one : nat_lt (length bytes) file_header_len ≡ false = grind (arith, nat_tests) in
    let all = length-append bytes more in
    let two : nat_lt (length (bytes ++ more)) file_header_len ≡ false = grind (arith, nat_tests) in
    rw (one, two, at-same Big 0 4 bytes more (omega arith))
    (magic-cases bytes more (told_by_magic (ordered_number_at Big 0 4 bytes)) long)

-- what the bytes and the start of a capture file are
record Headed (bytes : List ℕ) (file : CaptureFile) : Type 0 where
  pub long : 24 ≤ length bytes
  pub bytes_are : file.bytes ≡ bytes
  pub start_is : file.start ≡ 24

version-told : (version : Bool) (made file : CaptureFile) → (if version then Some made else None) ≡ Some file
    → made ≡ file
version-told true made file is = cc
version-told false made file is = absurd cc

magic-told : (bytes : List ℕ) (magic : Option (Endianness × Bool)) (file : CaptureFile)
    → option_and_then (told bytes) magic ≡ Some file
    → (file.bytes ≡ bytes) × (file.start ≡ 24)
magic-told bytes None file is = absurd cc
magic-told bytes (Some m) file is =
    let same = version-told (is_version_2_4 m.0 bytes) _ file is in
    (sym (ap (λ (f : CaptureFile). f.bytes) same), sym (ap (λ (f : CaptureFile). f.start) same))

headed : (bytes : List ℕ) (file : CaptureFile) → capture_file bytes ≡ Some file → Headed bytes file
unfolding capture_file
headed bytes file is =
    elim (cases_Bool (nat_lt (length bytes) file_header_len)) [
      | inl short ↦ absurd (let e : None ≡ Some file = rw short at is in cc)
      | inr long ↦
          let e : option_and_then (told bytes) (told_by_magic (ordered_number_at Big 0 4 bytes)) ≡ Some file =
          rw long at is in
          let m = magic-told bytes (told_by_magic (ordered_number_at Big 0 4 bytes)) file e in
          record { long = grind (arith, nat_tests); bytes_are = m.0; start_is = m.1 }
    ]

-- a file that more bytes make of another
grown_file-back : (found : Option CaptureFile) (more : List ℕ) (file : CaptureFile)
    → Some file ≡ option_map (λ (f : CaptureFile). grown_file f more) found
    → (f : CaptureFile) × (found ≡ Some f) × (grown_file f more ≡ file)
grown_file-back None more file is = absurd cc
grown_file-back (Some f) more file is = (f, refl, cc)

pub grows_from_front : (bytes : List ℕ) (file : CaptureFile) → capture_file bytes ≡ Some file → GrowsFromFront file
grows_from_front bytes file is =
    let h = headed bytes file is in
    let first = take 24 bytes in
    let more = drop 24 bytes in
    let split : first ++ more ≡ bytes = take-append-drop 24 bytes in
    let long : 24 ≤ length first = omega (arith, h.long, length-take 24 bytes) in
    let found = grown_file-back (capture_file first) more file
    (sym is ∙ ap capture_file (sym split) ∙ header_grown first more long) in
    let f = found.0 in
    let his = headed first f found.1 in
    let within : file.start ≤ length file.bytes =
    (let a = h.start_is in let b = ap length h.bytes_are in omega (arith, a, b, h.long)) in
    let front = at_front file within in
    let same-bytes : f.bytes ≡ take file.start file.bytes =
    his.bytes_are ∙ ap (λ (k : ℕ). take k bytes) (sym h.start_is) ∙ ap (take file.start) (sym h.bytes_are) in
    let same : f ≡ front_of file =
    ap (λ (l : List ℕ). let x : CaptureFile =
    record { bytes = l; start = f.start; order = f.order; nanos = f.nanos; link = f.link } in x) same-bytes
    ∙ ap (λ (x : CaptureFile). let y : CaptureFile =
    record { bytes = take file.start file.bytes; start = x.start; order = x.order; nanos = x.nanos; link = x.link } in
    y) found.2 in
    let back : grown_file (front_of file) (drop file.start file.bytes) ≡ file =
    ap (λ (l : List ℕ). let x : CaptureFile =
    record { bytes = l; start = file.start; order = file.order; nanos = file.nanos; link = file.link } in x)
    (take-append-drop file.start file.bytes) in
    record {
      is_file = ap capture_file (sym same-bytes ∙ his.bytes_are) ∙ found.1 ∙ ap (λ (x : CaptureFile). Some x) same;
      long = front.long;
      whole = back;
      none = ap (map (packet_record file.order)) front.parts;
      rest = front.rest;
      sound = front.sound;
    }
