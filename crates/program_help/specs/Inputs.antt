-- What an input is, by its first octets.
use Rattle.std.specs.Prelude.{ℕ, Bool, ◌||◌, ◌==◌, if◌then◌else◌, List, [], ◌∷◌}
use Rattle.std.specs.List.{starts_with}
use Rattle.program_help.specs.declared.input.InputKind.{InputKind}
use Rattle.program_help.specs.declared.input.InputKind.TheVariants.{Nothing, Capture, Pcapng, Stream, Gzip, Zstd, Xz, Bzip2, Unknown}

-- The octets begin with others.
abbrev pub begins_with : List ℕ → List ℕ → Bool
begins_with octets front = starts_with (λ x y. x == y) octets front

-- The magic numbers of a classic pcap file: of microseconds and of nanoseconds, in both orders of octets.
abbrev pub begins_capture : List ℕ → Bool
begins_capture first =
    begins_with first (0xd4 ∷ 0xc3 ∷ 0xb2 ∷ 0xa1 ∷ []) || begins_with first (0xa1 ∷ 0xb2 ∷ 0xc3 ∷ 0xd4 ∷ [])
    || begins_with first (0x4d ∷ 0x3c ∷ 0xb2 ∷ 0xa1 ∷ []) || begins_with first (0xa1 ∷ 0xb2 ∷ 0x3c ∷ 0x4d ∷ [])

-- An input that isn't empty, by the magic numbers of pcap, pcapng, an IPFIX message of version 10, gzip, zstd, xz and
-- bzip2.
abbrev pub kind_by : List ℕ → InputKind
kind_by first =
    if begins_capture first then Capture
    else if begins_with first (0x0a ∷ 0x0d ∷ 0x0d ∷ 0x0a ∷ []) then Pcapng
    else if begins_with first (0x00 ∷ 0x0a ∷ []) then Stream
    else if begins_with first (0x1f ∷ 0x8b ∷ []) then Gzip
    else if begins_with first (0x28 ∷ 0xb5 ∷ 0x2f ∷ 0xfd ∷ []) then Zstd
    else if begins_with first (0xfd ∷ 0x37 ∷ 0x7a ∷ 0x58 ∷ 0x5a ∷ 0x00 ∷ []) then Xz
    else if begins_with first (0x42 ∷ 0x5a ∷ 0x68 ∷ []) then Bzip2
    else Unknown

abbrev pub kind_of : List ℕ → InputKind
kind_of [] = Nothing
kind_of (first ∷ others) = kind_by (first ∷ others)
