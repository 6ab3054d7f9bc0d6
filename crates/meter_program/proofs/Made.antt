-- A made capture is a file header and whole records: an undamaged capture of raw IP.
use Rattle.std.proofs.Common.{◌≡◌, ◌≤◌, ◌^◌, ℕ, zero, suc, false, List, [], ◌∷◌, ◌++◌, length, take, Some, None, refl}
use Rattle.std.proofs.Common.{sym, ap, subst, ◌∙◌, append-nil, arith, inl, inr}
use Rattle.std.specs.Prelude.{◌%◌, nat_lt, IsSomeAnd}
use Rattle.std.specs.List.{concat, AllByRecursion}
use Rattle.std.proofs.lemmas.List.{length-append}
use Rattle.std.proofs.lemmas.Bool.Decides.{nat_tests}
use Rattle.octets.specs.declared.endianness.Endianness.TheVariants.{Little}
use Rattle.octets.specs.Numbers.{number, ordered_octets}
use Rattle.pcap_reader.specs.File.{CaptureFile, capture_file, IsKnownLink}
use Rattle.pcap_reader.specs.Records.{claimed_len, begins_with_record, begins_with_damage, parts_of, rest_of, damage_of}
use Rattle.pcap_reader.specs.Records.{IsRecord, IsCutInto, IsOnlyCut}
use Rattle.pcap_reader.proofs.Cutting.{file_is_cut_once}
use Rattle.pcap_reader.proofs.OneKind.{both-kinds}
use Rattle.capture_maker.specs.Draws.{state_behind, number_of}
use Rattle.capture_maker.specs.Made.{file_header, packet_record, packets_from, capture_of}
use Rattle.meter_io.specs.Sides.{Side, HasFailed}
use Rattle.meter_io.proofs.Sides.{large-fails, wrong-fails}
use Rattle.meter_program.specs.declared.status.Status.{Status}
use Rattle.meter_program.specs.declared.status.Status.TheVariants.{Done, ReadFault, WriteFault, NotCapture, LinkUnknown}
use Rattle.meter_program.specs.declared.status.Status.TheVariants.{Damaged, TooLarge, NoMemory, Usage, NotStream}
use Rattle.meter_program.specs.declared.status.Status.TheVariants.{BadSchedule}
use Rattle.meter_program.specs.Outcome.{MeterRefuses}

claim : (place payload key : ℕ) → claimed_len Little (packet_record place payload key) ≡ 28
unfolding ordered_octets number
claim place payload key = refl

long : (place payload key : ℕ) → length (packet_record place payload key) ≡ 44
unfolding ordered_octets
long place payload key = refl

is-record : (place payload key : ℕ) → IsRecord Little (packet_record place payload key)
is-record place payload key =
    let claims = claim place payload key in let longs = long place payload key in
    record { header = omega (arith, longs); small = omega (arith, claims); whole = omega (arith, claims, longs) }

-- the records of packets from a number on
unfoldable pub made-parts : ℕ → ℕ → ℕ → ℕ → List (List ℕ)
made-parts keys state place zero = []
made-parts keys state place (suc count) =
    packet_record place (number_of (state_behind state) % 1000) (number_of (state_behind (state_behind state)) % keys)
    ∷ made-parts keys (state_behind (state_behind state)) (suc place) count

parts-together : (keys state place count : ℕ)
    → packets_from keys state place count ≡ concat (made-parts keys state place count)
unfolding packets_from made-parts
parts-together keys state place zero = refl
parts-together keys state place (suc count) =
    ap (λ (rest : List ℕ). packet_record place (number_of (state_behind state) % 1000)
    (number_of (state_behind (state_behind state)) % keys) ++ rest)
    (parts-together keys (state_behind (state_behind state)) (suc place) count)

parts-are-records : (keys state place count : ℕ) → AllByRecursion (IsRecord Little) (made-parts keys state place count)
unfolding made-parts
parts-are-records keys state place zero = tt
parts-are-records keys state place (suc count) = (
  is-record place (number_of (state_behind state) % 1000) (number_of (state_behind (state_behind state)) % keys),
  parts-are-records keys (state_behind (state_behind state)) (suc place) count,
)

abbrev pub made_file : ℕ → ℕ → ℕ → CaptureFile
made_file seed packets keys =
    record { bytes = capture_of seed packets keys; start = 24; order = Little; nanos = false; link = 101 }

header-length : length file_header ≡ 24
unfolding ordered_octets
header-length = refl

header-long : (rest : List ℕ) → nat_lt (length (file_header ++ rest)) 24 ≡ false
header-long rest = let longs = length-append file_header rest in let header = header-length in grind (arith, nat_tests)

pub made-is_file : (seed packets keys : ℕ)
    → capture_file (capture_of seed packets keys) ≡ Some (made_file seed packets keys)
unfolding capture_file number ordered_octets
made-is_file seed packets keys = rw (header-long (packets_from keys seed 0 packets)) refl

nothing-begins : begins_with_record Little [] ≡ false
unfolding begins_with_record
nothing-begins = refl

nothing-damaged : begins_with_damage Little [] ≡ false
unfolding begins_with_damage
nothing-damaged = refl

front-is : (rest : List ℕ) → take 24 (file_header ++ rest) ≡ file_header
unfolding ordered_octets
front-is rest = refl

made-cut : (seed packets keys : ℕ) → IsCutInto (made_file seed packets keys) (made-parts keys seed 0 packets) []
made-cut seed packets keys = record {
  together = ap (λ (rest : List ℕ). file_header ++ rest)
      (parts-together keys seed 0 packets ∙ sym (append-nil (concat (made-parts keys seed 0 packets))))
      ∙ ap (λ (front : List ℕ). front ++ (concat (made-parts keys seed 0 packets) ++ []))
      (sym (front-is (packets_from keys seed 0 packets)));
  records = parts-are-records keys seed 0 packets;
  ended = nothing-begins;
}

made-cut_once : (seed packets keys : ℕ) → IsOnlyCut (made_file seed packets keys)
    (parts_of (made_file seed packets keys)) (rest_of (made_file seed packets keys))
made-cut_once seed packets keys =
    file_is_cut_once (made_file seed packets keys)
    (omega (arith, header-length, length-append file_header (packets_from keys seed 0 packets)))

-- its records are those of its packets, and nothing is left behind them
pub made-parts_are : (seed packets keys : ℕ) → parts_of (made_file seed packets keys) ≡ made-parts keys seed 0 packets
made-parts_are seed packets keys =
    sym ((made-cut_once seed packets keys).only (made-parts keys seed 0 packets) [] (made-cut seed packets keys)).0

made-rest : (seed packets keys : ℕ) → rest_of (made_file seed packets keys) ≡ []
made-rest seed packets keys =
    sym ((made-cut_once seed packets keys).only (made-parts keys seed 0 packets) [] (made-cut seed packets keys)).1

made-undamaged : (seed packets keys : ℕ) → damage_of (made_file seed packets keys) ≡ None
made-undamaged seed packets keys = rw (made-rest seed packets keys, nothing-damaged) refl

-- an undamaged capture of a link type that is read
made-valid : (seed packets keys : ℕ) → IsSomeAnd (capture_file (capture_of seed packets keys))
    (λ file. IsKnownLink file.link × (damage_of file ≡ None))
made-valid seed packets keys =
    subst (λ o. IsSomeAnd o (λ file. IsKnownLink file.link × (damage_of file ≡ None)))
    (sym (made-is_file seed packets keys))
    (inr (inl refl), made-undamaged seed packets keys)

-- a source that gives it and doesn't fail is refused only where memory is out
pub refused-for-memory : (seed packets keys : ℕ) (input : Side) (all : List ℕ) (status : Status)
    → input.before ≡ Some all
    → all ≡ capture_of seed packets keys → length all ≤ 2 ^ 30 → (HasFailed input → ⊥) → MeterRefuses input status
    → status ≡ NoMemory
refused-for-memory seed packets keys input all NoMemory before made few quiet h = refl
refused-for-memory seed packets keys input all ReadFault before made few quiet h = absurd (quiet h.cause)
refused-for-memory seed packets keys input all TooLarge before made few quiet h =
    absurd (large-fails input (2 ^ 30) all before few h)
refused-for-memory seed packets keys input all NotCapture before made few quiet h =
    absurd (wrong-fails input (2 ^ 30) all _ before
    (λ none. subst (λ o. IsSomeAnd o (λ file. IsKnownLink file.link × (damage_of file ≡ None)))
    (ap capture_file (sym made) ∙ none) (made-valid seed packets keys)) h)
refused-for-memory seed packets keys input all (LinkUnknown link) before made few quiet h =
    absurd (wrong-fails input (2 ^ 30) all _ before
    (λ other. both-kinds (capture_file all) _ _
    (subst (λ b. IsSomeAnd (capture_file b) (λ file. IsKnownLink file.link × (damage_of file ≡ None))) (sym made)
    (made-valid seed packets keys)) other
    (λ file known unknown. unknown.1 (subst IsKnownLink unknown.0 known.0))) h)
refused-for-memory seed packets keys input all (Damaged at) before made few quiet h =
    absurd (wrong-fails input (2 ^ 30) all _ before
    (λ damaged. both-kinds (capture_file all) _ _
    (subst (λ b. IsSomeAnd (capture_file b) (λ file. IsKnownLink file.link × (damage_of file ≡ None))) (sym made)
    (made-valid seed packets keys)) damaged
    (λ file whole torn. let bad : None ≡ Some at = sym whole.1 ∙ torn.1 in absurd (cc))) h)
refused-for-memory seed packets keys input all Done before made few quiet h = absurd h
refused-for-memory seed packets keys input all WriteFault before made few quiet h = absurd h
refused-for-memory seed packets keys input all Usage before made few quiet h = absurd h
refused-for-memory seed packets keys input all (NotStream fault) before made few quiet h = absurd h
refused-for-memory seed packets keys input all (BadSchedule line) before made few quiet h = absurd h
