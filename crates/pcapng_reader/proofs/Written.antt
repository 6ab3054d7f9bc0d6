-- What is written reads back: the capture's records are the accepted ones, and its packets are theirs.
use Rattle.std.proofs.Common.{◌≡◌, ℕ, ◌+◌, ◌<◌, ◌≤◌, ◌^◌, true, false, List, [], ◌∷◌, ◌++◌, length, drop, Some, None}
use Rattle.std.proofs.Common.{refl, sym, ap, subst, ◌∙◌, append-nil, arith, inl, inr}
use Rattle.std.specs.Prelude.{Option, map, nat_lt}
use Rattle.std.specs.List.{concat, enumerate_from, cons_option, AllByRecursion}
use Rattle.std.proofs.lemmas.List.{length-append, drop-drop, drop_at}
use Rattle.std.proofs.lemmas.Bool.Decides.{nat_tests}
use Rattle.byteorder.specs.Numbers.{little_number-reads_back, length-bytes_low_first}
use Rattle.octets.specs.declared.endianness.Endianness.TheVariants.{Little}
use Rattle.octets.specs.Numbers.{number, ordered_octets}
use Rattle.pcap_reader.specs.File.{CaptureFile, capture_file}
use Rattle.pcap_reader.specs.Records.{PacketRecord, packet_record, claimed_len, begins_with_record, begins_with_damage}
use Rattle.pcap_reader.specs.Records.{parts_of, rest_of, records_of, damage_of, IsRecord, IsCutInto}
use Rattle.pcap_reader.proofs.Cutting.{file_is_cut_once}
use Rattle.packet_accept.specs.declared.packet.Packet.{Packet}
use Rattle.packet_accept.specs.Acceptance.{accepted_packet}
use Rattle.packet_accept.specs.Packets.{answer_to, packets_in, packets_of}
use Rattle.pcapng_reader.specs.Records.{LinkedRecord}
use Rattle.pcapng_reader.specs.Filtered.{packets_from, raw_records, four_octets, record_octets, file_header}
use Rattle.pcapng_reader.specs.Filtered.{octets_of_record}
use Rattle.pcapng_reader.specs.Filtered.{capture_of, Fits, LinkedFits}
use Rattle.pcapng_reader.proofs.Raw.{result-cases, raw-accepted_packet, raw-ignored}

four_octets-reads : (n : ℕ) (rest : List ℕ) → n < 2 ^ 32 → number Little 4 (four_octets n ++ rest) ≡ n
unfolding number ordered_octets
four_octets-reads n rest h = little_number-reads_back 4 n rest h

four_octets-length : (n : ℕ) → length (four_octets n) ≡ 4
unfolding ordered_octets
four_octets-length n = length-bytes_low_first 0 4 n

four_octets-behind : (n : ℕ) (rest : List ℕ) → drop 4 (four_octets n ++ rest) ≡ rest
four_octets-behind n rest = drop_at (four_octets n) rest 4 (four_octets-length n)

-- where the fields of a record stand
record Fields (rec : PacketRecord) : Type 0 where
  pub second : drop 4 (record_octets rec) ≡ four_octets rec.fraction
      ++ (four_octets (length rec.captured) ++ (four_octets rec.original ++ rec.captured))
  pub third : drop 8 (record_octets rec) ≡ four_octets (length rec.captured)
      ++ (four_octets rec.original ++ rec.captured)
  pub fourth : drop 12 (record_octets rec) ≡ four_octets rec.original ++ rec.captured
  pub behind : drop 16 (record_octets rec) ≡ rec.captured

fields-of : (rec : PacketRecord) → Fields rec
fields-of rec =
    let part = record_octets rec in
    let one =
    four_octets-behind rec.seconds (four_octets rec.fraction
    ++ (four_octets (length rec.captured) ++ (four_octets rec.original ++ rec.captured))) in
    let two = sym (drop-drop 4 4 part) ∙ ap (drop 4) one
    ∙ four_octets-behind rec.fraction (four_octets (length rec.captured)
    ++ (four_octets rec.original ++ rec.captured)) in
    let three = sym (drop-drop 4 8 part) ∙ ap (drop 4) two
    ∙ four_octets-behind (length rec.captured) (four_octets rec.original ++ rec.captured) in
    let last = sym (drop-drop 4 12 part) ∙ ap (drop 4) three ∙ four_octets-behind rec.original rec.captured in
    record { second = one; third = two; fourth = three; behind = last }

claim-reads : (rec : PacketRecord) → Fits rec → claimed_len Little (record_octets rec) ≡ length rec.captured
claim-reads rec fits = ap (number Little 4) (fields-of rec).third
    ∙ four_octets-reads (length rec.captured) _ (omega (arith, fits.captured))

octets-length : (rec : PacketRecord) → length (record_octets rec) ≡ 16 + length rec.captured
octets-length rec = omega (
  arith,
  four_octets-length rec.seconds,
  four_octets-length rec.fraction,
  four_octets-length (length rec.captured),
  four_octets-length rec.original,
  length-append (four_octets rec.seconds) (four_octets rec.fraction
      ++ (four_octets (length rec.captured) ++ (four_octets rec.original ++ rec.captured))),
  length-append (four_octets rec.fraction) (four_octets (length rec.captured)
      ++ (four_octets rec.original ++ rec.captured)),
  length-append (four_octets (length rec.captured)) (four_octets rec.original ++ rec.captured),
  length-append (four_octets rec.original) rec.captured,
)

record-reads : (rec : PacketRecord) → Fits rec → packet_record Little (record_octets rec) ≡ rec
record-reads rec fits =
    let fields = fields-of rec in
    let seconds : number Little 4 (record_octets rec) ≡ rec.seconds = four_octets-reads rec.seconds _ fits.seconds in
    let fraction = ap (number Little 4) fields.second ∙ four_octets-reads rec.fraction _ fits.fraction in
    let original = ap (number Little 4) fields.fourth ∙ four_octets-reads rec.original _ fits.original in
    rw (seconds, fraction, original, fields.behind) refl

is-record : (rec : PacketRecord) → Fits rec → IsRecord Little (record_octets rec)
is-record rec fits =
    let claim = claim-reads rec fits in let long = octets-length rec in
    record {
      header = omega (arith, long);
      small = omega (arith, claim, fits.captured);
      whole =
          omega (arith, claim, long);
    }

are-records : (raws : List PacketRecord) → AllByRecursion Fits raws
    → AllByRecursion (IsRecord Little) (map record_octets raws)
are-records [] fits = tt
are-records (raw ∷ raws) fits = (is-record raw fits.0, are-records raws fits.1)

records-read : (raws : List PacketRecord) → AllByRecursion Fits raws
    → map (packet_record Little) (map record_octets raws) ≡ raws
records-read [] fits = refl
records-read (raw ∷ raws) fits = rw (record-reads raw fits.0, records-read raws fits.1) refl

-- the raw records of those that fit, fit
raws-fit : (records : List LinkedRecord) → AllByRecursion LinkedFits records → AllByRecursion Fits (raw_records records)
raws-fit [] fits = tt
raws-fit (linked ∷ records) fits =
    elim (result-cases (accepted_packet linked.link true linked.rec 0)) [
      | inl found ↦
          let one = raw-accepted_packet linked 0 found.0 found.1 in
          subst (λ (o : Option PacketRecord). AllByRecursion Fits (cons_option o (raw_records records)))
          (sym one.is_raw)
          (one.fits fits.0, raws-fit records fits.1)
      | inr found ↦
          subst (λ (o : Option PacketRecord). AllByRecursion Fits (cons_option o (raw_records records)))
          (sym (raw-ignored linked 0 found.0 found.1)) (raws-fit records fits.1)
    ]

-- what is written are the octets of the raw records
written-raws : (records : List LinkedRecord)
    → concat (map octets_of_record records) ≡ concat (map record_octets (raw_records records))
written-raws [] = refl
written-raws (linked ∷ records) =
    elim (result-cases (accepted_packet linked.link true linked.rec 0)) [
      | inl found ↦
          let one = raw-accepted_packet linked 0 found.0 found.1 in
          rw one.is_raw (ap (λ (rest : List ℕ). record_octets one.raw ++ rest) (written-raws records))
      | inr found ↦ rw (raw-ignored linked 0 found.0 found.1) (written-raws records)
    ]

-- the capture that is written
abbrev pub written_file : List LinkedRecord → CaptureFile
written_file records = record { bytes = capture_of records; start = 24; order = Little; nanos = true; link = 101 }

header-long : (rest : List ℕ) → nat_lt (length (file_header ++ rest)) 24 ≡ false
header-long rest = let long = length-append file_header rest in grind (arith, nat_tests)

header-reads : (rest : List ℕ) → capture_file (file_header ++ rest)
    ≡ Some (record { bytes = file_header ++ rest; start = 24; order = Little; nanos = true; link = 101 })
unfolding capture_file number
header-reads rest = rw (header-long rest) refl

pub written-is_file : (records : List LinkedRecord) → capture_file (capture_of records) ≡ Some (written_file records)
written-is_file records = header-reads (concat (map octets_of_record records))

nothing-begins : begins_with_record Little [] ≡ false
unfolding begins_with_record
nothing-begins = refl

nothing-damaged : begins_with_damage Little [] ≡ false
unfolding begins_with_damage
nothing-damaged = refl

written-cut : (records : List LinkedRecord) → AllByRecursion LinkedFits records
    → IsCutInto (written_file records) (map record_octets (raw_records records)) []
written-cut records fits = record {
  together = ap (λ (rest : List ℕ). file_header ++ rest)
      (written-raws records ∙ sym (append-nil (concat (map record_octets (raw_records records)))));
  records = are-records (raw_records records) (raws-fit records fits);
  ended = nothing-begins;
}

written-long : (records : List LinkedRecord) → 24 ≤ length (capture_of records)
written-long records = omega (arith, length-append file_header (concat (map octets_of_record records)))

record WrittenParts (records : List LinkedRecord) : Type 0 where
  pub parts : map record_octets (raw_records records) ≡ parts_of (written_file records)
  pub rest : [] ≡ rest_of (written_file records)

written-parts : (records : List LinkedRecord) → AllByRecursion LinkedFits records → WrittenParts records
written-parts records fits =
    let once = file_is_cut_once (written_file records) (written-long records) in
    let same = once.only (map record_octets (raw_records records)) [] (written-cut records fits) in
    record { parts = same.0; rest = same.1 }

pub written-rest : (records : List LinkedRecord) → AllByRecursion LinkedFits records
    → rest_of (written_file records) ≡ []
written-rest records fits = sym (written-parts records fits).rest

pub written-undamaged : (records : List LinkedRecord) → AllByRecursion LinkedFits records
    → damage_of (written_file records) ≡ None
written-undamaged records fits = rw (written-rest records fits, nothing-damaged) refl

written-records : (records : List LinkedRecord) → AllByRecursion LinkedFits records
    → records_of (written_file records) ≡ raw_records records
written-records records fits =
    ap (map (packet_record Little)) (sym (written-parts records fits).parts)
    ∙ records-read (raw_records records) (raws-fit records fits)

-- the packets of raw records are those of the records
packets-same : (file : CaptureFile) (n : ℕ) (records : List LinkedRecord) → file.link ≡ 101 → file.nanos ≡ true
    → packets_in (map (answer_to file) (enumerate_from n (raw_records records))) ≡ packets_from n records
packets-same file n [] link nanos = refl
packets-same file n (linked ∷ records) link nanos =
    elim (result-cases (accepted_packet linked.link true linked.rec n)) [
      | inl found ↦
          let one = raw-accepted_packet linked n found.0 found.1 in
          rw (one.is_raw, link, nanos, one.gives, found.1, packets_from)
          (ap (λ (rest : List Packet). found.0 ∷ rest) (packets-same file (n + 1) records link nanos))
      | inr found ↦ rw (raw-ignored linked n found.0 found.1, found.1, packets_from)
          (packets-same file n records link nanos)
    ]

pub written-packets : (records : List LinkedRecord) → AllByRecursion LinkedFits records
    → packets_of (written_file records) ≡ packets_from 0 records
written-packets records fits =
    ap (λ (raws : List PacketRecord). packets_in (map (answer_to (written_file records)) (enumerate_from 0 raws)))
    (written-records records fits)
    ∙ packets-same (written_file records) 0 records refl refl
