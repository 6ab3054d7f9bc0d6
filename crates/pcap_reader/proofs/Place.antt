-- Where the n-th record stands in the file.
use Rattle.std.proofs.Common.{◌≡◌, ℕ, zero, suc, ◌+◌, ◌-◌, ◌≤◌, ◌<◌, List, [], ◌∷◌, ◌++◌, length, get_or, take, drop}
use Rattle.std.proofs.Common.{Some, refl, sym, ap, ◌∙◌, append_assoc, arith}
use Rattle.std.specs.List.{concat, AllByRecursion, slice_get}
use Rattle.std.specs.Option.{option_map}
use Rattle.std.proofs.lemmas.List.{length-append, length-drop, length-take, take_at, drop_at, drop-drop, drop-append-le}
use Rattle.std.proofs.lemmas.List.{length-map}
use Rattle.std.proofs.lemmas.Option.{slice_get-get_or, slice_get-map}
use Rattle.octets.specs.declared.endianness.Endianness.{Endianness}
use Rattle.pcap_reader.specs.File.{CaptureFile}
use Rattle.octets.specs.Numbers.{number}
use Rattle.pcap_reader.specs.Records.{claimed_len, most_captured, parts_of, rest_of, records_of, offsets_from}
use Rattle.pcap_reader.specs.Records.{PacketRecord, packet_record, IsRecord}
use Rattle.pcap_reader.specs.Index.{Offsets, IsIndexOf}
use Rattle.octets.proofs.Reading.{number-drop-append}
use Rattle.pcap_reader.proofs.Cutting.{file_is_cut}

-- a record stands at a place of some bytes, with more behind it
record StandsAt (order : Endianness) (bytes part : List ℕ) (at : ℕ) : Type 0 where
  pub more : List ℕ
  pub there : drop at bytes ≡ part ++ more
  pub is_record : IsRecord order part

stands_at : (order : Endianness) (parts : List (List ℕ)) (front rest bytes : List ℕ) (at n : ℕ) → length front ≡ at
    → bytes ≡ front ++ (concat parts ++ rest)
    → AllByRecursion (IsRecord order) parts → n < length parts
    → StandsAt order bytes (get_or parts n []) (get_or (offsets_from at parts) n 0)
stands_at order [] front rest bytes at n len together records h = absurd (omega arith)
stands_at order (part ∷ parts) front rest bytes at zero len together records h =
    let regrouped : bytes ≡ front ++ (part ++ (concat parts ++ rest)) = together
    ∙ ap (λ (r : List ℕ). front ++ r) (append_assoc part (concat parts) rest) in
    record {
      more = concat parts ++ rest;
      there = ap (drop at) regrouped
          ∙ drop_at front (part ++ (concat parts ++ rest)) at len;
      is_record = records.0;
    }
stands_at order (part ∷ parts) front rest bytes at (suc n) len together records h =
    let regrouped : bytes ≡ front ++ (part ++ (concat parts ++ rest)) = together
    ∙ ap (λ (r : List ℕ). front ++ r) (append_assoc part (concat parts) rest) in
    stands_at order parts (front ++ part) rest bytes (at + length part) n (omega (arith, len, length-append front part))
    (regrouped ∙ sym (append_assoc front part (concat parts ++ rest))) records.1 (omega arith)

-- the n-th record of a file stands where the index says
record_stands : (file : CaptureFile) (index : Offsets) (n : ℕ) → file.start ≤ length file.bytes → IsIndexOf index file
    → n < length index.offsets
    → StandsAt file.order file.bytes (get_or (parts_of file) n []) (get_or index.offsets n 0)
record_stands file index n long is within =
    let cut = file_is_cut file long in
    let count = is.count ∙ length-map (parts_of file) (packet_record file.order) in
    rw is.offsets
    (stands_at file.order (parts_of file) (take file.start file.bytes) (rest_of file) file.bytes file.start n
    (omega (arith, length-take file.start file.bytes)) cut.together cut.records (omega (arith, count)))

-- what its place in the bytes holds of a record
pub record Reads (order : Endianness) (bytes part : List ℕ) (at : ℕ) : Type 0 where
  pub header : at + 16 ≤ length bytes
  pub small : claimed_len order (drop at bytes) ≤ most_captured
  pub whole : at + 16 + claimed_len order (drop at bytes) ≤ length bytes
  pub seconds : number order 4 (drop at bytes) ≡ number order 4 part
  pub fraction : number order 4 (drop 4 (drop at bytes)) ≡ number order 4 (drop 4 part)
  pub original : number order 4 (drop 12 (drop at bytes)) ≡ number order 4 (drop 12 part)
  pub captured : take (claimed_len order (drop at bytes)) (drop (at + 16) bytes) ≡ drop 16 part

Reads-from_place : (order : Endianness) (bytes part : List ℕ) (at : ℕ) → StandsAt order bytes part at
    → Reads order bytes part at
Reads-from_place order bytes part at stands =
    let more = stands.more in
    let is = stands.is_record in
    let all : length bytes - at ≡ length part + length more = sym (length-drop at bytes) ∙ ap length stands.there
    ∙ length-append part more in
    let number_is : (k : ℕ) → k + 4 ≤ 16 → number order 4 (drop k (drop at bytes)) ≡ number order 4 (drop k part) =
    λ (k : ℕ) (h : k + 4 ≤ 16). ap (λ (left : List ℕ). number order 4 (drop k left)) stands.there
    ∙ number-drop-append order 4 k part more (omega (arith, is.header)) in
    let claim : claimed_len order (drop at bytes) ≡ claimed_len order part = number_is 8 (omega arith) in
    let behind : drop (at + 16) bytes ≡ drop 16 part ++ more = sym (drop-drop 16 at bytes) ∙ ap (drop 16) stands.there
    ∙ drop-append-le 16 part more is.header in
    record {
      header = omega (arith, is.header);
      small = omega (arith, claim, is.small);
      whole = omega (arith, claim, is.whole);
      seconds = number_is 0 (omega arith);
      fraction = number_is 4 (omega arith);
      original = number_is 12 (omega arith);
      captured = ap (take (claimed_len order (drop at bytes))) behind
          ∙ take_at (drop 16 part) more (claimed_len order (drop at bytes))
          (omega (arith, claim, is.whole, length-drop 16 part));
    }

pub record_reads : (file : CaptureFile) (index : Offsets) (n : ℕ) → file.start ≤ length file.bytes
    → IsIndexOf index file
    → n < length index.offsets
    → Reads file.order file.bytes (get_or (parts_of file) n []) (get_or index.offsets n 0)
record_reads file index n long is within =
    Reads-from_place file.order file.bytes (get_or (parts_of file) n []) (get_or index.offsets n 0)
    (record_stands file index n long is within)

-- what is read at the place of the n-th record is the n-th record
pub record_is : (file : CaptureFile) (index : Offsets) (n : ℕ) (r : PacketRecord) → IsIndexOf index file
    → n < length index.offsets → Reads file.order file.bytes (get_or (parts_of file) n []) (get_or index.offsets n 0)
    → r.seconds ≡ number file.order 4 (drop (get_or index.offsets n 0) file.bytes)
    → r.fraction ≡ number file.order 4 (drop 4 (drop (get_or index.offsets n 0) file.bytes))
    → r.original ≡ number file.order 4 (drop 12 (drop (get_or index.offsets n 0) file.bytes))
    → r.captured ≡ take (claimed_len file.order (drop (get_or index.offsets n 0) file.bytes))
    (drop (get_or index.offsets n 0 + 16) file.bytes)
    → slice_get (records_of file) n ≡ Some r
record_is file index n r is within reads seconds fraction original captured =
    let part = get_or (parts_of file) n [] in
    let count = is.count ∙ length-map (parts_of file) (packet_record file.order) in
    let same : packet_record file.order part ≡ r =
    rw (
      seconds ∙ reads.seconds,
      fraction ∙ reads.fraction,
      original ∙ reads.original,
      captured
          ∙ reads.captured,
    ) refl in
    slice_get-map (packet_record file.order) (parts_of file) n
    ∙ ap (option_map (packet_record file.order)) (slice_get-get_or (parts_of file) n [] (omega (arith, count)))
    ∙ ap (λ (x : PacketRecord). Some x) same
