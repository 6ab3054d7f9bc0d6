-- The tally of one record more, and that no number of a tally runs over.
use Rattle.std.proofs.Common.{◌≡◌, ℕ, ◌+◌, ◌-◌, ◌<◌, ◌≤◌, List, [], ◌∷◌, ◌++◌, length, take, Some, refl, sym, ap, ◌∙◌, subst}
use Rattle.std.proofs.Common.{arith, add-one, Ok, Err}
use Rattle.std.specs.Prelude.{◌^◌, Bool, count_by, cond, slice_get, Result, IsOk}
use Rattle.std.proofs.lemmas.List.{length-append, length-take-le, take_all}
use Rattle.std.proofs.lemmas.List.Sums.{sum_by_push, count_by-le-length}
use Rattle.std.proofs.lemmas.Option.{slice_get_within, get_or_from_slice_get}
use Rattle.std.proofs.Math.Seq.{take-suc}
use Rattle.packet_accept.specs.declared.packet.Packet.{Packet}
use Rattle.packet_accept.specs.declared.ignored.Ignored.{Ignored}
use Rattle.packet_accept.specs.declared.ignored.Ignored.TheVariants.{NotIp, Short, BadHeader, ShortTransport, BadTime}
use Rattle.pcapng_reader.specs.declared.tally.PngTally.{PngTally}
use Rattle.pcapng_reader.specs.Records.{LinkedRecord}
use Rattle.pcapng_reader.specs.Tallied.{IsTallyOf, answer_of, is_written, is_left_out, is_unread}
use Rattle.pcapng_reader.specs.Counting.{HasRoom, Adds}

-- a count of one record more
grown : (p : LinkedRecord → Bool) (records : List LinkedRecord) (linked : LinkedRecord) (old new : ℕ)
    → old ≡ count_by p records → new ≡ old + cond (p linked) 1 0 → new ≡ count_by p (records ++ linked ∷ [])
grown p records linked old new is more =
    more ∙ ap (λ (n : ℕ). n + cond (p linked) 1 0) is
    ∙ sym (sum_by_push (λ (one : LinkedRecord). cond (p one) 1 0) records linked)

tally-pushed : (old new : PngTally) (records : List LinkedRecord) (linked : LinkedRecord) → IsTallyOf old records
    → Adds old new linked.link (answer_of linked) → IsTallyOf new (records ++ linked ∷ [])
tally-pushed old new records linked is adds = record {
  packets = omega (arith, adds.packets, is.packets, length-append records (linked ∷ []));
  written = grown is_written records linked old.written new.written is.written adds.written;
  not_ip = grown (is_left_out NotIp) records linked old.not_ip new.not_ip is.not_ip adds.not_ip;
  short = grown (is_left_out Short) records linked old.short new.short is.short adds.short;
  bad_header = grown (is_left_out BadHeader) records linked old.bad_header new.bad_header is.bad_header adds.bad_header;
  short_transport = grown (is_left_out ShortTransport) records linked old.short_transport new.short_transport
      is.short_transport adds.short_transport;
  bad_time = grown (is_left_out BadTime) records linked old.bad_time new.bad_time is.bad_time adds.bad_time;
  links = adds.links ∙ is.links;
  unread = λ link small. grown (is_unread link) records linked _ _ (is.unread link small) (adds.unread link small);
}

-- one record more of a list
pub tally-more : (old new : PngTally) (records : List LinkedRecord) (n : ℕ) (linked : LinkedRecord)
    → slice_get records n ≡ Some linked → IsTallyOf old (take n records)
    → Adds old new linked.link (answer_of linked) → IsTallyOf new (take (n + 1) records)
tally-more old new records n linked there is adds =
    let one : take (n + 1) records ≡ take n records ++ linked ∷ [] =
    ap (λ (k : ℕ). take k records) (add-one n) ∙ take-suc records n linked (slice_get_within records n linked there)
    ∙ ap (λ (l : LinkedRecord). take n records ++ l ∷ []) (get_or_from_slice_get records n linked linked there) in
    subst (IsTallyOf new) (sym one) (tally-pushed old new (take n records) linked is adds)

-- behind the last record the tally is whole
pub tally-whole : (tally : PngTally) (records : List LinkedRecord) (n : ℕ) → length records ≤ n
    → IsTallyOf tally (take n records) → IsTallyOf tally records
tally-whole tally records n all is = subst (IsTallyOf tally) (take_all n records all) is

-- no number is above that of the records
pub tally-room : (tally : PngTally) (records : List LinkedRecord) → IsTallyOf tally records
    → length records < 2 ^ 64 - 1 → HasRoom tally
tally-room tally records is few = record {
  packets = omega (arith, is.packets, few);
  written = omega (arith, is.written, few, count_by-le-length is_written records);
  not_ip = omega (arith, is.not_ip, few, count_by-le-length (is_left_out NotIp) records);
  short = omega (arith, is.short, few, count_by-le-length (is_left_out Short) records);
  bad_header = omega (arith, is.bad_header, few, count_by-le-length (is_left_out BadHeader) records);
  short_transport = omega (arith, is.short_transport, few, count_by-le-length (is_left_out ShortTransport) records);
  bad_time = omega (arith, is.bad_time, few, count_by-le-length (is_left_out BadTime) records);
  links = is.links;
  unread = λ link small.
      let count = is.unread link small in omega (arith, count, few, count_by-le-length (is_unread link) records);
}

-- an accepted record was counted as one
pub adds-written : (old new : PngTally) (link : ℕ) (answer : Result Packet Ignored) → IsOk answer
    → ((number : ℕ) (packet : Packet) → Adds old new number (Ok packet)) → Adds old new link answer
adds-written old new link (Ok packet) accepted adds = adds link packet
adds-written old new link (Err cause) accepted adds = absurd (cc)

-- the first records, fewer than 2^64 - 1
pub few-taken : (records : List LinkedRecord) (n count : ℕ) → n < count → count ≡ length records → count < 2 ^ 64
    → length (take n records) < 2 ^ 64 - 1
few-taken records n count within is small =
    let inside : n ≤ length records = omega arith in
    let taken = length-take-le n records inside in omega (arith, taken)
