-- The answers to the records of a file.
use Rattle.std.proofs.Common.{◌≡◌, ℕ, ◌+◌, List, [], ◌∷◌, ◌++◌, Result, add-zero, zero, suc, length, map, Some, refl}
use Rattle.std.proofs.Common.{sym, ap, ◌∙◌, add-one, take, arith, slice_get, IsPermutation}
use Rattle.std.proofs.Math.Seq.{take-length}
use Rattle.std.specs.List.{enumerate_from}
use Rattle.std.specs.Result.{result_ok}
use Rattle.std.proofs.lemmas.Grind.{common_steps}
use Rattle.std.proofs.lemmas.List.Elements.{filter_map-append}
use Rattle.pcap_reader.specs.File.{CaptureFile}
use Rattle.pcap_reader.specs.Records.{PacketRecord, records_of}
use Rattle.packet_accept.specs.declared.packet.Packet.{Packet}
use Rattle.packet_accept.specs.declared.ignored.Ignored.{Ignored}
use Rattle.packet_accept.specs.Acceptance.{accepted_packet}
use Rattle.packet_accept.proofs.Permuted.{filter_map-permutation}
use Rattle.packet_accept.specs.Packets.{answer_to, answers_of, packets_in, packets_of}

-- as many answers as there are elements
pub length-answers : {X Y : Type 0} (answer : ℕ × X → Y) (from : ℕ) (xs : List X)
    → length (map answer (enumerate_from from xs)) ≡ length xs
length-answers answer from [] = refl
length-answers answer from (x ∷ xs) = grind (arith, common_steps, length-answers answer (from + 1) xs)

-- the answer at a place is that to the element there
pub answer-at : {X Y : Type 0} (answer : ℕ × X → Y) (from n : ℕ) (xs : List X) (x : X) → slice_get xs n ≡ Some x
    → slice_get (map answer (enumerate_from from xs)) n ≡ Some (answer (from + n, x))
answer-at answer from n [] x found = cc
answer-at answer from zero (y ∷ xs) x found =
    let same : y ≡ x = cc in
    rw (add-zero, same) refl
answer-at answer from (suc n) (y ∷ xs) x found =
    let place : from + 1 + n ≡ from + suc n = omega arith in
    rw place at (answer-at answer (from + 1) n xs x found)

-- so the answer to a file's record stands at the record's place
pub answer-placed : (file : CaptureFile) (n : ℕ) (rec : PacketRecord) → slice_get (records_of file) n ≡ Some rec
    → slice_get (answers_of file) n ≡ Some (accepted_packet file.link file.nanos rec n)
answer-placed file n rec found =
    let zero_first : 0 + n ≡ n = omega arith in
    rw zero_first at (answer-at (answer_to file) 0 n (records_of file) rec found)

pub answers_count : (file : CaptureFile) → length (answers_of file) ≡ length (records_of file)
answers_count file = length-answers (answer_to file) 0 (records_of file)

pub packets_together : (answers others : List (Result Packet Ignored))
    → packets_in (answers ++ others) ≡ packets_in answers ++ packets_in others
packets_together answers others = filter_map-append result_ok answers others

pub packets_permuted : (answers others : List (Result Packet Ignored)) → IsPermutation answers others
    → IsPermutation (packets_in answers) (packets_in others)
packets_permuted answers others same = filter_map-permutation result_ok answers others same

-- the first elements, and one more
one_more : {X : Type 0} (xs : List X) (n : ℕ) (x : X) → slice_get xs n ≡ Some x → take (suc n) xs ≡ take n xs ++ x ∷ []
one_more [] n x found = cc
one_more (y ∷ xs) zero x found =
    let same : y ≡ x = cc in
    rw same refl
one_more (y ∷ xs) (suc n) x found = ap (λ l. y ∷ l) (one_more xs n x found)

pub packets_next : (file : CaptureFile) (n : ℕ) (rec : PacketRecord) → slice_get (records_of file) n ≡ Some rec
    → packets_in (take (n + 1) (answers_of file))
    ≡ packets_in (take n (answers_of file)) ++ packets_in (accepted_packet file.link file.nanos rec n ∷ [])
packets_next file n rec found =
    let answer : Result Packet Ignored = accepted_packet file.link file.nanos rec n in
    let longer : take (n + 1) (answers_of file) ≡ take n (answers_of file) ++ answer ∷ []
    = ap (λ k. take k (answers_of file)) (add-one n)
    ∙ one_more (answers_of file) n answer (answer-placed file n rec found) in
    ap packets_in longer ∙ packets_together (take n (answers_of file)) (answer ∷ [])

pub packets_all : (file : CaptureFile)
    → packets_in (take (length (records_of file)) (answers_of file)) ≡ packets_of file
packets_all file = ap packets_in (ap (λ k. take k (answers_of file)) (sym (answers_count file))
    ∙ take-length (answers_of file))
