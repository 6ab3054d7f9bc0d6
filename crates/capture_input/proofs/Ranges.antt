-- Ranges of the answers to records.
use Rattle.std.proofs.Common.{◌≡◌, ℕ, ◌+◌, ◌-◌, ◌≤◌, List, [], ◌∷◌, ◌++◌, length, get_or, take, drop, Some, ap, ◌∙◌}
use Rattle.std.proofs.Common.{arith}
use Rattle.std.proofs.Common.{length-drop}
use Rattle.std.specs.Prelude.{slice_range, slice_get}
use Rattle.std.proofs.lemmas.List.{take_all, take_more, get_or-drop, drop-drop}
use Rattle.std.proofs.lemmas.Option.{slice_get_within, get_or_from_slice_get}
use Rattle.std.proofs.Math.Seq.{take-add}
use Rattle.pcap_reader.specs.File.{CaptureFile}
use Rattle.pcap_reader.specs.Records.{PacketRecord, records_of}
use Rattle.packet_accept.specs.Acceptance.{accepted_packet}
use Rattle.packet_accept.specs.Packets.{answer_to}
use Rattle.packet_accept.proofs.FileAnswers.{answer-at, length-answers}
use Rattle.capture_input.specs.Parts.{answers_from}

module _ {X : Type 0} (xs : List X) where
  pub range-none : (a : ℕ) → slice_range xs a a ≡ []
  range-none a = let none : a - a ≡ 0 = omega arith in ap (λ k. take k (drop a xs)) none

  pub range-one : (n : ℕ) (x : X) → slice_get xs n ≡ Some x → slice_range xs n (n + 1) ≡ x ∷ []
  range-one n x found =
      let one : n + 1 - n ≡ 0 + 1 = omega arith in
      let at : n + 0 ≡ n = omega arith in
      let inside = slice_get_within xs n x found in
      ap (λ k. take k (drop n xs)) one ∙ take_more (drop n xs) 0 x (rw length-drop (omega (arith, inside)))
      ∙ ap (λ y. y ∷ [])
      (get_or-drop n xs 0 x ∙ ap (λ k. get_or xs k x) at ∙ get_or_from_slice_get xs n x x found)

  -- a range and the one behind it
  pub range-both : (a i k : ℕ) → a ≤ i → i ≤ k → slice_range xs a k ≡ slice_range xs a i ++ slice_range xs i k
  range-both a i k low high =
      let n : ℕ = i - a in
      let up : k - a ≡ n + (k - i) = omega arith in
      let is : a + n ≡ i = omega arith in
      ap (λ m. take m (drop a xs)) up ∙ take-add n (k - i) (drop a xs)
      ∙ ap (λ (l : List X). take n (drop a xs) ++ take (k - i) l) (drop-drop n a xs)
      ∙ ap (λ m. take n (drop a xs) ++ take (k - i) (drop m xs)) is

  pub range-all : (n : ℕ) → length xs ≤ n → slice_range xs 0 n ≡ xs
  range-all n long = let all : n - 0 ≡ n = omega arith in ap (λ k. take k (drop 0 xs)) all ∙ take_all n xs long

-- as many answers as records
pub answers-count : (base : ℕ) (file : CaptureFile) → length (answers_from base file) ≡ length (records_of file)
answers-count base file = length-answers (answer_to file) base (records_of file)

-- the answer to one record
pub answer-alone : (base n : ℕ) (file : CaptureFile) (rec : PacketRecord) → slice_get (records_of file) n ≡ Some rec
    → slice_range (answers_from base file) n (n + 1) ≡ accepted_packet file.link file.nanos rec (base + n) ∷ []
answer-alone base n file rec found =
    range-one (answers_from base file) n _ (answer-at (answer_to file) base n (records_of file) rec found)
