-- One window more of the input was read.
use Rattle.std.proofs.Common.{◌≡◌, ℕ, suc, ◌+◌, ◌^◌, ◌≤◌, ◌<◌, List, [], ◌∷◌, ◌++◌, length, drop, map, None, refl, sym}
use Rattle.std.proofs.Common.{ap}
use Rattle.std.proofs.Common.{◌∙◌, subst, arith}
use Rattle.std.specs.Option.{option_map}
use Rattle.std.proofs.lemmas.List.{length-append, length-map}
use Rattle.pcap_reader.specs.File.{CaptureFile, capture_file}
use Rattle.pcap_reader.specs.Records.{PacketRecord, parts_of, packet_record, records_of, rest_of, damage_of}
use Rattle.pcap_reader.specs.Parts.{grown_file, part_with, GoesOn}
use Rattle.pcap_reader.specs.Views.{part_of}
use Rattle.pcap_reader.specs.declared.head.Head.{Head}
use Rattle.pcap_reader.proofs.Cutting.{few_parts}
use Rattle.packet_accept.specs.Packets.{answers_of, answer_to}
use Rattle.std.specs.List.{enumerate_from}
use Rattle.capture_input.specs.Places.{IsSound, IsAt}
use Rattle.capture_input.proofs.Filling.{Next, part-of_file, sound-grown_file}
use Rattle.capture_input.specs.Parts.{Answer, answers_from}

-- ---- the answers of a file, part by part

pub answers-like : (one other : CaptureFile) (n : ℕ) (records : List PacketRecord) → one.link ≡ other.link
    → one.nanos ≡ other.nanos
    → map (answer_to one) (enumerate_from n records) ≡ map (answer_to other) (enumerate_from n records)
answers-like one other n [] link nanos = refl
answers-like one other n (rec ∷ records) link nanos =
    rw (link, nanos)
    (ap (λ (l : List Answer). answer_to other (n, rec) ∷ l) (answers-like one other (n + 1) records link nanos))

answers-append : (file : CaptureFile) (n : ℕ) (records others : List PacketRecord)
    → map (answer_to file) (enumerate_from n (records ++ others))
    ≡ map (answer_to file) (enumerate_from n records)
    ++ map (answer_to file) (enumerate_from (n + length records) others)
answers-append file n [] others = let none : n ≡ n + 0 = omega arith in
    ap (λ (k : ℕ). map (answer_to file) (enumerate_from k others)) none
answers-append file n (rec ∷ records) others =
    let on : n + 1 + length records ≡ n + suc (length records) = omega arith in
    ap (λ (l : List Answer). answer_to file (n, rec) ∷ l) (answers-append file (n + 1) records others
    ∙ ap (λ (k : ℕ). map (answer_to file) (enumerate_from (n + 1) records)
    ++ map (answer_to file) (enumerate_from k others)) on)

pub answers-grown : (file : CaptureFile) (more left : List ℕ)
    → records_of (grown_file file more) ≡ records_of file ++ records_of (part_with file left)
    → answers_of (grown_file file more) ≡ answers_of file
    ++ answers_from (length (records_of file)) (part_with file left)
answers-grown file more left is =
    let g = grown_file file more in
    let part = part_with file left in
    ap (λ (l : List PacketRecord). map (answer_to g) (enumerate_from 0 l)) is
    ∙ answers-append g 0 (records_of file) (records_of part)
    ∙ ap (λ (l : List Answer). l ++ map (answer_to g) (enumerate_from (0 + length (records_of file)) (records_of part)))
    (answers-like g file 0 (records_of file) refl refl)
    ∙ ap (λ (l : List Answer). answers_of file ++ l)
    (answers-like g part (0 + length (records_of file)) (records_of part) refl refl)
    ∙ (let none : 0 + length (records_of file) ≡ length (records_of file) = omega arith in
    ap (λ (k : ℕ). answers_of file ++ answers_from k part) none)

-- ---- one window more

-- what was dropped of the window's front plays no part
pub at-kept : (head : Head) (window window' : List ℕ) (from taken : ℕ) (file : CaptureFile) (more : List ℕ)
    → IsAt head window from taken file more → window' ≡ drop from window → IsAt head window' 0 taken file more
at-kept head window window' from taken file more at is = record {
  sound = at.sound;
  low = omega arith;
  left = is ∙ at.left;
  count = at.count;
}

-- the file with what the window has, whose records are those of this part
pub record IsNext (head : Head) (file : CaptureFile) (more : List ℕ) (base : ℕ) (part : CaptureFile) : Type 0 where
  pub answers : answers_of (grown_file file more) ≡ answers_of file ++ answers_from base part
  pub count : base + length (records_of part) ≡ length (records_of (grown_file file more))
  pub long : file.start ≤ length (file.bytes ++ more)

-- and where the part is undamaged
pub record IsSoundNext (head : Head) (file : CaptureFile) (more : List ℕ) (part : CaptureFile) : Type 0 where
  pub sound : IsSound head (grown_file file more)
  pub rest : rest_of part ≡ rest_of (grown_file file more)

shown : (head : Head) (window : List ℕ) (taken : ℕ) (file : CaptureFile) (more : List ℕ) (part : CaptureFile)
    → IsAt head window 0 taken file more → part ≡ part_of head window → part ≡ part_with file (rest_of file ++ more)
shown head window taken file more part at is = is ∙ part-of_file head file window more 0 at.sound.like at.left

pub next-of : (head : Head) (window : List ℕ) (taken base : ℕ) (file : CaptureFile) (more : List ℕ) (part : CaptureFile)
    → ((f : CaptureFile) (xs : List ℕ) → f.start ≤ length f.bytes → GoesOn f xs)
    → IsAt head window 0 taken file more → part ≡ part_of head window → base ≡ length (records_of file)
    → IsNext head file more base part
next-of head window taken base file more part goes at is counted =
    let same = shown head window taken file more part at is in
    let on = goes file more at.sound.long in
    record {
      answers = answers-grown file more (rest_of file ++ more) on.records
          ∙ ap (λ (k : ℕ). answers_of file ++ answers_from k (part_with file (rest_of file ++ more))) (sym counted)
          ∙ ap (λ (p : CaptureFile). answers_of file ++ answers_from base p) (sym same);
      count = ap (λ (k : ℕ). k + length (records_of part)) counted
          ∙ ap (λ (p : CaptureFile). length (records_of file) + length (records_of p)) same
          ∙ sym (ap length on.records ∙ length-append (records_of file)
          (records_of (part_with file (rest_of file ++ more))));
      long = omega (arith, at.sound.long, length-append file.bytes more);
    }

pub sound-next : (head : Head) (window : List ℕ) (taken : ℕ) (file : CaptureFile) (more : List ℕ) (part : CaptureFile)
    → ((f : CaptureFile) (xs : List ℕ) → f.start ≤ length f.bytes → GoesOn f xs)
    → ((xs ys : List ℕ) → 24 ≤ length xs → capture_file (xs ++ ys)
    ≡ option_map (λ (f : CaptureFile). grown_file f ys) (capture_file xs))
    → IsAt head window 0 taken file more → part ≡ part_of head window → damage_of part ≡ None
    → IsSoundNext head file more part
sound-next head window taken file more part goes header at is undamaged =
    let same = shown head window taken file more part at is in
    let next : Next file more =
    record { on = goes file more at.sound.long; is_file = header file.bytes more at.sound.header } in
    record {
      sound = sound-grown_file head window 0 taken file more next at
          (subst (λ (p : CaptureFile). damage_of p ≡ None) same undamaged);
      rest = ap rest_of same ∙ sym next.on.rest;
    }

-- a file of this length has no more records than that
pub few-records : (head : Head) (window : List ℕ) (taken limit base : ℕ) (file : CaptureFile) (more : List ℕ)
    (part : CaptureFile)
    → IsAt head window 0 taken file more → IsNext head file more base part → taken ≤ limit → limit ≤ 2 ^ 30
    → base + length (records_of part) < 2 ^ 32
few-records head window taken limit base file more part at next within small =
    let all = grown_file file more in
    let few = few_parts all next.long in
    let records : length (records_of all) ≡ length (parts_of all) =
    length-map (parts_of all) (packet_record all.order) in
    omega (arith, next.count, few, records, at.count, within, small)
