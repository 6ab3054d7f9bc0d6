-- A file that is read in parts.
use Rattle.std.proofs.Common.{◌≡◌, ℕ, ◌+◌, ◌≤◌, false, List, [], ◌∷◌, ◌++◌, length, take, drop, Some, None, refl, sym}
use Rattle.std.proofs.Common.{ap, ◌∙◌, append_assoc, append-nil, subst, arith}
use Rattle.std.specs.Prelude.{flat_map, map}
use Rattle.std.specs.List.{concat, AllByRecursion}
use Rattle.std.specs.Option.{option_map}
use Rattle.std.proofs.lemmas.List.{length-append, length-take, length-drop, take-append-drop}
use Rattle.std.proofs.lemmas.List.Folds.{concat-append}
use Rattle.pcap_reader.specs.File.{CaptureFile}
use Rattle.pcap_reader.specs.Records.{begins_with_record, begins_with_damage, packet_record, parts_of, rest_of}
use Rattle.pcap_reader.specs.Records.{rest_offset, records_of, damage_of}
use Rattle.pcap_reader.specs.Parts.{grown_file, front_of, part_with, parts_from, place_behind, IsReadIn}
use Rattle.pcap_reader.proofs.Parts.{record_parts-rest}
use Rattle.pcap_reader.proofs.Joined.{grows, goes_on, damage_stays, next_part}

-- more, and more again
grown-twice : (file : CaptureFile) (one two : List ℕ) → grown_file (grown_file file one) two
    ≡ grown_file file (one ++ two)
grown-twice file one two =
    ap (λ (l : List ℕ). let f : CaptureFile =
    record { bytes = l; start = file.start; order = file.order; nanos = file.nanos; link = file.link } in f)
    (append_assoc file.bytes one two)

grown-long : (file : CaptureFile) (more : List ℕ) → file.start ≤ length file.bytes
    → file.start ≤ length (file.bytes ++ more)
grown-long file more h = omega (arith, h, length-append file.bytes more)

-- the parts of the pieces behind a file are those behind the longer file
from-grown_file : (file : CaptureFile) (more left : List ℕ) (pieces : List (List ℕ))
    → parts_from (grown_file file more) left pieces ≡ parts_from file left pieces
from-grown_file file more left [] = refl
from-grown_file file more left (piece ∷ pieces) =
    ap (λ (l : List CaptureFile). part_with file (left ++ piece) ∷ l)
    (from-grown_file file more (rest_of (part_with file (left ++ piece))) pieces)

-- and they begin with its rest
from-next : (file : CaptureFile) (piece : List ℕ) (pieces : List (List ℕ)) → file.start ≤ length file.bytes
    → parts_from file (rest_of file) (piece ∷ pieces)
    ≡ next_part file piece ∷ parts_from (grown_file file piece) (rest_of (grown_file file piece)) pieces
from-next file piece pieces h =
    ap (λ (l : List CaptureFile). next_part file piece ∷ l)
    (ap (λ (left : List ℕ). parts_from file left pieces) (grows file piece h).rest
    ∙ sym (from-grown_file file piece (rest_of (grown_file file piece)) pieces))

records-behind : (file : CaptureFile) (pieces : List (List ℕ)) → file.start ≤ length file.bytes
    → records_of (grown_file file (concat pieces)) ≡ records_of file
    ++ flat_map records_of (parts_from file (rest_of file) pieces)
records-behind file [] h =
    ap (λ (l : List ℕ). records_of (record {
      bytes = l;
      start = file.start;
      order = file.order;
      nanos = file.nanos;
      link = file.link;
    })) (append-nil file.bytes)
    ∙ sym (append-nil (records_of file))
records-behind file (piece ∷ pieces) h =
    let longer = grown_file file piece in
    ap records_of (sym (grown-twice file piece (concat pieces)))
    ∙ records-behind longer pieces (grown-long file piece h)
    ∙ ap (λ l. l ++ flat_map records_of (parts_from longer (rest_of longer) pieces)) (goes_on file piece h).records
    ∙ append_assoc (records_of file) (records_of (next_part file piece))
    (flat_map records_of (parts_from longer (rest_of longer) pieces))
    ∙ ap (λ (ps : List CaptureFile). records_of file ++ flat_map records_of ps) (sym (from-next file piece pieces h))

rest-behind : (file : CaptureFile) (pieces : List (List ℕ)) (earlier : List CaptureFile) (last : CaptureFile)
    → file.start ≤ length file.bytes
    → parts_from file (rest_of file) pieces ≡ earlier ++ last ∷ []
    → rest_of (grown_file file (concat pieces)) ≡ rest_of last
rest-behind file [] earlier last h is = absurd
    (let e = ap length is in omega (arith, e, length-append earlier (last ∷ [])))
rest-behind file (piece ∷ []) [] last h is =
    let same : next_part file piece ≡ last = cc in
    ap rest_of (sym (grown-twice file piece []))
    ∙ ap (λ (l : List ℕ). rest_of
    (record { bytes = l; start = file.start; order = file.order; nanos = file.nanos; link = file.link }))
    (append-nil (file.bytes ++ piece))
    ∙ (goes_on file piece h).rest ∙ ap rest_of same
rest-behind file (piece ∷ other ∷ pieces) [] last h is = absurd (let e = ap length is in omega (arith, e))
rest-behind file (piece ∷ pieces) (first ∷ earlier) last h is =
    let longer = grown_file file piece in
    let next : parts_from longer (rest_of longer) pieces ≡ earlier ++ last ∷ [] =
    (let e = sym (from-next file piece pieces h) ∙ is in cc) in
    ap rest_of (sym (grown-twice file piece (concat pieces)))
    ∙ rest-behind longer pieces earlier last (grown-long file piece h) next

damage-behind : (file : CaptureFile) (pieces : List (List ℕ)) (earlier later : List CaptureFile) (part : CaptureFile)
    (at : ℕ) → file.start ≤ length file.bytes
    → parts_from file (rest_of file) pieces ≡ earlier ++ part ∷ later → damage_of part ≡ Some at
    → damage_of (grown_file file (concat pieces))
    ≡ Some (rest_offset file + length (concat (flat_map parts_of earlier)) + at)
damage-behind file [] earlier later part at h is damaged =
    absurd (let e = ap length is in omega (arith, e, length-append earlier (part ∷ later)))
damage-behind file (piece ∷ pieces) [] later part at h is damaged =
    let longer = grown_file file piece in
    let same : next_part file piece ≡ part = cc in
    let there : damage_of longer ≡ Some (rest_offset file + at) =
    (goes_on file piece h).damage ∙ ap (option_map (λ (k : ℕ). rest_offset file + k)) (ap damage_of same ∙ damaged) in
    let place : rest_offset file + at ≡ rest_offset file + 0 + at = omega arith in
    ap damage_of (sym (grown-twice file piece (concat pieces)))
    ∙ damage_stays longer (concat pieces) (rest_offset file + at) (grown-long file piece h) there
    ∙ ap (λ (k : ℕ). Some k) place
damage-behind file (piece ∷ pieces) (first ∷ earlier) later part at h is damaged =
    let longer = grown_file file piece in
    let split = sym (from-next file piece pieces h) ∙ is in
    let same : next_part file piece ≡ first = cc in
    let next : parts_from longer (rest_of longer) pieces ≡ earlier ++ part ∷ later = cc in
    let all : length (concat (flat_map parts_of (first ∷ earlier)))
    ≡ length (concat (parts_of first)) + length (concat (flat_map parts_of earlier)) =
    ap length (concat-append (parts_of first) (flat_map parts_of earlier))
    ∙ length-append (concat (parts_of first)) (concat (flat_map parts_of earlier)) in
    let offset = (grows file piece h).offset ∙ ap (λ (f : CaptureFile). rest_offset file + rest_offset f) same in
    let none : first.start ≡ 0 = ap (λ (f : CaptureFile). f.start) (sym same) in
    let place : rest_offset longer + length (concat (flat_map parts_of earlier)) + at
    ≡ rest_offset file + length (concat (flat_map parts_of (first ∷ earlier))) + at =
    omega (arith, all, offset, none) in
    ap damage_of (sym (grown-twice file piece (concat pieces)))
    ∙ damage-behind longer pieces earlier later part at (grown-long file piece h) next damaged
    ∙ ap (λ (k : ℕ). Some k) place

sound-behind : (file : CaptureFile) (pieces : List (List ℕ)) → file.start ≤ length file.bytes → damage_of file ≡ None
    → AllByRecursion (λ part. damage_of part ≡ None) (parts_from file (rest_of file) pieces)
    → damage_of (grown_file file (concat pieces)) ≡ None
sound-behind file [] h sound all =
    ap (λ (l : List ℕ). damage_of
    (record { bytes = l; start = file.start; order = file.order; nanos = file.nanos; link = file.link }))
    (append-nil file.bytes) ∙ sound
sound-behind file (piece ∷ pieces) h sound all =
    let longer = grown_file file piece in
    let each : AllByRecursion (λ part. damage_of part ≡ None)
    (next_part file piece ∷ parts_from longer (rest_of longer) pieces) =
    subst (AllByRecursion (λ part. damage_of part ≡ None)) (from-next file piece pieces h) all in
    ap damage_of (sym (grown-twice file piece (concat pieces)))
    ∙ sound-behind longer pieces (grown-long file piece h)
    ((goes_on file piece h).damage ∙ ap (option_map (λ (k : ℕ). rest_offset file + k)) each.0) each.1

-- ---- from the file header on

nothing-left : (file : CaptureFile) → drop file.start (take file.start file.bytes) ≡ []
nothing-left file =
    length-zero (drop file.start (take file.start file.bytes))
    (omega (arith, length-drop file.start (take file.start file.bytes), length-take file.start file.bytes))
  where
    length-zero : (l : List ℕ) → length l ≡ 0 → l ≡ []
    length-zero [] h = refl
    length-zero (x ∷ l) h = absurd (omega (arith, h))

no-record : (file : CaptureFile) → begins_with_record file.order [] ≡ false
unfolding begins_with_record
no-record file = refl

no-damage : (file : CaptureFile) → begins_with_damage file.order [] ≡ false
unfolding begins_with_damage
no-damage file = refl

pub record AtFront (file : CaptureFile) : Type 0 where
  pub parts : parts_of (front_of file) ≡ []
  pub rest : rest_of (front_of file) ≡ []
  pub offset : rest_offset (front_of file) ≡ file.start
  pub sound : damage_of (front_of file) ≡ None
  pub long : file.start ≤ length (take file.start file.bytes)

pub at_front : (file : CaptureFile) → file.start ≤ length file.bytes → AtFront file
at_front file h =
    let left = nothing-left file in
    let parts : parts_of (front_of file) ≡ [] =
    record_parts-rest file.order (take file.start file.bytes) file.start
    (ap (begins_with_record file.order) left ∙ no-record file) in
    let nothing : length (concat (parts_of (front_of file))) ≡ 0 =
    ap (λ (ps : List (List ℕ)). length (concat ps)) parts in
    let offset : rest_offset (front_of file) ≡ file.start = omega (arith, nothing) in
    let rest : rest_of (front_of file) ≡ [] = ap (λ (k : ℕ). drop k (take file.start file.bytes)) offset ∙ left in
    record {
      parts = parts;
      rest = rest;
      offset = offset;
      sound = rw (rest, no-damage file) refl;
      long = omega (arith, h, length-take file.start file.bytes);
    }

-- the file is its front, grown
is-grown_file : (file : CaptureFile) (pieces : List (List ℕ)) → drop file.start file.bytes ≡ concat pieces
    → grown_file (front_of file) (concat pieces) ≡ file
is-grown_file file pieces cut =
    ap (λ (l : List ℕ). let f : CaptureFile =
    record { bytes = l; start = file.start; order = file.order; nanos = file.nanos; link = file.link } in f)
    (ap (λ (l : List ℕ). take file.start file.bytes ++ l) (sym cut) ∙ take-append-drop file.start file.bytes)

-- and the parts are those behind its front
from-front : (file : CaptureFile) (parts : List CaptureFile) (is : IsReadIn file parts) → file.start ≤ length file.bytes
    → parts ≡ parts_from (front_of file) (rest_of (front_of file)) is.pieces
from-front file parts is h =
    is.come ∙ ap (λ (f : CaptureFile). parts_from f [] is.pieces) (sym (is-grown_file file is.pieces is.cut))
    ∙ from-grown_file (front_of file) (concat is.pieces) [] is.pieces
    ∙ ap (λ (left : List ℕ). parts_from (front_of file) left is.pieces) (sym (at_front file h).rest)

pub records_in_parts : (file : CaptureFile) (parts : List CaptureFile) → file.start ≤ length file.bytes
    → IsReadIn file parts
    → records_of file ≡ flat_map records_of parts
records_in_parts file parts h is =
    ap records_of (sym (is-grown_file file is.pieces is.cut))
    ∙ records-behind (front_of file) is.pieces (at_front file h).long
    ∙ ap (λ (l : List (List ℕ)). map (packet_record file.order) l
    ++ flat_map records_of (parts_from (front_of file) (rest_of (front_of file)) is.pieces)) (at_front file h).parts
    ∙ ap (flat_map records_of) (sym (from-front file parts is h))

pub rest_in_parts : (file : CaptureFile) (parts earlier : List CaptureFile) (last : CaptureFile)
    → file.start ≤ length file.bytes
    → IsReadIn file parts → parts ≡ earlier ++ last ∷ [] → rest_of file ≡ rest_of last
rest_in_parts file parts earlier last h is split =
    ap rest_of (sym (is-grown_file file is.pieces is.cut))
    ∙ rest-behind (front_of file) is.pieces earlier last (at_front file h).long
    (sym (from-front file parts is h) ∙ split)

pub damage_in_parts : (file : CaptureFile) (parts earlier later : List CaptureFile) (part : CaptureFile) (at : ℕ)
    → file.start ≤ length file.bytes → IsReadIn file parts → parts ≡ earlier ++ part ∷ later → damage_of part ≡ Some at
    → damage_of file ≡ Some (place_behind file earlier + at)
damage_in_parts file parts earlier later part at h is split damaged =
    ap damage_of (sym (is-grown_file file is.pieces is.cut))
    ∙ damage-behind (front_of file) is.pieces earlier later part at (at_front file h).long
    (sym (from-front file parts is h) ∙ split) damaged
    ∙ ap (λ (k : ℕ). Some (k + length (concat (flat_map parts_of earlier)) + at)) (at_front file h).offset

pub sound_in_parts : (file : CaptureFile) (parts : List CaptureFile) → file.start ≤ length file.bytes
    → IsReadIn file parts
    → AllByRecursion (λ part. damage_of part ≡ None) parts → damage_of file ≡ None
sound_in_parts file parts h is all =
    ap damage_of (sym (is-grown_file file is.pieces is.cut))
    ∙ sound-behind (front_of file) is.pieces (at_front file h).long (at_front file h).sound
    (subst (AllByRecursion (λ part. damage_of part ≡ None)) (from-front file parts is h) all)
