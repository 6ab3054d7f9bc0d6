-- The packets at the places of an index.
use Rattle.std.proofs.Common.{◌≡◌, ℕ, ◌+◌, ◌-◌, ◌≤◌, ◌<◌, take, drop, List, [], ◌∷◌, ◌++◌, length, get_or, Ok, Some}
use Rattle.std.proofs.Common.{refl, sym, ap, subst, ◌∙◌, arith}
use Rattle.std.specs.Prelude.{All, slice_get, slice_range, option_map}
use Rattle.std.proofs.lemmas.List.{length-take, length-drop, drop-take, drop-drop, take-take}
use Rattle.std.proofs.lemmas.Option.{slice_get-map, slice_get-get_or}
use Rattle.pcapng_reader.specs.declared.interface.Interface.{Interface}
use Rattle.pcapng_reader.specs.declared.index.Place.{Place}
use Rattle.pcapng_reader.specs.Records.{LinkedRecord}
use Rattle.pcapng_reader.specs.Reading.{Found, found_in}
use Rattle.pcapng_reader.specs.Index.{IsPlaceIn, record_at, records_at, found_at}

-- one place more
pub records_at-push : (bytes : List ℕ) (places : List Place) (place : Place)
    → records_at bytes (places ++ place ∷ []) ≡ records_at bytes places ++ record_at bytes place ∷ []
records_at-push bytes [] place = refl
records_at-push bytes (first ∷ places) place =
    ap (λ (rest : List LinkedRecord). record_at bytes first ∷ rest) (records_at-push bytes places place)

-- what is known of each place is known of the one that was read
pub at-place : (bytes : List ℕ) (places : List Place) (n : ℕ) (read place : Place) → All (IsPlaceIn bytes) places
    → n < length places
    → read ≡ get_or places n read → read ≡ place → IsPlaceIn bytes place
at-place bytes places n read place all inside there is = subst (IsPlaceIn bytes) (sym there ∙ is) (all n read inside)

-- the record at the place of the n-th packet is the n-th record
pub record-there : (bytes : List ℕ) (interfaces : List Interface) (places : List Place) (n : ℕ) (read place : Place)
    (found : Found)
    → found_in bytes ≡ Ok (found_at bytes interfaces places) → n < length places → read ≡ get_or places n read
    → read ≡ place
    → found_in bytes ≡ Ok found → slice_get found.records n ≡ Some (record_at bytes place)
record-there bytes interfaces places n read place found index inside there is told =
    let same : found ≡ found_at bytes interfaces places = cc in
    let one : get_or places n read ≡ place = sym there ∙ is in
    ap (λ (f : Found). slice_get f.records n) same ∙ slice_get-map (record_at bytes) places n
    ∙ ap (option_map (record_at bytes)) (slice_get-get_or places n read inside)
    ∙ ap (λ (p : Place). Some (record_at bytes p)) one

-- a part of a part of the file is a part of the file
pub part-of-part : (bytes captured : List ℕ) (from to : ℕ) → from ≤ to → to ≤ length bytes
    → 28 + length captured ≤ length (slice_range bytes from to)
    → captured ≡ slice_range (slice_range bytes from to) 28 (28 + length captured)
    → (at : ℕ) × (at + length captured ≤ length bytes) × (captured ≡ slice_range bytes at (at + length captured))
part-of-part bytes captured from to forward within whole is =
    let n = length captured in
    let left = drop from bytes in
    let long : length (slice_range bytes from to) ≡ to - from =
    omega (arith, length-take (to - from) left, length-drop from bytes) in
    let more : to - from ≡ 28 + (to - from - 28) = omega (arith, long, whole) in
    let few : 28 + n - 28 ≡ n = omega arith in
    let same : from + 28 + n - (from + 28) ≡ n = omega arith in
    let inner : drop 28 (take (to - from) left) ≡ take (to - from - 28) (drop (from + 28) bytes) =
    ap (λ (k : ℕ). drop 28 (take k left)) more ∙ drop-take 28 (to - from - 28) left
    ∙ ap (take (to - from - 28)) (drop-drop 28 from bytes) in
    let less : n ≤ to - from - 28 = omega (arith, long, whole) in
    let cut : captured ≡ take n (drop (from + 28) bytes) = is ∙ ap (take (28 + n - 28)) inner
    ∙ ap (λ (k : ℕ). take k (take (to - from - 28) (drop (from + 28) bytes))) few
    ∙ take-take n (to - from - 28) (drop (from + 28) bytes) less in
    (from + 28, omega (arith, long, whole), cut ∙ ap (λ (k : ℕ). take k (drop (from + 28) bytes)) (sym same))
