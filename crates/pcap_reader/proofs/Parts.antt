-- The records that stand one behind the other from a place on: the first of them, and none.
use Rattle.std.proofs.Common.{◌≡◌, ℕ, zero, suc, ◌+◌, true, false, List, [], ◌∷◌, take, drop, refl, sym, ap, ◌∙◌, arith}
use Rattle.std.proofs.lemmas.List.{drop-drop}
use Rattle.octets.specs.declared.endianness.Endianness.{Endianness}
use Rattle.pcap_reader.specs.Records.{claimed_len, begins_with_record, record_parts}
use Rattle.pcap_reader.specs.Front.{EndsAt}

-- those from a place on are those of what is left from there
pub record_parts-drop : (order : Endianness) (from : ℕ) (bytes : List ℕ)
    → record_parts order from bytes ≡ record_parts order 0 (drop from bytes)
unfolding record_parts
record_parts-drop order zero bytes = refl
record_parts-drop order (suc from) [] = refl
record_parts-drop order (suc from) (byte ∷ bytes) = record_parts-drop order from bytes

record_parts-first : (order : Endianness) (bytes : List ℕ) → begins_with_record order bytes ≡ true
    → record_parts order 0 bytes ≡ take (16 + claimed_len order bytes) bytes ∷ record_parts order 0
    (drop (16 + claimed_len order bytes) bytes)
unfolding record_parts begins_with_record
record_parts-first order [] h = cc
record_parts-first order (byte ∷ bytes) h =
    let n = claimed_len order (byte ∷ bytes) in
    let more : 16 + n ≡ suc (15 + n) = omega arith in
    let left : drop (15 + n) bytes ≡ drop (16 + n) (byte ∷ bytes) = sym (ap (λ (k : ℕ). drop k (byte ∷ bytes)) more) in
    rw h (ap (λ (parts : List (List ℕ)). take (16 + n) (byte ∷ bytes) ∷ parts) (record_parts-drop order (15 + n) bytes
    ∙ ap (record_parts order 0) left))

record_parts-none : (order : Endianness) (bytes : List ℕ) → begins_with_record order bytes ≡ false
    → record_parts order 0 bytes ≡ []
unfolding record_parts
record_parts-none order [] h = refl
record_parts-none order (byte ∷ bytes) h = rw h refl

-- where a record stands, it is the first of those from there on, and the others are those from its end on
pub record_parts-record : (order : Endianness) (bytes : List ℕ) (at end : ℕ) → EndsAt order bytes at end
    → record_parts order at bytes ≡ take (16 + claimed_len order (drop at bytes))
    (drop at bytes) ∷ record_parts order end bytes
record_parts-record order bytes at end h =
    let len = 16 + claimed_len order (drop at bytes) in
    let left : drop len (drop at bytes) ≡ drop end bytes = drop-drop len at bytes
    ∙ ap (λ (k : ℕ). drop k bytes) (sym h.behind) in
    record_parts-drop order at bytes ∙ record_parts-first order (drop at bytes) h.is_record
    ∙ ap (λ (parts : List (List ℕ)). take len (drop at bytes) ∷ parts) (ap (record_parts order 0) left
    ∙ sym (record_parts-drop order end bytes))

-- where no record stands, there are none from there on
pub record_parts-rest : (order : Endianness) (bytes : List ℕ) (at : ℕ)
    → begins_with_record order (drop at bytes) ≡ false → record_parts order at bytes ≡ []
record_parts-rest order bytes at h = record_parts-drop order at bytes ∙ record_parts-none order (drop at bytes) h
