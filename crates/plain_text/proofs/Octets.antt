-- Octets that are written one behind the other.
use Rattle.std.proofs.Common.{◌≡◌, ◌≤◌, ◌<◌, ◌+◌, ◌/◌, ◌%◌, ℕ, List, [], ◌∷◌, ◌++◌, length, drop, slice_index, refl}
use Rattle.std.proofs.Common.{sym, ap, ◌∙◌, append_assoc, append-nil}
use Rattle.std.proofs.lemmas.List.{drop_all}
use Rattle.hex.specs.Hex.{encode_lower, encode_with, lower_digits}
use Rattle.hex.proofs.Pairs.{encode_with-drop}

one : (octet : ℕ) (rest : List ℕ) → encode_lower (octet ∷ [])
    ++ rest ≡ slice_index lower_digits (octet / 16) ∷ slice_index lower_digits (octet % 16) ∷ rest
unfolding encode_with
one octet rest = refl

-- one more octet
pub written-next : (old new all octets : List ℕ) (i : ℕ) → i < length octets
    → new ≡ old ++ encode_lower (slice_index octets i ∷ [])
    → old ++ encode_lower (drop i octets) ≡ all → new ++ encode_lower (drop (i + 1) octets) ≡ all
written-next old new all octets i inside is before =
    ap (λ text. text ++ encode_lower (drop (i + 1) octets)) is
    ∙ append_assoc old (encode_lower (slice_index octets i ∷ [])) (encode_lower (drop (i + 1) octets))
    ∙ ap (λ rest. old ++ rest) (one (slice_index octets i) (encode_lower (drop (i + 1) octets))
    ∙ sym (encode_with-drop lower_digits octets i inside))
    ∙ before

-- all octets
pub written-all : (text all octets : List ℕ) (i : ℕ) → length octets ≤ i → text ++ encode_lower (drop i octets) ≡ all
    → text ≡ all
unfolding encode_with
written-all text all octets i past is =
    sym (append-nil text) ∙ ap (λ rest. text ++ encode_lower rest) (sym (drop_all i octets past)) ∙ is
