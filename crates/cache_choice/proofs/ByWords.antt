-- Contents of a key, by their words.
use Rattle.std.proofs.Common.{◌≡◌, ◌≢◌, ◌⊎◌, inl, inr, ℕ, zero, suc, ◌+◌, ◌<◌, List, [], ◌∷◌, length, get_or, take}
use Rattle.std.proofs.Common.{Some, refl, ap, sym, ◌∙◌, subst, arith}
use Rattle.std.specs.Prelude.{map}
use Rattle.std.proofs.lemmas.Bool.{cases_eq}
use Rattle.flow_key.specs.declared.key.FlowKey.{FlowKey}
use Rattle.flow_key.specs.Key.{words_of}
use Rattle.flow_key.proofs.KeyWords.{same_words}
use Rattle.flow_parts.specs.declared.fragment.Fragment.{Fragment}
use Rattle.flow_parts.specs.Parts.{part_words}
use Rattle.flow_parts.proofs.PartWords.{part_same}
use Rattle.cache_face.specs.Choice.{HasKey, entry_at}
use Rattle.cache_face.specs.Keeping.{entry_of, IsWhole}
use Rattle.cache_face.proofs.Contents.{words_show, empty_shows}

-- the first five words of a content that shows a fragment of the key are those of the key
pub key_words : (content : List ℕ) (key : FlowKey) → IsWhole content → HasKey key (entry_of content)
    → take 5 content ≡ words_of key
key_words content key (inl empty) has = absurd (subst (HasKey key) (empty_shows content empty) has)
key_words content key (inr whole) has =
    let f : Fragment = whole.0 in
    let same : f.key ≡ key = subst (HasKey key) (ap entry_of (sym whole.1) ∙ words_show f) has in
    ap (take 5) (sym whole.1) ∙ ap words_of same

-- a whole content that isn't empty shows the fragment of its numbers, and of the key whose words it has
pub shows_of_key : (content : List ℕ) (made : Fragment) → IsWhole content → take 5 content ≡ words_of made.key
    → get_or content 5 0 ≢ 0 → made.packets ≡ get_or content 5 0 → made.octets ≡ get_or content 6 0
    → made.first ≡ get_or content 7 0 → made.last ≡ get_or content 8 0 → made.flags ≡ get_or content 9 0
    → Some made ≡ entry_of content
shows_of_key content made (inl empty) words counted p o f l g = absurd (counted empty)
shows_of_key content made (inr whole) words counted p o f l g =
    let old : Fragment = whole.0 in
    let at : (k : ℕ) → get_or (part_words old) k 0 ≡ get_or content k 0 = λ k. ap (λ ws. get_or ws k 0) whole.1 in
    let key : old.key ≡ made.key = same_words old.key made.key (ap (take 5) whole.1 ∙ words) in
    let same : old ≡ made =
    part_same old made key (at 5 ∙ sym p) (at 6 ∙ sym o) (at 7 ∙ sym f) (at 8 ∙ sym l) (at 9 ∙ sym g) in
    ap Some (sym same) ∙ sym (words_show old) ∙ ap entry_of whole.1

-- the entry at a place is that of the content there
pub entry_here : (contents : List (List ℕ)) (place : ℕ) → place < length contents
    → entry_at (map entry_of contents) place ≡ entry_of (get_or contents place [])
entry_here [] place low = absurd (omega (arith, low))
entry_here (content ∷ contents) zero low = refl
entry_here (content ∷ contents) (suc place) low = entry_here contents place (omega (arith, low))

-- four contents one by one
pub four_here : (contents : List (List ℕ)) → length contents ≡ 4
    → map entry_of contents
    ≡ entry_of (get_or contents 0 []) ∷ entry_of (get_or contents 1 []) ∷ entry_of (get_or contents 2 [])
    ∷ entry_of (get_or contents 3 []) ∷ []
four_here [] e = absurd (omega (arith, e))
four_here (a ∷ []) e = absurd (omega (arith, e))
four_here (a ∷ b ∷ []) e = absurd (omega (arith, e))
four_here (a ∷ b ∷ c ∷ []) e = absurd (omega (arith, e))
four_here (a ∷ b ∷ c ∷ d ∷ []) e = refl
four_here (a ∷ b ∷ c ∷ d ∷ x ∷ more) e = absurd (omega (arith, e))

-- where none of the first contents shows a fragment of the key, and the next one hasn't its words, none of one more
-- does
pub none_more : (key : FlowKey) (contents : List (List ℕ)) (place : ℕ) → place < length contents
    → ((lower : ℕ) → lower < place → ¬ HasKey key (entry_at (map entry_of contents) lower))
    → IsWhole (get_or contents place []) → take 5 (get_or contents place []) ≢ words_of key
    → (lower : ℕ) → lower < place + 1 → ¬ HasKey key (entry_at (map entry_of contents) lower)
none_more key contents place low below whole other lower less = at (cases_eq lower place)
  where
    at : ((lower ≡ place) ⊎ (lower ≡ place → ⊥)) → ¬ HasKey key (entry_at (map entry_of contents) lower)
    at (inl is) = λ has. other (key_words (get_or contents place []) key whole
        (subst (HasKey key) (ap (entry_at (map entry_of contents)) is ∙ entry_here contents place low) has))
    at (inr not_this) = below lower (omega (arith, less, not_this))
