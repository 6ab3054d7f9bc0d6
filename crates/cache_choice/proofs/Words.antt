-- A content of a key, and one that takes a fragment in.
use Rattle.std.proofs.Common.{◌≡◌, ◌≢◌, inl, inr, ℕ, List, ◌∷◌, [], ◌++◌, Option, Some, None, MatchOption, get_or, set}
use Rattle.std.proofs.Common.{take}
use Rattle.std.proofs.Common.{ap, sym, ◌∙◌, subst}
use Rattle.flow_key.specs.declared.key.FlowKey.{FlowKey}
use Rattle.flow_key.specs.Key.{words_of}
use Rattle.flow_key.proofs.KeyWords.{same_words}
use Rattle.flow_parts.specs.declared.fragment.Fragment.{Fragment}
use Rattle.flow_parts.specs.declared.timeouts.Timeouts.{Timeouts}
use Rattle.flow_parts.specs.Parts.{IsJoined, part_words}
use Rattle.cache_face.specs.Choice.{CanJoin, HasKey}
use Rattle.cache_face.specs.Keeping.{IsWhole, entry_of}
use Rattle.cache_face.proofs.Contents.{words_show, empty_shows, some_is}
use Rattle.cache_choice.proofs.ByWords.{key_words}
use Rattle.cache_choice.proofs.Putting.{joins_key}

-- a content with the words of a key that isn't empty shows a fragment of the key
pub has_key : (content : List ℕ) (key : FlowKey) → IsWhole content → take 5 content ≡ words_of key
    → get_or content 5 0 ≢ 0 → HasKey key (entry_of content)
has_key content key (inl empty) words full = absurd (full empty)
has_key content key (inr whole) words full =
    subst (HasKey key) (sym (words_show whole.0) ∙ ap entry_of whole.1)
    (same_words whole.0.key key (ap (take 5) whole.1 ∙ words))

-- an empty one shows none
pub has_no_key : (content : List ℕ) (key : FlowKey) → get_or content 5 0 ≡ 0 → ¬ HasKey key (entry_of content)
has_no_key content key empty has = subst (HasKey key) (empty_shows content empty) has

-- where a content shows a fragment that can be one with another it has the words of the other's key
pub join_words : (limits : Timeouts) (content : List ℕ) (own : Fragment) → IsWhole content
    → CanJoin limits own (entry_of content) → take 5 content ≡ words_of own.key
join_words limits content own whole can =
    key_words content own.key whole (joins_key limits own (entry_of content) can)

-- the content with the five words behind the key written anew
abbrev pub rewritten : List ℕ → Fragment → List ℕ
rewritten content kept =
    set (set (set (set (set content 5 kept.packets) 6 kept.octets) 7 kept.first) 8 kept.last) 9 kept.flags

joined_at : (old own kept : Fragment) (entry : Option Fragment) → entry ≡ Some old
    → MatchOption entry ⊥ (λ old. IsJoined old own kept) → IsJoined old own kept
joined_at old own kept None is joined = absurd joined
joined_at old own kept (Some other) is joined = subst (λ f. IsJoined f own kept) (some_is other old is) joined

-- are the words of the fragment that took the other in
pub words_of_kept : (content : List ℕ) (own kept : Fragment) → IsWhole content
    → MatchOption (entry_of content) ⊥ (λ old. IsJoined old own kept)
    → rewritten content kept ≡ part_words kept
words_of_kept content own kept (inl empty) joined =
    absurd (subst (λ (e : Option Fragment). MatchOption e ⊥ (λ old. IsJoined old own kept)) (empty_shows content empty)
    joined)
words_of_kept content own kept (inr whole) joined =
    let old : Fragment = whole.0 in
    let is : entry_of content ≡ Some old = sym (ap entry_of whole.1) ∙ words_show old in
    let one : IsJoined old own kept = joined_at old own kept (entry_of content) is joined in
    ap (λ words. rewritten words kept) (sym whole.1)
    ∙ ap (λ key. words_of key ++ kept.packets ∷ kept.octets ∷ kept.first ∷ kept.last ∷ kept.flags ∷ []) (sym one.key)
