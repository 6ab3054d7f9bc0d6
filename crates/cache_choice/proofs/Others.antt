-- Contents where none shows a fragment of the key: empty ones, and last times.
use Rattle.std.proofs.Common.{◌≡◌, inl, inr, ℕ, ◌<◌, List, [], length, get_or, Option, Some, None, IsNone, IfSome, refl}
use Rattle.std.proofs.Common.{ap, sym, ◌∙◌, subst}
use Rattle.std.specs.Prelude.{map}
use Rattle.flow_parts.specs.declared.fragment.Fragment.{Fragment}
use Rattle.cache_face.specs.Choice.{entry_at}
use Rattle.cache_face.specs.Keeping.{entry_of, IsWhole, IsEmptyContent}
use Rattle.cache_face.proofs.Contents.{words_show, empty_shows}
use Rattle.cache_choice.proofs.ByWords.{entry_here}

-- a whole content shows no fragment exactly where it is empty
pub none_where : (content : List ℕ) → IsEmptyContent content → IsNone (entry_of content)
none_where content empty = subst IsNone (sym (empty_shows content empty)) refl

pub empty_where : (content : List ℕ) → IsWhole content → IsNone (entry_of content) → IsEmptyContent content
empty_where content (inl empty) none = empty
empty_where content (inr whole) none =
    let some : IsNone (Some whole.0) = subst IsNone (ap entry_of (sym whole.1) ∙ words_show whole.0) none in
    cc

pub none_there : (contents : List (List ℕ)) (place : ℕ) → place < length contents
    → get_or (get_or contents place []) 5 0 ≡ 0 → IsNone (entry_at (map entry_of contents) place)
none_there contents place low empty =
    subst IsNone (sym (entry_here contents place low)) (none_where (get_or contents place []) empty)

pub empty_there : (contents : List (List ℕ)) (place : ℕ) → place < length contents → IsWhole (get_or contents place [])
    → IsNone (entry_at (map entry_of contents) place) → get_or (get_or contents place []) 5 0 ≡ 0
empty_there contents place low whole none =
    empty_where (get_or contents place []) whole (subst IsNone (entry_here contents place low) none)

-- the ninth word of a whole content is the last time of the fragment that it shows
pub last_shown : (content : List ℕ) (old : Fragment) → IsWhole content → entry_of content ≡ Some old
    → get_or content 8 0 ≡ old.last
last_shown content old (inl empty) shown =
    let none : None ≡ Some old = sym (empty_shows content empty) ∙ shown in
    cc
last_shown content old (inr whole) shown =
    let is : Some whole.0 ≡ Some old = sym (words_show whole.0) ∙ ap entry_of whole.1 ∙ shown in
    let same : whole.0 ≡ old = cc in
    ap (λ ws. get_or ws 8 0) (sym whole.1) ∙ ap (λ (f : Fragment). f.last) same

-- where a number is the last time of each fragment that an entry can be, it is that of the entry
last_if : (entry : Option Fragment) (n : ℕ) → ((old : Fragment) → entry ≡ Some old → n ≡ old.last)
    → IfSome entry (λ old. n ≡ old.last)
last_if None n at = tt
last_if (Some old) n at = at old refl

pub last_there : (contents : List (List ℕ)) (place : ℕ) → place < length contents → IsWhole (get_or contents place [])
    → IfSome (entry_at (map entry_of contents) place) (λ old. get_or (get_or contents place []) 8 0 ≡ old.last)
last_there contents place low whole =
    last_if (entry_at (map entry_of contents) place) (get_or (get_or contents place []) 8 0)
    (λ old shown. last_shown (get_or contents place []) old whole (sym (entry_here contents place low) ∙ shown))
