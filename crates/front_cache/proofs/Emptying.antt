-- What stands when an entry is emptied.
use Rattle.std.proofs.Common.{◌≡◌, ◌⊎◌, inl, inr, ℕ, ◌<◌, ◌≤◌, List, [], ◌∷◌, ◌++◌, length, All, Option, None, IsNone}
use Rattle.std.proofs.Common.{IfSome}
use Rattle.std.proofs.Common.{option_to_list, get_or, set, refl, ap, sym, ◌∙◌, subst, arith}
use Rattle.std.specs.Prelude.{map}
use Rattle.std.proofs.lemmas.Bool.{cases_lt}
use Rattle.std.proofs.lemmas.List.{length-map, length-set, map-set, get_or-set_other}
use Rattle.std.proofs.lemmas.List.Elements.{All-get_or, All-map, All-set, All-weaker}
use Rattle.flow_parts.specs.declared.fragment.Fragment.{Fragment}
use Rattle.flow_parts.specs.declared.timeouts.Timeouts.{Timeouts}
use Rattle.cache_face.specs.Choice.{entry_at}
use Rattle.cache_face.specs.Keeping.{IsBounded, IsEmptyContent, IsWhole, entry_of}
use Rattle.cache_face.proofs.Contents.{empty_shows}
use Rattle.cache_choice.proofs.ByWords.{entry_here}
use Rattle.cache_choice.proofs.Entries.{first_open, none_open}
use Rattle.cache_choice.proofs.Others.{empty_there, none_there, none_where}
use Rattle.front_cache.specs.Fronts.{FrontMeans, open_in, parts_in}
use Rattle.front_cache.specs.Kept.{IsKept, IsNextOpen}

-- what is said of a front from which a fragment was taken out
pub record Emptied (old : FrontMeans) (contents : List (List ℕ)) (next : ℕ) (out : Option Fragment) : Type 0 where
  pub kept : IsKept contents next
  pub taken : open_in old ≡ option_to_list out ++ parts_in (map entry_of contents)
  pub some : ¬ IsNone out
  pub others : (place : ℕ) × (map entry_of contents ≡ set old.entries place None)

pub emptied_to : (old old' : FrontMeans) (contents contents' : List (List ℕ)) (next : ℕ) (out out' : Option Fragment)
    → old ≡ old' → contents' ≡ contents → out' ≡ out → Emptied old contents next out → Emptied old' contents' next out'
emptied_to old old' contents contents' next out out' here there is emptied =
    subst (λ f. Emptied f contents' next out') here
    (subst (λ c. Emptied old c next out') (sym there) (subst (λ o. Emptied old contents next o) (sym is) emptied))

bounded_none : (content : List ℕ) → IsEmptyContent content → IfSome (entry_of content) IsBounded
bounded_none content empty = subst (λ o. IfSome o IsBounded) (sym (empty_shows content empty)) tt

-- empty contents show nothing
pub empty_kept : (contents : List (List ℕ)) → length contents ≡ 4096 → All IsEmptyContent contents → IsKept contents 0
empty_kept contents many empty = record {
  many = many;
  whole = All-weaker IsEmptyContent IsWhole (λ content e. inl e) contents empty;
  bounded = All-weaker IsEmptyContent (λ content. IfSome (entry_of content) IsBounded) bounded_none contents empty;
  within = omega arith;
  emptied = λ place low. absurd (omega (arith, low));
}

pub empty_open : (contents : List (List ℕ)) → All IsEmptyContent contents → parts_in (map entry_of contents) ≡ []
empty_open contents empty = none_open (map entry_of contents) (λ place low.
    All-map IsNone entry_of contents (λ k d inside. none_where (get_or contents k d) (empty k d inside)) place None low)

module _ (contents : List (List ℕ)) (next found : ℕ) (keeps : IsKept contents next)
    (is : IsNextOpen contents next found) where
  -- all below the one that was found are empty
  emptied : (place : ℕ) → place < found → IsNone (entry_at (map entry_of contents) place)
  emptied place less = at (cases_lt place next)
    where
      at : (place < next) ⊎ (next ≤ place) → IsNone (entry_at (map entry_of contents) place)
      at (inl before) = keeps.emptied place before
      at (inr behind) = none_there contents place (let low = is.within in omega (arith, less, low))
          (is.empty place behind less)

  pub kept_from : IsKept contents found
  kept_from = record {
    many = keeps.many;
    whole = keeps.whole;
    bounded = keeps.bounded;
    within = (let many = keeps.many in let low = is.within in omega (arith, many, low));
    emptied = emptied;
  }

  pub none_left : found ≡ length contents → parts_in (map entry_of contents) ≡ []
  none_left end = none_open (map entry_of contents) (λ place less.
      (let many : length (map entry_of contents) ≡ length contents = length-map contents entry_of in
      emptied place (omega (arith, less, many, end))))

  module _ (new : List (List ℕ)) (content : List ℕ) (there : found < length contents)
      (nothing : IsEmptyContent content) (written : new ≡ set contents found content) where
    new_is : map entry_of new ≡ set (map entry_of contents) found None
    new_is = ap (map entry_of) written ∙ map-set entry_of contents found content
        ∙ ap (λ e. set (map entry_of contents) found e) (empty_shows content nothing)

    kept_taken : IsKept new found
    kept_taken = record {
      many = ap length written ∙ length-set contents found content ∙ keeps.many;
      whole = subst (All IsWhole) (sym written) (All-set IsWhole contents found content (inl nothing) keeps.whole);
      bounded = subst (All (λ content. IfSome (entry_of content) IsBounded)) (sym written)
          (All-set (λ content. IfSome (entry_of content) IsBounded) contents found content
          (bounded_none content nothing) keeps.bounded);
      within = (let many = keeps.many in omega (arith, many, there));
      emptied = λ place less.
          subst (λ (es : List (Option Fragment)). IsNone (entry_at es place)) (sym new_is)
          (subst IsNone
          (sym (get_or-set_other (map entry_of contents) found place None None (λ e. omega (arith, e, less))))
          (emptied place less));
    }

    pub emptied_at : (limits : Timeouts)
        → Emptied (record { limits = limits; entries = map entry_of contents }) new found
        (entry_of (get_or contents found []))
    emptied_at limits = record {
      kept = kept_taken;
      taken = first_open (map entry_of contents) found emptied
          (subst (λ n. found < n) (sym (length-map contents entry_of)) there)
          ∙ (λ i. option_to_list (entry_here contents found there i) ++ parts_in (sym new_is i));
      some = λ none. is.full there
          (empty_there contents found there (All-get_or IsWhole contents found [] there keeps.whole)
          (subst IsNone (sym (entry_here contents found there)) none));
      others = (found, new_is);
    }
