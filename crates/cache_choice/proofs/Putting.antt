-- What is put out, by the rule of the choice.
use Rattle.std.proofs.Common.{◌≡◌, inl, inr, ℕ, ◌<◌, List, [], length, get_or, Option, Some, None, MatchOption, refl}
use Rattle.std.proofs.Common.{sym, subst}
use Rattle.std.specs.Prelude.{map}
use Rattle.std.proofs.lemmas.List.{length-map}
use Rattle.flow_parts.specs.declared.fragment.Fragment.{Fragment}
use Rattle.flow_parts.specs.declared.timeouts.Timeouts.{Timeouts}
use Rattle.cache_face.specs.declared.metered.How.{How}
use Rattle.cache_face.specs.declared.metered.How.TheVariants.{Joined, Opened, Replaced, PassedBy}
use Rattle.flow_parts.specs.Parts.{part_words, IsJoined}
use Rattle.cache_face.specs.Choice.{CanJoin, HasKey, IsChoice, Joins, entry_at}
use Rattle.cache_face.specs.Keeping.{entry_of}
use Rattle.cache_choice.specs.Chosen.{out_of, IsChosen}
use Rattle.cache_choice.proofs.ByWords.{entry_here}

-- a choice puts out what its rule says
pub out_is : (limits : Timeouts) (entries : List (Option Fragment)) (own : Fragment) (how : How) (place : ℕ)
    (out : Option Fragment) (kept : Fragment)
    → IsChoice limits entries own how place out kept → out ≡ out_of how (entry_at entries place)
out_is limits entries own Joined place out kept chosen = chosen.none_out
out_is limits entries own Opened place out kept chosen = chosen.none_out
out_is limits entries own Replaced place out kept (inl anew) = anew.out_is
out_is limits entries own Replaced place out kept (inr oldest) = oldest.out_is
out_is limits entries own PassedBy place out kept chosen = absurd chosen

-- a choice among the entries that the contents show is one in words
pub chosen_is : (limits : Timeouts) (contents : List (List ℕ)) (entries : List (Option Fragment))
    (own kept : Fragment) (how : How) (place : ℕ) (out : Option Fragment) (words : List ℕ)
    → entries ≡ map entry_of contents → part_words kept ≡ words → IsChoice limits entries own how place out kept
    → IsChosen limits contents own how place words
chosen_is limits contents entries own kept how place out words same shown chosen =
    let here : IsChoice limits (map entry_of contents) own how place out kept =
    subst (λ (es : List (Option Fragment)). IsChoice limits es own how place out kept) same chosen in (
      kept,
      shown,
      subst (λ (o : Option Fragment). IsChoice limits (map entry_of contents) own how place o kept)
          (out_is limits (map entry_of contents) own how place out kept here) here,
    )

-- an entry that can be one with a fragment has its key
pub joins_key : (limits : Timeouts) (own : Fragment) (entry : Option Fragment) → CanJoin limits own entry
    → HasKey own.key entry
joins_key limits own None joins = joins
joins_key limits own (Some old) joins = joins.one_key

-- the lowest content of the key takes the fragment in, where it can be one with it
pub joins_there : (limits : Timeouts) (contents : List (List ℕ)) (own kept : Fragment) (place : ℕ)
    → place < length contents
    → ((lower : ℕ) → lower < place → ¬ HasKey own.key (entry_at (map entry_of contents) lower))
    → CanJoin limits own (entry_of (get_or contents place []))
    → MatchOption (entry_of (get_or contents place [])) ⊥ (λ old. IsJoined old own kept)
    → Joins limits (map entry_of contents) own place None kept
joins_there limits contents own kept place low below joins joined =
    let here : entry_of (get_or contents place []) ≡ entry_at (map entry_of contents) place =
    sym (entry_here contents place low) in
    record {
      lowest = record {
        below = rw length-map low;
        is = subst (CanJoin limits own) here joins;
        first = λ lower less can.
            below lower less (joins_key limits own (entry_at (map entry_of contents) lower) can);
      };
      joined = subst (λ (entry : Option Fragment). MatchOption entry ⊥ (λ old. IsJoined old own kept)) here joined;
      none_out = refl;
    }
