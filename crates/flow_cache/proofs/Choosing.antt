-- A choice in words, with the fragment that is put out.
use Rattle.std.proofs.Common.{◌≡◌, ◌<◌, ◌∙◌, [], ℕ, List, length, get_or, map, Option, sym, ap, subst}
use Rattle.flow_parts.specs.declared.fragment.Fragment.{Fragment}
use Rattle.flow_parts.specs.declared.timeouts.Timeouts.{Timeouts}
use Rattle.cache_face.specs.declared.metered.How.{How}
use Rattle.cache_face.specs.Choice.{IsChoice, entry_at}
use Rattle.cache_face.specs.Keeping.{entry_of}
use Rattle.cache_choice.specs.Chosen.{IsChosen, out_of}
use Rattle.cache_choice.proofs.ByWords.{entry_here}

-- what is put out of the content at a place is the entry there, where it is replaced
pub choice_is : (limits : Timeouts) (contents : List (List ℕ)) (own : Fragment) (how : How) (place : ℕ) (words : List ℕ)
    (out : Option Fragment) → place < length contents
    → out ≡ out_of how (entry_of (get_or contents place [])) → (chosen : IsChosen limits contents own how place words)
    → IsChoice limits (map entry_of contents) own how place out chosen.0
choice_is limits contents own how place words out low is chosen =
    let here : out ≡ out_of how (entry_at (map entry_of contents) place) =
    is ∙ ap (out_of how) (sym (entry_here contents place low)) in
    subst (λ o. IsChoice limits (map entry_of contents) own how place o chosen.0) (sym here) chosen.2
