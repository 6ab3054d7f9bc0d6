-- What a pass is told of the fragment that it put in, or that was passed by.
use Rattle.std.proofs.Common.{◌≡◌, ℕ, zero, suc, ◌<◌, List, ◌++◌, length, replicate, Option, Some, refl, ap, subst, sym}
use Rattle.std.proofs.Common.{All, MatchOption, option_map}
use Rattle.std.proofs.lemmas.List.{length-replicate}
use Rattle.std.proofs.lemmas.List.Elements.{All-nil, All-cons}
use Rattle.flow_key.specs.Key.{set_number}
use Rattle.flow_parts.specs.declared.fragment.Fragment.{Fragment}
use Rattle.flow_parts.specs.declared.timeouts.Timeouts.{Timeouts}
use Rattle.cache_face.specs.Choice.{IsChoice}
use Rattle.cache_face.specs.declared.metered.How.{How}
use Rattle.cache_face.specs.declared.metered.How.TheVariants as how
use Rattle.flow_parts.specs.Parts.{part_words}
use Rattle.cache_face.proofs.Contents.{words_show}
use Rattle.cache_face.specs.Meaning.{CacheMeans, Written, PassMeans, IsAnswer}
use Rattle.cache_face.specs.Tries.{HasLost, IsTryCount}
use Rattle.turn_cache.specs.Hands.{Hand, entries_of}
use Rattle.turn_cache.specs.Moves.{filled_hand, after_tries}
use Rattle.turn_cache.specs.Shown.{IsTryOf}
use Rattle.turn_cache.proofs.Writing.{shown_there}

-- what a seat's knowledge means
abbrev pub hand_means : Hand → PassMeans
hand_means hand =
    record { note = hand.note; set = hand.set; entries = entries_of hand.read; written = hand.written }

-- so many tries that were lost at a set
all_at_set : (tries set : ℕ) → All (IsTryOf set) (replicate tries set)
all_at_set zero set = All-nil (IsTryOf set)
all_at_set (suc tries) set = All-cons (IsTryOf set) set (replicate tries set) refl (all_at_set tries set)

cites : (cache : CacheMeans) (entries : List (Option Fragment)) (own : Fragment) (out : Option Fragment) (by : How)
    (place : ℕ) (kept : Fragment) (written : Option Written) → written ≡ Some (record { place = place; kept = kept })
    → IsChoice cache.limits entries own by place out kept
    → MatchOption written ⊥ (λ wrote. IsChoice cache.limits entries own by wrote.place out wrote.kept)
cites cache entries own out by place kept written is chosen =
    subst (λ (w : Option Written). MatchOption w ⊥ (λ wrote. IsChoice cache.limits entries own by wrote.place out
    wrote.kept)) (sym is) chosen

answer_is : (cache : CacheMeans) (pass : PassMeans) (own : Fragment) (out : Option Fragment) (place : ℕ)
    (kept : Fragment) (by : How)
    → pass.set ≡ set_number own.key cache.sets → length pass.entries ≡ 4
    → pass.written ≡ Some (record { place = place; kept = kept })
    → IsChoice cache.limits pass.entries own by place out kept → IsAnswer cache pass own by out
answer_is cache pass own out place kept how.Joined set four wrote chosen = record {
  set = set;
  four = four;
  chosen = cites cache pass.entries own out how.Joined place kept pass.written wrote chosen;
}
answer_is cache pass own out place kept how.Opened set four wrote chosen = record {
  set = set;
  four = four;
  chosen = cites cache pass.entries own out how.Opened place kept pass.written wrote chosen;
}
answer_is cache pass own out place kept how.Replaced set four wrote chosen = record {
  set = set;
  four = four;
  chosen = cites cache pass.entries own out how.Replaced place kept pass.written wrote chosen;
}
answer_is cache pass own out place kept how.PassedBy set four wrote chosen = absurd chosen

pub answered : (cache : CacheMeans) (hand : Hand) (own : Fragment) (out : Option Fragment) (place : ℕ) (kept : Fragment)
    (by : How) (set tries : ℕ) (words : List ℕ)
    → set ≡ set_number own.key cache.sets → length words ≡ 40
    → IsChoice cache.limits (entries_of words) own by place out kept
    → IsAnswer cache (hand_means (filled_hand words place (part_words kept) own out (after_tries set tries hand))) own
    by out
answered cache hand own out place kept by set tries words is_set long chosen =
    answer_is cache (hand_means (filled_hand words place (part_words kept) own out (after_tries set tries hand)))
    own out place kept by is_set (ap length (shown_there words long))
    (ap (option_map (λ (f : Fragment). let wrote : Written = record { place = place; kept = f } in wrote))
    (words_show kept)) chosen

few : (limits : Timeouts) (entries : List (Option Fragment)) (own kept : Fragment) (by : How) (place tries : ℕ)
    (out : Option Fragment) → IsChoice limits entries own by place out kept → tries < 3 → IsTryCount by tries
few limits entries own kept how.Joined place tries out chosen low = low
few limits entries own kept how.Opened place tries out chosen low = low
few limits entries own kept how.Replaced place tries out chosen low = low
few limits entries own kept how.PassedBy place tries out chosen low = absurd chosen

-- the tries that were lost at a set, in a call that answers so
pub lost_at : (by : How) (tries set at : ℕ) (lost : List ℕ) → set ≡ at → IsTryCount by tries
    → HasLost (IsTryOf at) by lost (replicate tries set ++ lost)
lost_at by tries set at lost is_set many = record {
  tries = replicate tries set;
  listed = refl;
  each = subst (λ n. All (IsTryOf n) (replicate tries set)) is_set (all_at_set tries set);
  many = subst (IsTryCount by) (sym (length-replicate {A = ℕ} tries set)) many;
}

pub lost_before : (limits : Timeouts) (entries : List (Option Fragment)) (own kept : Fragment) (by : How) (place : ℕ)
    (out : Option Fragment) (tries set at : ℕ) (lost : List ℕ)
    → IsChoice limits entries own by place out kept → tries < 3 → set ≡ at
    → HasLost (IsTryOf at) by lost (replicate tries set ++ lost)
lost_before limits entries own kept by place out tries set at lost chosen low is_set =
    lost_at by tries set at lost is_set (few limits entries own kept by place tries out chosen low)
