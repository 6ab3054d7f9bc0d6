-- What a pass is told of the fragment that it put in, or that was passed by.
use Rattle.std.proofs.Common.{◌≡◌, List, ◌++◌, ℕ, length, Option, MatchOption, All, sym, ap, ◌∙◌, subst, append_assoc}
use Rattle.flow_key.specs.Key.{set_number}
use Rattle.flow_parts.specs.declared.fragment.Fragment.{Fragment}
use Rattle.flow_parts.specs.declared.timeouts.Timeouts.{Timeouts}
use Rattle.cache_face.specs.declared.metered.How.{How}
use Rattle.cache_face.specs.declared.metered.How.TheVariants as how
use Rattle.cache_face.specs.Choice.{IsChoice}
use Rattle.cache_face.specs.Meaning.{CacheMeans, Written, PassMeans, IsAnswer, IsChosen}
use Rattle.cache_face.specs.Tries.{HasLost, IsTryCount}
use Rattle.pebr_words.specs.Pasts.{Lost, History}
use Rattle.flow_cache.specs.Outcome.{IsOutcome, HaveLost}
use Rattle.flow_cache.specs.Reading.{entries_read, set_read, written_in}
use Rattle.flow_cache.specs.Shown.{IsTryOf}
use Rattle.flow_cache.specs.Trying.{HasChosen}

-- the tries that a pass lost stand before those that it had lost
pub lost_on : (tries lost lost' more more' : List Lost) → lost' ≡ tries ++ lost → more' ≡ more
    → lost' ++ more' ≡ tries ++ (lost ++ more)
lost_on tries lost lost' more more' is same =
    ap (λ l. l ++ more') is ∙ ap (λ l. (tries ++ lost) ++ l) same ∙ append_assoc tries lost more

try_count : (limits : Timeouts) (seats set : ℕ) (past : History) (own : Fragment) (count : ℕ) (by : How)
    (out : Option Fragment) → IsOutcome limits seats set past own count by out → IsTryCount by count
try_count limits seats set past own count how.Joined out h = h.0
try_count limits seats set past own count how.Opened out h = h.0
try_count limits seats set past own count how.Replaced out h = h.0
try_count limits seats set past own count how.PassedBy out h = h.0

-- the tries that a call lost
pub lost_at : (limits : Timeouts) (seats set at : ℕ) (past : History) (own : Fragment) (count : ℕ) (by : How)
    (out : Option Fragment) (old new : History) (lost lost' : List Lost) (tries : HaveLost set count old new)
    → IsOutcome limits seats set past own count by out → set ≡ at → lost' ≡ tries.tries ++ lost
    → HasLost (IsTryOf at) by lost lost'
lost_at limits seats set at past own count by out old new lost lost' tries outcome is listed = record {
  tries = tries.tries;
  listed = listed;
  each = subst (λ (n : ℕ). All (IsTryOf n) tries.tries) is tries.each;
  many = subst (IsTryCount by) (sym tries.many) (try_count limits seats set past own count by out outcome);
}

module _ (cache : CacheMeans) (pass : PassMeans) (past : History) (own : Fragment) (out : Option Fragment)
    (at count : ℕ)
    (set_is : at ≡ set_number own.key cache.sets) (set_shown : pass.set ≡ set_read past.loads)
    (entries_shown : pass.entries ≡ entries_read past (set_read past.loads))
    (written_shown : pass.written ≡ written_in past.put) where
  put_in : (by : How) → HasChosen cache.limits at past own by out → IsChosen cache pass own by out
  put_in by h = record {
    set = set_shown ∙ h.last ∙ set_is;
    four = ap length (entries_shown ∙ ap (entries_read past) h.last) ∙ h.four;
    chosen = subst
        (λ (w : Option Written). MatchOption w ⊥
        (λ wrote. IsChoice cache.limits pass.entries own by wrote.place out wrote.kept)) (sym written_shown)
        (subst (λ es. MatchOption (written_in past.put) ⊥
        (λ wrote. IsChoice cache.limits es own by wrote.place out wrote.kept))
        (sym (entries_shown ∙ ap (entries_read past) h.last)) h.chosen);
  }

  pub answered : (by : How) → IsOutcome cache.limits cache.seats at past own count by out
      → IsAnswer cache pass own by out
  answered how.Joined h = put_in how.Joined h.1
  answered how.Opened h = put_in how.Opened h.1
  answered how.Replaced h = put_in how.Replaced h.1
  answered how.PassedBy h = (h.1, h.2)
