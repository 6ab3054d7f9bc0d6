-- A watcher after a call.
use Rattle.std.proofs.Common.{◌≡◌, ◌≢◌, ◌≤◌, ◌<◌, ◌+◌, ◌∷◌, ℕ, suc, List, replicate, refl, sym, ap}
use Rattle.std.proofs.Common.{◌∙◌, ◌*◌, subst, arith}
use Rattle.std.specs.Prelude.{IfSome}
use mathlib.Core.Option.{some}
use lib.ListN.{get_elem?}
use Rattle.flow_key.specs.declared.key.FlowKey.{FlowKey}
use Rattle.cache_face.specs.Meaning.{CacheMeans}
use Rattle.pebr_table.specs.Operations.{Op}
use Rattle.pebr_words.specs.Pasts.{was_ejected}
use Rattle.pebr_roots.specs.Orders.{HasMade}
use Rattle.pebr_roots.proofs.Counts.{made_none, made_on, made_in}
use Rattle.pebr_roots.specs.Passes.{known_by_pass, IsSame}
use Rattle.flow_cache.specs.declared.cache.PebrCache.{PebrCache}
use Rattle.flow_cache.specs.Shown.{roots_of}
use Rattle.cache_watch.specs.declared.watcher.Watch.{Watch}
use Rattle.cache_watch.specs.declared.watcher.Watch.TheVariants as watch
use Rattle.cache_watch.specs.declared.watcher.Watcher.{Watcher}
use Rattle.std.proofs.Common.{Option, None, Some}
use Rattle.flow_parts.specs.declared.fragment.Fragment.{Fragment}
use Rattle.cache_face.specs.Notes.{Note, first_note}
use Rattle.pebr_roots.specs.Passes.{note_by}
use Rattle.pass_book.specs.Books.{Book, IsBeside}
use Rattle.cache_watch.specs.Holding.{IsHolding, note_seen}
use Rattle.cache_watch.specs.Watching.{IsOf, IsWatched, note_of, past_of}

-- it is a watcher of the same cache
pub goes_on : (cache : PebrCache) (old new : Watcher) → IsOf cache old → IsSame (roots_of cache) old.seat new.seat
    → (note_of new).seats ≡ (note_of old).seats → IsBeside (note_by first_note new.seat) new.book
    → IfSome new.held (λ hold. IsHolding hold.place hold.fragment (known_by_pass new.seat) (past_of new))
    → IsOf cache new
goes_on cache old new o same seats beside holds = record {
  of = same.of;
  seats = seats ∙ o.seats ∙ sym same.still.3;
  united = λ place held at. o.united place held (subst (λ r. get_elem? r place ≡ some held) same.still.4 at);
  beside = beside;
  holds = holds;
}

-- what is seen changes nothing of what was put in and handed out
pub beside_seen : (entry : Option Fragment) (note note' : Note) (book : Book) → note' ≡ note_seen entry note
    → IsBeside note book → IsBeside note' book
beside_seen None note note' book is h = subst (λ (n : Note). IsBeside n book) (sym is) h
beside_seen (Some fragment) note note' book is h = subst (λ (n : Note). IsBeside n book) (sym is)
    (record { bypassed = h.bypassed; taken = h.taken; handed = h.handed })

-- what came of a later try came of the call
pub watched_since : (cache : CacheMeans) (key : FlowKey) (w : Watch) (first old new : Watcher)
    → (past_of first).pins ≤ (past_of old).pins → w ≢ watch.Lost
    → IsWatched cache key w old new → IsWatched cache key w first new
watched_since cache key watch.Held first old new low apart is = (let a = is.0 in omega (arith, low, a), is.1)
watched_since cache key watch.Absent first old new low apart is = (let a = is.0 in omega (arith, low, a), is.1, is.2)
watched_since cache key watch.Lost first old new low apart is = absurd (apart refl)

-- one more lost try
pub one_more : (n : ℕ) → replicate (n + 1) was_ejected ≡ was_ejected ∷ replicate n was_ejected
one_more n = let next : n + 1 ≡ suc n = omega arith in ap (λ k. replicate k was_ejected) next

-- the operations of the tries, one after another
pub no_try : (x : List Op) → HasMade (56 * 0) x x
no_try x = made_in 0 (56 * 0) x x (omega arith) (made_none x x refl)

pub one_more_try : (n : ℕ) (x y z : List Op) → HasMade (56 * n) x y → HasMade 56 y z → HasMade (56 * (n + 1)) x z
one_more_try n x y z h k =
    made_in (56 * n + 56) (56 * (n + 1)) x z (omega arith) (made_on (56 * n) 56 x y z h k)

pub last_try : (n : ℕ) (x y z : List Op) → n < 3 → HasMade (56 * n) x y → HasMade 56 y z → HasMade 168 x z
last_try n x y z low h k = made_in (56 * n + 56) 168 x z (omega (arith, low)) (made_on (56 * n) 56 x y z h k)

pub all_tries : (n : ℕ) (x y : List Op) → n ≤ 3 → HasMade (56 * n) x y → HasMade 168 x y
all_tries n x y low h = made_in (56 * n) 168 x y (omega (arith, low)) h
