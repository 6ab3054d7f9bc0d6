-- What the cache and its passes mean.
use Rattle.std.specs.Prelude.{◌≡◌, ◌⊎◌, ℕ, ◌+◌, ◌*◌, ◌<◌, List}
use Rattle.cache_face.specs.Meaning.{CacheMeans, PassMeans}
use Rattle.cache_face.specs.Notes.{Note, first_note, empty_note}
use Rattle.pebr_core.specs.Frames.{retired_count}
use Rattle.pebr_core.specs.declared.kinds.Shape.{Shape}
use Rattle.pebr_table.specs.Operations.{Op}
use Rattle.pebr_words.specs.Pasts.{Lost, was_ejected, found_other, Ejection, History}
use Rattle.pebr_roots.specs.Passes as roots
use Rattle.pebr_roots.specs.Passes.{shape_at, known_by_pass, number_by, note_by, past_by, lost_by, operations_by}
use Rattle.pebr_roots.specs.Passes.{count_by_pass}
use Rattle.pebr_roots.specs.Passes.{IsUnitedPass}
use Rattle.pebr_roots.specs.declared.pass.RootPass.{RootPass}
use Rattle.pebr_roots.specs.declared.pass.Roots.{Roots}
use Rattle.flow_cache.specs.contracts.protocol.CacheRuleRootProtocol.TheImpl as rule
use Rattle.flow_cache.specs.declared.act.CacheAct.{CacheAct}
use Rattle.flow_cache.specs.declared.protocol.CacheFixed.{CacheFixed}
use Rattle.flow_cache.specs.declared.protocol.CacheRule.{CacheRule}
use Rattle.flow_cache.specs.declared.cache.PebrCache.{PebrCache}
use Rattle.flow_cache.specs.declared.cache.PebrPass.{PebrPass}
use Rattle.flow_cache.specs.Places.{root_of}
use Rattle.pass_book.specs.Books.{Book, noted, IsBeside}
use Rattle.flow_cache.specs.Reading.{entries_read, set_read, written_in}

-- The roots of a cache of open flows, and a seat at them: their contents are entries, and their notes say what a pass
-- has done.
abbrev pub CacheRoots : Type 0
CacheRoots = Roots CacheRule Note CacheAct CacheFixed

abbrev pub CacheSeat : Type 0
CacheSeat = RootPass CacheRule Note CacheAct CacheFixed rule.ghosts

-- The roots of the cache's entries: the four of the set s have the numbers from 4 * s on.
abbrev pub roots_of : PebrCache → CacheRoots
roots_of cache = cache.roots

-- The seat of these roots that a pass is.
abbrev pub seat_of : PebrPass → CacheSeat
seat_of pass = pass.inner

abbrev pub shape_of_roots : PebrCache → Shape
shape_of_roots cache = shape_at (roots_of cache)

abbrev pub means_of : PebrCache → CacheMeans
means_of cache = record { sets = cache.sets; seats = (shape_at (roots_of cache)).seats; limits = cache.timeouts }

-- What was put in through it and what it was handed: by its seat, and what went by besides.
abbrev pub book_of : PebrPass → Book
book_of pass = pass.book

-- The set that its last try read is that of the roots which it loaded.
abbrev pub shown_of : PebrPass → PassMeans
shown_of pass = record {
  note = noted (note_by first_note (seat_of pass)) (book_of pass);
  set = set_read (past_by (seat_of pass)).loads;
  entries = entries_read (past_by (seat_of pass)) (set_read (past_by (seat_of pass)).loads);
  written = written_in (past_by (seat_of pass)).put;
}

-- The tries that it lost, newest first, as its seat lists them: that the seat was found ejected, or that a root had
-- another slot.
abbrev pub tries_of : PebrPass → List Lost
tries_of pass = lost_by (seat_of pass)

-- What its seat's steps were.
abbrev pub past_of : PebrPass → History
past_of pass = past_by (seat_of pass)

-- The number that its seat acts as, and the operations on words that it made, the newest first.
abbrev pub number_of : PebrPass → ℕ
number_of pass = number_by (seat_of pass)

abbrev pub operations_of : PebrPass → List Op
operations_of pass = operations_by (seat_of pass)

-- How many slots it has retired, and the ejections that its seat made.
abbrev pub retired_of : PebrPass → ℕ
retired_of pass = retired_count (known_by_pass (seat_of pass))

abbrev pub ejections_of : PebrPass → List Ejection
ejections_of pass = (past_by (seat_of pass)).ejections

-- How many slots a pass of this cache has, fresh and retired together.
abbrev pub slots_of : PebrCache → ℕ
slots_of cache = 32 + 4 * (means_of cache).seats

-- A lost try at a set is that the pass was found ejected, or that one of the set's roots had another slot.
abbrev pub IsTryOf : ℕ → Lost → Type 0
IsTryOf set try = (try ≡ was_ejected) ⊎ ((place : ℕ) × (place < 4) × (try ≡ found_other (root_of set place)))

-- A pass of this cache, whose note counts its seats. Its book has what its seat put in and was handed, and what went by
-- besides.
pub record IsOf (cache : PebrCache) (pass : PebrPass) : Type 0 where
  pub of : roots.IsOf (roots_of cache) (seat_of pass)
  pub seats : (note_by first_note (seat_of pass)).seats ≡ count_by_pass (seat_of pass)
  pub united : IsUnitedPass empty_note (seat_of pass)
  pub beside : IsBeside (note_by first_note (seat_of pass)) (book_of pass)
