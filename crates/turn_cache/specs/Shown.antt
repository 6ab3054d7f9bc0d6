-- What the cache and its passes mean.
use Rattle.std.specs.Prelude.{◌≡◌, ℕ, ◌<◌, List, length, []}
use Rattle.cache_face.specs.Meaning.{CacheMeans, PassMeans}
use Rattle.pass_book.specs.Books.{noted, IsBeside}
use Rattle.turn_cache.specs.declared.cache.TurnCache.{TurnCache}
use Rattle.turn_cache.specs.declared.cache.TurnPass.{TurnPass}
use Rattle.turn_cache.specs.Hands.{entries_of}

abbrev pub means_of : TurnCache → CacheMeans
means_of cache = record { sets = cache.sets; seats = cache.seats; limits = cache.timeouts }

-- A pass by its seat alone.
abbrev pub seated_of : TurnPass → PassMeans
seated_of pass =
    record {
      note = pass.seat.me.0.note;
      set = pass.seat.me.0.set;
      entries = entries_of pass.seat.me.0.read;
      written = pass.seat.me.0.written;
    }

-- A pass: what was put in through it and what it was handed is by its seat, and what went by besides.
abbrev pub shown_of : TurnPass → PassMeans
shown_of pass =
    record {
      note = noted pass.seat.me.0.note pass.book;
      set = pass.seat.me.0.set;
      entries = entries_of pass.seat.me.0.read;
      written = pass.seat.me.0.written;
    }

-- A lost try is the number of the set whose turn another seat was found to have.
abbrev pub LostTry : Type 0
LostTry = ℕ

abbrev pub IsTryOf : ℕ → LostTry → Type 0
IsTryOf set try = try ≡ set

-- The tries that the pass lost, newest first.
abbrev pub lost_of : TurnPass → List LostTry
lost_of pass = pass.seat.me.0.lost

-- A pass by its seat alone is of the cache.
abbrev pub IsAt : TurnCache → TurnPass → Type 0
IsAt cache pass = (pass.seat.table_id ≡ cache.table.shared.table_id) × (pass.seat.me.1 ≡ [])
    × (0 < length pass.seat.me.0.numbers)

-- A pass of this cache: its book has what its seat put in and was handed, and what went by besides.
abbrev pub IsOf : TurnCache → TurnPass → Type 0
IsOf cache pass = (pass.seat.table_id ≡ cache.table.shared.table_id) × (pass.seat.me.1 ≡ [])
    × (0 < length pass.seat.me.0.numbers) × IsBeside pass.seat.me.0.note pass.book
