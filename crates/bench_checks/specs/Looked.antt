-- The code's own: a cache whose passes are looked at means what the cache in it means.
use Rattle.std.specs.Prelude.{List}
use Rattle.cache_face.specs.Meaning.{CacheMeans, PassMeans}
use Rattle.pebr_words.specs.Pasts.{Lost}
use Rattle.flow_cache.specs.Shown as inner
use Rattle.bench_checks.specs.declared.looked.LookedCache.{LookedCache}
use Rattle.bench_checks.specs.declared.looked.LookedPass.{LookedPass}

abbrev pub means_of : LookedCache → CacheMeans
means_of cache = inner.means_of cache.inner

abbrev pub shown_of : LookedPass → PassMeans
shown_of pass = inner.shown_of pass.inner

abbrev pub tries_of : LookedPass → List Lost
tries_of pass = inner.tries_of pass.inner

abbrev pub IsOf : LookedCache → LookedPass → Type 0
IsOf cache pass = inner.IsOf cache.inner pass.inner
