-- What is known of the cache that was closed last, and of those that were opened.
use Rattle.std.specs.Prelude.{List}
use Rattle.flow_parts.specs.declared.fragment.Fragment.{Fragment}
use Rattle.cache_face.specs.declared.opened.Opened.{Opened}
use Rattle.flow_cache.specs.declared.face.PebrCaches.{PebrCaches}

-- Its fragments: those that were handed out, and its entries. None before the first.
abbrev pub metered_by : PebrCaches → List Fragment
metered_by caches = caches.closed

abbrev pub opened_by : PebrCaches → Opened
opened_by caches = caches.opened
