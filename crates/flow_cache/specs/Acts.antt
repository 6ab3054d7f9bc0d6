-- What an act makes of a note.
use Rattle.cache_face.specs.Notes.{Note, note_with, note_seeing}
use Rattle.flow_cache.specs.declared.act.CacheAct.{CacheAct}
use Rattle.flow_cache.specs.declared.act.CacheAct.TheVariants.{Puts, Sees}

-- A fragment is put in, and one handed out, or none; or an entry is seen.
abbrev pub acted_note : Note → CacheAct → Note
acted_note note (Puts own out) = note_with note own out
acted_note note (Sees entry) = note_seeing note entry
