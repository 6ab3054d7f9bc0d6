use Rattle.pebr_core.proofs.KeptSlots.{sound_words, start_words}
use Rattle.pebr_core.proofs.laws.other_words_are_sound.Goals as goal

pub returns-clause-words : goal.returns-clause-words
returns-clause-words c = sound_words

pub returns-clause-start : goal.returns-clause-start
returns-clause-start c = start_words
