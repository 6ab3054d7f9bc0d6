use Rattle.flow_key.proofs.KeyWords.{same_words}
use Rattle.flow_key.proofs.laws.keys_have_words.Goals as goal

pub returns : goal.returns
returns c = same_words
