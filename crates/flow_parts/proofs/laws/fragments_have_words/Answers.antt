use Rattle.flow_parts.proofs.PartWords.{same_part_words}
use Rattle.flow_parts.proofs.laws.fragments_have_words.Goals as goal

pub returns : goal.returns
returns c = same_part_words
