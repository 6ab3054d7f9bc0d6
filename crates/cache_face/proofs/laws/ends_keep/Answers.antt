use Rattle.cache_face.proofs.Keeping.{kept_at_end}
use Rattle.cache_face.proofs.laws.ends_keep.Goals as goal

pub returns : goal.returns
returns c = kept_at_end
