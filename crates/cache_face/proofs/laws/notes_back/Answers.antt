use Rattle.cache_face.proofs.Keeping.{backs_taken, backs_seen, backs_merged, kept_is_backed, empty_is_backed}
use Rattle.cache_face.proofs.laws.notes_back.Goals as goal

pub returns-clause-taken : goal.returns-clause-taken
returns-clause-taken c = backs_taken

pub returns-clause-seen : goal.returns-clause-seen
returns-clause-seen c = backs_seen

pub returns-clause-merged : goal.returns-clause-merged
returns-clause-merged c = backs_merged

pub returns-clause-kept : goal.returns-clause-kept
returns-clause-kept c = kept_is_backed

pub returns-clause-empty : goal.returns-clause-empty
returns-clause-empty c = empty_is_backed
