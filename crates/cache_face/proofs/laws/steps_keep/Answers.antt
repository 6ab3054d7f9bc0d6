use Rattle.cache_face.proofs.Keeping.{keeps_opening, keeps_split, keeps_merged, keeps_taken, keeps_passed, keeps_seen}
use Rattle.cache_face.proofs.laws.steps_keep.Goals as goal

pub returns-clause-opening : goal.returns-clause-opening
returns-clause-opening c = keeps_opening

pub returns-clause-split : goal.returns-clause-split
returns-clause-split c = keeps_split

pub returns-clause-merged : goal.returns-clause-merged
returns-clause-merged c = keeps_merged

pub returns-clause-taken : goal.returns-clause-taken
returns-clause-taken c = keeps_taken

pub returns-clause-passed : goal.returns-clause-passed
returns-clause-passed c = keeps_passed

pub returns-clause-seen : goal.returns-clause-seen
returns-clause-seen c = keeps_seen
