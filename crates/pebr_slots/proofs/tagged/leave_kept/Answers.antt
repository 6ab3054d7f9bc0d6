use Rattle.std.proofs.Common.{rules}
use Rattle.std.proofs.lemmas.Fn.{filter_same}
use Rattle.pebr_slots.specs.Shown.{is_kept}
use Rattle.pebr_slots.proofs.tagged.leave_kept.Goals as goal

pub returns-clause-slots : goal.returns-clause-slots
returns-clause-slots c = filter_same _ is_kept _ (λ x b f' k. search rules) _ _ c.retain.ensures.filtered
