use Rattle.join_program.proofs.OneAnswer.{one_answer}
use Rattle.join_program.proofs.laws.answer_is_one.Goals as goal

pub returns : goal.returns
returns c = one_answer c.lawful_lists_are_sessions.ensures.one c.layout_is_one.ensures
