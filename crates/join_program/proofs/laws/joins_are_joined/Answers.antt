use Rattle.join_program.proofs.Nested.{order_is_free, joins_joined, any_joined, any_answered}
use Rattle.join_program.proofs.laws.joins_are_joined.Goals as goal

pub returns-clause-order : goal.returns-clause-order
returns-clause-order c = order_is_free

pub returns-clause-one : goal.returns-clause-one
returns-clause-one c = joins_joined

pub returns-clause-any : goal.returns-clause-any
returns-clause-any c = any_joined

pub returns-clause-answers : goal.returns-clause-answers
returns-clause-answers c = any_answered
