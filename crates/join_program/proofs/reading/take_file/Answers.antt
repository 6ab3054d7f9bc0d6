-- A file that couldn't be opened gave no bytes.
use Rattle.join_program.proofs.Seen.{was_shut}
use Rattle.join_program.proofs.reading.take_file.Goals as goal

pub returns-in-Err-clause-wrong : goal.returns-in-Err-clause-wrong
returns-in-Err-clause-wrong g c = λ before taken. was_shut _
