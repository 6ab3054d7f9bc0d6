-- With valid files and no failed call no file is refused.
use Rattle.std.proofs.Common.{◌≡◌, Option, Some, sym, ◌∙◌, subst}
use Rattle.join_program.specs.Outcome.{AreValid, files_seen}
use Rattle.join_program.specs.Words.{Asked}
use Rattle.join_program.proofs.Complete.{first_fails}
use Rattle.join_program.proofs.running.run_join.Goals as goal

same_asked : (one other : Asked) → ◌≡◌ {A = Option Asked} (Some one) (Some other) → one ≡ other
same_asked one other e = cc

pub returns-in-Refused-clause-complete : goal.returns-in-Refused-clause-complete
returns-in-Refused-clause-complete g c = λ asked is valid quiet quiet'.
    let same = same_asked _ asked (sym c.in-Ok.ensures.asked ∙ is) in
    absurd (first_fails _ (files_seen g.O.Opener.contents g.O.Opener.faults c.args.opener.now c.join_files.new.opener)
    _ _ (subst (λ a. AreValid a (g.O.Opener.contents c.args.opener.now)) (sym same) valid) quiet c.in-Refused.ensures.0)
