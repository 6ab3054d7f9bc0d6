-- One more flow record.
use Rattle.std.proofs.Common.{◌++◌, ◌∷◌, [], List, Err, ap, subst, arith}
use Rattle.record_ledger.specs.declared.record.FlowRecord.{FlowRecord}
use Rattle.join_program.specs.Joined.{AreFew}
use Rattle.join_program.specs.Filed.{HasBegun}
use Rattle.join_program.specs.Taking.{IsTaken}
use Rattle.join_program.proofs.Filed.{filed-many, filed-taken, filed-over}
use Rattle.join_program.proofs.file_taker.FileTaker.take_flow.Goals as goal

pub returns-then-self-clause-filed : goal.returns-then-self-clause-filed
returns-then-self-clause-filed g c = λ records one is same h.
    filed-many (HasBegun g.K.Begun.start g.K.Begun.share) g.K.Begun.share records one c.args.found.now is
    c.args.self.now.flows _ c.saturating_add-self.ensures c.args.self.now.taken c.args.self.now.are_many
    c.if-self.true h

pub returns-in-Ok-clause-filed : goal.returns-in-Ok-clause-filed
returns-in-Ok-clause-filed g c = λ records one is same h.
    filed-taken (HasBegun g.K.Begun.start g.K.Begun.share) g.K.Begun.share records one c.args.found.now is
    c.args.self.now.flows _ c.saturating_add-self.ensures c.args.self.now.taken c.take.new.taken
    c.args.self.now.are_many c.if-self.false
    (subst (λ share. (flows : List FlowRecord) → IsTaken share flows c.args.self.now.taken
    → IsTaken share (flows ++ c.args.found.now ∷ []) c.take.new.taken) same c.in-Ok.ensures.taken) h

pub returns-in-Err-TooMany-clause-filed : goal.returns-in-Err-TooMany-clause-filed
returns-in-Err-TooMany-clause-filed g c = λ records one is same h.
    filed-over (HasBegun g.K.Begun.start g.K.Begun.share) g.K.Begun.share records one c.args.found.now is
    c.args.self.now.flows _ c.saturating_add-self.ensures c.args.self.now.taken c.take.new.taken
    c.args.self.now.are_many c.if-self.false
    (subst (λ share. (flows : List FlowRecord) → IsTaken share flows c.args.self.now.taken
    → ¬ AreFew share (flows ++ c.args.found.now ∷ [])) same
    (c.in-Err-TooMany.ensures.many (ap Err c.in-Err-TooMany.field-0-is))) h
