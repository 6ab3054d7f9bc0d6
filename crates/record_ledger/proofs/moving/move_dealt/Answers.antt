-- All fragments belong to one of all buckets.
use Rattle.std.proofs.lemmas.Result.{on_ok_weaker}
use Rattle.record_ledger.specs.Buckets.{places_of}
use Rattle.record_ledger.proofs.Moved.{all_moved}
use Rattle.record_ledger.proofs.moving.move_dealt.Goals as goal

pub returns-then-threads-lt2-clause-whole : goal.returns-then-threads-lt2-clause-whole
returns-then-threads-lt2-clause-whole g c =
    on_ok_weaker c.move_to.result (λ moved.
    all_moved c.args.pieces.now (places_of c.args.moved.now) c.args.buckets.now c.move_to.new.buckets c.requires.some moved)
    c.move_to.ensures.moved

pub returns-clause-whole : goal.returns-clause-whole
returns-clause-whole g c =
    on_ok_weaker c.move_shares.result (λ moved.
    all_moved c.args.pieces.now (places_of c.args.moved.now) c.args.buckets.now c.move_shares.new.buckets c.requires.some
    moved) c.move_shares.ensures.moved
