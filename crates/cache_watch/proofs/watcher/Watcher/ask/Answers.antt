use Rattle.std.proofs.Common.{ℕ, Some, ap, subst, arith}
use Rattle.cache_face.specs.Notes.{Note, first_note}
use Rattle.pebr_roots.specs.Passes.{past_by, note_by}
use Rattle.cache_watch.specs.Holding.{IsAbsent}
use Rattle.cache_watch.proofs.Watches.{goes_on, beside_seen}
use Rattle.cache_watch.proofs.watcher.Watcher.ask.Goals as goal

pub returns-in-Held-clause-of : goal.returns-in-Held-clause-of
returns-in-Held-clause-of c = goes_on c.args.cache.now c.args.self.now _ c.requires.of c.in-Held.ensures.same
    (ap (λ (n : Note). n.seats) c.in-Held.ensures.note)
    (beside_seen (Some c.in-Held.hold.fragment) (note_by first_note c.args.self.now.seat)
    (note_by first_note c.attempt.new.seat) c.args.self.now.book c.in-Held.ensures.note c.requires.of.beside) c.in-Held.ensures.tried.1

pub returns-in-Absent-clause-some : goal.returns-in-Absent-clause-some
returns-in-Absent-clause-some c =
    let t = c.in-Absent.ensures.tried in (
      (
        let a = t.0.0 in
            omega (arith, a),
        c.requires.idle,
        subst (λ (n : ℕ). IsAbsent n c.args.key.now (past_by c.attempt.new.seat)) c.requires.set t.2,
      ),
      λ e. cc,
    )
