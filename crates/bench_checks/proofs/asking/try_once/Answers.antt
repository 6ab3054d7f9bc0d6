use Rattle.std.proofs.Common.{◌≡◌, ℕ, Option, Some, None, refl, ap, ◌∙◌}
use Rattle.flow_parts.specs.declared.fragment.Fragment.{Fragment}
use Rattle.cache_face.specs.Notes.{Note}
use Rattle.cache_watch.specs.Holding.{note_seen}
use Rattle.cache_watch.specs.Watching.{held_by, note_of}
use Rattle.bench_checks.proofs.asking.try_once.Goals as goal

-- what is seen counts no seat
seen_seats : (held : Option Fragment) (note : Note) → (note_seen held note).seats ≡ note.seats
seen_seats None note = refl
seen_seats (Some fragment) note = refl

pub returns-in-Held-clause-seats : goal.returns-in-Held-clause-seats
returns-in-Held-clause-seats c =
    ap (λ (n : Note). n.seats) c.release.ensures.note ∙ c.read_some.ensures.seats
    ∙ ap (λ (n : Note). n.seats) c.hold.ensures.note ∙ seen_seats (held_by c.hold.new.self) (note_of c.args.watcher.now)
