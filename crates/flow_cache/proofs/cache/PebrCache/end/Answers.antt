use Rattle.std.proofs.Common.{ℕ, ◌*◌, Option, sym, ap, subst}
use Rattle.flow_parts.specs.declared.timeouts.Timeouts.{Timeouts}
use Rattle.cache_face.specs.Keeping.{Keeps, AreBacking}
use Rattle.cache_face.specs.Notes.{Note, first_note}
use Rattle.pebr_core.specs.declared.kinds.Shape.{Shape}
use Rattle.pebr_words.specs.Making.{act_on}
use Rattle.pebr_words.specs.Ruled.{CanNote}
use Rattle.pebr_roots.specs.Passes.{fixed_at, number_by, note_by}
use Rattle.flow_cache.specs.declared.act.CacheAct.{CacheAct}
use Rattle.flow_cache.specs.Acts.{acted_note}
use Rattle.flow_cache.proofs.Sets.{can_end}
use Rattle.pebr_roots.specs.Passes.{shape_at, known_by_pass, past_by, operations_by}
use Rattle.flow_cache.proofs.Sparing.{spared_on, left_spares}
use Rattle.flow_cache.proofs.cache.PebrCache.end.Goals as goal

pub leave-requires-clause-keeps : goal.leave-requires-clause-keeps
leave-requires-clause-keeps g c =
    let down = c.take_down.new.pass in
    let cache = c.args.self.now in
    let number = number_by down in
    let can : Timeouts → ℕ → Note → Option CacheAct → Type 0 =
    λ limits sets note act. CanNote (Keeps limits sets) (AreBacking limits) (shape_at cache.roots) (known_by_pass down)
    (past_by down) number note (act_on acted_note act note) in
    subst (λ (sets : ℕ). can (fixed_at cache.roots).timeouts sets (note_by first_note down) c.leaving_note.result)
    (sym cache.fixed.1)
    (subst (λ limits. can limits cache.sets (note_by first_note down) c.leaving_note.result) (sym cache.fixed.0)
    (subst (λ note. can cache.timeouts cache.sets note c.leaving_note.result) (sym c.take_down.ensures.note)
    (subst (λ act. can cache.timeouts cache.sets (note_by first_note c.args.pass.now) act) (sym c.leaving_note.ensures)
    (can_end cache.timeouts cache.sets number (shape_at cache.roots) (known_by_pass down) (past_by down)
    (note_by first_note c.args.pass.now) c.args.own.now c.args.passes_by c.requires.own))))

pub returns-clause-few : goal.returns-clause-few
returns-clause-few g c =
    let shape = shape_at c.args.self.now.roots in
    let down = c.take_down.new.pass in
    let a = operations_by down in
    let b = operations_by c.leave.new.pass in
    spared_on shape (number_by c.args.pass.now) 4 1 (number_by down) (operations_by c.args.pass.now) a b
    c.take_down.ensures.same.still.1 c.take_down.ensures.few
    (left_spares shape (number_by down) (ap (λ (s : Shape). s.shields) c.args.self.now.shaped)
    (4 * (known_by_pass down).noted) a b c.take_down.ensures.same.of.at.3 c.leave.ensures.step.made.2)
