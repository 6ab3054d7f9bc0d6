use Rattle.std.proofs.Common.{◌≡◌, ◌∙◌, Bool, Some, ap, subst}
use Rattle.std.specs.Prelude.{if◌then◌else◌}
use Rattle.cache_face.specs.declared.metered.Metered.{Metered}
use Rattle.cache_face.specs.Notes.{Note, first_note, note_with}
use Rattle.pebr_words.specs.Pasts.{History}
use Rattle.pebr_roots.specs.Passes.{note_by, past_by}
use Rattle.flow_cache.proofs.Histories.{chosen_still}
use Rattle.flow_cache.proofs.Spared.{collected_on, spared_one}
use Rattle.pebr_roots.specs.Passes.{shape_at, number_by, operations_by}
use Rattle.flow_cache.proofs.Sparing.{spared_on}
use Rattle.flow_cache.proofs.cache.PebrCache.attempt.Goals as goal

pub returns-clause-done : goal.returns-clause-done
returns-clause-done g c done =
    let start = c.args.pass.now in
    let mid = c.reach_and_put-done.new.pass in
    let end = c.end.new.pass in
    let metered : Metered = c.reach_and_put-done.new.metered in
    let note : Note = note_by first_note mid in
    let passed : Note = note_with note c.args.own.now (Some c.args.own.now) in
    let put = c.reach_and_put-done.ensures.done done in (
      subst (λ (b : Bool). note_by first_note end ≡ (if b then passed else note))
          (c.is_passed_by-passes_by.ensures.done done) c.end.ensures.note ∙ put.0,
      ap (λ (p : History). p.lost) c.end.ensures.past ∙ put.1,
      chosen_still c.args.self.now.timeouts c.args.set (past_by mid)
          (past_by end) c.args.own.now metered.how metered.out put.2 (ap (λ (p : History). p.loads) c.end.ensures.past)
          (ap (λ (p : History). p.reads) c.end.ensures.past) (ap (λ (p : History). p.put) c.end.ensures.past),
    )

pub returns-clause-spared : goal.returns-clause-spared
returns-clause-spared g c =
    let start = past_by c.args.pass.now in
    let mid = past_by c.reach_and_put-done.new.pass in
    let end = past_by c.end.new.pass in
    collected_on 0 0 start mid end c.reach_and_put-done.ensures.spared
    (spared_one mid end (ap (λ (p : History). p.notes) c.end.ensures.past)
    (ap (λ (p : History). p.pins) c.end.ensures.past))

pub returns-clause-few : goal.returns-clause-few
returns-clause-few g c =
    spared_on (shape_at c.args.self.now.roots) (number_by c.args.pass.now) 62 5
    (number_by c.reach_and_put-done.new.pass) (operations_by c.args.pass.now)
    (operations_by c.reach_and_put-done.new.pass) (operations_by c.end.new.pass)
    c.reach_and_put-done.ensures.same.still.1 c.reach_and_put-done.ensures.few c.end.ensures.few
