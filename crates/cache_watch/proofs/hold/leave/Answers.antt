use Rattle.std.proofs.Common.{◌≡◌, ◌∙◌, ap, subst, arith}
use Rattle.std.specs.Prelude.{IfSome}
use Rattle.cache_face.specs.Keeping.{Keeps, AreBacking}
use Rattle.cache_face.specs.Notes.{first_note}
use Rattle.pebr_core.specs.declared.kinds.Shape.{Shape}
use Rattle.pebr_roots.specs.Orders.{HasMade}
use Rattle.pebr_roots.specs.Passes.{shape_at, fixed_at, known_by_pass, number_by, note_by, past_by, operations_by}
use Rattle.pebr_roots.specs.Under.{slot_at}
use Rattle.pebr_roots.proofs.Counts.{made_one, made_on, made_in}
use Rattle.pebr_roots.proofs.Passing.{valid_at}
use Rattle.flow_cache.specs.Shown.{CacheRoots, roots_of}
use Rattle.flow_cache.proofs.Sets.{can_see}
use Rattle.cache_watch.specs.declared.watcher.Hold.{Hold}
use Rattle.cache_watch.specs.Holding.{IsHolding}
use Rattle.cache_watch.proofs.Stays.{can_stay}
use Rattle.cache_watch.proofs.hold.leave.Goals as goal

pub leave-requires-clause-keeps : goal.leave-requires-clause-keeps
leave-requires-clause-keeps c =
    let roots = c.roots.result.now in
    let pass = c.args.seat.now in
    let known = known_by_pass pass in
    let hold : Hold = c.in-Some.hold in
    let held : IsHolding hold.place hold.fragment known (past_by pass) =
    subst (λ o. IfSome o (λ (h : Hold). IsHolding h.place h.fragment known (past_by pass))) c.in-Some.is
    c.requires.held in
    let slot = slot_at known hold.place in
    can_see (fixed_at roots).timeouts (fixed_at roots).sets (number_by pass) slot (shape_at roots) known (past_by pass)
    (note_by first_note pass) hold.fragment
    (ap (λ (r : CacheRoots). (shape_at r).width) c.roots.ensures
    ∙ ap (λ (s : Shape). s.width) c.args.cache.now.shaped)
    (c.valid_shields_protect.ensures known hold.place slot (valid_at known hold.place held.valid)) held.ten held.entry

pub leave-requires-in-None-clause-keeps : goal.leave-requires-in-None-clause-keeps
leave-requires-in-None-clause-keeps c =
    let roots = c.roots-in-None-2.result.now in
    let pass = c.clear.new.pass in
    can_stay (Keeps (fixed_at roots).timeouts (fixed_at roots).sets) (AreBacking (fixed_at roots).timeouts)
    (shape_at roots) (known_by_pass pass) (past_by pass) (number_by pass) (note_by first_note pass)

pub returns-in-Some-clause-few : goal.returns-in-Some-clause-few
returns-in-Some-clause-few c =
    let x = operations_by c.args.seat.now in
    let z = operations_by c.leave.new.pass in
    made_in 1 5 x z (omega arith) (made_one _ x z c.leave.ensures.step.made.2)

pub returns-in-None-clause-few : goal.returns-in-None-clause-few
returns-in-None-clause-few c =
    let x = operations_by c.args.seat.now in
    let y = operations_by c.clear.new.pass in
    let z = operations_by c.leave-in-None.new.pass in
    let four : (shape_at (roots_of c.args.cache.now)).shields ≡ 4 =
    ap (λ (s : Shape). s.shields) c.args.cache.now.shaped in
    let cleared : HasMade 4 x y = subst (λ n. HasMade n x y) four
    (subst (λ (r : CacheRoots). HasMade (shape_at r).shields x y) c.roots-in-None.ensures c.clear.ensures.few) in
    made_on 4 1 x y z cleared (made_one _ y z c.leave-in-None.ensures.step.made.2)
