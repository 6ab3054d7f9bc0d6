use Rattle.meter_workers.proofs.Common.{◌≡◌, ◌<◌, List, length, sym, subst, ap, ◌∙◌, All, All-weaker, Answer, Share}
use Rattle.meter_workers.proofs.Common.{IsShareOf, IfOk}
use Rattle.std.specs.Prelude.{Ok, Result}
use Rattle.std.proofs.lemmas.List.{length-map}
use Rattle.std.proofs.lemmas.List.Elements.{All-map}
use Rattle.std.proofs.lemmas.Slice.Zip.{AllZip-long}
use Rattle.no_memory.specs.declared.NoMemory.{NoMemory}
use Rattle.work_pieces.proofs.Doing.{DidSome, each-done}
use Rattle.meter_workers.specs.Shares.{IsToEmpty, HasEmptied, StandsEmptied}
use Rattle.meter_workers.proofs.Emptied.{each-made, still-done}
use Rattle.meter_workers.proofs.emptying.empty_fronts.Given as given
use Rattle.meter_workers.proofs.emptying.empty_fronts.Goals.{In_ok-places}
use Rattle.meter_workers.proofs.emptying.empty_fronts.Goals as goal

abbrev S : given.Over → Type 0
S g = Share g.row.C.Denot g.row.C-Pass.Denot

-- there are as many places as shares
as-many : (g : given.Over) (c : In_ok-places g) → length c.in_ok-places.places.items ≡ length c.args.shares.items
as-many g c = ap length c.in_ok-places.ensures ∙ length-map c.args.shares.items Ok

pub empty_places-requires-clause-ready : goal.empty_places-requires-clause-ready
empty_places-requires-clause-ready g c κs within =
    let Has = IsShareOf g.C.FlowCache c.args.cache.now in
    let Ready : Result (S g) NoMemory → Type 0 = IsToEmpty g.C.FlowCache c.args.cache.now in
    let had = c.requires.metered in
    subst (All Ready) (sym c.in_ok-places.ensures) (All-map Ready Ok c.args.shares.items
    (All-weaker (DidSome Has had.0) (λ s. Ready (Ok s)) (λ s did. record { done = did.0; is = did.2 })
    c.args.shares.items (each-done Has had.0 c.args.shares.items had.1)))

pub empty_places-requires-clause-some : goal.empty_places-requires-clause-some
empty_places-requires-clause-some g c κs within =
    subst (λ n. 0 < n) (sym (as-many g (goal.at.empty_places-requires-clause-some g c).In_ok-places)) c.requires.some

pub returns-clause-many : goal.returns-clause-many
returns-clause-many g c =
    AllZip-long (HasEmptied g.C.FlowCache c.args.cache.now) _ _ c.empty_places.ensures.emptied
    ∙ as-many g (goal.at.returns-clause-many g c).In_ok-places

pub returns-clause-metered : goal.returns-clause-metered
returns-clause-metered g c = λ answers have.
    let Has : List Answer → S g → Type 0 = IsShareOf g.C.FlowCache c.args.cache.now in
    let Stands : List Answer → Result (S g) NoMemory → Type 0 = λ done place. IfOk place (Has done) in
    let placed = still-done Has Stands (λ share place. place ≡ Ok share)
    (λ done share place is has. subst (Stands done) (sym is) has) answers _ _
    (each-made Ok c.args.shares.items c.in_ok-places.places.items c.in_ok-places.ensures) have in
    still-done Stands (StandsEmptied g.C.FlowCache c.args.cache.now) (HasEmptied g.C.FlowCache c.args.cache.now)
    (λ done old new emptied has. emptied done has) answers _ _ c.empty_places.ensures.emptied placed
