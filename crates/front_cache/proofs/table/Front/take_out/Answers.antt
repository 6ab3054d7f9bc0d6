use Rattle.std.proofs.Common.{◌≡◌, ◌<◌, ◌∙◌, [], length, get_or, set, sym, subst, ap, arith}
use Rattle.std.proofs.lemmas.List.{length-set, with_items_is}
use Rattle.std.specs.Vec.{with_items}
use Rattle.cache_face.specs.Keeping.{entry_of}
use Rattle.front_cache.specs.Kept.{IsNextOpen}
use Rattle.front_cache.proofs.Emptying.{Emptied, emptied_at, emptied_to, kept_from, none_left}
use Rattle.front_cache.proofs.table.Front.take_out.Goals.{After-next_open-found}
use Rattle.front_cache.proofs.table.Front.take_out.Goals as goal

found : (c : After-next_open-found) → IsNextOpen c.self.inside.contents.items c.self.inside.next
    c.next_open-found.result
found c = subst (λ l. IsNextOpen l c.self.inside.next c.next_open-found.result) c.as_slice.ensures.value
    c.next_open-found.ensures

pub invariant_of-self : goal.invariant_of-self
invariant_of-self c = kept_from _ _ _ c.self.invariant (found (goal.at.invariant_of-self c).After-next_open-found)

pub returns-then-found-eq-ENTRIES-clause-none : goal.returns-then-found-eq-ENTRIES-clause-none
returns-then-found-eq-ENTRIES-clause-none c = λ nothing.
    none_left _ _ _ c.self.invariant
    (found (goal.at.returns-then-found-eq-ENTRIES-clause-none c).After-next_open-found)
    (c.if-found-eq-ENTRIES.true ∙ sym c.self.invariant.many)

-- an entry is emptied
emptied : (c : goal.After-self-2-1) → Emptied c.args.self.now
    (with_items c.self.inside.contents c.take_content.new.contents).items c.next_open-found.result c.take_content.result
emptied c =
    let items = c.self.inside.contents.items in
    let place = c.next_open-found.result in
    let is : IsNextOpen items c.self.inside.next place =
    subst (λ l. IsNextOpen l c.self.inside.next place) c.as_slice.ensures.value c.next_open-found.ensures in
    let value = c.as_mut_slice.ensures.value in
    let there : place < length items = (let low = is.within in
    omega (arith, low, c.self.invariant.many, c.if-found-eq-ENTRIES.false)) in
    let gone = c.take_content.ensures.emptied in
    let written = gone.2 ∙ ap (λ l. set l place gone.0) value in
    emptied_to _ c.args.self.now c.take_content.new.contents _ place (entry_of (get_or items place []))
    c.take_content.result c.self.view_is
    (with_items_is c.self.inside.contents c.take_content.new.contents
    (ap length written ∙ length-set items place gone.0 ∙ sym c.self.inside.contents.ok.0))
    (c.take_content.ensures.shown ∙ ap (λ l. entry_of (get_or l place [])) value)
    (emptied_at items c.self.inside.next place c.self.invariant is c.take_content.new.contents gone.0 there gone.1
    written c.self.inside.timeouts)

pub invariant_of-self-2 : goal.invariant_of-self-2
invariant_of-self-2 c = (emptied c).kept

pub returns-clause-taken : goal.returns-clause-taken
returns-clause-taken c = (emptied c).taken

pub returns-clause-none : goal.returns-clause-none
returns-clause-none c = λ none. absurd ((emptied c).some none)

pub returns-clause-others : goal.returns-clause-others
returns-clause-others c = λ some. (emptied c).others
