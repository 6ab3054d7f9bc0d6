use Rattle.std.proofs.Common.{◌+◌, ◌*◌, ◌^◌, ◌<◌, ◌≤◌, ◌∙◌, List, ℕ, sym, subst, ap, arith}
use Rattle.std.proofs.lemmas.List.{with_items_is}
use Rattle.std.specs.Vec.{with_items}
use Rattle.cache_face.specs.Keeping.{packet_count}
use Rattle.front_cache.specs.Fronts.{open_in}
use Rattle.front_cache.specs.Kept.{IsPutIn}
use Rattle.front_cache.proofs.Putting.{Answer, answer, put_length, turned_to}
use Rattle.front_cache.proofs.table.Front.take_in.Goals as goal

all : (c : goal.After-self-2-1) → Answer c.self.inside.timeouts c.args.self.now
    (with_items c.self.inside.contents c.put_into-place.new.contents).items c.min-self-inside.result c.args.packet.now
    c.put_into-place.result.1
all c =
    let items = c.self.inside.contents.items in
    let new = c.put_into-place.new.contents in
    let done = c.put_into-place.ensures in
    let put = subst (λ (old : List (List ℕ)). IsPutIn c.self.inside.timeouts old new (2 * c.set_of.result)
    c.of-own.result done.0 c.put_into-place.result.0 c.put_into-place.result.1) c.as_mut_slice-contents.ensures.value
    done.1 in
    let room = subst (λ f. packet_count (open_in f) + 1 ≤ 2 ^ 32) (sym c.self.view_is) c.requires.room in
    let here = ap (λ n. 2 * n) c.set_of.ensures.number in
    let low = subst (λ n. n < 2048) c.set_of.ensures.number c.set_of.ensures.below in
    let least = c.min-self-inside.ensures in
    turned_to c.self.inside.timeouts _ c.args.self.now new _ c.min-self-inside.result c.args.packet.now _ c.self.view_is
    (with_items_is c.self.inside.contents new
    (put_length c.self.inside.timeouts items new c.self.inside.next c.min-self-inside.result _ c.of-own.result
    c.args.packet.now done.0 _ _ c.self.invariant c.of-own.ensures.alone c.requires.octets room here low put
    ∙ sym c.self.inside.contents.ok.0))
    (answer c.self.inside.timeouts items new c.self.inside.next c.min-self-inside.result _ c.of-own.result
    c.args.packet.now done.0 _ _ c.self.invariant c.of-own.ensures.alone c.requires.octets room here low put
    (omega (arith, least)) (omega (arith, least)))

pub invariant_of-self : goal.invariant_of-self
invariant_of-self c = (all c).kept

pub returns-clause-taken : goal.returns-clause-taken
returns-clause-taken c = (all c).taken

pub returns-clause-reached : goal.returns-clause-reached
returns-clause-reached c = (all c).reached

pub returns-clause-bounded : goal.returns-clause-bounded
returns-clause-bounded c = (all c).bounded
