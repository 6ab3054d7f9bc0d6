-- The octets are added.
use Rattle.std.proofs.Common.{◌≡◌, ◌<◌, ◌++◌, List, ℕ, length, get_or, ap, ◌∙◌, sym, subst, arith}
use Rattle.record_ledger.specs.Buckets.{CountsSlots, AddUp, counts_of}
use Rattle.record_ledger.proofs.Packed.{many_counts, octets_added}
use Rattle.record_ledger.proofs.Settled.{given_back}
use Rattle.record_ledger.proofs.slots.Slots.add.Goals as goal

pub add_octets-requires : goal.add_octets-requires
add_octets-requires c =
    let a : List ℕ = c.self.inside.packed.items in
    let b : List ℕ = c.others.inside.packed.items in
    let one = sym (many_counts a) ∙ ap length c.self.view_is in
    let other = sym (many_counts b) ∙ ap length c.others.view_is in
    let lent = ap length c.as_mut_slice.ensures.value in
    let read = ap length c.as_slice.ensures.value in
    omega (arith, one, other, c.requires.many, lent, read)

pub returns-clause-counts : goal.returns-clause-counts
returns-clause-counts c = λ before more h k.
    let a : List ℕ = c.self.inside.packed.items in
    let b : List ℕ = c.others.inside.packed.items in
    let new : List ℕ = c.add_octets.new.counts in
    let lent : List ℕ = c.as_mut_slice.result.now in
    let one = sym (many_counts a) ∙ ap length c.self.view_is in
    let other = sym (many_counts b) ∙ ap length c.others.view_is in
    let same : length b ≡ length a = omega (arith, one, other, c.requires.many) in
    let long : length new ≡ length a = c.add_octets.ensures.many ∙ ap length c.as_mut_slice.ensures.value in
    let is = given_back c.self.inside.packed.len a lent new c.self.inside.packed.ok.0 c.as_mut_slice.ensures.value
    (sym c.add_octets.ensures.many) in
    subst (λ l. CountsSlots (before ++ more) (counts_of l)) (sym is)
    (octets_added a b new same long
    (λ at low.
    let there : at < length lent = subst (λ l. at < length l) (sym c.as_mut_slice.ensures.value) low in
    subst (λ l. AddUp (get_or l at 0) (get_or b at 0) (get_or new at 0)) c.as_mut_slice.ensures.value
    (subst (λ l. AddUp (get_or lent at 0) (get_or l at 0) (get_or new at 0)) c.as_slice.ensures.value
    (c.add_octets.ensures.each at there)))
    before more (subst (CountsSlots before) (sym c.self.view_is) h)
    (subst (CountsSlots more) (sym c.others.view_is) k))
