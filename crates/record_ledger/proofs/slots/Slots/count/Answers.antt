-- One octet is changed.
use Rattle.std.proofs.Common.{◌≡◌, ◌<◌, ◌*◌, ◌/◌, ◌%◌, List, ℕ, length, get_or, set, ap, ◌∙◌, sym, subst, arith}
use Rattle.std.proofs.lemmas.Grind.{get_or_default_zero}
use Rattle.record_ledger.specs.Buckets.{CountsSlots, slot_number, two_bits}
use Rattle.std.proofs.Math.ListN.{length-set}
use Rattle.record_ledger.proofs.Packed.{many_counts, octet_counted}
use Rattle.record_ledger.proofs.slots.Slots.count.Goals as goal

pub returns-clause-many : goal.returns-clause-many
returns-clause-many c =
    let packed : List ℕ = c.self.inside.packed.items in
    let after : List ℕ = set packed (c.slot_of-slot.result / 4) c.one_more.result in
    many_counts after
    ∙ ap (λ n. 4 * n) (length-set packed (c.slot_of-slot.result / 4) c.one_more.result)
    ∙ sym (many_counts packed)
    ∙ ap length c.self.view_is

pub returns-clause-counts : goal.returns-clause-counts
returns-clause-counts c = λ before h.
    let packed : List ℕ = c.self.inside.packed.items in
    let slot = c.slot_of-slot.result in
    let many : c.len.result * 4 ≡ 4 * length packed =
    (let n = c.len.ensures in let ok = c.self.inside.packed.ok.0 in omega (arith, n, ok)) in
    let low : slot < 4 * length packed = (let l = c.slot_of-slot.ensures.below in omega (arith, l, many)) in
    let was : c.index.result.now ≡ get_or packed (slot / 4) 0 =
    c.index.ensures ∙ get_or_default_zero packed (slot / 4) c.index.result.now (omega (arith, low)) in
    octet_counted packed slot c.one_more.result low before c.args.part.now
    (c.slot_of-slot.ensures.number ∙ ap (slot_number c.args.part.now.key) many)
    c.one_more.ensures.some
    (λ e. ap (λ o. two_bits o (slot % 4)) (sym was) ∙ c.one_more.ensures.first e)
    (λ k l off. c.one_more.ensures.others k l off ∙ ap (λ o. two_bits o k) was)
    (subst (CountsSlots before) (sym c.self.view_is) h)
