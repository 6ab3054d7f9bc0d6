-- The count is read from its octet.
use Rattle.std.proofs.Common.{◌≡◌, ◌<◌, ◌*◌, ◌/◌, ◌%◌, List, ℕ, length, get_or, ap, ◌∙◌, sym, subst, arith}
use Rattle.std.proofs.lemmas.Bool.{eqb-true}
use Rattle.std.proofs.lemmas.Grind.{get_or_default_zero}
use Rattle.record_ledger.specs.Buckets.{IsCountedAlone, slot_number, two_bits}
use Rattle.record_ledger.proofs.Packed.{one_alone}
use Rattle.record_ledger.proofs.slots.Slots.has_one.Goals as goal

pub returns : goal.returns
returns c = λ is.
    let packed : List ℕ = c.self.inside.packed.items in
    let slot = c.slot_of-slot.result in
    let many : c.len.result * 4 ≡ 4 * length packed =
    (let n = c.len.ensures in let ok = c.self.inside.packed.ok.0 in omega (arith, n, ok)) in
    let low : slot < 4 * length packed = (let l = c.slot_of-slot.ensures.below in omega (arith, l, many)) in
    let was : c.index.result.now ≡ get_or packed (slot / 4) 0 =
    c.index.ensures ∙ get_or_default_zero packed (slot / 4) c.index.result.now (omega (arith, low)) in
    let one : c.count_at.result ≡ 1 = eqb-true c.count_at.result 1 is in
    subst (λ l. IsCountedAlone l c.args.part.now) c.self.view_is
    (one_alone packed slot c.args.part.now low
    (c.slot_of-slot.ensures.number ∙ ap (slot_number c.args.part.now.key) many)
    (ap (λ o. two_bits o (slot % 4)) (sym was) ∙ sym c.count_at.ensures ∙ one))
