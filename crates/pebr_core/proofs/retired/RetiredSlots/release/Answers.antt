use Rattle.std.proofs.Common.{◌≡◌, ◌<◌, ◌∙◌, ap, sym, cond, length, get_or, not, ◌&&◌, arith, le_refl, length-set}
use Rattle.std.proofs.lemmas.List.{ext_get_or}
use Rattle.pebr_core.specs.declared.kinds.Retired.TheVariants as retire
use Rattle.pebr_core.specs.State.{has, is_retired}
use Rattle.pebr_core.specs.Steps.{slots_without}
use Rattle.pebr_core.specs.Marks.{given_marks}
use Rattle.pebr_core.proofs.Marks.{set_at, slots_without-at, length-slots_without}
use Rattle.pebr_core.proofs.Given.{given_at}
use Rattle.pebr_core.proofs.retired.RetiredSlots.release.Goals as goal

pub loop-slot-preserved : goal.loop-slot-preserved
loop-slot-preserved c =
    let old = c.args.self.now in
    let kept = c.args.kept.now in
    let now = c.loop-slot.self in
    let slot = c.loop-slot.slot in
    let inv = c.loop-slot.invariant in
    let inside : slot < length now = omega (arith, inv.0) in
    let same_mark : has (given_marks now kept) slot ≡ has (given_marks old kept) slot =
    given_at now kept slot
    ∙ (ap (λ r. is_retired r && not (has kept slot)) (inv.2 slot (le_refl slot)) ∙ sym (given_at old kept slot)) in
    let here : c.slot_without-retired.result ≡ cond (has (given_marks old kept) slot) retire.No
    (get_or old slot retire.No) =
    c.slot_without-retired.ensures ∙ (ap (λ b. cond b retire.No (get_or now slot retire.No)) same_mark
    ∙ ap (λ r. cond (has (given_marks old kept) slot) retire.No r) (inv.2 slot (le_refl slot))) in (
      ap length c.put.ensures ∙ (length-set now slot c.slot_without-retired.result ∙ inv.0),
      λ k lt. ap (λ l. get_or l k retire.No) c.put.ensures
          ∙ set_at (λ r. r ≡ cond (has (given_marks old kept) k) retire.No (get_or old k retire.No)) now slot
          c.slot_without-retired.result retire.No k inside
          (λ e. here ∙ ap (λ n. cond (has (given_marks old kept) n) retire.No (get_or old n retire.No)) (sym e))
          (λ n. inv.1 k (omega arith)),
      λ k ge. ap (λ l. get_or l k retire.No) c.put.ensures
          ∙ set_at (λ r. r ≡ get_or old k retire.No) now slot c.slot_without-retired.result retire.No k inside
          (λ e. absurd (omega arith))
          (λ n. inv.2 k (omega arith)),
    )

pub returns : goal.returns
returns c =
    let old = c.args.self.now in
    let marks = given_marks old c.args.kept.now in
    ext_get_or retire.No c.loop-slot.self (slots_without old marks)
    (c.loop-slot.invariant.0 ∙ sym (length-slots_without old marks))
    (λ k lt. c.loop-slot.invariant.1 k (omega (arith, c.loop-slot.invariant.0)) ∙ sym (slots_without-at old marks k))
