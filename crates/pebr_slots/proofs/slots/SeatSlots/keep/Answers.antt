use Rattle.std.proofs.Common.{cond, false, true, length, map, set, get_or, refl, sym, ap, ◌∙◌, subst}
use Rattle.std.specs.List.{range_with_len}
use Rattle.std.proofs.lemmas.Bool.{false≢true}
use Rattle.std.proofs.lemmas.List.{length-map}
use Rattle.pebr_core.specs.declared.kinds.Retired.TheVariants as retire
use Rattle.pebr_core.specs.State.{is_retired}
use Rattle.pebr_core.proofs.Marks.{written_back}
use Rattle.pebr_slots.specs.Sets.{Sets}
use Rattle.pebr_slots.specs.Shown.{value_found, is_kept, kept_at, retired_as, AreApart, IsNewest}
use Rattle.pebr_slots.proofs.Keeping.{kept_apart, kept_newest, kept_retired, kept_set, retired_at_all}
use Rattle.pebr_slots.proofs.slots.SeatSlots.keep.Goals as goal

pub invariant_of-self : goal.invariant_of-self
invariant_of-self c =
    let inside = c.self.inside in
    let now = c.keep_slot.ensures ∙ ap (map (kept_at c.args.slot)) c.deref_mut.ensures.value in
    let is = written_back c.keep_slot.new.tagged inside.tagged.items inside.tagged.len inside.tagged.ok.0
    (ap length now ∙ length-map inside.tagged.items (kept_at c.args.slot)) ∙ now in (
      subst (AreApart inside.slots inside.room inside.fresh.items inside.untagged.items) (sym is)
          (kept_apart inside.slots inside.room inside.fresh.items inside.untagged.items inside.tagged.items c.args.slot
          c.self.invariant.0),
      c.self.invariant.1,
      subst (IsNewest inside.newest) (sym is)
          (kept_newest inside.newest inside.tagged.items (kept_at c.args.slot) (λ _. refl) c.self.invariant.2),
      λ h. absurd (false≢true (sym h)),
      c.self.invariant.4,
      c.self.invariant.5,
      c.self.invariant.6,
    )

pub returns-clause-retired : goal.returns-clause-retired
returns-clause-retired c =
    let inside = c.self.inside in
    let now = c.keep_slot.ensures ∙ ap (map (kept_at c.args.slot)) c.deref_mut.ensures.value in
    let is = written_back c.keep_slot.new.tagged inside.tagged.items inside.tagged.len inside.tagged.ok.0
    (ap length now ∙ length-map inside.tagged.items (kept_at c.args.slot)) ∙ now in
    ap (λ l. map (retired_as inside.untagged.items l) (range_with_len 0 inside.slots)) is
    ∙ (kept_retired inside.slots inside.untagged.items inside.tagged.items c.args.slot
    ∙ ap (λ (s : Sets). s.retired) c.self.view_is)

pub returns-clause-kept : goal.returns-clause-kept
returns-clause-kept c =
    let inside = c.self.inside in
    let slot = c.args.slot in
    let now = c.keep_slot.ensures ∙ ap (map (kept_at slot)) c.deref_mut.ensures.value in
    let is = written_back c.keep_slot.new.tagged inside.tagged.items inside.tagged.len inside.tagged.ok.0
    (ap length now ∙ length-map inside.tagged.items (kept_at slot)) ∙ now in
    let at = retired_at_all inside.slots inside.room inside.fresh.items inside.untagged.items inside.tagged.items
    c.self.invariant.0 slot in
    let view = ap (λ (s : Sets). get_or s.retired slot retire.No) c.self.view_is in
    ap (λ l. map (value_found is_kept false l) (range_with_len 0 inside.slots)) is
    ∙ (kept_set inside.slots inside.room inside.fresh.items inside.untagged.items inside.tagged.items slot
    c.self.invariant.0 (λ e. c.requires.tagged (sym view ∙ (at ∙ e)))
    ∙ (ap (λ r. cond (is_retired r)
    (set (map (value_found is_kept false inside.tagged.items) (range_with_len 0 inside.slots)) slot true)
    (map (value_found is_kept false inside.tagged.items) (range_with_len 0 inside.slots))) (sym at)
    ∙ ap (λ (s : Sets). cond (is_retired (get_or s.retired slot retire.No)) (set s.kept slot true) s.kept)
    c.self.view_is))
