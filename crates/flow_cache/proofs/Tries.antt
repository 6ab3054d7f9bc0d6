-- A pass goes on, and its four roots are protected.
use Rattle.std.proofs.Common.{◌≡◌, ℕ, true, Some, unwrap_or, sym, ap, ◌∙◌}
use Rattle.pebr_core.specs.declared.kinds.ShieldAt.TheVariants as shield
use Rattle.pebr_core.specs.State.{Seat, has, shield_at, slot_under}
use Rattle.pebr_words.specs.Pasts.{History, shown_at}
use Rattle.pebr_roots.specs.Passes.{IsSame}
use Rattle.pebr_roots.specs.Under.{slot_at}
use Rattle.pebr_roots.specs.declared.pass.RootPass.{RootPass}
use Rattle.pebr_roots.specs.declared.pass.Roots.{Roots}
use Rattle.flow_cache.specs.Places.{root_of}
use Rattle.flow_cache.specs.Reading.{set_read}
use Rattle.flow_cache.specs.Trying.{AreLoaded, AreProtected}

-- a pass after several steps
pub go_on : {P N A F : Type 0} {g h k : _} (roots : Roots P N A F) (one : RootPass P N A F g) (two : RootPass P N A F h)
    (three : RootPass P N A F k) → IsSame roots one two → IsSame roots two three → IsSame roots one three
go_on roots one two three s t = record {
  of = t.of;
  still = (t.still.0, t.still.1 ∙ s.still.1, t.still.2 ∙ s.still.2, t.still.3 ∙ s.still.3, t.still.4 ∙ s.still.4);
}

-- the roots that were loaded are protected once a check has said so
pub checked_set : (set : ℕ) (known known' : Seat) (past past' : History) → AreLoaded set 4 known past
    → set_read past.loads ≡ set
    → ((place slot : ℕ) → shield_at known place ≡ shield.Set slot → has known.seen slot ≡ true
    → shield_at known' place ≡ shield.Valid slot)
    → past'.loads ≡ past.loads → past'.shown ≡ past.shown → AreProtected set known' past'
checked_set set known known' past past' loaded last valid loads shown = record {
  each = λ place low. (let l = loaded place low in
      let v = valid place (slot_at known place) l.0 l.1 in
      let is : slot_at known' place ≡ slot_at known place = ap (λ s. unwrap_or (slot_under s) 0) v in (
        v ∙ ap (λ s. shield.Valid s) (sym is),
        (
          ap (λ ls. shown_at ls (root_of set place)) loads ∙ l.2.0
              ∙ ap (λ s. Some s) (sym is),
          ap (λ ls. shown_at ls (root_of set place)) shown ∙ l.2.1 ∙ ap (λ s. Some s) (sym is),
        ),
      ));
  last = ap set_read loads ∙ last;
}
