use Rattle.std.proofs.Common.{◌≡◌, ◌∷◌, [], length, sym, ap, subst, arith, All}
use Rattle.std.proofs.lemmas.List.{length-append}
use Rattle.std.proofs.lemmas.List.Elements.{All-append, All-cons, All-nil}
use Rattle.cache_face.specs.Meaning.{IsFresh}
use Rattle.cache_face.specs.Notes.{first_note}
use Rattle.pebr_roots.specs.Passes.{IsOpenedPass}
use Rattle.pebr_roots.proofs.Dealing.{before_last}
use Rattle.flow_cache.specs.declared.cache.PebrPass.{PebrPass}
use Rattle.flow_cache.specs.Shown.{shown_of, tries_of, IsOf}
use Rattle.flow_cache.proofs.cache.PebrCache.deal.Goals as goal

pub loop-turn-preserved : goal.loop-turn-preserved
loop-turn-preserved c =
    let before = c.loop-turn.invariant in
    let rest = c.pop.new.self in
    let passes = c.loop-turn.passes.items in
    let pass = c.pass-pass.result in
    let a = ap length c.in-Some.ensures.items in
    let b = length-append rest.items (c.in-Some.last ∷ []) in
    let d = ap length c.in_ok-add.ensures in
    let e = length-append passes (pass ∷ []) in
    let Fresh : PebrPass → Type 0 = λ p. IsOf c.args.self.now p × IsFresh (shown_of p) in
    let Unlost : PebrPass → Type 0 = λ p. tries_of p ≡ [] in
    record {
      count = omega (arith, a, b, d, e, before.count);
      turns = omega (arith, d, e, before.turns);
      ahead = before_last (λ k s. IsOpenedPass c.args.self.now.roots first_note k s) c.loop-turn.inner.items rest.items
          c.in-Some.last c.in-Some.ensures.items before.ahead;
      each = subst (All Fresh) (sym c.in_ok-add.ensures)
          (All-append Fresh passes (pass ∷ []) before.each
          (All-cons Fresh pass [] c.pass-pass.ensures.pass (All-nil Fresh)));
      unlost = subst (All Unlost) (sym c.in_ok-add.ensures)
          (All-append Unlost passes (pass ∷ []) before.unlost
          (All-cons Unlost pass [] c.pass-pass.ensures.unlost (All-nil Unlost)));
    }
