-- Each turn adds one more empty list.
use Rattle.std.proofs.Common.{◌≡◌, ◌+◌, ◌∷◌, ◌++◌, [], length, length-append, sym, ap, ◌∙◌, subst, All}
use Rattle.std.proofs.lemmas.List.Elements.{All-nil}
use Rattle.record_ledger.specs.declared.place.Place.{Place}
use Rattle.record_ledger.specs.Buckets.{SharedFrom, places_of, share_number}
use Rattle.record_ledger.proofs.Classed.{shared_more}
use Rattle.record_ledger.proofs.Leaving.{places_added}
use Rattle.record_ledger.proofs.dealing.no_places.Goals as goal

pub loop-made-preserved : goal.loop-made-preserved
loop-made-preserved c =
    let ends = c.args.shares.now in
    let lists = c.loop-made.lists.items in
    let list = c.new.result in
    let was = c.loop-made.invariant in
    let more = c.in_ok-push.ensures.items in
    let P = λ (place : Place). share_number ends place.last ≡ 0 + length lists in
    record {
      many = ap length more ∙ length-append lists (list ∷ []) ∙ ap (λ n. n + 1) was.many;
      shared = subst (SharedFrom ends 0) (sym more)
          (shared_more ends 0 lists list was.shared (subst (All P) (sym c.new.ensures.items) (All-nil P)));
      none = ap places_of more ∙ places_added lists list ∙ (λ i. was.none i ++ c.new.ensures.items i);
    }
