-- Each turn adds the dealing of one more share.
use Rattle.std.proofs.Common.{rules, ◌≡◌, ◌∷◌, ◌++◌, [], length, length-append, append_assoc}
use Rattle.std.proofs.Common.{sym, ap, ◌∙◌, subst}
use Rattle.flow_parts.specs.Pieces.{items_of}
use Rattle.record_ledger.specs.Buckets.{AreDealings, AreDealtTo, share_of}
use Rattle.record_ledger.proofs.Leaving.{none_dealt, share_dealt, dealing_next}
use Rattle.record_ledger.proofs.dealing.parted.Goals as goal

pub loop-dealing-init : goal.loop-dealing-init
loop-dealing-init c = record {
  left = search rules;
  dealt = λ counts ends pieces each.
      none_dealt counts ends pieces _ _ c.in_ok-alone.ensures.items c.in_ok-moved.ensures.items;
}

pub loop-dealing-preserved : goal.loop-dealing-preserved
loop-dealing-preserved c =
    let ys = c.loop-dealing.yielded in
    let x = c.in-Some.dealing in
    let rest = c.next.new.self.rest.items in
    let here : c.args.dealings.items ≡ ys ++ x ∷ rest =
    c.loop-dealing.invariant.left ∙ ap (λ l. ys ++ l) c.in-Some.ensures.steps.0 in
    record {
      left = here ∙ sym (append_assoc ys (x ∷ []) rest);
      dealt = λ counts ends pieces each.
          let d = dealing_next (λ share. AreDealtTo counts pieces (share_of ends share (items_of pieces)))
          c.args.dealings.items ys rest x c.in_ok-dealing.dealing here c.in_ok-dealing.was each in
          subst (λ n. AreDealings counts ends pieces n c.push.new.self.items c.push-in-loop-dealing.new.self.items)
          (sym (length-append ys (x ∷ [])))
          (share_dealt counts ends pieces (length ys) c.in_ok-dealing.dealing c.loop-dealing.alone.items
          c.loop-dealing.moved.items d (c.loop-dealing.invariant.dealt counts ends pieces each) _ _
          c.in_ok-push.ensures.items c.in_ok-push-2.ensures.items);
    }
