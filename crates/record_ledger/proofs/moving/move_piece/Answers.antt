-- Each turn moves the last fragments that are left.
use Rattle.std.proofs.Common.{◌≡◌, ◌/◌, ◌*◌, ◌-◌, ◌++◌, ℕ, List, length, take, drop, sym, ap, ◌∙◌, subst, arith}
use Rattle.std.proofs.Common.{IsPermutation, take-append-drop}
use Rattle.std.proofs.lemmas.List.{take_all, length-drop}
use Rattle.flow_parts.specs.declared.fragment.Fragment.{Fragment}
use Rattle.record_ledger.specs.Lawful.{parts_of}
use Rattle.record_ledger.specs.Buckets.{records_of}
use Rattle.record_ledger.proofs.Dealt.{last_dealt}
use Rattle.record_ledger.proofs.moving.move_piece.Goals as goal

-- what is lent from a place on is what is left there
from_on : (left : ℕ) (items lent : List Fragment) → lent ≡ items → take (length lent - left) (drop left lent) ≡ drop left items
from_on left items lent same = take_all (length lent - left) (drop left lent) (omega (arith, length-drop left lent))
    ∙ ap (drop left) same

pub loop-piece-preserved : goal.loop-piece-preserved
loop-piece-preserved c =
    let items : List Fragment = c.loop-piece.piece.items in
    let left = (c.len.result - 1) / 4096 * 4096 in
    let before = parts_of (records_of c.loop-piece.buckets) in
    let after = parts_of (records_of c.move_parts.new.buckets) in
    let all = c.args.piece.items ++ parts_of (records_of c.args.buckets.now) in
    record {
      many = c.move_parts.ensures.many ∙ c.loop-piece.invariant.many;
      whole = subst (λ rest. IsPermutation all (rest ++ after))
          (sym (c.shrink_to_fit.ensures.items ∙ c.truncate.ensures.items))
          (last_dealt all items (take left items) (drop left items) before after (sym (take-append-drop left items))
          c.loop-piece.invariant.whole
          (subst (λ parts. IsPermutation (parts ++ before) after)
          (from_on left items c.deref.result.now c.deref.ensures.value) c.in_ok-move_parts.ensures.whole));
      by_key = λ before. c.in_ok-move_parts.ensures.by_key (c.loop-piece.invariant.by_key before);
    }
