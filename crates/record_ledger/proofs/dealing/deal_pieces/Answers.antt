-- All shares are dealt, and what doesn't stay is moved to buckets that were empty.
use Rattle.std.proofs.Common.{◌+◌, ◌++◌, List, length, sym, subst, IsPermutation}
use Rattle.std.specs.List.{AllZip}
use Rattle.flow_parts.specs.declared.fragment.Fragment.{Fragment}
use Rattle.flow_parts.specs.Pieces.{items_of}
use Rattle.record_ledger.specs.Lawful.{parts_of}
use Rattle.record_ledger.specs.Buckets.{AreDealings, AreDealt, AreMarked, AreByKey, IsPartPlaceOf, places_of, records_of}
use Rattle.record_ledger.proofs.Leaving.{all_dealt}
use Rattle.record_ledger.proofs.Settled.{given_back}
use Rattle.record_ledger.proofs.dealing.deal_pieces.Goals as goal

pub returns-clause-dealt : goal.returns-clause-dealt
returns-clause-dealt g c =
    let pieces = c.args.pieces.items in
    let ends = c.args.shares in
    let lists = c.in_ok-alone.field-0.alone.items in
    let moves = c.in_ok-alone.field-0.moved.items in
    let none = c.in_ok-buckets.buckets.items in
    let bs = c.move_dealt.new.buckets in
    let lent = c.deref_mut.ensures.value in
    let counts = c.args.counted.now.counts in
    let h : AreDealings counts ends pieces (length ends + 1) lists moves =
    subst (λ n. AreDealings counts ends pieces n lists moves) c.count-count.ensures
    (subst (λ l. AreDealings counts ends l c.count-count.result lists moves) c.deref-2.ensures.value
    (c.in_ok-alone.ensures ends (subst (λ l. AreMarked ends l c.args.counted.now.marks.items)
    (sym c.deref-2.ensures.value) c.requires.marked))) in
    let whole : (parts : List Fragment) → AllZip (IsPartPlaceOf pieces) parts (places_of moves)
    → IsPermutation (parts ++ parts_of (records_of none)) (parts_of (records_of bs)) =
    λ parts z. subst (λ l. IsPermutation (parts ++ parts_of (records_of l)) (parts_of (records_of bs))) lent
    (c.in_ok-move_dealt.ensures.whole parts
    (subst (λ l. AllZip (IsPartPlaceOf l) parts (places_of c.deref-4.result.now)) (sym c.deref-3.ensures.value)
    (subst (λ l. AllZip (IsPartPlaceOf pieces) parts (places_of l)) (sym c.deref-4.ensures.value) z))) in
    subst (AreDealt (items_of pieces) pieces (places_of lists))
    (sym (given_back c.in_ok-buckets.buckets.len none c.deref_mut.result.now bs c.in_ok-buckets.buckets.ok.0 lent
    (sym c.in_ok-move_dealt.ensures.many)))
    (all_dealt counts ends pieces lists moves none bs c.requires.counts h
    c.in_ok-buckets.ensures.none whole (subst (λ l. AreByKey l → AreByKey bs) lent c.in_ok-move_dealt.ensures.by_key))
