-- Each share is dealt by one call.
use Rattle.std.proofs.Common.{rules, ◌≡◌, ℕ, List, length, get_or, sym, ap, ◌∙◌, subst, arith, IfOk}
use Rattle.std.proofs.lemmas.Result.{IfOk-weaker}
use Rattle.flow_parts.specs.Pieces.{items_of}
use Rattle.record_ledger.specs.declared.dealing.Dealing.{Dealing}
use Rattle.record_ledger.specs.Buckets.{AreDealings, AreDealtTo, AreMarked, share_of}
use Rattle.record_ledger.proofs.Settled.{given_back}
use Rattle.record_ledger.proofs.dealing.deal_all.Goals as goal

pub returns : goal.returns
returns g c =
    let counts = c.args.counted.now.counts in
    let pieces = c.args.pieces.now in
    let marks = c.args.counted.now.marks.items in
    let dealt = c.for_each_mut.new.items in
    let lent = ap length c.deref_mut.ensures.value in
    let same : length dealt ≡ length c.deref_mut.result.now = search rules in
    let back = given_back c.in_ok-dealings.dealings.len c.in_ok-dealings.dealings.items c.deref_mut.result.now dealt
    c.in_ok-dealings.dealings.ok.0 c.deref_mut.ensures.value (sym same) in
    IfOk-weaker c.parted.result _ _ (λ d k ends marked.
    subst (λ n. AreDealings counts ends pieces n d.alone.items d.moved.items)
    (ap length back ∙ same ∙ lent ∙ c.in_ok-dealings.ensures)
    (k counts ends pieces (λ share r low.
    let call = (c.for_each_mut.ensures share r (let long = ap length back in omega (arith, low, long, same))).1 in
    let P : Dealing → Type 0 = λ d. (ends : List ℕ) → AreMarked ends pieces marks
    → AreDealtTo counts pieces (share_of ends share (items_of pieces)) d in
    let Q : Dealing → Type 0 = AreDealtTo counts pieces (share_of ends share (items_of pieces)) in
    subst (λ l. IfOk (get_or l share r) Q) (sym back)
    (IfOk-weaker (get_or dealt share r) P Q (λ d h. h ends marked) (subst (λ w. IfOk w P) call.left call.call)))))
    c.parted.ensures
