-- One more round, whose copies are those that were made beside the round before it.
use Rattle.std.proofs.Common.{◌≡◌, ◌∙◌, ◌+◌, ◌*◌, ◌<◌, ◌++◌, min, length, take, drop, List, All, sym, ap, subst, arith}
use Rattle.record_ledger.proofs.Settled.{given_back}
use Rattle.ipfix_writer.specs.Copies.{Part, IsWhole, records_of, HaveCopies}
use Rattle.ipfix_writer.proofs.UnderWay.{all-taken}
use Rattle.ipfix_writer.proofs.Copied.{round-taken, round-split}
use Rattle.ipfix_writer.proofs.TakenIn.{none-in, more-in, whole-in, broken-in}
use Rattle.ipfix_writer.proofs.rounds.emit_rounds.Goals as goal

pub loop-from-init : goal.loop-from-init
loop-from-init g c =
    let room = c.room.inside in
    let copied = c.copy_first.new.parts in
    let lent = c.deref_mut in
    let many : length copied ≡ length room.current.items =
    c.copy_first.ensures.many ∙ ap length lent.ensures.value in
    let back = given_back room.current.len room.current.items lent.result.now copied room.current.ok.0
    lent.ensures.value (sym c.copy_first.ensures.many) in
    record {
      some = subst (λ (parts : List Part). 0 < length parts) (sym back)
          (omega (arith, many, c.room.view_is, c.requires.some));
      alike = c.room.invariant.2 ∙ sym (ap length back ∙ many);
      whole = c.room.invariant.1;
      copies = subst (HaveCopies c.args.records.now 0) (sym back) c.copy_first.ensures.copies;
      taken = none-in c.args.emitter.now _ _ c.requires.started;
    }

pub returns-in-Err : goal.returns-in-Err
returns-in-Err g c =
    let records = c.args.records.now in
    let from = c.loop-from.from in
    let behind = c.place_behind-behind.result in
    let parts = c.loop-from.current.items in
    let before = c.loop-from.invariant in
    let is : behind ≡ min (from + length parts * 4096) (length records) =
    c.place_behind-behind.ensures
    ∙ ap (λ n. min (from + n * 4096) (length records)) (c.len-in-loop-from.ensures ∙ c.loop-from.current.ok.0) in
    broken-in c.in-Err.field-0 c.args.emitter.now c.loop-from.emitter c.emit_beside.new.emitter (take from records)
    (records_of c.deref.result.now) (drop behind records) records _ _ _ _ _ _
    before.taken c.in-Err.ensures.taken
    (ap (λ ps. take from records ++ (records_of ps ++ drop behind records)) c.deref.ensures.value
    ∙ round-split records from behind parts before.copies is)

pub loop-from-preserved : goal.loop-from-preserved
loop-from-preserved g c =
    let records = c.args.records.now in
    let from = c.loop-from.from in
    let behind = c.place_behind-behind.result in
    let parts = c.loop-from.current.items in
    let before = c.loop-from.invariant in
    let following = c.loop-from.next in
    let lent = c.deref_mut-in-loop-from in
    let copied = c.emit_beside.new.next in
    let many : length copied ≡ length following.items = c.in-Ok.ensures.many ∙ ap length lent.ensures.value in
    let is : behind ≡ min (from + length parts * 4096) (length records) =
    c.place_behind-behind.ensures
    ∙ ap (λ n. min (from + n * 4096) (length records)) (c.len-in-loop-from.ensures ∙ c.loop-from.current.ok.0) in
    let here : c.swap.new.x.items ≡ copied =
    ap (λ v. v.items) c.swap.ensures.x_after
    ∙ given_back following.len following.items lent.result.now copied following.ok.0 lent.ensures.value
    (sym c.in-Ok.ensures.many) in
    let there : c.swap.new.y.items ≡ parts = ap (λ v. v.items) c.swap.ensures.y_after in
    record {
      some = subst (λ (ps : List Part). 0 < length ps) (sym here) (omega (arith, many, before.alike, before.some));
      alike = ap length there ∙ sym before.alike ∙ sym many ∙ sym (ap length here);
      whole = subst (All IsWhole) (sym there) (λ k d l. (before.copies k d l).whole);
      copies = subst (HaveCopies records behind) (sym here) c.in-Ok.ensures.copies;
      taken = more-in tt c.args.emitter.now c.loop-from.emitter c.emit_beside.new.emitter (take from records)
          (records_of c.deref.result.now) (take behind records) _ _ _ _ _ _ before.taken c.in-Ok.ensures.taken
          (ap (λ ps. take from records ++ records_of ps) c.deref.ensures.value
          ∙ round-taken records from behind parts before.copies is);
    }

pub returns : goal.returns
returns g c =
    let records = c.args.records.now in
    let from = c.loop-from.from in
    whole-in tt c.args.emitter.now c.loop-from.emitter (take from records) records _ _ _ _ c.loop-from.invariant.taken
    (all-taken records from (omega (arith, c.loop-from-test.false, c.len.ensures)))
