-- One more message.
use Rattle.std.proofs.Common.{◌∙◌, ◌++◌, ◌%◌, ◌^◌, sym, ap, subst, arith, take, ℕ, List, append_assoc, append-nil, []}
use Rattle.std.proofs.Common.{length, length-drop}
use Rattle.ipfix_writer.specs.Encoding.{message}
use Rattle.ipfix_writer.specs.Layout.{body_in, IsStream}
use Rattle.ipfix_writer.proofs.Rests.{rest-more, rest-end}
use Rattle.ipfix_writer.proofs.messages.append_messages.Goals as goal

pub loop-done-preserved : goal.loop-done-preserved
loop-done-preserved g c =
    let encode = g.R.Encode.encode in
    let records = c.args.records.now in
    let done = c.loop-done.done in
    let rest = c.split_at.result.1.now in
    let count = c.in_ok-done.field-0 in
    let next = message c.args.form.export_time (done % 2 ^ 32) (body_in encode (take count rest)) in
    let stream = c.loop-done.stream.items in
    let long = ap length c.split_at.ensures.back ∙ length-drop done records in
    record {
      within = omega (arith, long, c.in_ok-done.ensures.some);
      room = omega (arith, c.in_ok-done.ensures.room, c.loop-done.invariant.room);
      goes_on = λ bytes left.
          subst (λ (all : List ℕ). IsStream encode c.args.form.size c.args.form.export_time
          c.args.stream.now.items records
          (all ++ bytes)) (sym c.in_ok-done.ensures.items)
          (subst (λ (all : List ℕ). IsStream encode c.args.form.size c.args.form.export_time
          c.args.stream.now.items records all)
          (sym (append_assoc stream next bytes))
          (c.loop-done.invariant.goes_on (next ++ bytes)
          (rest-more encode c.args.form.size c.args.form.export_time records rest done count bytes
          c.split_at.ensures.back
          c.in_ok-done.ensures.some.0 c.in_ok-done.ensures.some.1
          c.in_ok-done.ensures.fits c.in_ok-done.ensures.full left)));
    }

pub returns : goal.returns
returns g c =
    subst (λ (all : List ℕ). IsStream g.R.Encode.encode c.args.form.size c.args.form.export_time c.args.stream.now.items
    c.args.records.now all) (append-nil c.loop-done.stream.items)
    (c.loop-done.invariant.goes_on []
    (rest-end g.R.Encode.encode c.args.form.size c.args.form.export_time c.args.records.now c.loop-done.done
    c.loop-done-test.false))
