use Rattle.std.proofs.Common.{arith, ◌++◌, ◌∙◌, ap, sym, append_assoc, drop, ◌+◌}
use Rattle.ipfix_writer.specs.Layout.{records_in}
use Rattle.ipfix_writer.proofs.Sets.{records_next, room_for_next}
use Rattle.ipfix_writer.proofs.body.append_data_records.Goals as goal

pub append-requires : goal.append-requires
append-requires g c =
    let encode = g.R.Encode.encode in
    let one = c.one-item.result in
    let next = records_next encode c.args.records.now c.loop-one.one-index one c.loop-one-test.true c.one-item.is in
    let fits =
    room_for_next c.loop-one.buffer.items (encode one).records
    (records_in encode (drop (c.loop-one.one-index + 1) c.args.records.now)) c.args.buffer.now.items
    (records_in encode c.args.records.now) _
    (ap (λ bs. c.loop-one.buffer.items ++ bs) (sym next) ∙ c.loop-one.invariant.items) c.requires in
    omega (arith, fits, c.loop-one.invariant.room)

pub loop-one-preserved : goal.loop-one-preserved
loop-one-preserved g c =
    let encode = g.R.Encode.encode in
    let one = c.one-item.result in
    let next = records_next encode c.args.records.now c.loop-one.one-index one c.loop-one-test.true c.one-item.is in
    record {
      items =
          ap (λ bs. bs ++ records_in encode (drop (c.loop-one.one-index + 1) c.args.records.now)) c.append.ensures.items
          ∙ append_assoc c.loop-one.buffer.items (encode one).records
          (records_in encode (drop (c.loop-one.one-index + 1) c.args.records.now))
          ∙ ap (λ bs. c.loop-one.buffer.items ++ bs) (sym next) ∙ c.loop-one.invariant.items;
      room = omega arith;
    }
