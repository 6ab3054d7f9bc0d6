use Rattle.std.proofs.Common.{arith, ap, length, drop}
use Rattle.ipfix_writer.specs.Layout.{body_in}
use Rattle.ipfix_writer.proofs.Sets.{put_together, body_in-after, body_in-rest}
use Rattle.ipfix_writer.proofs.body.append_body.Goals as goal

pub append_set-done-requires : goal.append_set-done-requires
append_set-done-requires g c =
    let lengths = put_together c.loop-done.buffer.items
    (body_in g.R.Encode.encode (drop c.loop-done.done c.args.records.now)) c.args.buffer.now.items
    (body_in g.R.Encode.encode c.args.records.now) c.loop-done.invariant.items in
    let rest = ap (λ flows. length (body_in g.R.Encode.encode flows)) c.split_at.ensures.back in
    record {
      some = omega arith;
      room = omega (arith, lengths, rest);
      small = omega (arith, lengths, rest);
    }

pub loop-done-preserved : goal.loop-done-preserved
loop-done-preserved g c = record {
  within = omega arith;
  items = body_in-after _ _ _ _ _ _ _ _ c.split_at.ensures.back c.append_set-done.ensures.items
      c.loop-done.invariant.items;
  longer = omega arith;
  room = omega arith;
}

pub returns : goal.returns
returns g c = record {
  items = body_in-rest _ _ _ _ _ c.loop-done-test.false c.loop-done.invariant.items;
  room = c.loop-done.invariant.room;
}
