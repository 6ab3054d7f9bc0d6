-- One more record, or none that fits.
use Rattle.std.proofs.Common.{◌∙◌, ◌≡◌, ◌<◌, ◌+◌, sym, ap, arith, take, Some, refl}
use Rattle.ipfix_writer.specs.Layout.{length_in}
use Rattle.ipfix_writer.specs.Emitting.{last_template, header_before}
use Rattle.ipfix_writer.proofs.Lengths.{length_in-nil, header_before-bound}
use Rattle.ipfix_writer.proofs.Rests.{length_in-taken, last_template-taken, length_in-one, some-before, least-size}
use Rattle.ipfix_writer.proofs.messages.first_message.Goals as goal

pub loop-count-init : goal.loop-count-init
loop-count-init g c = record {
  within = omega arith;
  exact = sym (length_in-nil g.R.Encode.encode);
  fits = least-size g.R.Encode.encode c.args.records.now c.args.size c.requires.some c.requires.alone;
  last = refl;
}

pub overflow_add-longer-in-loop-count : goal.overflow_add-longer-in-loop-count
overflow_add-longer-in-loop-count g c =
    let one = c.index-records-count.result in
    let alone = c.requires.alone one in
    let long = length_in-one g.R.Encode.encode one in
    omega (
      arith,
      c.header_length.ensures,
      header_before-bound c.loop-count.last c.template.result,
      c.size.ensures,
      alone,
      long,
    )

pub returns-then-longer-size-clause-some : goal.returns-then-longer-size-clause-some
returns-then-longer-size-clause-some g c =
    let encode = g.R.Encode.encode in
    let records = c.args.records.now in
    let count = c.loop-count.count in
    let one = c.index-records-count.result in
    let grown = length_in-taken encode records count one c.loop-count-test.true c.index-records-count.is in
    let header : c.header_length.result ≡ header_before (last_template encode (take count records))
    (encode one).template =
    c.header_length.ensures ∙ ap (λ l. header_before l c.template.result) c.loop-count.invariant.last
    ∙ ap (header_before (last_template encode (take count records))) c.template.ensures in
    let full : c.args.size < length_in encode (take (count + 1) records) =
    omega (arith, grown, header, c.size.ensures, c.loop-count.invariant.exact, c.if-longer-size.true) in
    some-before encode records count c.args.size c.loop-count-test.true c.requires.alone full

pub returns-then-longer-size-clause-full : goal.returns-then-longer-size-clause-full
returns-then-longer-size-clause-full g c = λ inside.
    let encode = g.R.Encode.encode in
    let records = c.args.records.now in
    let count = c.loop-count.count in
    let one = c.index-records-count.result in
    let grown = length_in-taken encode records count one c.loop-count-test.true c.index-records-count.is in
    let header : c.header_length.result ≡ header_before (last_template encode (take count records))
    (encode one).template =
    c.header_length.ensures ∙ ap (λ l. header_before l c.template.result) c.loop-count.invariant.last
    ∙ ap (header_before (last_template encode (take count records))) c.template.ensures in
    omega (arith, grown, header, c.size.ensures, c.loop-count.invariant.exact, c.if-longer-size.true)

pub loop-count-preserved : goal.loop-count-preserved
loop-count-preserved g c =
    let encode = g.R.Encode.encode in
    let records = c.args.records.now in
    let count = c.loop-count.count in
    let one = c.index-records-count.result in
    let grown = length_in-taken encode records count one c.loop-count-test.true c.index-records-count.is in
    let header : c.header_length.result ≡ header_before (last_template encode (take count records))
    (encode one).template =
    c.header_length.ensures ∙ ap (λ l. header_before l c.template.result) c.loop-count.invariant.last
    ∙ ap (header_before (last_template encode (take count records))) c.template.ensures in
    record {
      within = omega arith;
      exact = omega (arith, grown, header, c.size.ensures, c.loop-count.invariant.exact);
      fits = omega arith;
      last = ap Some c.template-in-loop-count.ensures
          ∙ sym (last_template-taken encode records count one c.loop-count-test.true c.index-records-count.is);
    }
