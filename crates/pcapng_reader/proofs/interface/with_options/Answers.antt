-- One option more, as long as there is one.
use Rattle.std.proofs.Common.{◌∙◌, sym, ap}
use Rattle.pcapng_reader.specs.Interfaces.{with_options}
use Rattle.pcapng_reader.proofs.Optioned.{options_in-last, options_in-beyond, with_options-more, with_options-bad}
use Rattle.pcapng_reader.proofs.interface.with_options.Goals as goal

pub returns-in-Last-clause-value : goal.returns-in-Last-clause-value
returns-in-Last-clause-value c =
    sym (ap (with_options c.args.order c.options.interface) (options_in-last _ _ (sym c.in-Last.ensures.value)))
    ∙ c.options.invariant.same

pub returns-in-Beyond-clause-value : goal.returns-in-Beyond-clause-value
returns-in-Beyond-clause-value c =
    sym (ap (with_options c.args.order c.options.interface) (options_in-beyond _ _ (sym c.in-Beyond.ensures.value)))
    ∙ c.options.invariant.same

pub returns-in-None-clause-value : goal.returns-in-None-clause-value
returns-in-None-clause-value c =
    sym (with_options-bad c.args.order c.options.interface c.options.left.now c.split_at-in-Coded.result.0.now
    c.in-Coded.code c.in-Coded.len (sym c.in-Coded.ensures.value)
    (sym c.in-None.ensures.value) (cc)) ∙ c.options.invariant.same

pub options-preserved : goal.options-preserved
options-preserved c = record {
  same = with_options-more c.args.order c.options.interface c.in-Some.next c.options.left.now
      c.split_at-in-Coded.result.0.now c.split_at-in-Coded-2.result.1.now c.in-Coded.code c.in-Coded.len
      (sym c.in-Coded.ensures.value) (sym c.in-Some.ensures.value) (cc) (cc) ∙ c.options.invariant.same;
  units = c.in-Some.ensures.units;
}
