use Rattle.std.proofs.Common.{◌+◌, sym, subst, ap, refl, ◌∙◌, set, Option}
use Rattle.flow_parts.specs.declared.fragment.Fragment.{Fragment}
use Rattle.cache_face.specs.Choice.{IsChoice}
use Rattle.front_cache.specs.Kept.{two_shown}
use Rattle.front_cache.proofs.Putting.{one_of_two}
use Rattle.front_cache.proofs.contents.open_one.Goals as goal

pub returns : goal.returns
returns c = (
  c.entry_to_open-entry.ensures.chosen.0,
  record {
    entry = c.entry_to_open-entry.result;
    kept = c.args.own.now;
    chosen = subst (λ (out : Option Fragment). IsChoice c.args._timeouts.now
        (two_shown c.args.contents.now c.args.first)
        c.args.own.now c.entry_to_open-entry.ensures.chosen.0 c.entry_to_open-entry.result out c.args.own.now)
        (one_of_two c.args.contents.now c.args.first c.entry_to_open-entry.result c.entry_to_open-entry.ensures.low
        ∙ sym c.put_out-out.ensures) c.entry_to_open-entry.ensures.chosen.1;
    at = refl;
    written = ap (set c.args.contents.now (c.args.first + c.entry_to_open-entry.result)) c.to_words.ensures;
  },
)
