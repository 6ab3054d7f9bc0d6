use Rattle.std.proofs.Common.{◌+◌, ◌*◌, sym}
use Rattle.std.specs.Slots.{slots_items}
use Rattle.turn_cache.proofs.Closing.{at_value}
use Rattle.turn_cache.proofs.close.word.Goals as goal

pub returns : goal.returns
returns c =
    sym (at_value (slots_items c.args.closed.now.words)
    (64 * c.args.set + 16 + (10 * c.args.place + c.args.k)) c.word.result c.word.ensures)
