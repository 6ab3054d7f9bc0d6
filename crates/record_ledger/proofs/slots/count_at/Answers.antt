-- A shift to the right by pairs of bits.
use Rattle.std.proofs.Common.{◌/◌, ◌%◌, ap}
use Rattle.record_ledger.proofs.Packed.{shift_is}
use Rattle.record_ledger.proofs.slots.count_at.Goals as goal

pub returns : goal.returns
returns c = ap (λ n. c.args.octet / n % 4) (shift_is c.args.place c.requires)
