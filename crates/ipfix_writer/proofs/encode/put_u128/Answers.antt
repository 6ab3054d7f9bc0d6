use Rattle.std.proofs.Common.{◌-◌, length, arith}
use Rattle.ipfix_writer.proofs.Puts.{written-put}
use Rattle.ipfix_writer.proofs.encode.put_u128.Goals as goal

pub returns-clause-put : goal.returns-clause-put
returns-clause-put c =
    rw c.write_u128.ensures
    (written-put 16 c.args.place (length c.args.octets.now - c.args.place) c.args.value c.args.octets.now _ (omega arith))
