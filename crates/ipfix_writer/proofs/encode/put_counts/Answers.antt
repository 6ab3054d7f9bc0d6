-- One value behind the other.
use Rattle.std.proofs.Common.{arith}
use Rattle.ipfix_writer.specs.DataParts.{counts_part}
use Rattle.ipfix_writer.proofs.Puts.{then-put}
use Rattle.ipfix_writer.proofs.encode.put_counts.Goals as goal

pub returns-clause-put : goal.returns-clause-put
unfolding counts_part
returns-clause-put c =
    then-put c.put_u16.ensures.put (omega arith) (
    then-put c.put_u64.ensures.put (omega arith) (
    then-put c.put_u64-2.ensures.put (omega arith) (
    then-put c.put_u64-3.ensures.put (omega arith) (
    then-put c.put_u64-4.ensures.put (omega arith) c.put_u8.ensures.put))))
