-- Where there is no memory for what was read last, it and what was read before were taken.
use Rattle.std.proofs.Common.{◌+◌, ◌≤◌, ◌++◌, length, take, arith}
use Rattle.std.proofs.lemmas.List.{length-append, length-take}
use Rattle.std.proofs.KnownBytes.{Consumes-trans}
use Rattle.meter_io.proofs.reading.read_all.Goals as goal
use Rattle.meter_io.proofs.reading.read_all.Goals.{then-room, else-room}

pub returns-then-is_err-clause-memory_within : goal.returns-then-is_err-clause-memory_within
returns-then-is_err-clause-memory_within g c = λ _.
    let few : c.in-Ok.count ≤ c.if-room.want =
    omega (arith, c.in-Ok.ensures.bound, length-take c.if-room.want c.loop-want.chunk) in
    let room : length c.loop-want.all.items + c.if-room.want ≤ c.args.limit + 1
    = elim c.if-room.branch [
      | then-room w ↦ omega (arith, c.loop-want.invariant.within)
      | else-room w ↦ omega
          (arith, c.loop-want.invariant.within)
    ] in (
      c.loop-want.all.items ++ take c.in-Ok.count c.read.new.buf,
      simp (length-append, length-take) (omega arith),
      Consumes-trans _ _ _ _ _ c.loop-want.invariant.taken c.in-Ok.ensures.bytes.0,
    )
