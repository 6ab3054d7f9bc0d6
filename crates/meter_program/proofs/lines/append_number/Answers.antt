use Rattle.std.proofs.Common.{◌≤◌, ◌^◌, length, arith}
use Rattle.std.proofs.Math.Nat.{pow-le-pow_right}
use Rattle.meter_program.proofs.lines.append_number.Goals as goal

pub overflow_cast-number : goal.overflow_cast-number
overflow_cast-number c =
    let value = c.args.value.now in
    let fits = c.numbers_law.ensures 0 (length value) value (λ place. omega (arith, c.type_inv.value place)) in
    let most : 256 ^ length value ≤ 256 ^ 8 =
    pow-le-pow_right {n = 256} (omega arith) {i = length value} {j = 8} c.if-value-le8.true in
    omega (arith, fits, most, c.uint_at-number.ensures)
