-- Powers of ten are above 0.
use Rattle.std.proofs.Common.{◌<◌, ◌^◌, ℕ, zero, suc, arith, lit<}
use Rattle.std.proofs.Math.Nat.{pow-suc}

pub ten-pos : (n : ℕ) → 0 < 10 ^ n
ten-pos zero = lit< tt
ten-pos (suc n) = omega (arith, pow-suc 10 n, ten-pos n)
