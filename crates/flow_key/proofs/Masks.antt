-- A mask of the lower bits gives the remainder of a division by a power of two.
use Rattle.std.proofs.Common.{◌≡◌, ℕ, ◌*◌, ◌%◌, ◌-◌, ◌<◌, ◌^◌, bit_and, arith, ap, sym, ◌∙◌, mod-eq_of_lt}
use Rattle.std.proofs.lemmas.Nat.{and_mask}
use Rattle.std.proofs.Math.Pow.{pow-lt}

-- one that is shifted by less than 64 places is that power of two
shifted : (shift : ℕ) → shift < 64 → 1 * 2 ^ shift % 2 ^ 64 ≡ 2 ^ shift
shifted shift h = ap (λ n. n % 2 ^ 64) (grind arith) ∙ mod-eq_of_lt (pow-lt h)

pub masked : (number sets shift : ℕ) → shift < 64 → 1 * 2 ^ shift % 2 ^ 64 ≡ sets
    → bit_and number (1 * 2 ^ shift % 2 ^ 64 - 1) ≡ number % sets
masked number sets shift h e = ap (λ n. bit_and number (n - 1)) (shifted shift h) ∙ and_mask number shift
    ∙ ap (λ n. number % n) (sym (shifted shift h) ∙ e)
