-- Each place by itself.
use Rattle.std.proofs.Common.{◌≡◌, ◌+◌, ◌*◌, ℕ, arith}
use Rattle.record_ledger.specs.Buckets.{two_bits}
use Rattle.record_ledger.proofs.Packed.{four}
use Rattle.record_ledger.proofs.slots.joined.Goals as goal

pub returns : goal.returns
returns c =
    let a = c.together in
    let b = c.together-2 in
    let d = c.together-3 in
    let e = c.together-4 in
    let sum : ℕ = a.result + 4 * b.result + 16 * (d.result + 4 * e.result) in
    four (λ k. (two_bits sum k ≡ 0 → two_bits c.args.one k + two_bits c.args.other k ≡ 0)
    × (two_bits sum k ≡ 1 → two_bits c.args.one k + two_bits c.args.other k ≡ 1)) (
      λ h. (let none = a.ensures.none (omega (arith, h, a.ensures.more, b.ensures.more, d.ensures.more, e.ensures.more)) in
          omega (arith, none)),
      λ h. (let one = a.ensures.one (omega (arith, h, a.ensures.more, b.ensures.more, d.ensures.more, e.ensures.more)) in
          omega (arith, one)),
    ) (
      λ h. (let none = b.ensures.none (omega (arith, h, a.ensures.more, b.ensures.more, d.ensures.more, e.ensures.more)) in
          omega (arith, none)),
      λ h. (let one = b.ensures.one (omega (arith, h, a.ensures.more, b.ensures.more, d.ensures.more, e.ensures.more)) in
          omega (arith, one)),
    ) (
      λ h. (let none = d.ensures.none (omega (arith, h, a.ensures.more, b.ensures.more, d.ensures.more, e.ensures.more)) in
          omega (arith, none)),
      λ h. (let one = d.ensures.one (omega (arith, h, a.ensures.more, b.ensures.more, d.ensures.more, e.ensures.more)) in
          omega (arith, one)),
    ) (
      λ h. (let none = e.ensures.none (omega (arith, h, a.ensures.more, b.ensures.more, d.ensures.more, e.ensures.more)) in
          omega (arith, none, c.ranges.one.fits, c.ranges.other.fits)),
      λ h. (let one = e.ensures.one (omega (arith, h, a.ensures.more, b.ensures.more, d.ensures.more, e.ensures.more)) in
          omega (arith, one, c.ranges.one.fits, c.ranges.other.fits)),
    )
