-- The count at the place grows by one, and the others stay.
use Rattle.std.proofs.Common.{◌≡◌, ◌+◌, ◌^◌, ◌<◌, ◌≤◌, ◌≢◌, ℕ, sym, subst, arith}
use Rattle.record_ledger.specs.Buckets.{two_bits}
use Rattle.record_ledger.proofs.Packed.{shifted, fits, raised, left}
use Rattle.record_ledger.proofs.slots.one_more.Goals as goal

few : (c : goal.Then-count_at-lt2) → two_bits c.args.octet c.args.place < 2
few c = omega (arith, c.count_at.ensures, c.if-count_at-lt2.true)

pub overflow_add-result : goal.overflow_add-result
overflow_add-result c = record {
  fits = subst (λ n. c.args.octet + n < 2 ^ 8) (sym (shifted c.args.place c.requires))
      (fits c.args.octet c.args.place c.requires c.ranges.octet.fits (few c));
}

pub returns-then-count_at-lt2-clause-some : goal.returns-then-count_at-lt2-clause-some
returns-then-count_at-lt2-clause-some c =
    let one = raised c.args.octet c.args.place c.requires (few c) in
    subst (λ n. 1 ≤ two_bits (c.args.octet + n) c.args.place) (sym (shifted c.args.place c.requires))
    (omega (arith, one))

pub returns-then-count_at-lt2-clause-first : goal.returns-then-count_at-lt2-clause-first
returns-then-count_at-lt2-clause-first c =
    let one = raised c.args.octet c.args.place c.requires (few c) in
    subst (λ n. two_bits (c.args.octet + n) c.args.place ≡ 1 → two_bits c.args.octet c.args.place ≡ 0)
    (sym (shifted c.args.place c.requires)) (λ e. omega (arith, one, e))

pub returns-then-count_at-lt2-clause-others : goal.returns-then-count_at-lt2-clause-others
returns-then-count_at-lt2-clause-others c =
    subst (λ n. (j : ℕ) → j < 4 → j ≢ c.args.place → two_bits (c.args.octet + n) j ≡ two_bits c.args.octet j)
    (sym (shifted c.args.place c.requires))
    (λ j low off. left c.args.octet c.args.place j c.requires low off (few c))

pub returns-else-count_at-lt2-clause-first : goal.returns-else-count_at-lt2-clause-first
returns-else-count_at-lt2-clause-first c = λ e. absurd (omega (arith, c.count_at.ensures, c.if-count_at-lt2.false, e))
