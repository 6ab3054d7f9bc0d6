-- The leading numbers of keys: no key comes before one whose number is less.
use Rattle.std.proofs.Common.{◌≡◌, ℕ, ◌+◌, ◌*◌, ◌/◌, ◌^◌, ◌<◌, refl, sym, ap, ◌∙◌, arith, ◌⊎◌, inl, inr}
use Rattle.std.specs.Prelude.{◌==◌, if◌then◌else◌}
use Rattle.std.specs.Ordering.{MatchOrdering, nat_cmp, ordering_then, ordering_reverse}
use Rattle.std.specs.declared.cmp.Ordering.{Ordering}
use Rattle.std.specs.declared.cmp.Ordering.TheVariants.{Less, Equal, Greater}
use Rattle.std.proofs.lemmas.Cmp.{ranked}
use Rattle.flow_key.specs.Key.{key_order}
use Rattle.flow_key.specs.declared.key.FlowKey.{FlowKey}
use Rattle.flow_key.proofs.KeyOrder.{key_order_total}
use Rattle.record_ledger.specs.Buckets.{leading_number}

pub less_is : (x y : ℕ) → x < y → nat_cmp x y ≡ Less
less_is x y l = go (nat_cmp x y) (ranked x y (nat_cmp x y) refl)
  where
    go : (o : Ordering) → MatchOrdering o (x < y) (x ≡ y) (y < x) → o ≡ Less
    go Less h = refl
    go Equal h = absurd (omega (arith, h, l))
    go Greater h = absurd (omega (arith, h, l))

-- a key has one of two versions
version_of : (k : FlowKey) → (k.version ≡ 4) ⊎ (k.version ≡ 6)
version_of k = go (nat_cmp k.version 4) (ranked k.version 4 (nat_cmp k.version 4) refl)
  where
    go : (o : Ordering) → MatchOrdering o (k.version < 4) (k.version ≡ 4) (4 < k.version)
        → (k.version ≡ 4) ⊎ (k.version ≡ 6)
    go Less h = inr (k.known (λ e. omega (arith, h, e)))
    go Equal h = inl h
    go Greater h = inr (k.known (λ e. omega (arith, h, e)))

abbrev leading_by : FlowKey → ℕ → ℕ
leading_by k v = if v == 4 then (k.source * 2 ^ 32 + k.destination) / 2 else 2 ^ 63 + k.source / 2 ^ 65

of_four : (k : FlowKey) → k.version ≡ 4 → leading_number k ≡ (k.source * 2 ^ 32 + k.destination) / 2
of_four k e = ap (leading_by k) e

of_six : (k : FlowKey) → k.version ≡ 6 → leading_number k ≡ 2 ^ 63 + k.source / 2 ^ 65
of_six k e = ap (leading_by k) e

-- numbers side by side stand by the first, then by the second
side_by_side : (s t d e : ℕ) (rest : Ordering) → d < 2 ^ 32 → s * 2 ^ 32 + d < t * 2 ^ 32 + e → e < 2 ^ 32
    → ordering_then (nat_cmp s t) (ordering_then (nat_cmp d e) rest) ≡ Less
side_by_side s t d e rest low l small = go (nat_cmp s t) (ranked s t (nat_cmp s t) refl)
  where
    go : (o : Ordering) → MatchOrdering o (s < t) (s ≡ t) (t < s)
        → ordering_then o (ordering_then (nat_cmp d e) rest) ≡ Less
    go Less h = refl
    go Equal h = ap (λ o. ordering_then o rest) (less_is d e (omega (arith, h, l)))
    go Greater h = absurd (omega (arith, h, l, low, small))

-- a key whose number is less comes first
less_leading : (a b : FlowKey) → leading_number a < leading_number b → key_order a b ≡ Less
less_leading a b l = go (version_of a) (version_of b)
  where
    Rest : Ordering
    Rest = ordering_then (nat_cmp a.protocol b.protocol)
        (ordering_then (nat_cmp a.source_port b.source_port) (nat_cmp a.destination_port b.destination_port))

    Apart : Ordering
    Apart = ordering_then (nat_cmp a.source b.source) (ordering_then (nat_cmp a.destination b.destination) Rest)

    go : (a.version ≡ 4) ⊎ (a.version ≡ 6) → (b.version ≡ 4) ⊎ (b.version ≡ 6) → key_order a b ≡ Less
    go (inl p) (inl q) =
        (λ i. ordering_then (nat_cmp (p i) (q i)) Apart)
        ∙ (let one = of_four a p in let two = of_four b q in
        side_by_side a.source b.source a.destination b.destination Rest (a.narrow p).1 (omega (arith, one, two, l))
        (b.narrow q).1)
    go (inl p) (inr q) = λ i. ordering_then (nat_cmp (p i) (q i)) Apart
    go (inr p) (inl q) = let one = of_six a p in let two = of_four b q in
        let source = (b.narrow q).0 in let destination = (b.narrow q).1 in
        absurd (omega (arith, one, two, l, source, destination))
    go (inr p) (inr q) =
        (λ i. ordering_then (nat_cmp (p i) (q i)) Apart)
        ∙ (let one = of_six a p in let two = of_six b q in
        ap (λ o. ordering_then o (ordering_then (nat_cmp a.destination b.destination) Rest))
        (less_is a.source b.source (omega (arith, one, two, l))))

-- keys stand by their numbers, then by themselves, as they stand by themselves
pub leading_first : (a b : FlowKey)
    → ordering_then (nat_cmp (leading_number a) (leading_number b)) (key_order a b) ≡ key_order a b
leading_first a b =
    go (nat_cmp (leading_number a) (leading_number b)) (ranked (leading_number a) (leading_number b) _ refl)
  where
    go : (o : Ordering)
        → MatchOrdering o (leading_number a < leading_number b) (leading_number a ≡ leading_number b)
        (leading_number b < leading_number a)
        → ordering_then o (key_order a b) ≡ key_order a b
    go Less h = sym (less_leading a b h)
    go Equal h = refl
    go Greater h = sym (key_order_total.antisymm a b ∙ ap ordering_reverse (less_leading b a h))
