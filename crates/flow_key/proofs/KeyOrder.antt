-- The order of keys is a total order, in which only a key itself is equal to it.
use Rattle.std.proofs.Common.{◌≡◌, ℕ, ◌<◌, refl, subst}
use Rattle.std.specs.Ordering.{MatchOrdering, nat_cmp, ordering_then}
use Rattle.std.specs.declared.cmp.Ordering.{Ordering}
use Rattle.std.specs.declared.cmp.Ordering.TheVariants.{Less, Equal, Greater}
use Rattle.std.proofs.lemmas.Cmp.{ranked, nat_cmp_total, on_total, then_total}
use Rattle.flow_key.specs.declared.key.FlowKey.{FlowKey}
use Rattle.flow_key.specs.Laws.{OrdersTotally, TiesOnlyItself}
use Rattle.flow_key.proofs.KeyWords.{key_same}

pub key_order_total : OrdersTotally
key_order_total =
    then_total (on_total (λ (k : FlowKey). k.version) nat_cmp_total)
    (then_total (on_total (λ (k : FlowKey). k.source) nat_cmp_total)
    (then_total (on_total (λ (k : FlowKey). k.destination) nat_cmp_total)
    (then_total (on_total (λ (k : FlowKey). k.protocol) nat_cmp_total)
    (then_total (on_total (λ (k : FlowKey). k.source_port) nat_cmp_total)
    (on_total (λ (k : FlowKey). k.destination_port) nat_cmp_total)))))

-- numbers that tie are equal
pub tied_numbers : (x y : ℕ) → nat_cmp x y ≡ Equal → x ≡ y
tied_numbers x y e = let P : Ordering → Type 0 = λ o. MatchOrdering o (x < y) (x ≡ y) (y < x) in
    subst P e (ranked x y (nat_cmp x y) refl)

-- where two comparisons in turn tie, each of them does
pub tied_first : (o p : Ordering) → ordering_then o p ≡ Equal → o ≡ Equal
tied_first Less p e = e
tied_first Equal p e = refl
tied_first Greater p e = e

pub tied_second : (o p : Ordering) → ordering_then o p ≡ Equal → p ≡ Equal
tied_second Less p e = cc
tied_second Equal p e = e
tied_second Greater p e = cc

pub tied_keys : TiesOnlyItself
tied_keys a b e =
    let one = tied_second (nat_cmp a.version b.version) _ e in
    let two = tied_second (nat_cmp a.source b.source) _ one in
    let three = tied_second (nat_cmp a.destination b.destination) _ two in
    let four = tied_second (nat_cmp a.protocol b.protocol) _ three in
    key_same a b
    (tied_numbers a.version b.version (tied_first _ _ e))
    (tied_numbers a.source b.source (tied_first _ _ one))
    (tied_numbers a.destination b.destination (tied_first _ _ two))
    (tied_numbers a.protocol b.protocol (tied_first _ _ three))
    (tied_numbers a.source_port b.source_port (tied_first _ _ four))
    (tied_numbers a.destination_port b.destination_port (tied_second (nat_cmp a.source_port b.source_port) _ four))
