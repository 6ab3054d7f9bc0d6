use Rattle.std.proofs.Common.{◌≡◌, ◌-◌, ◌+◌, ◌<◌, length, get_or, take, sym, ap, ◌∙◌, subst, arith}
use Rattle.pebr_slots.proofs.Listing.{remove_last}
use Rattle.pebr_slots.proofs.fresh.take_out.Goals as goal

pub returns-then-place-len-clause-slots : goal.returns-then-place-len-clause-slots
returns-then-place-len-clause-slots c =
    let fresh = c.args.fresh.now in
    let place = c.place_of-place.result in
    let last : place + 1 ≡ length fresh.items = c.if-place-len.true ∙ (c.len.ensures ∙ fresh.ok.0) in (
      place,
      subst (λ l. place < length l) c.deref.ensures.value c.place_of-place.ensures.range,
      subst (λ l. get_or l place 0 ≡ c.args.slot) c.deref.ensures.value c.place_of-place.ensures.at,
      c.pop.ensures.rest
          ∙ (ap (λ n. take n fresh.items) (let e : fresh.len - 1 ≡ place = omega (arith, last, fresh.ok.0) in e)
          ∙ sym (remove_last fresh.items place last)),
    )
