use Rattle.meter_workers.proofs.Common.{◌≡◌, rules, refl, List, length, sym, subst, Share}
use Rattle.std.proofs.Common.{get_or}
use Rattle.std.specs.Prelude.{Result}
use Rattle.std.specs.List.{AllZip}
use Rattle.no_memory.specs.declared.NoMemory.{NoMemory}
use Rattle.work_pieces.proofs.Doing.{all-zip, taken-back}
use Rattle.meter_workers.specs.Shares.{HasEmptied}
use Rattle.meter_workers.proofs.emptying.empty_places.Goals as goal

pub returns : goal.returns
returns g c = record {
  emptied =
      (let S : Type 0 = Result (Share g.row.C.Denot g.row.C-Pass.Denot) NoMemory in
      let R : S → S → Type 0 = HasEmptied g.C.FlowCache c.args.cache.now in
      let new : List S = c.for_each_mut.new.items in
      let same : c.as_mut_slice.result.now ≡ c.args.places.items = search rules in
      let long : length new ≡ length c.as_mut_slice.result.now = search rules in
      let each : AllZip R c.as_mut_slice.result.now new = all-zip R c.as_mut_slice.result.now new long (λ i d lt.
      let k = (c.for_each_mut.ensures i d lt).1 in
      subst (λ o. R o (get_or new i d)) k.argument_is (subst (λ w. R k.argument.now w) k.left k.call)) in
      subst (λ (l : List S). AllZip R c.args.places.items l)
      (sym (taken-back c.args.places.len (length new) c.args.places.items new (search rules) refl))
      (subst (λ (l : List S). AllZip R l new) same each));
}
