use Rattle.std.proofs.Common.{◌≡◌, ℕ, ◌+◌, ◌<◌, List, [], ◌∷◌, ◌++◌, Some, length, rules, sym, ap, ◌∙◌, arith}
use Rattle.std.proofs.Common.{length-append, append-nil}
use Rattle.std.specs.Prelude.{flat_map}
use Rattle.std.proofs.lemmas.Grind.{flat_map-append}
use Rattle.std.proofs.lemmas.List.Elements.{All-pop}
use Rattle.work_pieces.specs.declared.pieces.DrawPass.{DrawPass}
use Rattle.work_pieces.specs.Dealing.{times}
use Rattle.work_pieces.specs.Passes.{HasEnded, drawn_of, seats_of, seats_in, nones_of}
use Rattle.work_pieces.proofs.Totals.{times-append}
use Rattle.work_pieces.proofs.pieces.Pieces.complete_all.Goals as goal

-- what several drew, with one of them taken off the end
drawn-popped : (ds ds' : List DrawPass) (d : DrawPass) (x : ℕ) → ds ≡ ds' ++ d ∷ []
    → times x (flat_map drawn_of ds) ≡ times x (flat_map drawn_of ds') + times x (drawn_of d)
drawn-popped ds ds' d x is =
    ap (λ l. times x (flat_map drawn_of l)) is ∙ ap (times x) (flat_map-append drawn_of ds' (d ∷ [])
    ∙ ap (λ l. flat_map drawn_of ds' ++ l) (append-nil (drawn_of d)))
    ∙ times-append x (flat_map drawn_of ds') (drawn_of d)

pub loop-pass-init : goal.loop-pass-init
loop-pass-init c =
    let is = c.in-Some.ensures.items in
    let p = All-pop (HasEnded c.args.self.now) _ _ (Some c.in-Some.all) is c.requires.ended in
    let e : length c.args.passes.items ≡ length c.pop.new.self.items + 1 =
    ap length is ∙ length-append c.pop.new.self.items (c.in-Some.all ∷ []) in
    record {
      left = p.0;
      own = p.1.of;
      many = (let s = p.1.single in omega (arith, e, s));
      some = (let s = p.1.single in omega (arith, s));
      ended = p.1.ended;
      once = λ x. sym (drawn-popped c.args.passes.items c.pop.new.self.items c.in-Some.all x is);
    }

pub unite-all-requires-clause-own : goal.unite-all-requires-clause-own
unite-all-requires-clause-own c = (
  c.loop-pass.invariant.own,
  (All-pop (HasEnded c.args.self.now) _ _ (Some c.in-Some-pop.pass) c.in-Some-pop.ensures.items
      c.loop-pass.invariant.left).1.of,
)

pub loop-pass-preserved : goal.loop-pass-preserved
loop-pass-preserved c =
    let next = c.in-Some-pop.pass in
    let is = c.in-Some-pop.ensures.items in
    let i = c.loop-pass.invariant in
    let p = All-pop (HasEnded c.args.self.now) _ _ (Some next) is i.left in
    let e : length c.loop-pass.passes.items ≡ length c.pop-in-loop-pass.new.self.items + 1 =
    ap length is ∙ length-append c.pop-in-loop-pass.new.self.items (next ∷ []) in
    let both = c.unite-all.ensures.both in
    let s = p.1.single in
    record {
      left = p.0;
      own = c.unite-all.ensures.own;
      many = omega (arith, e, s, both.0, i.many);
      some = omega (arith, both.0, i.some);
      ended = omega (arith, both.1, i.ended);
      once = λ x. (let o = i.once x in
          let d = drawn-popped c.loop-pass.passes.items c.pop-in-loop-pass.new.self.items next x is in
          let a = ap (times x) both.2 ∙ times-append x (drawn_of c.loop-pass.all) (drawn_of next) in
          omega (arith, o, d, a));
    }

pub returns : goal.returns
returns c = λ x.
    let none : c.loop-pass.passes.items ≡ [] = search rules in
    let i = c.loop-pass.invariant in
    let same = c.complete-all.ensures.same in
    let many = i.many in
    let no : length c.loop-pass.passes.items ≡ 0 = ap length none in
    let seats : seats_of c.complete-all.result ≡ seats_in c.args.self.now =
    (let t = same.0 in let a = c.requires.all.1 in omega (arith, t, many, no, a)) in
    let ended : 0 < nones_of c.complete-all.result = (let t = same.1 in let e = i.ended in omega (arith, t, e)) in
    let each = c.complete-all.ensures.all seats ended x in
    let o = i.once x in
    let z : times x (flat_map drawn_of c.loop-pass.passes.items) ≡ 0 = ap (λ l. times x (flat_map drawn_of l)) none in
    let here : times x (drawn_of c.complete-all.result) ≡ times x (drawn_of c.loop-pass.all) = ap (times x) same.2 in
    omega (arith, o, z, each, here)
