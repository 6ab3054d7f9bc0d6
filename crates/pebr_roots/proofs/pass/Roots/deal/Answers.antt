use Rattle.std.proofs.Common.{◌≡◌, ◌-◌, ◌<◌, ◌∷◌, [], length, get_or, sym, ap, ◌∙◌, subst, arith}
use Rattle.std.proofs.lemmas.List.{length-append, length-reverse}
use Rattle.pebr_words.specs.Seats.{IsOpenedSeat}
use Rattle.pebr_roots.specs.Passes.{IsOpenedPass, shape_at}
use Rattle.pebr_roots.proofs.Dealing.{last_of, before_last, one_more, turned}
use Rattle.pebr_roots.proofs.pass.Roots.deal.Goals as goal

pub pass-pass-requires-clause-opened : goal.pass-pass-requires-clause-opened
pass-pass-requires-clause-opened g c =
    let words = c.args.self.now.words in
    let first = g.P.RootProtocol.first in
    let rest = c.pop.new.self in
    subst (λ n. IsOpenedSeat words first n c.in-Some.seat) (sym (c.len.ensures ∙ rest.ok.0))
    (last_of (λ n s. IsOpenedSeat words first n s) c.loop-turn.seats.items rest.items c.in-Some.seat
    c.in-Some.ensures.items c.loop-turn.invariant.ahead)

pub pass-pass-requires-clause-inside : goal.pass-pass-requires-clause-inside
pass-pass-requires-clause-inside g c =
    let rest = c.pop.new.self in
    let n = c.len.ensures ∙ rest.ok.0 in
    let a = ap length c.in-Some.ensures.items in
    let b = length-append rest.items (c.in-Some.seat ∷ []) in
    let count = c.loop-turn.invariant.count in
    omega (arith, n, a, b, count)

pub loop-turn-preserved : goal.loop-turn-preserved
loop-turn-preserved g c =
    let roots = c.args.self.now in
    let words = roots.words in
    let first = g.P.RootProtocol.first in
    let before = c.loop-turn.invariant in
    let rest = c.pop.new.self in
    let passes = c.loop-turn.passes.items in
    let pass = c.pass-pass.result in
    let n : c.len.result ≡ length rest.items = c.len.ensures ∙ rest.ok.0 in
    let a = ap length c.in-Some.ensures.items in
    let b = length-append rest.items (c.in-Some.seat ∷ []) in
    let d = ap length c.in_ok-put.ensures in
    let e = length-append passes (pass ∷ []) in
    record {
      count = omega (arith, a, b, d, e, before.count);
      turns = omega (arith, d, e, before.turns);
      ahead = before_last (λ k s. IsOpenedSeat words first k s) c.loop-turn.seats.items rest.items c.in-Some.seat
          c.in-Some.ensures.items before.ahead;
      done = λ k x lt. subst (λ l. IsOpenedPass roots first ((shape_at roots).seats - 1 - k) (get_or l k x))
          (sym c.in_ok-put.ensures)
          (one_more (λ k p. IsOpenedPass roots first k p) (shape_at roots).seats passes pass c.len.result
          (omega (arith, n, a, b, before.count)) before.done c.pass-pass.ensures k x
          (subst (λ l. k < length l) c.in_ok-put.ensures lt));
    }

pub returns : goal.returns
returns g c =
    let roots = c.args.self.now in
    let first = g.P.RootProtocol.first in
    let before = c.loop-turn.invariant in
    let passes = c.loop-turn.passes.items in
    let all : length passes ≡ (shape_at roots).seats =
    (let l = c.len-turn-end.ensures ∙ c.args.seats.ok.0 in let r = c.requires.0 in let t = before.turns in
    let x = c.loop-turn-test.false in let y = c.loop-turn.auto in omega (arith, l, r, t, x, y)) in
    record {
      many = ap length c.reverse.ensures.items ∙ (length-reverse passes ∙ all);
      each = λ i d lt. subst (λ l. IsOpenedPass roots first i (get_or l i d)) (sym c.reverse.ensures.items)
          (turned (λ k p. IsOpenedPass roots first k p) (shape_at roots).seats passes all before.done i d lt);
    }

pub loop-turn-init : goal.loop-turn-init
loop-turn-init g c =
    let none = ap length c.new-passes.ensures.items in
    let all = c.requires.0 in
    record {
      count = omega (arith, none, all);
      turns = omega (arith, none);
      ahead = λ i d lt. c.requires.1 i d (subst (λ n. i < n) all lt);
      done = λ k x lt. absurd (omega (arith, none, lt));
    }
