use Rattle.std.proofs.Common.{◌≡◌, ◌∙◌, ◌++◌, List, ℕ, Some, refl, sym, ap, subst, replicate}
use Rattle.flow_key.specs.Key.{set_number}
use Rattle.flow_parts.specs.Parts.{part_words}
use Rattle.flow_parts.specs.declared.fragment.Fragment.{Fragment}
use Rattle.cache_face.specs.declared.metered.How.{How}
use Rattle.cache_face.specs.declared.metered.How.TheVariants.{PassedBy}
use Rattle.cache_face.specs.Meaning.{IsAnswer}
use Rattle.cache_face.specs.Tries.{HasLost}
use Rattle.turn_cache.specs.Hands.{Hand, entries_of}
use Rattle.turn_cache.specs.Moves.{Sat, filled_hand, after_tries}
use Rattle.turn_cache.specs.Shown.{means_of, IsTryOf}
use Rattle.turn_cache.proofs.Answering.{answered, lost_at, lost_before, hand_means}
use Rattle.turn_cache.proofs.cache.TurnCache.put_in.Goals as goal

pub returns-then-take_turn-clause-answer : goal.returns-then-take_turn-clause-answer
returns-then-take_turn-clause-answer c =
    let turn = c.take_turn.ensures.taken c.if-take_turn.true in
    let put = c.put.ensures.filled in
    let is : c.put.new.seat.me.0 ≡ filled_hand put.0 put.2.0 (part_words put.2.1) c.args.own.now c.put.new.metered.out
    (after_tries c.set_of-set.result turn.0 c.args.pass.now.seat.me.0)
    = ap (λ (m : Sat). m.0) put.2.2 ∙ ap (λ (m : Sat). filled_hand put.0 put.2.0 (part_words put.2.1) c.args.own.now
    c.put.new.metered.out m.0)
    turn.2 in
    subst (λ (h : Hand). IsAnswer (means_of c.args.self.now) (hand_means h) c.args.own.now c.put.new.metered.how
    c.put.new.metered.out) (sym is)
    (answered (means_of c.args.self.now) c.args.pass.now.seat.me.0 c.args.own.now c.put.new.metered.out put.2.0 put.2.1
    c.put.new.metered.how c.set_of-set.result turn.0 put.0
    c.set_of-set.ensures.number put.1 put.2.3)

pub returns-then-take_turn-clause-lost : goal.returns-then-take_turn-clause-lost
returns-then-take_turn-clause-lost c =
    let turn = c.take_turn.ensures.taken c.if-take_turn.true in
    let put = c.put.ensures.filled in
    let lost : List ℕ = c.args.pass.now.seat.me.0.lost in
    let is : c.put.new.seat.me.0.lost ≡ replicate turn.0 c.set_of-set.result ++ lost
    = ap (λ (m : Sat). m.0.lost) put.2.2 ∙ ap (λ (m : Sat). m.0.lost) turn.2 in
    subst (HasLost (IsTryOf (set_number c.args.own.now.key c.args.self.now.sets)) c.put.new.metered.how lost) (sym is)
    (lost_before c.args.self.now.timeouts (entries_of put.0) c.args.own.now put.2.1 c.put.new.metered.how put.2.0
    c.put.new.metered.out turn.0 c.set_of-set.result _ lost put.2.3 turn.1 c.set_of-set.ensures.number)

pub returns-else-take_turn-clause-answer : goal.returns-else-take_turn-clause-answer
returns-else-take_turn-clause-answer c =
    let lost = c.take_turn.ensures.lost c.if-take_turn.false in
    let own : Fragment = c.args.own.now in
    subst (λ (by : How). IsAnswer (means_of c.args.self.now) (hand_means c.take_turn.new.seat.me.0) own by (Some own))
    (sym c.requires.passed_by.0) (lost.1, refl)

pub returns-else-take_turn-clause-lost : goal.returns-else-take_turn-clause-lost
returns-else-take_turn-clause-lost c =
    let was = c.take_turn.ensures.lost c.if-take_turn.false in
    let lost : List ℕ = c.args.pass.now.seat.me.0.lost in
    let Is = HasLost (IsTryOf (set_number c.args.own.now.key c.args.self.now.sets)) in
    subst (λ (by : How). Is by lost c.take_turn.new.seat.me.0.lost) (sym c.requires.passed_by.0)
    (subst (Is PassedBy lost) (sym (ap (λ (m : Sat). m.0.lost) was.0))
    (lost_at PassedBy 3 c.set_of-set.result _ lost c.set_of-set.ensures.number refl))
