-- Message by message, up to the last whole one.
use Rattle.std.proofs.Common.{length, refl, sym, ap, subst, arith, length-drop, length-append}
use Rattle.ipfix_reader.proofs.Pieces.{HasWalked, walked-none, walked-more, walked-fault, walked-all, walked-within}
use Rattle.ipfix_reader.proofs.walk.StreamWalk.read_whole.Goals as goal

pub messages-init : goal.messages-init
messages-init g c = record {
  walked = walked-none (g.T.RecordTaker.has_taken c.args.taker.now) c.args.self.now c.args.bytes.now;
  front = c.front_size-size.ensures.front;
  none = c.front_size-size.ensures.none;
}

pub read_front-requires-clause-front : goal.read_front-requires-clause-front
read_front-requires-clause-front g c = c.messages.invariant.front c.messages-test.true

pub read_front-requires-clause-countable : goal.read_front-requires-clause-countable
read_front-requires-clause-countable g c =
    let at = c.messages.invariant.walked.place in
    let long = ap length c.messages.invariant.walked.whole in
    let all = c.requires.countable in
    let both = length-append c.messages.invariant.walked.done c.messages.rest.now in
    omega arith

pub returns-in-Err-clause-fault : goal.returns-in-Err-clause-fault
returns-in-Err-clause-fault g c = walked-fault (g.T.RecordTaker.has_taken c.args.taker.now)
    (g.T.RecordTaker.has_taken c.messages.taker) c.args.self.now c.messages.self c.args.bytes.now c.messages.rest.now
    c.in-Err.error c.messages.invariant.walked c.in-Err.ensures.fault

pub split_at-requires : goal.split_at-requires
split_at-requires g c = (c.messages.invariant.front c.messages-test.true).inside

pub messages-smaller : goal.messages-smaller
messages-smaller g c =
    let some = c.messages-test.true in
    let inside = (c.messages.invariant.front c.messages-test.true).inside in
    let back = ap length c.split_at.ensures.back in
    let left = length-drop c.messages.size c.messages.rest.now in
    omega arith

pub messages-preserved : goal.messages-preserved
messages-preserved g c = record {
  walked = subst (λ l. HasWalked (g.T.RecordTaker.has_taken c.args.taker.now)
      (g.T.RecordTaker.has_taken c.read_front.new.taker) c.args.self.now c.read_front.new.self c.args.bytes.now l)
      (sym c.split_at.ensures.back)
      (walked-more (g.T.RecordTaker.has_taken c.args.taker.now) (g.T.RecordTaker.has_taken c.messages.taker)
      (g.T.RecordTaker.has_taken c.read_front.new.taker) c.args.self.now c.messages.self c.read_front.new.self
      c.args.bytes.now c.messages.rest.now c.messages.size c.messages.invariant.walked
      (c.messages.invariant.front c.messages-test.true).inside c.in-Ok.ensures.place c.in-Ok.ensures.taken);
  front = c.front_size-size-in-messages.ensures.front;
  none = c.front_size-size-in-messages.ensures.none;
}

pub overflow_sub-result : goal.overflow_sub-result
overflow_sub-result g c = (let all = walked-within (g.T.RecordTaker.has_taken c.args.taker.now)
    (g.T.RecordTaker.has_taken c.messages.taker) c.args.self.now c.messages.self c.args.bytes.now c.messages.rest.now
    c.messages.invariant.walked in omega arith)

pub returns-clause-taken : goal.returns-clause-taken
returns-clause-taken g c = (walked-all (g.T.RecordTaker.has_taken c.args.taker.now)
    (g.T.RecordTaker.has_taken c.messages.taker) c.args.self.now c.messages.self c.args.bytes.now c.messages.rest.now _
    c.messages.invariant.walked refl).1

pub returns-clause-place : goal.returns-clause-place
returns-clause-place g c = (walked-all (g.T.RecordTaker.has_taken c.args.taker.now)
    (g.T.RecordTaker.has_taken c.messages.taker) c.args.self.now c.messages.self c.args.bytes.now c.messages.rest.now _
    c.messages.invariant.walked refl).0

pub returns-clause-left : goal.returns-clause-left
returns-clause-left g c =
    let none = c.messages.invariant.none (let stop = c.messages-test.false in omega arith) in
    let all = walked-within (g.T.RecordTaker.has_taken c.args.taker.now) (g.T.RecordTaker.has_taken c.messages.taker)
    c.args.self.now c.messages.self c.args.bytes.now c.messages.rest.now c.messages.invariant.walked in
    omega arith
