use Rattle.std.proofs.Common.{arith, ◌≡◌, true, sym, ap, ◌∙◌, subst}
use Rattle.std.specs.Prelude.{IsTrue, not}
use Rattle.pebr_core.specs.State.{Seat, scan_of, is_out}
use Rattle.pebr_core.specs.Steps.{is_complete, is_scanning}
use Rattle.pebr_core.specs.Frames.{kept_count}
use Rattle.pebr_roots.specs.Passes.{known_by_pass, past_by, number_by, operations_by, shape_at}
use Rattle.pebr_words.specs.Seats.{known_of, number_of, past_of, operations_of}
use Rattle.pebr_words.specs.Pasts.{History}
use Rattle.pebr_core.specs.declared.kinds.Step.TheVariants as step
use Rattle.pebr_roots.proofs.Passing.{held_after}
use Rattle.pebr_roots.proofs.Scans.{is_whole, scanning_on}
use Rattle.pebr_roots.proofs.Whole.{opened_as, opened_held, unread_at, collected, collected_past}
use Rattle.pebr_roots.proofs.Whole.{fresh_enough, GiveLaws}
use Rattle.pebr_roots.proofs.Orders.{whole_made, held_made, counted_more, counted_few}
use Rattle.pebr_roots.proofs.Counts.{made_by, collection_more}
use Rattle.pebr_roots.proofs.pass.Roots.collect.Goals as goal

pub returns-then-not-pass_all-clause-same : goal.returns-then-not-pass_all-clause-same
returns-then-not-pass_all-clause-same g c =
    let shape = shape_at c.args.self.now in
    let old = known_by_pass c.args.pass.now in
    let opened = known_of c.open_scan.new.seat in
    let a = c.open_scan.ensures.still in
    let b = c.pass_all.ensures.still in
    record {
      of = record {
        at = b.0;
        held = opened_held shape opened.noted old opened
            (known_of c.pass_all.new.seat) c.open_scan.ensures.known c.pass_all.ensures.known.scan ∙ c.requires.of.held;
        starts = c.requires.of.starts;
      };
      still = (b.0, b.1 ∙ a.1, b.2 ∙ a.2, b.3 ∙ a.3, b.4 ∙ a.4);
    }

pub scan_all-requires-clause-unread : goal.scan_all-requires-clause-unread
scan_all-requires-clause-unread g c j place =
    let opened = known_of c.open_scan.new.seat in
    c.pass_all.ensures.known.unread j place ∙ unread_at (shape_at c.args.self.now) opened.noted
    (known_by_pass c.args.pass.now) opened c.open_scan.ensures.known j place

pub give-given-requires-clause-complete : goal.give-given-requires-clause-complete
give-given-requires-clause-complete g c =
    let shape = shape_at c.args.self.now in
    let me = number_of c.open_scan.new.seat in
    let scanned = known_of c.scan_all.new.seat in
    let b = c.pass_all.ensures.still in
    let d = c.scan_all.ensures.still in
    subst (λ n. IsTrue (is_complete shape n (scan_of scanned))) (sym (d.1 ∙ b.1))
    (is_whole shape me (scan_of scanned)
    (λ j lt ne. c.scan_all.ensures.known.passed j ∙ c.pass_all.ensures.known.passed c.if-not-pass_all.false j lt ne)
    (λ j place lt ne lt'. c.scan_all.ensures.known.read j place lt (λ e. ne (e ∙ b.1)) lt'))

pub returns-clause-same : goal.returns-clause-same
returns-clause-same g c =
    let shape = shape_at c.args.self.now in
    let a = c.open_scan.ensures.still in
    let b = c.pass_all.ensures.still in
    let d = c.scan_all.ensures.still in
    let e = c.give-given.ensures.still in
    record {
      of = record {
        at = e.0;
        held = held_after shape _ _ (known_of c.scan_all.new.seat)
            (known_of c.give-given.new.seat) c.steps_are_safe.ensures.sound c.steps_leave_the_rest.ensures d.0.3
            c.give-given.ensures.step.core;
        starts = c.requires.of.starts;
      };
      still = (
        e.0,
        e.1 ∙ (d.1 ∙ (b.1 ∙ a.1)),
        e.2 ∙ (d.2 ∙ (b.2 ∙ a.2)),
        e.3 ∙ (d.3 ∙ (b.3 ∙ a.3)),
        e.4
            ∙ (d.4 ∙ (b.4 ∙ a.4)),
      );
    }

pub returns-clause-slots : goal.returns-clause-slots
returns-clause-slots g c =
    let shape = shape_at c.args.self.now in
    let old = known_by_pass c.args.pass.now in
    let opened = known_of c.open_scan.new.seat in
    let passed = known_of c.pass_all.new.seat in
    let scanned = known_of c.scan_all.new.seat in
    let new = known_of c.give-given.new.seat in
    let me = number_of c.scan_all.new.seat in
    let laws : GiveLaws =
    record {
      left_law = c.kept_slots_are_counted.ensures.left;
      given_law =
          c.kept_slots_are_counted.ensures.given;
      fresh_law = c.kept_slots_are_counted.ensures.fresh;
    } in
    let out : is_out scanned.status ≡ true =
    ap (λ (s : Seat). is_out s.status)
    (opened_as shape opened.noted old opened scanned c.open_scan.ensures.known
    (scanning_on opened passed scanned c.pass_all.ensures.known.scan c.scan_all.ensures.known.scan)) ∙ c.requires.out in
    let inside = c.scan_all.ensures.still.0.3 in
    let made = c.give-given.ensures.step.core in
    let none = ap kept_count c.open_scan.ensures.known ∙ c.kept_slots_are_counted.ensures.note shape opened.noted old in
    collected laws shape me c.give-given.result.0 c.give-given.result.1 scanned new out inside made
    c.give-given.ensures.known c.args.force opened.noted old opened passed c.open_scan.ensures.known none
    c.pass_all.ensures.known.scan c.pass_all.ensures.known.kept c.scan_all.ensures.known.scan c.scan_all.ensures.kept

pub returns-clause-left : goal.returns-clause-left
returns-clause-left g c force =
    let shape = shape_at c.args.self.now in
    let old = known_by_pass c.args.pass.now in
    let opened = known_of c.open_scan.new.seat in
    let passed = known_of c.pass_all.new.seat in
    let scanned = known_of c.scan_all.new.seat in
    let new = known_of c.give-given.new.seat in
    let me = number_of c.scan_all.new.seat in
    let laws : GiveLaws =
    record {
      left_law = c.kept_slots_are_counted.ensures.left;
      given_law =
          c.kept_slots_are_counted.ensures.given;
      fresh_law = c.kept_slots_are_counted.ensures.fresh;
    } in
    let out : is_out scanned.status ≡ true =
    ap (λ (s : Seat). is_out s.status)
    (opened_as shape opened.noted old opened scanned c.open_scan.ensures.known
    (scanning_on opened passed scanned c.pass_all.ensures.known.scan c.scan_all.ensures.known.scan)) ∙ c.requires.out in
    let inside = c.scan_all.ensures.still.0.3 in
    let made = c.give-given.ensures.step.core in
    let none = ap kept_count c.open_scan.ensures.known ∙ c.kept_slots_are_counted.ensures.note shape opened.noted old in
    let all = collected laws shape me c.give-given.result.0 c.give-given.result.1 scanned new out inside made
    c.give-given.ensures.known c.args.force opened.noted old opened passed c.open_scan.ensures.known none
    c.pass_all.ensures.known.scan c.pass_all.ensures.known.kept c.scan_all.ensures.known.scan c.scan_all.ensures.kept in
    all.few (ap is_scanning c.give-given.ensures.known)

pub returns-clause-fresh : goal.returns-clause-fresh
returns-clause-fresh g c force =
    let shape = shape_at c.args.self.now in
    let old = known_by_pass c.args.pass.now in
    let opened = known_of c.open_scan.new.seat in
    let passed = known_of c.pass_all.new.seat in
    let scanned = known_of c.scan_all.new.seat in
    let new = known_of c.give-given.new.seat in
    let me = number_of c.scan_all.new.seat in
    let laws : GiveLaws =
    record {
      left_law = c.kept_slots_are_counted.ensures.left;
      given_law =
          c.kept_slots_are_counted.ensures.given;
      fresh_law = c.kept_slots_are_counted.ensures.fresh;
    } in
    let out : is_out scanned.status ≡ true =
    ap (λ (s : Seat). is_out s.status)
    (opened_as shape opened.noted old opened scanned c.open_scan.ensures.known
    (scanning_on opened passed scanned c.pass_all.ensures.known.scan c.scan_all.ensures.known.scan)) ∙ c.requires.out in
    let inside = c.scan_all.ensures.still.0.3 in
    let made = c.give-given.ensures.step.core in
    let none = ap kept_count c.open_scan.ensures.known ∙ c.kept_slots_are_counted.ensures.note shape opened.noted old in
    let all = collected laws shape me c.give-given.result.0 c.give-given.result.1 scanned new out inside made
    c.give-given.ensures.known c.args.force opened.noted old opened passed c.open_scan.ensures.known none
    c.pass_all.ensures.known.scan c.pass_all.ensures.known.kept c.scan_all.ensures.known.scan c.scan_all.ensures.kept in
    fresh_enough shape new c.give-given.result.1 c.args.self.now.words.limits.some_seats
    (held_after shape _ _ scanned new c.steps_are_safe.ensures.sound c.steps_leave_the_rest.ensures inside made)
    all.left_is (all.few (ap is_scanning c.give-given.ensures.known))

pub returns-clause-past : goal.returns-clause-past
returns-clause-past g c =
    let shape = shape_at c.args.self.now in
    let opened = known_of c.open_scan.new.seat in
    collected_past shape c.args.force (number_of c.scan_all.new.seat) _ (past_by c.args.pass.now)
    (past_of c.open_scan.new.seat) (past_of c.pass_all.new.seat) (past_of c.scan_all.new.seat)
    (past_of c.give-given.new.seat) opened.noted (known_of c.scan_all.new.seat) (known_of c.give-given.new.seat)
    c.open_scan.ensures.past c.pass_all.ensures.past c.pass_all.ensures.mild c.scan_all.ensures.past
    c.scan_all.ensures.ejections c.give-given.ensures.step.past (ap is_scanning c.give-given.ensures.known)

pub returns-clause-operations : goal.returns-clause-operations
returns-clause-operations g c =
    let shape = shape_at c.args.self.now in
    let opened = known_of c.open_scan.new.seat in
    let a = c.open_scan.ensures.still in
    let b = c.pass_all.ensures.still in
    let begun = c.open_scan.ensures.operations in
    let advances =
    ap (λ (p : History). p.advances) c.give-given.ensures.step.past
    ∙ (ap (λ (p : History). p.advances) c.scan_all.ensures.past.rest
    ∙ (ap (λ (p : History). p.advances) c.pass_all.ensures.past.rest ∙ c.open_scan.ensures.past.advances)) in
    whole_made shape c.args.force (number_by c.args.pass.now) (number_of c.open_scan.new.seat) opened.noted begun.0
    (known_by_pass c.args.pass.now) opened (not (is_scanning (known_of c.give-given.new.seat)))
    (past_by c.args.pass.now)
    (past_of c.give-given.new.seat) (operations_by c.args.pass.now) (operations_of c.open_scan.new.seat) a.1
    c.open_scan.ensures.known begun.1 advances (operations_of c.pass_all.new.seat) (operations_of c.scan_all.new.seat)
    (operations_of c.give-given.new.seat) (number_of c.pass_all.new.seat) c.give-given.ensures.step.made.0
    (ap (λ b. not b) (ap is_scanning c.give-given.ensures.known)) (b.1 ∙ a.1)
    (c.pass_all.ensures.operations c.if-not-pass_all.false) c.scan_all.ensures.operations
    c.give-given.ensures.step.made.2

pub returns-then-not-pass_all-clause-operations : goal.returns-then-not-pass_all-clause-operations
returns-then-not-pass_all-clause-operations g c =
    let shape = shape_at c.args.self.now in
    let opened = known_of c.open_scan.new.seat in
    let begun = c.open_scan.ensures.operations in
    let advances =
    ap (λ (p : History). p.advances) c.pass_all.ensures.past.rest ∙ c.open_scan.ensures.past.advances in
    held_made shape c.args.force (number_by c.args.pass.now) (number_of c.open_scan.new.seat) opened.noted begun.0
    (known_by_pass c.args.pass.now) opened (not (is_scanning (known_of c.pass_all.new.seat))) (past_by c.args.pass.now)
    (past_of c.pass_all.new.seat) (operations_by c.args.pass.now) (operations_of c.open_scan.new.seat)
    c.open_scan.ensures.still.1 c.open_scan.ensures.known begun.1 advances (operations_of c.pass_all.new.seat)
    (ap (λ b. not b) c.pass_all.ensures.known.scan.scanning) (c.pass_all.ensures.ended c.if-not-pass_all.true)

pub returns-clause-few : goal.returns-clause-few
returns-clause-few g c =
    let opened = c.open_scan.new.seat in
    let passed = c.pass_all.new.seat in
    let scanned = c.scan_all.new.seat in
    let given = c.give-given.new.seat in
    let one = counted_more (step.Give (number_of scanned)) _ (known_of scanned) (past_of scanned) (past_of given) _
    (operations_of scanned) (operations_of given) c.give-given.ensures.step.past c.give-given.ensures.step.made.2 in
    let few = (returns-clause-past g c).few in
    let more = collection_more (shape_at c.args.self.now) c.args.force (number_by c.args.pass.now)
    (known_by_pass c.args.pass.now) _ (past_by c.args.pass.now) (past_of given) (operations_by c.args.pass.now)
    (operations_of given) (returns-clause-operations g c) in
    made_by more.0 _ (operations_by c.args.pass.now) (operations_of given) more.1
    (counted_few _ (past_by c.args.pass.now) (past_of given) (operations_by c.args.pass.now) (operations_of given)
    (let x = c.open_scan.ensures.counted in let y = c.pass_all.ensures.counted in
    let z = c.scan_all.ensures.counted in omega (arith, x, y, z, one)) few)

pub returns-then-not-pass_all-clause-few : goal.returns-then-not-pass_all-clause-few
returns-then-not-pass_all-clause-few g c =
    let x = c.open_scan.ensures.counted in
    let y = c.pass_all.ensures.counted in
    let a = c.open_scan.ensures.past.few in
    let b = c.pass_all.ensures.past.few in
    let passed = c.pass_all.new.seat in
    let more = collection_more (shape_at c.args.self.now) c.args.force (number_by c.args.pass.now)
    (known_by_pass c.args.pass.now) _ (past_by c.args.pass.now) (past_of passed) (operations_by c.args.pass.now)
    (operations_of passed) (returns-then-not-pass_all-clause-operations g c) in
    made_by more.0 _ (operations_by c.args.pass.now) (operations_of passed) more.1 (omega (arith, x, y, a, b))
