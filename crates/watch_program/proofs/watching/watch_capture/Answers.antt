use Rattle.std.proofs.Common.{◌≡◌, ◌∙◌, ℕ, List, [], ◌∷◌, All, Some, Result, Ok, length, length-append, ap, subst}
use Rattle.std.proofs.Common.{arith}
use Rattle.std.proofs.lemmas.List.Elements.{All-pop}
use Rattle.std.specs.Prelude.{IfOk, IsSomeAnd}
use Rattle.pcap_reader.specs.File.{CaptureFile, IsCaptureOf, capture_file}
use Rattle.flow_parts.specs.declared.timeouts.Timeouts.{Timeouts}
use Rattle.packet_accept.specs.Packets.{packets_of}
use Rattle.pcap_reader.specs.Views.{file_of}
use Rattle.cache_face.specs.Meaning.{IsFresh}
use Rattle.flow_cache.specs.Shown.{IsOf, shown_of, means_of}
use Rattle.watch_program.specs.Answers.{AreInTurn, IsOfSome, held_in, count_of}
use Rattle.watch_program.proofs.Seen.{each-of}
use Rattle.watch_program.proofs.FirstKeys.{count-same}
use Rattle.watch_program.proofs.watching.watch_capture.Goals as goal

if-ok : {T E : Type 0} (r : Result T E) (x : T) (P : T → Type 0) → r ≡ Ok x → IfOk r P → P x
if-ok r x P is h = subst (λ q. IfOk q P) is h

-- what holds of the capture file in the bytes
of-file : (bytes : List ℕ) (file : CaptureFile) (P : CaptureFile → Type 0) → capture_file bytes ≡ Some file
    → IsCaptureOf P bytes → P file
of-file bytes file P is has = subst (λ o. IsSomeAnd o P) is has

pub at_once-asking-requires-clause-passes : goal.at_once-asking-requires-clause-passes
at_once-asking-requires-clause-passes g c κs within =
    let all = c.in_ok-cache.passes.items in
    let left = c.pop.new.self.items in
    let fewer = ap length c.in-Some.ensures.items ∙ length-append left (c.in-Some.own ∷ []) in
    let seats = c.in_ok-cache.ensures.passes.0 in
    let workers = c.args.settings.now.workers_bounds in (
      omega (arith, fewer, seats, workers.0),
      omega (arith, fewer, seats, workers.1),
      (All-pop (λ p. IsOf c.in_ok-cache.cache p × IsFresh (shown_of p)) all left (Some c.in-Some.own)
          c.in-Some.ensures.items c.in_ok-cache.ensures.passes.1).0,
    )

pub at_once-asking-requires-clause-own : goal.at_once-asking-requires-clause-own
at_once-asking-requires-clause-own g c κs within =
    (All-pop (λ p. IsOf c.in_ok-cache.cache p × IsFresh (shown_of p)) c.in_ok-cache.passes.items c.pop.new.self.items
    (Some c.in-Some.own) c.in-Some.ensures.items c.in_ok-cache.ensures.passes.1).1

pub returns-clause-many : goal.returns-clause-many
returns-clause-many g c =
    let asks = c.args.settings.now.asks in
    if-ok c.at_once-asking.result.0.answers c.in_ok-answers.answers
    (λ answers. length answers.items ≡ count_of asks c.as_slice.result.now)
    c.in_ok-answers.was c.at_once-asking.ensures.asked.many
    ∙ ap (count_of asks) (c.as_slice.ensures.value ∙ c.in_ok-keys.ensures)
    ∙ count-same asks (packets_of (file_of c.args.capture.now))

pub returns-clause-answered : goal.returns-clause-answered
returns-clause-answered g c =
    let answers = c.in_ok-answers.answers in
    let packets = packets_of (file_of c.args.capture.now) in
    let limits = (means_of c.in_ok-cache.cache).limits in
    let same : limits ≡ c.new-limits.result = c.in_ok-cache.ensures.cache.2 in
    let seen = if-ok c.at_once-asking.result.0.answers answers
    (λ answers. (shown_of c.at_once-asking.result.0.pass).note.seen ≡ held_in answers.items)
    c.in_ok-answers.was c.at_once-asking.ensures.asked.seen in
    record {
      limits = limits;
      idle = ap (λ (t : Timeouts). t.idle) same ∙ c.new-limits.ensures.idle;
      active = ap (λ (t : Timeouts). t.active) same ∙ c.new-limits.ensures.active;
      in_turn = subst (λ keys. AreInTurn keys answers.items) (c.as_slice.ensures.value ∙ c.in_ok-keys.ensures)
          (if-ok c.at_once-asking.result.0.answers answers (λ answers. AreInTurn c.as_slice.result.now answers.items)
          c.in_ok-answers.was c.at_once-asking.ensures.asked.in_turn);
      each = each-of limits packets answers.items
          (subst (All (IsOfSome limits packets)) seen
          (of-file c.args.bytes.now (file_of c.args.capture.now)
          (λ file. All (IsOfSome limits (packets_of file)) (shown_of c.at_once-asking.result.0.pass).note.seen)
          c.requires.capture.0 c.in_ok-packets.ensures.seen));
    }
