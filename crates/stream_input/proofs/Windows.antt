-- Bytes that come through a window, piece by piece.
use Rattle.std.proofs.Common.{◌≡◌, ◌+◌, ◌<◌, ◌≤◌, ℕ, List, [], ◌++◌, length, take, drop, Option, Err, sym, ap}
use Rattle.std.proofs.Common.{◌∙◌, subst, arith, append_assoc, length-append, take-append-drop, length-drop}
use Rattle.std.specs.Io.KnownBytes.{Consumes, IsAtEnd}
use Rattle.std.proofs.KnownBytes.{Consumes-nil, Consumes-trans}
use Rattle.meter_io.specs.Sides.{Side, IsRead, IsWrong}
use Rattle.ipfix_model.specs.declared.values.DataRecord.{DataRecord}
use Rattle.ipfix_reader.specs.declared.fault.StreamFault.{StreamFault}
use Rattle.ipfix_reader.specs.Messages.{decode}
use Rattle.ipfix_reader.specs.Pieces.{WalkState, HasRead}
use Rattle.stream_input.specs.declared.error.StreamInputError.{StreamInputError}
use Rattle.stream_input.specs.declared.error.StreamInputError.TheVariants.{ReadFault, TooLarge, NotStream, NoMemory}
use Rattle.stream_input.specs.Failing.{ReadFails}
use Rattle.stream_input.specs.Pieces.{HasReadOn, HasReadRest, StopsReading, EndFails}

-- reading stopped behind what came before
pub stops_later : (before middle after : Option (List ℕ)) (got : List ℕ) (most left : ℕ) (fault : StreamInputError)
    → Consumes before middle got → length got + left ≡ most → StopsReading left middle after fault
    → StopsReading most before after fault
stops_later before middle after got most left ReadFault taken sum stop = (
  got ++ stop.0,
  (let few = stop.1 in omega (arith, length-append got stop.0)),
  Consumes-trans before middle after got stop.0 taken stop.2,
)
stops_later before middle after got most left TooLarge taken sum stop = (
  got ++ stop.0,
  (let all = stop.1 in omega (arith, length-append got stop.0)),
  Consumes-trans before middle after got stop.0 taken stop.2,
)
stops_later before middle after got most left (NotStream fault) taken sum stop = absurd stop
stops_later before middle after got most left NoMemory taken sum stop = absurd stop

-- the rest came behind what came before
pub rest_later : (before middle after : Option (List ℕ)) (got : List ℕ) (most left : ℕ)
    → Consumes before middle got → length got + left ≡ most → HasReadRest left middle after
    → HasReadRest most before after
rest_later before middle after got most left taken sum h = record {
  rest = got ++ h.rest;
  taken = Consumes-trans before middle after got h.rest taken h.taken;
  few = (let few = h.few in omega (arith, length-append got h.rest));
  ended = h.ended;
}

-- what was read on, to the end
pub rest_on : (old new : ℕ) (window grown : List ℕ) (before after : Option (List ℕ))
    → HasReadOn old new window grown before after → IsAtEnd after → HasReadRest old before after
rest_on old new window grown before after h ended = record {
  rest = h.got;
  taken = h.taken;
  few = (let some = h.some in let sum = h.counted in omega arith);
  ended = ended;
}

-- what came so far and what was read on
pub got_on : (before middle after : Option (List ℕ)) (got window grown : List ℕ) (most left new : ℕ)
    → Consumes before middle got → length got + left ≡ most → HasReadOn left new window grown middle after
    → (all : List ℕ) × Consumes before after all × (length all + new ≡ most)
got_on before middle after got window grown most left new taken sum h = (
  got ++ h.got,
  Consumes-trans before middle after got h.got taken h.taken,
  (let counted = h.counted in omega (arith, length-append got h.got)),
)

-- ---- a stream, message by message

-- The bytes that came are those of the messages that were read and those in the window. With `left` more there are too
-- many.
pub record IsPieced (limit : ℕ) (had has : List DataRecord → Type 0) (before now : Option (List ℕ))
    (walk : WalkState) (window : List ℕ) (left : ℕ) : Type 0 where
  pub front : List ℕ
  pub given : Consumes before now (front ++ window)
  pub counted : length front + length window + left ≡ limit + 1
  pub place : walk.at ≡ length front
  pub taken : had [] → (records : List DataRecord) × has records × HasRead front records walk

-- nothing came yet
pub pieced_none : (limit : ℕ) (had : List DataRecord → Type 0) (before : Option (List ℕ)) (walk : WalkState)
    → HasRead [] [] walk → IsPieced limit had had before before walk [] (limit + 1)
pieced_none limit had before walk read = record {
  front = [];
  given = Consumes-nil before;
  counted = omega arith;
  place = read.place;
  taken = λ none. ([], none, read);
}

module _ (limit : ℕ) (had has : List DataRecord → Type 0) (before now : Option (List ℕ)) (walk : WalkState)
    (window : List ℕ) (left : ℕ) (h : IsPieced limit had has before now walk window left) where
  -- more came into the window
  pub pieced_on : (grown : List ℕ) (new : ℕ) (after : Option (List ℕ)) → HasReadOn left new window grown now after
      → IsPieced limit had has before after walk grown new
  pieced_on grown new after on = record {
    front = h.front;
    given = subst (λ l. Consumes before after l)
        (append_assoc h.front window on.got ∙ ap (λ l. h.front ++ l) (sym on.bytes))
        (Consumes-trans before now after (h.front ++ window) on.got h.given on.taken);
    counted =
        let so_far = h.counted in
        let more = on.counted in
        let grown_is = ap length on.bytes in
        omega (arith, length-append window on.got);
    place = h.place;
    taken = h.taken;
  }

  -- the whole messages in the window were read
  pub pieced_read : (has_more : List DataRecord → Type 0) (next : WalkState) (count : ℕ) → count ≤ length window
      → next.at ≡ walk.at + count
      → ((front : List ℕ) (records : List DataRecord) → HasRead front records walk → has records
      → (after : List DataRecord) × has_more after × HasRead (front ++ take count window) after next)
      → IsPieced limit had has_more before now next (drop count window) left
  pieced_read has_more next count inside at step = record {
    front = h.front ++ take count window;
    given = subst (λ l. Consumes before now l)
        (ap (λ l. h.front ++ l) (sym (take-append-drop count window))
        ∙ sym (append_assoc h.front (take count window) (drop count window))) h.given;
    counted =
        let so_far = h.counted in
        let whole = ap length (take-append-drop count window) in
        let parts = length-append (take count window) (drop count window) in
        omega (arith, length-append h.front (take count window));
    place =
        let so_far = h.place in
        let whole = ap length (take-append-drop count window) in
        let parts = length-append (take count window) (drop count window) in
        omega (arith, length-append h.front (take count window), length-drop count window);
    taken = λ none.
        let one = h.taken none in
        step h.front one.0 one.2 one.1;
  }

  -- the source is at its end
  pub pieced_all : 0 < left → IsAtEnd now → (faults_before faults_now : ℕ) → (more : List ℕ) → more ≡ window
      → IsRead (record {
        before = before;
        after = now;
        faults_before = faults_before;
        faults_after =
            faults_now;
      }) limit
      (h.front ++ more)
  pieced_all some ended faults_before faults_now more is = record {
    given = subst (λ l. Consumes before now (h.front ++ l)) (sym is) h.given;
    ended = ended;
    within =
        let so_far = h.counted in
        let same = ap length is in
        omega (arith, length-append h.front more);
  }

  -- a read failed, or too much came
  pub pieced_stop : (after : Option (List ℕ)) (fault : StreamInputError) (faults_before faults_now : ℕ)
      → StopsReading left now after fault
      → ReadFails limit
      (record { before = before; after = after; faults_before = faults_before; faults_after = faults_now }) fault
  pieced_stop after fault faults_before faults_now stop = by fault (stops_later before now after (h.front ++ window)
      (limit + 1) left fault h.given
      (let so_far = h.counted in omega (arith, length-append h.front window)) stop)
    where
      by : (fault : StreamInputError) → StopsReading (limit + 1) before after fault
          → ReadFails limit (record {
            before = before;
            after = after;
            faults_before = faults_before;
            faults_after = faults_now;
          }) fault
      by ReadFault whole = (whole.0, (let few = whole.1 in omega arith), whole.2)
      by TooLarge whole = whole
      by (NotStream fault) whole = absurd whole
      by NoMemory whole = absurd whole

  -- the stream has a fault, and the rest was read
  pub pieced_fault : (fault : StreamFault) (after : Option (List ℕ)) (faults_before faults_now : ℕ)
      → HasReadRest left now after
      → ((front : List ℕ) (records : List DataRecord) → HasRead front records walk → has records → (more : List ℕ)
      → decode (front ++ (window ++ more)) ≡ Err fault)
      → had []
      → IsWrong (record { before = before; after = after; faults_before = faults_before; faults_after = faults_now })
      limit (λ bytes. decode bytes ≡ Err fault)
  pieced_fault fault after faults_before faults_now rest wrong none =
      let one = h.taken none in
      record {
        bytes = h.front ++ (window ++ rest.rest);
        read = record {
          given = subst (λ l. Consumes before after l) (append_assoc h.front window rest.rest)
              (Consumes-trans before now after (h.front ++ window) rest.rest h.given rest.taken);
          ended = rest.ended;
          within =
              let so_far = h.counted in
              let few = rest.few in
              omega (arith, length-append h.front (window ++ rest.rest), length-append window rest.rest);
        };
        fault = wrong h.front one.0 one.2 one.1 rest.rest;
      }

-- what isn't a stream at its end
pub end_fails : (limit : ℕ) (input : Side) (bytes : List ℕ) (error : StreamInputError) → IsRead input limit bytes
    → EndFails bytes error → ReadFails limit input error
end_fails limit input bytes ReadFault read wrong = absurd wrong
end_fails limit input bytes TooLarge read wrong = absurd wrong
end_fails limit input bytes (NotStream fault) read wrong = record { bytes = bytes; read = read; fault = wrong }
end_fails limit input bytes NoMemory read wrong = tt
