-- A capture that is read part by part: from one part to the next.
use Rattle.std.proofs.Common.{◌≡◌, ◌⊎◌, ℕ, ◌+◌, ◌-◌, ◌^◌, ◌≤◌, ◌<◌, List, [], ◌++◌, length, drop, None, Result, Err}
use Rattle.std.proofs.Common.{refl, sym, ap}
use Rattle.std.proofs.Common.{◌∙◌, subst, arith, true}
use Rattle.std.specs.Prelude.{Option, IfErr, IfOk, Ok}
use Rattle.std.specs.Option.{option_map}
use Rattle.std.specs.Io.KnownBytes.{Consumes, IsAtEnd}
use Rattle.std.proofs.KnownBytes.{Consumes-trans}
use Rattle.std.proofs.lemmas.List.{length-append, length-drop, take-append-drop}
use Rattle.pcap_reader.specs.File.{CaptureFile, capture_file, IsKnownLink}
use Rattle.pcap_reader.specs.Records.{records_of, rest_of, rest_offset, tail_of, damage_of, most_captured}
use Rattle.pcap_reader.specs.Index.{Offsets, IsIndexOf}
use Rattle.pcap_reader.specs.Parts.{grown_file, part_with, front_of, GoesOn, GrowsFromFront}
use Rattle.pcap_reader.specs.Views.{part_of, headed_by}
use Rattle.pcap_reader.specs.declared.head.Head.{Head}
use Rattle.packet_accept.specs.Packets.{answers_of}
use Rattle.capture_input.specs.declared.reading.Reading.{Reading}
use Rattle.capture_input.specs.declared.fault.MeterFault.{MeterFault}
use Rattle.capture_input.specs.Refusals.{IsRefused}
use Rattle.capture_input.specs.Parts.{Answer, answers_from}
use Rattle.capture_input.specs.Places.{IsSound, IsAt}
use Rattle.capture_input.specs.Giving.{HasGiven, HasFilled}
use Rattle.capture_input.proofs.Filling.{at-first, at-filled, kept-rest, known-link, seen}
use Rattle.capture_input.proofs.Walk.{IsNext, IsSoundNext, at-kept, next-of, sound-next, few-records}

-- the law of parts, as far as it is used here
pub record Laws : Type 0 where
  pub next : (f : CaptureFile) (xs : List ℕ) → f.start ≤ length f.bytes → GoesOn f xs
  pub header : (xs ys : List ℕ) → 24 ≤ length xs → capture_file (xs ++ ys)
      ≡ option_map (λ (f : CaptureFile). grown_file f ys) (capture_file xs)
  pub short : (f : CaptureFile) → f.start ≤ length f.bytes → damage_of f ≡ None → tail_of f < 16 + most_captured
  pub whole : (f : CaptureFile) → f.start ≤ length f.bytes → rest_offset f + tail_of f ≡ length f.bytes
  pub count : (f : CaptureFile) → length (answers_of f) ≡ length (records_of f)

pub next-in : (before left : Option (List ℕ)) (limit : ℕ) (reading : Reading) (answers : List Answer)
    → Laws → (h : HasFilled before left limit reading answers)
    → IsNext reading.head h.file h.more (reading.base + reading.count)
    (part_of reading.head reading.input.window.bytes)
next-in before left limit reading answers laws h =
    next-of reading.head reading.input.window.bytes reading.input.taken (reading.base + reading.count) h.file h.more
    (part_of reading.head reading.input.window.bytes) laws.next h.at refl h.records

pub few-in : (before left : Option (List ℕ)) (limit : ℕ) (reading : Reading) (answers : List Answer)
    → Laws → HasFilled before left limit reading answers
    → reading.base + reading.count + length (records_of (part_of reading.head reading.input.window.bytes)) < 2 ^ 32
few-in before left limit reading answers laws h =
    few-records reading.head reading.input.window.bytes reading.input.taken limit (reading.base + reading.count) h.file
    h.more (part_of reading.head reading.input.window.bytes) h.at (next-in before left limit reading answers laws h)
    h.within h.small

-- the part was indexed
pub given-part : (before left : Option (List ℕ)) (limit base count next : ℕ) (reading : Reading)
    (answers : List Answer) (index : Offsets)
    → Laws → HasFilled before left limit reading answers
    → IsKnownLink (part_of reading.head reading.input.window.bytes).link
    → damage_of (part_of reading.head reading.input.window.bytes) ≡ None
    → IsIndexOf index (part_of reading.head reading.input.window.bytes)
    → base ≡ reading.base + reading.count → count ≡ length index.offsets
    → next ≡ length reading.input.window.bytes - index.tail
    → (base ≡ length answers) × HasGiven before left limit (let r : Reading =
    record { input = reading.input; head = reading.head; base = base; count = count; next = next } in r)
    (answers ++ answers_from base (part_of reading.head reading.input.window.bytes))
given-part before left limit base count next reading answers index laws h known undamaged indexed base_is count_is
    next_is =
    let head = reading.head in
    let window = reading.input.window.bytes in
    let part = part_of head window in
    let on = next-in before left limit reading answers laws h in
    let sound = sound-next head window reading.input.taken h.file h.more part laws.next laws.header h.at refl
    undamaged in
    let same : window ≡ drop 0 window = refl in
    let whole : rest_offset part + tail_of part ≡ length window = laws.whole part (omega arith) in
    let place : next ≡ 0 + length (drop 0 window) - tail_of part = omega (arith, next_is, indexed.tail) in
    let rest : drop next window ≡ rest_of part =
    ap (λ (k : ℕ). drop k window) place ∙ kept-rest window part 0 (tail_of part) refl refl (omega arith) whole refl in
    let short : tail_of part < 16 + most_captured = laws.short part (omega arith) undamaged in
    let left-over : length (rest_of (grown_file h.file h.more)) ≡ tail_of part = ap length (sym sound.rest) in (
      base_is ∙ h.records ∙ sym (laws.count h.file) ∙ ap length (sym h.are),
      record {
        file = grown_file h.file h.more;
        are = ap (λ (l : List Answer). l ++ answers_from base part) h.are
            ∙ ap (λ (k : ℕ). answers_of h.file ++ answers_from k part) base_is ∙ sym on.answers;
        given = h.given;
        sound = sound.sound;
        known = known-link head (grown_file h.file h.more) part window sound.sound.like refl known;
        low = omega (arith, next_is);
        rest = rest ∙ sound.rest;
        count = h.at.count;
        limit_is = h.limit_is;
        within = h.within;
        small = h.small;
        short = (let large = h.large in omega (arith, short, left-over, large));
        fits = h.fits;
        large = h.large;
        ended = h.ended;
        records = ap (λ (k : ℕ). k + count) base_is
            ∙ ap (λ (k : ℕ). reading.base + reading.count + k) (count_is ∙ indexed.count) ∙ on.count;
      },
    )

-- the window was filled again
pub filled-again : (before left left' : Option (List ℕ)) (limit : ℕ) (reading reading' : Reading)
    (answers : List Answer) (kept got : List ℕ)
    → HasGiven before left limit reading answers → Consumes left left' got
    → kept ≡ drop reading.next reading.input.window.bytes
    → reading'.head ≡ reading.head → reading'.base ≡ reading.base → reading'.count ≡ reading.count
    → reading'.input.window.bytes ≡ kept ++ got → reading'.input.window.size ≡ reading.input.window.size
    → reading'.input.taken ≡ reading.input.taken + length got → reading'.input.limit ≡ reading.input.limit
    → reading'.input.taken ≤ reading'.input.limit
    → length reading'.input.window.bytes ≤ reading'.input.window.size
    → (reading'.input.ended ≡ true → IsAtEnd left')
    → HasFilled before left' limit reading' answers
filled-again before left left' limit reading reading' answers kept got h given kept_is head base count bytes size taken
    limit_is within fits ended = record {
      file = h.file;
      more = got;
      are = h.are;
      given = Consumes-trans _ _ _ _ _ h.given given;
      at = subst (λ (d : Head). IsAt d reading'.input.window.bytes 0 reading'.input.taken h.file got) (sym head)
          (subst (λ (l : List ℕ). IsAt reading.head l 0 reading'.input.taken h.file got) (sym bytes)
          (at-filled reading.head kept got reading.input.taken reading'.input.taken h.file h.sound
          (kept_is ∙ h.rest) h.count
          taken));
      limit_is = limit_is ∙ h.limit_is;
      within = (let e = h.limit_is in omega (arith, within, limit_is, e));
      small = h.small;
      fits = fits;
      large = (let l = h.large in omega (arith, l, size));
      ended = ended;
      records = omega (arith, base, count, h.records);
    }

-- the first window, behind the file header
pub filled-first : (before left : Option (List ℕ)) (limit : ℕ) (reading : Reading) (window : List ℕ)
    → GrowsFromFront (headed_by reading.head window) → Consumes before left window
    → reading.input.window.bytes ≡ drop 24 window → reading.input.taken ≡ length window
    → reading.base ≡ 0 → reading.count ≡ 0 → reading.input.limit ≡ limit → reading.input.taken ≤ limit
    → limit ≤ 2 ^ 30 → length window ≤ reading.input.window.size → 262184 ≤ reading.input.window.size
    → (reading.input.ended ≡ true → IsAtEnd left)
    → answers_of (front_of (headed_by reading.head window)) ≡ []
    → HasFilled before left limit reading []
filled-first before left limit reading window front given bytes taken base count limit_is within small fits large ended
    none = record {
      file = front_of (headed_by reading.head window);
      more = drop 24 window;
      are = sym none;
      given = subst (λ l. Consumes before left l) (sym (take-append-drop 24 window)) given;
      at = at-kept reading.head window reading.input.window.bytes 24 reading.input.taken
          (front_of (headed_by reading.head window)) (drop 24 window)
          (at-first reading.head window reading.input.taken front taken) bytes;
      limit_is = limit_is;
      within = within;
      small = small;
      fits = (let e = ap length bytes in omega (arith, e, length-drop 24 window, fits));
      large = large;
      ended = ended;
      records = omega (arith, base, count, ap length front.none);
    }

-- the same refusal, where nothing had failed before
pub refused-moved : {T : Type 0} (result : Result T MeterFault) (before after : Option (List ℕ)) (f f0 f' limit : ℕ)
    → f ≡ f0 → IfErr result (λ fault. IsRefused (seen before after f f') limit fault)
    → IfErr result (λ fault. IsRefused (seen before after f0 f') limit fault)
refused-moved result before after f f0 f' limit same h =
    subst (λ (n : ℕ). IfErr result (λ fault. IsRefused (seen before after n f') limit fault)) same h

-- the first part's answers are all
pub given-first : (before left : Option (List ℕ)) (limit : ℕ) (result : Result (Reading × Offsets) MeterFault)
    → IfOk result (λ r. (r.0.base ≡ 0) × HasGiven before left limit r.0
    (answers_from r.0.base (part_of r.0.head r.0.input.window.bytes)))
    → IfOk result (λ r. HasGiven before left limit r.0 (answers_from 0 (part_of r.0.head r.0.input.window.bytes)))
given-first before left limit (Ok r) h =
    subst (λ (k : ℕ). HasGiven before left limit r.0 (answers_from k (part_of r.0.head r.0.input.window.bytes))) h.0 h.1
given-first before left limit (Err e) h = h
