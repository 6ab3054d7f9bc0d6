-- An input that is read in windows: how far it was read, and why it is refused.
use Rattle.std.proofs.Common.{◌≡◌, inl, inr, Bool, true, false, cond, ℕ, ◌+◌, ◌-◌, ◌≤◌, ◌<◌, List, [], ◌++◌, length}
use Rattle.std.proofs.Common.{drop, Some, None, refl, sym, ap, ◌∙◌, subst, arith, append-nil}
use Rattle.std.specs.Prelude.{IsSomeAnd, Option}
use Rattle.std.specs.Option.{option_map}
use Rattle.std.specs.Io.KnownBytes.{Consumes}
use Rattle.std.proofs.KnownBytes.{Consumes-trans}
use Rattle.std.proofs.lemmas.Bool.{cases_Bool}
use Rattle.std.proofs.lemmas.List.{length-append, length-take, drop-drop}
use Rattle.meter_io.specs.Sides.{Side, HasFailed, IsRead}
use Rattle.pcap_reader.specs.File.{CaptureFile, capture_file, IsKnownLink}
use Rattle.pcap_reader.specs.Records.{begins_with_damage, rest_of, rest_offset, tail_of, damage_of}
use Rattle.pcap_reader.specs.Parts.{grown_file, part_with, front_of, GoesOn, GrowsFromFront}
use Rattle.pcap_reader.specs.Views.{headed_by, part_of}
use Rattle.pcap_reader.specs.declared.head.Head.{Head}
use Rattle.pcap_reader.specs.declared.head.CaptureError.{CaptureError}
use Rattle.pcap_reader.specs.declared.head.CaptureError.TheVariants.{NotCapture as NoHeader, LinkUnknown as OtherLink}
use Rattle.pcap_reader.specs.declared.index.IndexError.{IndexError}
use Rattle.pcap_reader.specs.declared.index.IndexError.TheVariants.{Damaged as DamagedPart, NoMemory as NoIndex}
use Rattle.capture_input.specs.declared.input.CaptureInput.{CaptureInput}
use Rattle.capture_input.specs.declared.fault.MeterFault.{MeterFault}
use Rattle.capture_input.specs.declared.fault.MeterFault.TheVariants.{Failed, TooLarge, NotCapture, LinkUnknown}
use Rattle.capture_input.specs.declared.fault.MeterFault.TheVariants.{Damaged, NoMemory}
use Rattle.capture_input.specs.Refusals.{IsRefused, FaultsOf}
use Rattle.capture_input.specs.Inputs.{IsCut, ReadsOn, EndsFor, fault_for}
use Rattle.capture_input.specs.Places.{IsSound, IsAt}

-- ---- how far the file was read

-- the part that the window shows
pub part-like : (head : Head) (file : CaptureFile) (bytes : List ℕ) → part_with file [] ≡ part_of head []
    → part_with file bytes ≡ part_of head bytes
part-like head file bytes like =
    ap (λ (f : CaptureFile). let x : CaptureFile =
    record { bytes = bytes; start = f.start; order = f.order; nanos = f.nanos; link = f.link } in x) like

pub part-of_file : (head : Head) (file : CaptureFile) (window more : List ℕ) (from : ℕ)
    → part_with file [] ≡ part_of head []
    → drop from window ≡ rest_of file ++ more → part_of head (drop from window) ≡ part_with file (rest_of file ++ more)
part-of_file head file window more from like left =
    ap (λ (l : List ℕ). part_of head l) left ∙ sym (part-like head file (rest_of file ++ more) like)

-- what the law says of one part more
pub record Next (file : CaptureFile) (more : List ℕ) : Type 0 where
  pub on : GoesOn file more
  pub is_file : capture_file (file.bytes ++ more)
      ≡ option_map (λ (f : CaptureFile). grown_file f more) (capture_file file.bytes)

-- the file with what the window has
pub sound-grown_file : (head : Head) (window : List ℕ) (from taken : ℕ) (file : CaptureFile) (more : List ℕ)
    → Next file more → IsAt head window from taken file more → damage_of (part_with file (rest_of file ++ more)) ≡ None
    → IsSound head (grown_file file more)
sound-grown_file head window from taken file more next at undamaged = record {
  is_file = next.is_file ∙ ap (option_map (λ (f : CaptureFile). grown_file f more)) at.sound.is_file;
  like = at.sound.like;
  long = omega (arith, at.sound.long, length-append file.bytes more);
  header = omega (arith, at.sound.header, length-append file.bytes more);
  undamaged = next.on.damage ∙ ap (option_map (λ (k : ℕ). rest_offset file + k)) undamaged;
}

-- what is kept of the window is the rest
pub kept-rest : (window : List ℕ) (part : CaptureFile) (from tail : ℕ) → part.start ≡ 0 → part.bytes ≡ drop from window
    → from ≤ length window
    → rest_offset part + tail_of part ≡ length part.bytes → tail ≡ tail_of part
    → drop (from + length (drop from window) - tail) window ≡ rest_of part
kept-rest window part from tail start bytes low whole is =
    let count : length part.bytes ≡ length (drop from window) = ap length bytes in
    let place : from + length (drop from window) - tail ≡ from + rest_offset part = omega (arith, whole, is, count) in
    ap (λ (k : ℕ). drop k window) place ∙ sym (drop-drop (rest_offset part) from window)
    ∙ ap (drop (rest_offset part)) (sym bytes)

-- the window, once it was filled again
pub at-filled : (head : Head) (window got : List ℕ) (taken taken' : ℕ) (file : CaptureFile)
    → IsSound head file → window ≡ rest_of file → taken ≡ length file.bytes → taken' ≡ taken + length got
    → IsAt head (window ++ got) 0 taken' file got
at-filled head window got taken taken' file sound is count more = record {
  sound = sound;
  low = omega arith;
  left = ap (λ (l : List ℕ). l ++ got) is;
  count = omega (arith, more, count, length-append file.bytes got);
}

-- the first window, behind the file header
pub at-first : (head : Head) (window : List ℕ) (taken : ℕ)
    → GrowsFromFront (headed_by head window) → taken ≡ length window
    → IsAt head window 24 taken (front_of (headed_by head window)) (drop 24 window)
at-first head window taken front count =
    let file = headed_by head window in
    let first = front_of file in
    record {
      sound = record {
        is_file = front.is_file;
        like = refl;
        long = front.long;
        header = front.long;
        undamaged = front.sound;
      };
      low = omega (arith, front.long, length-take 24 window);
      left = ap (λ (l : List ℕ). l ++ drop 24 window) (sym front.rest);
      count = count ∙ ap (λ (f : CaptureFile). length f.bytes) (sym front.whole);
    }

-- ---- the end, and refusals

-- a source as it was seen from an earlier call on
abbrev pub seen : Option (List ℕ) → Option (List ℕ) → ℕ → ℕ → Side
seen before after faults faults' = record {
  before = before;
  after = after;
  faults_before = faults;
  faults_after = faults';
}

-- why reading ended early is why the input is refused
pub cut-refused : (first before after : Option (List ℕ)) (faults faults-then faults' : ℕ) (read got : List ℕ)
    (count limit : ℕ) (fault : MeterFault)
    → faults-then ≡ faults → Consumes first before read → Consumes before after got → count ≡ length (read ++ got)
    → IsCut (seen before after faults-then faults') count limit fault
    → IsRefused (seen first after faults faults') limit fault × FaultsOf (seen first after faults faults') fault
cut-refused first before after faults faults-then faults' read got count limit Failed same had given is cut =
    let rose = subst (λ (n : ℕ). HasFailed (seen first after n faults')) same cut.0 in (
      record { cause = rose; within = (read ++ got, omega (arith, is, cut.1), Consumes-trans _ _ _ _ _ had given) },
      rose,
    )
cut-refused first before after faults faults-then faults' read got count limit TooLarge same had given is cut =
    ((read ++ got, (let e = cut.1 in omega (arith, is, e)), Consumes-trans _ _ _ _ _ had given), cut.0 ∙ same)
cut-refused first before after faults faults-then faults' read got count limit NotCapture same had given is cut =
    absurd cut
cut-refused first before after faults faults-then faults' read got count limit
    (LinkUnknown link) same had given is cut = absurd cut
cut-refused first before after faults faults-then faults' read got count limit (Damaged at) same had given is cut =
    absurd cut
cut-refused first before after faults faults-then faults' read got count limit NoMemory same had given is cut =
    absurd cut

-- and where the source was read on, the input is refused for the fault, or for that
pub on-refused : (first before after : Option (List ℕ)) (faults faults-then faults' : ℕ) (read : List ℕ)
    (input : CaptureInput) (fault result : MeterFault)
    → faults-then ≡ faults → Consumes first before read → input.taken ≡ length read
    → ReadsOn (seen before after faults-then faults') input fault result
    → (faults' ≡ faults → FaultsOf (seen first after faults faults') fault)
    → ((got : List ℕ) → (input.ended ≡ true → got ≡ [])
    → IsRead (seen first after faults faults') input.limit (read ++ got)
    → IsRefused (seen first after faults faults') input.limit fault)
    → IsRefused (seen first after faults faults') input.limit result × FaultsOf (seen first after faults faults') result
on-refused first before after faults faults-then faults' read input fault result same had count on quiet refused =
    let long : input.taken + length on.got ≡ length (read ++ on.got) =
    omega (arith, count, length-append read on.got) in
    elim on.ends [
      | inl out ↦
          let whole : IsRead (seen first after faults faults') input.limit (read ++ on.got) = record {
            given = Consumes-trans _ _ _ _ _ had on.given;
            ended = out.1.ended;
            within = omega (arith, out.1.within, long);
          } in
          subst (λ (f : MeterFault). IsRefused (seen first after faults faults') input.limit f
          × FaultsOf (seen first after faults faults') f) (sym out.0)
          (refused on.got on.still whole, quiet (out.1.quiet ∙ same))
      | inr cut ↦ cut-refused first before after faults faults-then faults' read on.got
          (input.taken + length on.got) input.limit result same had on.given long cut
    ]

-- the bytes are a capture file of a kind, by the file that they are
pub is-some : (found : Option CaptureFile) (file : CaptureFile) (Kind : CaptureFile → Type 0) → found ≡ Some file
    → Kind file → IsSomeAnd found Kind
is-some found file Kind is kind = subst (λ (o : Option CaptureFile). IsSomeAnd o Kind) (sym is) kind

-- the same end of reading, seen from an earlier call on
pub cut-moved : (first before after : Option (List ℕ)) (faults faults-then faults' count count' limit limit' : ℕ)
    (fault : MeterFault)
    → faults-then ≡ faults → count ≡ count' → limit ≡ limit'
    → IsCut (seen before after faults-then faults') count limit fault
    → IsCut (seen first after faults faults') count' limit' fault
cut-moved first before after faults faults-then faults' count count' limit limit' Failed same counts limits cut = (
  subst (λ (n : ℕ). HasFailed (seen first after n faults')) same cut.0,
  (let h = cut.1 in omega (arith, h, counts, limits)),
)
cut-moved first before after faults faults-then faults' count count' limit limit' TooLarge same counts limits cut =
    (cut.0 ∙ same, (let h = cut.1 in omega (arith, h, counts, limits)))
cut-moved first before after faults faults-then faults' count count' limit limit' NotCapture same counts limits cut =
    absurd cut
cut-moved first before after faults faults-then faults' count count' limit limit'
    (LinkUnknown link) same counts limits cut = absurd cut
cut-moved first before after faults faults-then faults' count count' limit limit' (Damaged at) same counts limits cut =
    absurd cut
cut-moved first before after faults faults-then faults' count count' limit limit' NoMemory same counts limits cut =
    absurd cut

-- where the damage of a file is
pub damage-place : (file : CaptureFile) (at : ℕ) → damage_of file ≡ Some at → rest_offset file ≡ at
damage-place file at h =
    elim (cases_Bool (begins_with_damage file.order (rest_of file))) [
      | inl d ↦ (let e : Some (rest_offset file) ≡ Some at = rw d at h in cc)
      | inr d ↦ absurd (let e : None ≡ Some at = rw d at h in cc)
    ]

-- damage of the part is damage of the file, however it goes on
pub damaged-refused : (head : Head) (window bytes : List ℕ) (from taken place at-part : ℕ) (file : CaptureFile)
    (more : List ℕ)
    (part : CaptureFile) (source : Side) (limit : ℕ)
    → ((f : CaptureFile) (xs : List ℕ) → f.start ≤ length f.bytes → GoesOn f xs)
    → ((xs ys : List ℕ) → 24 ≤ length xs → capture_file (xs ++ ys)
    ≡ option_map (λ (f : CaptureFile). grown_file f ys) (capture_file xs))
    → ((f : CaptureFile) (xs : List ℕ) (n : ℕ) → f.start ≤ length f.bytes → damage_of f ≡ Some n
    → damage_of (grown_file f xs) ≡ Some n)
    → ((f : CaptureFile) → f.start ≤ length f.bytes → rest_offset f + tail_of f ≡ length f.bytes)
    → IsAt head window from taken file more → part ≡ part_of head bytes → bytes ≡ drop from window
    → IsKnownLink part.link
    → damage_of part ≡ Some at-part → place ≡ taken - length bytes + at-part
    → (got : List ℕ) → IsRead source limit ((file.bytes ++ more) ++ got) → IsRefused source limit (Damaged place)
damaged-refused head window bytes from taken place at-part file more part source limit goes header stays whole at is
    shows known damaged place-is got read =
    let same : part ≡ part_with file (rest_of file ++ more) =
    is ∙ ap (part_of head) shows ∙ part-of_file head file window more from at.sound.like at.left in
    let there : damage_of (grown_file file more) ≡ Some (rest_offset file + at-part) =
    (goes file more at.sound.long).damage ∙ ap (option_map (λ (k : ℕ). rest_offset file + k))
    (ap damage_of (sym same) ∙ damaged) in
    let long : file.start ≤ length (file.bytes ++ more) = omega (arith, at.sound.long, length-append file.bytes more) in
    let count : length bytes ≡ tail_of file + length more =
    ap length (shows ∙ at.left) ∙ length-append (rest_of file) more in
    let here : rest_offset file + at-part ≡ place =
    omega (arith, place-is, count, at.count, whole file at.sound.long, length-append file.bytes more) in
    let all : capture_file ((file.bytes ++ more) ++ got) ≡ Some (grown_file (grown_file file more) got) =
    header (file.bytes ++ more) got (omega (arith, at.sound.header, length-append file.bytes more))
    ∙ ap (option_map (λ (f : CaptureFile). grown_file f got))
    (header file.bytes more at.sound.header
    ∙ ap (option_map (λ (f : CaptureFile). grown_file f more)) at.sound.is_file) in
    record {
      bytes = (file.bytes ++ more) ++ got;
      read = read;
      fault = is-some _ (grown_file (grown_file file more) got)
          (λ f. IsKnownLink f.link × (damage_of f ≡ Some place)) all (
            subst IsKnownLink (ap (λ (f : CaptureFile). f.link) same) known,
            stays (grown_file file more) got place long
                (there ∙ ap (λ (k : ℕ). Some k) here),
          );
    }

pub known-link : (head : Head) (file part : CaptureFile) (bytes : List ℕ) → part_with file [] ≡ part_of head []
    → part ≡ part_of head bytes
    → IsKnownLink part.link → IsKnownLink file.link
known-link head file part bytes like is known =
    subst IsKnownLink (ap (λ (f : CaptureFile). f.link) is ∙ sym (ap (λ (f : CaptureFile). f.link) like)) known

-- a turn of the loop
pub smaller : (limit limit' taken taken' count : ℕ) (ended ended' : Bool) → ended ≡ false → limit' ≡ limit
    → taken' ≡ taken + count → taken' ≤ limit'
    → (ended' ≡ false → 0 < count) → limit' - taken' + cond ended' 0 1 < limit - taken + cond ended 0 1
smaller limit limit' taken taken' count false true e l t w more = omega (arith, l, t, w)
smaller limit limit' taken taken' count false false e l t w more = let h = more refl in omega (arith, l, t, w, h)
smaller limit limit' taken taken' count true ended' e l t w more = absurd cc

-- why metering the input ended with a part that couldn't be metered
pub part-refused : (head : Head) (window bytes : List ℕ) (from count : ℕ) (file : CaptureFile) (more : List ℕ)
    (part : CaptureFile) (first before after : Option (List ℕ)) (faults faults-then faults' : ℕ) (input : CaptureInput)
    (limit : ℕ) (error : IndexError) (result : MeterFault)
    → ((f : CaptureFile) (xs : List ℕ) → f.start ≤ length f.bytes → GoesOn f xs)
    → ((xs ys : List ℕ) → 24 ≤ length xs → capture_file (xs ++ ys)
    ≡ option_map (λ (f : CaptureFile). grown_file f ys) (capture_file xs))
    → ((f : CaptureFile) (xs : List ℕ) (n : ℕ) → f.start ≤ length f.bytes → damage_of f ≡ Some n
    → damage_of (grown_file f xs) ≡ Some n)
    → ((f : CaptureFile) → f.start ≤ length f.bytes → rest_offset f + tail_of f ≡ length f.bytes)
    → IsAt head window from input.taken file more → part ≡ part_of head bytes → bytes ≡ drop from window
    → IsKnownLink part.link
    → ((at : ℕ) → error ≡ DamagedPart at → damage_of part ≡ Some at) → count ≡ length bytes → input.limit ≡ limit
    → input.taken ≤ limit
    → faults-then ≡ faults → Consumes first before (file.bytes ++ more)
    → EndsFor (seen before after faults-then faults') input count error result
    → IsRefused (seen first after faults faults') limit result × FaultsOf (seen first after faults faults') result
part-refused head window bytes from count file more part first before after faults faults-then faults' input limit
    NoIndex result
    goes header stays whole at is shows known damaged counted limits within same had ends =
    subst (λ (f : MeterFault). IsRefused (seen first after faults faults') limit f
    × FaultsOf (seen first after faults faults') f) (sym ends.0) (
      (
        file.bytes ++ more,
        omega (arith, at.count, within),
        subst
            (λ (o : Option (List ℕ)). Consumes first o (file.bytes ++ more)) (sym ends.1) had,
      ),
      ends.2 ∙ same,
    )
part-refused head window bytes from count file more part first before after faults faults-then faults' input limit
    (DamagedPart n) result
    goes header stays whole at is shows known damaged counted limits within same had ends =
    let place : input.taken - count + n ≡ input.taken - length bytes + n =
    ap (λ (k : ℕ). input.taken - k + n) counted in
    subst (λ (k : ℕ). IsRefused (seen first after faults faults') k result
    × FaultsOf (seen first after faults faults') result) limits
    (on-refused first before after faults faults-then faults' (file.bytes ++ more) input
    (Damaged (input.taken - count + n)) result same had at.count ends (λ e. e)
    (λ got still. damaged-refused head window bytes from input.taken (input.taken - count + n) n file more part
    (seen first after faults faults') input.limit
    goes header stays whole at is shows known (damaged n refl) place got))

pub consumes-nothing : (left : Option (List ℕ)) → Consumes left left []
consumes-nothing None = tt
consumes-nothing (Some bytes) = refl

-- bytes that don't begin with a file header stay so, however they go on
pub stays-none : (read got : List ℕ) (ended : Bool) (size : ℕ)
    → ((xs ys : List ℕ) → 24 ≤ length xs → capture_file (xs ++ ys)
    ≡ option_map (λ (f : CaptureFile). grown_file f ys) (capture_file xs))
    → (ended ≡ true → got ≡ []) → (ended ≡ false → length read ≡ size) → 24 ≤ size → capture_file read ≡ None
    → capture_file (read ++ got) ≡ None
stays-none read got true size header still full long none =
    ap (λ (l : List ℕ). capture_file (read ++ l)) (still refl) ∙ ap capture_file (append-nil read) ∙ none
stays-none read got false size header still full long none =
    header read got (let f = full refl in omega (arith, f, long))
    ∙ ap (option_map (λ (f : CaptureFile). grown_file f got)) none

-- a file of an unknown link type stays one
link-stays : (found : Option CaptureFile) (got : List ℕ) (link : ℕ)
    → IsSomeAnd found (λ file. (file.link ≡ link) × ¬ IsKnownLink link)
    → IsSomeAnd (option_map (λ (f : CaptureFile). grown_file f got) found)
    (λ file. (file.link ≡ link) × ¬ IsKnownLink link)
link-stays None got link is = is
link-stays (Some file) got link is = is

pub stays-unknown : (read got : List ℕ) (ended : Bool) (size link : ℕ)
    → ((xs ys : List ℕ) → 24 ≤ length xs → capture_file (xs ++ ys)
    ≡ option_map (λ (f : CaptureFile). grown_file f ys) (capture_file xs))
    → (ended ≡ true → got ≡ []) → (ended ≡ false → length read ≡ size) → 24 ≤ size
    → IsSomeAnd (capture_file read) (λ file. (file.link ≡ link) × ¬ IsKnownLink link)
    → IsSomeAnd (capture_file (read ++ got)) (λ file. (file.link ≡ link) × ¬ IsKnownLink link)
stays-unknown read got true size link header still full long is =
    subst (λ (l : List ℕ). IsSomeAnd (capture_file l) (λ file. (file.link ≡ link) × ¬ IsKnownLink link))
    (sym (ap (λ (l : List ℕ). read ++ l) (still refl) ∙ append-nil read)) is
stays-unknown read got false size link header still full long is =
    subst (λ (o : Option CaptureFile). IsSomeAnd o (λ file. (file.link ≡ link) × ¬ IsKnownLink link))
    (sym (header read got (let f = full refl in omega (arith, f, long))))
    (link-stays (capture_file read) got link is)

-- an input without a file header that can be read is refused, or reading it has a fault of its own
pub head-refused : (first before after : Option (List ℕ)) (faults faults-then faults' : ℕ) (read : List ℕ)
    (input : CaptureInput) (size : ℕ) (error : CaptureError) (result : MeterFault)
    → faults-then ≡ faults → Consumes first before read → input.taken ≡ length read
    → ((xs ys : List ℕ) → 24 ≤ length xs → capture_file (xs ++ ys)
    ≡ option_map (λ (f : CaptureFile). grown_file f ys) (capture_file xs))
    → (input.ended ≡ false → length read ≡ size) → 24 ≤ size
    → (error ≡ NoHeader → capture_file read ≡ None)
    → ((n : ℕ) → error ≡ OtherLink n → IsSomeAnd (capture_file read) (λ file. (file.link ≡ n) × ¬ IsKnownLink n))
    → ReadsOn (seen before after faults-then faults') input (fault_for error) result
    → IsRefused (seen first after faults faults') input.limit result × FaultsOf (seen first after faults faults') result
head-refused first before after faults faults-then faults' read input size NoHeader result same had count header full
    long none other on =
    on-refused first before after faults faults-then faults' read input NotCapture result same had count on (λ e. e)
    (λ got still whole. record {
      bytes = read ++ got;
      read = whole;
      fault =
          stays-none read got input.ended size header still full long (none refl);
    })
head-refused first before after faults faults-then faults' read input size
    (OtherLink n) result same had count header full long none other on =
    on-refused first before after faults faults-then faults' read input (LinkUnknown n) result same had count on
    (λ e. e)
    (λ got still whole. record {
      bytes = read ++ got;
      read = whole;
      fault =
          stays-unknown read got input.ended size n header still full long (other n refl);
    })
