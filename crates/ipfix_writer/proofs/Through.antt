-- A stream that goes out through a buffer.
use Rattle.std.proofs.Common.{◌≡◌, ◌≤◌, ◌+◌, ◌%◌, ◌^◌, ◌∙◌, ℕ, List, [], ◌∷◌, ◌++◌, length, take, drop, Option}
use Rattle.std.proofs.Common.{refl, sym, ap, subst, append_assoc, append-nil, take-append-drop, Result, Ok, Err}
use Rattle.std.specs.Prelude.{OnOk}
use Rattle.std.proofs.Math.Seq.{take-append_seam}
use Rattle.std.proofs.KnownBytes.{Appends-trans}
use Rattle.std.specs.Io.KnownBytes.{Appends}
use Rattle.sink_buffer.specs.Passing.{IsPassed}
use Rattle.ipfix_writer.specs.Encoding.{message}
use Rattle.ipfix_writer.specs.Layout.{RecordSet, body_in, length_in, messages_in, IsStream}
use Rattle.ipfix_writer.specs.Emitting.{FillsMessage}
use Rattle.ipfix_writer.proofs.Filling.{in_messages}
use Rattle.ipfix_writer.proofs.Rests.{IsRest, rest-more, rest-end, rest-all}

-- A stream is under way: the sink took these bytes, these are held, and what is left can be laid out behind them.
pub record GoesOn {A : Type 0} (encode : A → RecordSet) (size export_time : ℕ) (first : List ℕ) (records : List A)
    (done : ℕ) (before now : Option (List ℕ)) (held : List ℕ) : Type 0 where
  pub written : List ℕ
  pub appended : Appends before now written
  pub goes_on : (bytes : List ℕ) → IsRest encode size export_time records done bytes
      → IsStream encode size export_time first records ((written ++ held) ++ bytes)

-- A sink took a beginning of a stream.
pub record IsCutOff {A : Type 0} (encode : A → RecordSet) (size export_time : ℕ) (first : List ℕ) (records : List A)
    (before now : Option (List ℕ)) : Type 0 where
  pub bytes : List ℕ
  pub count : ℕ
  pub appended : Appends before now (take count bytes)
  pub stream : IsStream encode size export_time first records bytes

cut-off : {A : Type 0} (encode : A → RecordSet) (size export_time : ℕ) (first : List ℕ) (records : List A)
    (before now : Option (List ℕ)) (bytes front more : List ℕ) → bytes ≡ front ++ more → Appends before now front
    → IsStream encode size export_time first records bytes → IsCutOff encode size export_time first records before now
cut-off encode size export_time first records before now bytes front more is appended stream = record {
  bytes = bytes;
  count = length front;
  appended = subst (Appends before now) (sym (ap (take (length front)) is ∙ take-append_seam front more)) appended;
  stream = stream;
}

-- what is left from a place on can be laid out
some-rest : {A : Type 0} (encode : A → RecordSet) (size export_time : ℕ) (records : List A) (from : ℕ)
    → ((x : A) → length_in encode (x ∷ []) ≤ size) → (bytes : List ℕ)
    × IsRest encode size export_time records from bytes
some-rest encode size export_time records from alone =
    let laid = in_messages encode size (drop from records) alone in (
      messages_in encode export_time from laid.parts,
      record { parts = laid.parts; whole = laid.whole; filled = laid.filled; written = refl },
    )

-- behind the first message
pub goes-on-first : {A : Type 0} (encode : A → RecordSet) (size export_time : ℕ) (first : List ℕ) (records : List A)
    (before now : Option (List ℕ)) (empty held : List ℕ) → empty ≡ [] → IsPassed before now empty held first
    → GoesOn encode size export_time first records 0 before now held
goes-on-first encode size export_time first records before now empty held none passed =
    let whole : passed.taken ++ held ≡ first = passed.whole ∙ ap (λ bs. bs ++ first) none in
    record {
      written = passed.taken;
      appended = passed.appended;
      goes_on = λ bytes rest. subst (λ front. IsStream encode size export_time first records
          (front ++ bytes)) (sym whole)
          (rest-all encode size export_time first records bytes rest);
    }

pub cut-first : {A : Type 0} (encode : A → RecordSet) (size export_time : ℕ) (first : List ℕ) (records : List A)
    (before now : Option (List ℕ)) (empty left : List ℕ) → ((x : A) → length_in encode (x ∷ []) ≤ size) → empty ≡ []
    → IsPassed before now empty left first → IsCutOff encode size export_time first records before now
cut-first encode size export_time first records before now empty left alone none passed =
    let rest = some-rest encode size export_time records 0 alone in
    let way = goes-on-first encode size export_time first records before now empty left none passed in
    cut-off encode size export_time first records before now ((way.written ++ left) ++ rest.0) way.written
    (left ++ rest.0) (append_assoc way.written left rest.0) way.appended (way.goes_on rest.0 rest.1)

-- one more message
pub goes-on-more : {A : Type 0} (encode : A → RecordSet) (size export_time : ℕ) (first : List ℕ)
    (records rest : List A) (done count : ℕ) (before now after : Option (List ℕ)) (held held_now : List ℕ)
    → rest ≡ drop done records → GoesOn encode size export_time first records done before now held
    → FillsMessage encode size rest count
    → IsPassed now after held held_now (message export_time (done % 2 ^ 32) (body_in encode (take count rest)))
    → GoesOn encode size export_time first records (done + count) before after held_now
goes-on-more encode size export_time first records rest done count before now after held held_now is way fills passed =
    let next = message export_time (done % 2 ^ 32) (body_in encode (take count rest)) in
    let front : (way.written ++ passed.taken) ++ held_now ≡ (way.written ++ held) ++ next =
    append_assoc way.written passed.taken held_now ∙ ap (λ bs. way.written ++ bs) passed.whole
    ∙ sym (append_assoc way.written held next) in
    record {
      written = way.written ++ passed.taken;
      appended = Appends-trans before now after way.written passed.taken way.appended passed.appended;
      goes_on = λ bytes left.
          subst (IsStream encode size export_time first records)
          (sym (ap (λ bs. bs ++ bytes) front ∙ append_assoc (way.written ++ held) next bytes))
          (way.goes_on (next ++ bytes)
          (rest-more encode size export_time records rest done count bytes is fills.some fills.within
          fills.fits fills.full
          left));
    }

pub cut-more : {A : Type 0} (encode : A → RecordSet) (size export_time : ℕ) (first : List ℕ)
    (records rest : List A) (done count : ℕ) (before now after : Option (List ℕ)) (held left : List ℕ)
    → ((x : A) → length_in encode (x ∷ []) ≤ size)
    → rest ≡ drop done records → GoesOn encode size export_time first records done before now held
    → FillsMessage encode size rest count
    → IsPassed now after held left (message export_time (done % 2 ^ 32) (body_in encode (take count rest)))
    → IsCutOff encode size export_time first records before after
cut-more encode size export_time first records rest done count before now after held left alone is way fills passed =
    let last = goes-on-more encode size export_time first records rest done count before now after held
    left is way fills
    passed in
    let others = some-rest encode size export_time records (done + count) alone in
    cut-off encode size export_time first records before after ((last.written ++ left) ++ others.0) last.written
    (left ++ others.0) (append_assoc last.written left others.0) last.appended (last.goes_on others.0 others.1)

-- A sink took a stream.
pub record IsOut {A : Type 0} (encode : A → RecordSet) (size export_time : ℕ) (first : List ℕ) (records : List A)
    (before now : Option (List ℕ)) : Type 0 where
  pub bytes : List ℕ
  pub appended : Appends before now bytes
  pub stream : IsStream encode size export_time first records bytes

all-held : {A : Type 0} (encode : A → RecordSet) (size export_time : ℕ) (first : List ℕ) (records : List A) (done : ℕ)
    (before now : Option (List ℕ)) (held : List ℕ) → length records ≤ done
    → (way : GoesOn encode size export_time first records done before now held)
    → IsStream encode size export_time first records (way.written ++ held)
all-held encode size export_time first records done before now held past way =
    subst (IsStream encode size export_time first records) (append-nil (way.written ++ held))
    (way.goes_on [] (rest-end encode size export_time records done past))

pub out-whole : {A : Type 0} (encode : A → RecordSet) (size export_time : ℕ) (first : List ℕ) (records : List A)
    (done : ℕ) (before now after : Option (List ℕ)) (held : List ℕ) → length records ≤ done
    → GoesOn encode size export_time first records done before now held → Appends now after held
    → IsOut encode size export_time first records before after
out-whole encode size export_time first records done before now after held past way taken = record {
  bytes = way.written ++ held;
  appended = Appends-trans before now after way.written held way.appended taken;
  stream = all-held encode size export_time first records done before now held past way;
}

pub cut-last : {A : Type 0} (encode : A → RecordSet) (size export_time : ℕ) (first : List ℕ) (records : List A)
    (done count : ℕ) (before now after : Option (List ℕ)) (held : List ℕ) → length records ≤ done
    → GoesOn encode size export_time first records done before now held → Appends now after (take count held)
    → IsCutOff encode size export_time first records before after
cut-last encode size export_time first records done count before now after held past way taken =
    cut-off encode size export_time first records before after (way.written ++ held) (way.written ++ take count held)
    (drop count held)
    (ap (λ bs. way.written ++ bs) (sym (take-append-drop count held))
    ∙ sym (append_assoc way.written (take count held) (drop count held)))
    (Appends-trans before now after way.written (take count held) way.appended taken)
    (all-held encode size export_time first records done before now held past way)

-- a fact of an outcome, under another
pub when_ok : {T E : Type 0} {P Q : Type 0} (r : Result T E) → OnOk r P → (P → Q) → OnOk r Q
when_ok (Ok x) h f = f h
when_ok (Err e) h f = tt
