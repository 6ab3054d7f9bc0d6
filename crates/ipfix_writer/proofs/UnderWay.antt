-- An emitter from call to call.
use Rattle.std.proofs.Common.{◌≡◌, ◌≤◌, ◌<◌, ◌+◌, ◌-◌, ◌*◌, ◌/◌, ◌%◌, ◌^◌, min, ℕ, List, [], ◌∷◌, ◌++◌, length, take}
use Rattle.std.proofs.Common.{drop, refl, sym, ap, ◌∙◌, subst, arith, append-nil, append_assoc, length-append}
use Rattle.std.proofs.Common.{take-append-drop, Option, Some, None, true, false, ◌==◌, eqb-true, suc, get_or, add-one}
use Rattle.std.proofs.Common.{Result, Ok, Err}
use Rattle.std.specs.Prelude.{IfOk, OnErr}
use Rattle.std.proofs.Math.Seq.{drop-cons, take-suc}
use Rattle.std.proofs.lemmas.List.{take_all}
use Rattle.std.proofs.lemmas.Bool.{eq-eqb}
use Rattle.std.proofs.Math.Nat.{mod-add-div', add-mul-mod_self_right}
use Rattle.record_ledger.specs.declared.record.FlowRecord.{FlowRecord}
use Rattle.ipfix_writer.specs.declared.emitter.Phase.{Phase}
use Rattle.ipfix_writer.specs.declared.emitter.Phase.TheVariants.{Fresh, Started}
use Rattle.ipfix_model.specs.Templates.{template_of}
use Rattle.ipfix_model.specs.Sizes.{v4_record_length, template_message_length}
use Rattle.ipfix_writer.specs.Encoding.{message, template_message, data_record}
use Rattle.ipfix_writer.specs.Layout.{body_of, message_length, AreFilledBy, AreFilled, messages_in, data_messages}
use Rattle.ipfix_writer.specs.Layout.{together, encode_flow, IsLayoutOf, BeginsLayout}
use Rattle.ipfix_writer.specs.Emitting.{EmitterState, EmitterKeeps, IsUnderWay, waiting_part, last_template}
use Rattle.ipfix_writer.specs.Emitting.{header_before}
use Rattle.ipfix_writer.proofs.Lengths.{length_in-nil, length_in-snoc, message_length-bound, last_template-snoc}
use Rattle.ipfix_writer.proofs.Filling.{begins-start, begins-parts, filled-more, filled-next, alone-fits}
use Rattle.ipfix_writer.proofs.Filling.{data_messages-last, together-last}

differ : true ≡ false → ⊥
differ e = cc

not_fresh : Fresh ≡ Started → ⊥
not_fresh e = cc

-- an emitter that was just made keeps what it must
pub keeps-fresh : (size bytes records : ℕ) → template_message_length ≤ size → size < 2 ^ 16 → size ≤ bytes
    → size / v4_record_length ≤ records
    → EmitterKeeps size Fresh [] 0 0 16 None bytes records []
keeps-fresh size bytes records least most room places = record {
  least = least;
  most = most;
  exact = sym (length_in-nil encode_flow);
  within = omega arith;
  last = refl;
  bytes = room;
  records = places;
  fresh = λ _. (refl, refl, refl, refl);
}

under_way-empty : (size export_time : ℕ) (held bytes : List ℕ) → bytes ++ held ≡ template_message export_time
    → IsUnderWay (record {
      size = size;
      export_time = export_time;
      phase = Started;
      waiting = [];
      sequence = 0;
      messages = 1;
      held = held;
    }) [] bytes
unfolding AreFilledBy messages_in
under_way-empty size export_time held bytes is = record {
  parts = [];
  started = refl;
  whole = refl;
  begun = λ _. refl;
  filled = tt;
  bytes = is ∙ sym (append-nil (template_message export_time));
  sequence = refl;
  messages = refl;
}

-- behind the template message: the sink took the first of it, and the others are held
pub under_way-start : (size export_time : ℕ) (waiting : List FlowRecord) (sequence : ℕ)
    (held_before held bytes piece : List ℕ) → waiting ≡ [] → sequence ≡ 0 → held_before ≡ []
    → bytes ++ held ≡ held_before ++ piece → piece ≡ template_message export_time
    → IsUnderWay
    (record {
      size = size;
      export_time = export_time;
      phase = Started;
      waiting = waiting;
      sequence = sequence;
      messages = 1;
      held = held;
    }) [] bytes
under_way-start size export_time waiting sequence held_before held bytes piece none zero empty passed is =
    let E : List FlowRecord → ℕ → EmitterState =
    λ flows n. record {
      size = size;
      export_time = export_time;
      phase = Started;
      waiting = flows;
      sequence = n;
      messages = 1;
      held = held;
    } in
    let whole : bytes ++ held ≡ template_message export_time = passed ∙ ap (λ bs. bs ++ piece) empty ∙ is in
    subst (λ flows. IsUnderWay (E flows sequence) [] bytes) (sym none)
    (subst (λ n. IsUnderWay (E [] n) [] bytes) (sym zero) (under_way-empty size export_time held bytes whole))

-- a part of the template message begins every layout
pub begins-template : (size export_time : ℕ) (flows : List FlowRecord) (held_before bytes left piece : List ℕ)
    → template_message_length ≤ size → held_before ≡ [] → bytes ++ left ≡ held_before ++ piece → piece
    ≡ template_message export_time
    → BeginsLayout size export_time flows bytes
begins-template size export_time flows held_before bytes left piece room empty passed is =
    begins-start size export_time flows bytes left (omega arith)
    (sym is ∙ sym (ap (λ bs. bs ++ piece) empty) ∙ sym passed)

-- the length of the message with one more record
pub length-with : (length_now header size : ℕ) (waiting : List FlowRecord) (last : Option ℕ) (flow : FlowRecord)
    → length_now ≡ message_length waiting → last ≡ last_template encode_flow waiting
    → header ≡ header_before last (template_of flow) → size ≡ length (data_record flow)
    → length_now + header + size ≡ message_length (waiting ++ flow ∷ [])
length-with length_now header size waiting last flow exact last_is header_is size_is =
    let grown = length_in-snoc encode_flow waiting flow in
    let header_of : header ≡ header_before (last_template encode_flow waiting) (template_of flow) =
    header_is ∙ ap (λ t. header_before t (template_of flow)) last_is in
    omega arith

-- a message that fits has fewer records than there are places
pub places-left : (size places length_now : ℕ) (waiting : List FlowRecord) (flow : FlowRecord)
    → length_now ≡ message_length (waiting ++ flow ∷ [])
    → length_now ≤ size → size / v4_record_length ≤ places → length waiting < places
places-left size places length_now waiting flow exact fits room =
    let bound = message_length-bound (waiting ++ flow ∷ []) in
    let longer = length-append waiting (flow ∷ []) in
    omega arith

-- one more record is kept
pub keeps-more : (size : ℕ) (phase : Phase) (waiting all : List FlowRecord) (sequence messages old new template : ℕ)
    (last : Option ℕ) (bytes places room : ℕ) (held : List ℕ) (flow : FlowRecord)
    → EmitterKeeps size phase waiting sequence messages old last bytes places held → phase ≡ Started
    → all ≡ waiting ++ flow ∷ [] → new ≡ message_length (waiting ++ flow ∷ []) → new ≤ size
    → template ≡ template_of flow → places ≤ room
    → EmitterKeeps size phase all sequence messages new (Some template) bytes room held
keeps-more size phase waiting all sequence messages old new template last bytes places room held flow keeps started
    all_is exact fits kind more = record {
      least = keeps.least;
      most = keeps.most;
      exact = exact ∙ ap message_length (sym all_is);
      within = fits;
      last = ap Some kind ∙ sym (last_template-snoc encode_flow waiting flow)
          ∙ ap (last_template encode_flow) (sym all_is);
      bytes = keeps.bytes;
      records = omega (arith, keeps.records);
      fresh = λ e. absurd (not_fresh (sym e ∙ started));
    }

-- the message was written
pub keeps-flushed : (size : ℕ) (phase : Phase) (waiting none : List FlowRecord)
    (sequence messages old sequence_now messages_now : ℕ) (last : Option ℕ) (bytes places room_of_bytes room : ℕ)
    (held held_now : List ℕ)
    → EmitterKeeps size phase waiting sequence messages old last bytes places held → phase ≡ Started → none ≡ []
    → bytes ≤ room_of_bytes → places ≤ room
    → EmitterKeeps size phase none sequence_now messages_now 16 None room_of_bytes room held_now
keeps-flushed size phase waiting none sequence messages old sequence_now messages_now last bytes places room_of_bytes
    room held held_now keeps started none_is more_bytes more = record {
      least = keeps.least;
      most = keeps.most;
      exact = sym (ap message_length none_is ∙ length_in-nil encode_flow);
      within = omega (arith, keeps.least);
      last = ap (last_template encode_flow) (sym none_is);
      bytes = omega (arith, keeps.bytes);
      records = omega (arith, keeps.records);
      fresh = λ e. absurd (not_fresh (sym e ∙ started));
    }

not_empty : (flows : List FlowRecord) (flow : FlowRecord) → flows ++ flow ∷ [] ≡ [] → ⊥
not_empty [] flow e = cc
not_empty (first ∷ flows) flow e = cc

filled_after : (size : ℕ) (parts : List (List FlowRecord)) (waiting : List FlowRecord) (flow : FlowRecord)
    → AreFilled size (parts ++ waiting_part waiting)
    → (waiting ≡ [] → parts ≡ []) → message_length (waiting ++ flow ∷ []) ≤ size
    → AreFilled size (parts ++ waiting_part (waiting ++ flow ∷ []))
unfolding AreFilledBy
filled_after size parts [] flow filled begun fits = rw (begun refl) (omega arith, fits)
filled_after size parts (first ∷ flows) flow filled begun fits =
    filled-more encode_flow size parts first flows flow filled fits

-- one more record that fits its message
pub under_way-more : (emitter : EmitterState) (flows : List FlowRecord) (written : List ℕ) (flow : FlowRecord)
    → IsUnderWay emitter flows written → message_length (emitter.waiting ++ flow ∷ []) ≤ emitter.size
    → IsUnderWay (record emitter { waiting = emitter.waiting ++ flow ∷ [] }) (flows ++ flow ∷ []) (written ++ [])
under_way-more emitter flows written flow way fits = record {
  parts = way.parts;
  started = way.started;
  whole = sym (append_assoc (together way.parts) emitter.waiting (flow ∷ [])) ∙ ap (λ fs. fs ++ flow ∷ []) way.whole;
  begun = λ e. absurd (not_empty emitter.waiting flow e);
  filled = filled_after emitter.size way.parts emitter.waiting flow way.filled way.begun fits;
  bytes = ap (λ bs. bs ++ emitter.held) (append-nil written) ∙ way.bytes;
  sequence = way.sequence;
  messages = way.messages;
}

-- What stands where the message of the records that wait is written behind the others.
pub record IsClosed (emitter : EmitterState) (flows : List FlowRecord) (written : List ℕ)
    (parts : List (List FlowRecord)) : Type 0 where
  pub whole : together (parts ++ emitter.waiting ∷ []) ≡ flows
  pub bytes : (written ++ emitter.held) ++ message emitter.export_time emitter.sequence (body_of emitter.waiting)
      ≡ template_message emitter.export_time ++ data_messages emitter.export_time 0 (parts ++ emitter.waiting ∷ [])

pub closed : (emitter : EmitterState) (flows : List FlowRecord) (written : List ℕ)
    (way : IsUnderWay emitter flows written) → IsClosed emitter flows written way.parts
closed emitter flows written way =
    let last = message emitter.export_time emitter.sequence (body_of emitter.waiting) in
    record {
      whole = together-last way.parts emitter.waiting ∙ way.whole;
      bytes =
          ap (λ bs. bs ++ last) way.bytes
          ∙ append_assoc (template_message emitter.export_time) (data_messages emitter.export_time 0 way.parts) last
          ∙ ap (λ n. template_message emitter.export_time
          ++ (data_messages emitter.export_time 0 way.parts ++ message emitter.export_time n (body_of emitter.waiting)))
          way.sequence
          ∙ ap (λ bs. template_message emitter.export_time ++ bs)
          (sym (data_messages-last encode_flow emitter.export_time way.parts emitter.waiting));
    }

-- the records that wait fill their message
waiting-filled : (size : ℕ) (parts : List (List FlowRecord)) (waiting : List FlowRecord) → 0 < length waiting
    → AreFilled size (parts ++ waiting_part waiting)
    → AreFilled size (parts ++ waiting ∷ [])
waiting-filled size parts [] some filled = absurd (omega (arith, some))
waiting-filled size parts (first ∷ flows) some filled = filled

-- where a record doesn't fit, some records wait
some-wait : (size : ℕ) (waiting : List FlowRecord) (flow : FlowRecord) → 92 ≤ size
    → size < message_length (waiting ++ flow ∷ []) → 0 < length waiting
some-wait size [] flow room full = let alone = alone-fits size flow room in absurd (omega arith)
some-wait size (first ∷ flows) flow room full = omega arith

mod_sum : (n k m : ℕ) → n ≡ m % 4294967296 → (n + k) % 4294967296 ≡ (m + k) % 4294967296
mod_sum n k m is =
    let e : m + k ≡ n + k + m / 4294967296 * 4294967296 = omega (arith, mod-add-div' m 4294967296, is) in
    sym (ap (λ x. x % 4294967296) e ∙ add-mul-mod_self_right (n + k) (m / 4294967296) 4294967296)

-- what the sink took, what is held now and the message before them
passed-whole : (written held held_now taken piece whole : List ℕ) → taken ++ held_now ≡ held ++ piece
    → (written ++ held) ++ piece ≡ whole → (written ++ taken) ++ held_now ≡ whole
passed-whole written held held_now taken piece whole passed is =
    append_assoc written taken held_now ∙ ap (λ bs. written ++ bs) passed ∙ sym (append_assoc written held piece) ∙ is

-- one more record behind a message that was written
pub under_way-next : (emitter after : EmitterState) (flows : List FlowRecord) (written taken held : List ℕ)
    (flow : FlowRecord) → template_message_length ≤ emitter.size
    → IsUnderWay emitter flows written → emitter.size < message_length (emitter.waiting ++ flow ∷ [])
    → taken ++ held ≡ emitter.held ++ message emitter.export_time emitter.sequence (body_of emitter.waiting)
    → after ≡ record emitter {
      waiting = flow ∷ [];
      sequence = (emitter.sequence + length emitter.waiting) % 2 ^ 32;
      messages = min (emitter.messages + 1) (2 ^ 64 - 1);
      held = held;
    }
    → IsUnderWay after (flows ++ flow ∷ []) (written ++ taken)
under_way-next emitter after flows written taken held flow room way full passed is =
    let shut = closed emitter flows written way in
    let some = some-wait emitter.size emitter.waiting flow (omega arith) full in
    let parts = way.parts ++ emitter.waiting ∷ [] in
    let count = length-append (together way.parts) emitter.waiting in
    subst (λ e. IsUnderWay e (flows ++ flow ∷ []) (written ++ taken)) (sym is)
    (record {
      parts = parts;
      started = way.started;
      whole = ap (λ fs. fs ++ flow ∷ []) shut.whole;
      begun = λ e. absurd (not_empty [] flow e);
      filled = filled-next encode_flow emitter.size way.parts emitter.waiting flow
          (waiting-filled emitter.size way.parts emitter.waiting some way.filled) full
          (alone-fits emitter.size flow (omega arith));
      bytes = passed-whole written emitter.held held taken
          (message emitter.export_time emitter.sequence (body_of emitter.waiting)) _ passed shut.bytes;
      sequence = mod_sum emitter.sequence (length emitter.waiting) (length (together way.parts)) way.sequence
          ∙ ap (λ n. n % 4294967296) (sym count ∙ ap length (sym (together-last way.parts emitter.waiting)));
      messages = omega (arith, way.messages, length-append way.parts (emitter.waiting ∷ []));
    })

-- what the sink took of the messages begins every layout that goes on with the record
pub begins-next : (emitter : EmitterState) (flows : List FlowRecord) (written taken left : List ℕ) (flow : FlowRecord)
    (rest : List FlowRecord) → template_message_length ≤ emitter.size
    → IsUnderWay emitter flows written → emitter.size < message_length (emitter.waiting ++ flow ∷ [])
    → taken ++ left ≡ emitter.held ++ message emitter.export_time emitter.sequence (body_of emitter.waiting)
    → BeginsLayout emitter.size emitter.export_time (flows ++ flow ∷ rest) (written ++ taken)
begins-next emitter flows written taken left flow rest room way full passed =
    let shut = closed emitter flows written way in
    let some = some-wait emitter.size emitter.waiting flow (omega arith) full in
    subst (λ fs. BeginsLayout emitter.size emitter.export_time (fs ++ flow ∷ rest) (written ++ taken))
    shut.whole
    (begins-parts emitter.size emitter.export_time (way.parts ++ emitter.waiting ∷ []) flow [] rest
    (written ++ taken) left (omega arith)
    (filled-next encode_flow emitter.size way.parts emitter.waiting flow
    (waiting-filled emitter.size way.parts emitter.waiting some way.filled) full
    (alone-fits emitter.size flow (omega arith)))
    (sym (passed-whole written emitter.held left taken
    (message emitter.export_time emitter.sequence (body_of emitter.waiting)) _ passed shut.bytes)))

-- the layout where no record waits
pub finished-empty : (emitter : EmitterState) (flows : List FlowRecord) (written : List ℕ) → emitter.waiting ≡ []
    → IsUnderWay emitter flows written
    → IsLayoutOf emitter.size emitter.export_time flows (written ++ emitter.held) emitter.messages
finished-empty emitter flows written none way = record {
  layout = record {
    parts = way.parts;
    whole = sym (append-nil (together way.parts)) ∙ ap (λ fs. together way.parts ++ fs) (sym none) ∙ way.whole;
    filled = subst (AreFilled emitter.size) (ap (λ fs. way.parts ++ waiting_part fs) none ∙ append-nil way.parts)
        way.filled;
    written = way.bytes;
  };
  count = way.messages;
}

-- the layout behind the last message
pub finished-last : (emitter : EmitterState) (flows : List FlowRecord) (written taken held : List ℕ) (messages : ℕ)
    → 0 < length emitter.waiting → IsUnderWay emitter flows written
    → taken ++ held ≡ emitter.held ++ message emitter.export_time emitter.sequence (body_of emitter.waiting)
    → messages ≡ min (emitter.messages + 1) (2 ^ 64 - 1)
    → IsLayoutOf emitter.size emitter.export_time flows (written ++ (taken ++ held)) messages
finished-last emitter flows written taken held messages some way passed counted =
    let shut = closed emitter flows written way in
    record {
      layout = record {
        parts = way.parts ++ emitter.waiting ∷ [];
        whole = shut.whole;
        filled = waiting-filled emitter.size way.parts emitter.waiting some way.filled;
        written = sym (append_assoc written taken held)
            ∙ passed-whole written emitter.held held taken
            (message emitter.export_time emitter.sequence (body_of emitter.waiting)) _ passed shut.bytes;
      };
      count = omega (arith, counted, way.messages, length-append way.parts (emitter.waiting ∷ []));
    }

-- what the sink took before a write failed begins the layout
pub begins-of : (size export_time : ℕ) (flows : List FlowRecord) (bytes more all : List ℕ) (messages : ℕ)
    → IsLayoutOf size export_time flows all messages → all ≡ bytes ++ more
    → BeginsLayout size export_time flows bytes
begins-of size export_time flows bytes more all messages whole is =
    record { all = all; more = more; layout = whole.layout; begins = is }

-- of what is held
pub begins-held : (size export_time : ℕ) (flows : List FlowRecord) (written held : List ℕ) (messages count : ℕ)
    → IsLayoutOf size export_time flows (written ++ held) messages
    → BeginsLayout size export_time flows (written ++ take count held)
begins-held size export_time flows written held messages count whole =
    begins-of size export_time flows (written ++ take count held) (drop count held) (written ++ held) messages whole
    (ap (λ bs. written ++ bs) (sym (take-append-drop count held))
    ∙ sym (append_assoc written (take count held) (drop count held)))

-- of what is held behind what was taken
pub begins-drained : (size export_time : ℕ) (flows : List FlowRecord) (written taken held : List ℕ) (messages count : ℕ)
    → IsLayoutOf size export_time flows (written ++ (taken ++ held)) messages
    → BeginsLayout size export_time flows (written ++ (taken ++ take count held))
begins-drained size export_time flows written taken held messages count whole =
    begins-of size export_time flows (written ++ (taken ++ take count held)) (drop count held)
    (written ++ (taken ++ held)) messages whole
    (ap (λ bs. written ++ (taken ++ bs)) (sym (take-append-drop count held))
    ∙ ap (λ bs. written ++ bs) (sym (append_assoc taken (take count held) (drop count held)))
    ∙ sym (append_assoc written (taken ++ take count held) (drop count held)))

-- a list whose length tests as 0 is empty
pub is_nil : (flows : List FlowRecord) (count : ℕ) → length flows ≡ count → (count == 0) ≡ true → flows ≡ []
is_nil [] count counted test = refl
is_nil (flow ∷ flows) count counted test = absurd (omega (arith, counted, eqb-true count 0 test))

-- a list whose length doesn't test as 0 has an element
pub some-left : (flows waiting : List FlowRecord) (count : ℕ) → length flows ≡ count → (count == 0) ≡ false
    → flows ≡ waiting → 0 < length waiting
some-left [] waiting count counted test is = absurd (differ (sym (eq-eqb count 0 (sym counted)) ∙ test))
some-left (flow ∷ flows) waiting count counted test is = omega (arith, ap length is)

-- records up to a place, the one there, and those behind it
pub taken-one : (records : List FlowRecord) (i : ℕ) (flow : FlowRecord) → i < length records
    → flow ≡ get_or records i flow
    → take i records ++ flow ∷ [] ≡ take (i + 1) records
taken-one records i flow inside is =
    ap (λ f. take i records ++ f ∷ []) is ∙ sym (take-suc records i flow inside)
    ∙ ap (λ n. take n records) (sym (add-one i))

pub records-split : (records : List FlowRecord) (i : ℕ) (flow : FlowRecord) → i < length records
    → flow ≡ get_or records i flow
    → take i records ++ flow ∷ drop (i + 1) records ≡ records
records-split records i flow inside is =
    ap (λ fs. take i records ++ fs) (ap (λ n. flow ∷ drop n records) (add-one i) ∙ ap (λ f. f ∷ drop (suc i) records) is
    ∙ sym (drop-cons records i flow inside))
    ∙ take-append-drop i records

pub all-taken : (records : List FlowRecord) (i : ℕ) → length records ≤ i → take i records ≡ records
all-taken records i past = take_all i records past

-- a fact of an outcome, under another
pub on_ok : {T E : Type 0} {P Q : T → Type 0} (r : Result T E) → IfOk r P → ((x : T) → P x → Q x) → IfOk r Q
on_ok (Ok x) h f = f x h
on_ok (Err e) h f = tt

pub on_err : {T E : Type 0} {P Q : Type 0} (r : Result T E) → OnErr r P → (P → Q) → OnErr r Q
on_err (Ok x) h f = tt
on_err (Err e) h f = f h
