-- Messages that are filled one after the other.
use Rattle.std.proofs.Common.{◌≡◌, ◌≤◌, ◌<◌, ◌+◌, ◌%◌, ◌^◌, inl, inr, ℕ, List, [], ◌∷◌, ◌++◌, length, refl, sym, ap}
use Rattle.std.proofs.Common.{◌∙◌, subst, arith, length-append, append_assoc, append-nil, add-zero, zero-add, add_assoc}
use Rattle.std.proofs.lemmas.Bool.{cases_lt}
use Rattle.record_ledger.specs.declared.record.FlowRecord.{FlowRecord}
use Rattle.ipfix_writer.specs.Encoding.{message, template_message}
use Rattle.ipfix_writer.specs.Layout.{RecordSet, body_in, length_in, AreFilledBy, messages_in, together, encode_flow}
use Rattle.ipfix_writer.specs.Layout.{message_length, AreFilled, data_messages, BeginsLayout}
use Rattle.ipfix_writer.proofs.Lengths.{length_in-snoc, length_in-nil}
use Rattle.ipfix_writer.proofs.Sizes.{record_size-bounds}

-- one more record in the last message, where it fits
pub filled-more : {A : Type 0} (encode : A → RecordSet) (size : ℕ) (parts : List (List A)) (first : A) (flows : List A)
    (flow : A)
    → AreFilledBy encode size (parts ++ (first ∷ flows) ∷ []) → length_in encode ((first ∷ flows) ++ flow ∷ []) ≤ size
    → AreFilledBy encode size (parts ++ (first ∷ (flows ++ flow ∷ [])) ∷ [])
unfolding AreFilledBy
filled-more encode size [] first flows flow filled fits = (omega arith, fits)
filled-more encode size (part ∷ []) first flows flow filled fits = (filled.0, filled.1, filled.2, (omega arith, fits))
filled-more encode size (part ∷ (next ∷ parts)) first flows flow filled fits =
    (filled.0, filled.1, filled.2, filled-more encode size (next ∷ parts) first flows flow filled.3 fits)

-- one more message, where the record doesn't fit the last
pub filled-next : {A : Type 0} (encode : A → RecordSet) (size : ℕ) (parts : List (List A)) (waiting : List A) (flow : A)
    → AreFilledBy encode size (parts ++ waiting ∷ []) → size < length_in encode (waiting ++ flow ∷ [])
    → length_in encode (flow ∷ []) ≤ size
    → AreFilledBy encode size ((parts ++ waiting ∷ []) ++ (flow ∷ []) ∷ [])
unfolding AreFilledBy
filled-next encode size [] waiting flow filled full alone = (filled.0, filled.1, full, (omega arith, alone))
filled-next encode size (part ∷ []) waiting flow filled full alone =
    (filled.0, filled.1, filled.2, (filled.3.0, filled.3.1, full, (omega arith, alone)))
filled-next encode size (part ∷ (next ∷ parts)) waiting flow filled full alone =
    (filled.0, filled.1, filled.2, filled-next encode size (next ∷ parts) waiting flow filled.3 full alone)

-- lists put together
pub together-append : {A : Type 0} (parts others : List (List A))
    → together (parts ++ others) ≡ together parts ++ together others
together-append [] others = refl
together-append (part ∷ parts) others =
    ap (λ flows. part ++ flows) (together-append parts others)
    ∙ sym (append_assoc part (together parts) (together others))

pub together-last : {A : Type 0} (parts : List (List A)) (last : List A)
    → together (parts ++ last ∷ []) ≡ together parts ++ last
together-last parts last = together-append parts (last ∷ []) ∙ ap (λ flows. together parts ++ flows) (append-nil last)

-- what a layout has behind some parts: messages of the records that wait and of those that are left
record TailFrom {A : Type 0} (encode : A → RecordSet) (size : ℕ) (parts : List (List A))
    (waiting rest : List A) : Type 0 where
  tail : List (List A)
  whole : together tail ≡ waiting ++ rest
  filled : AreFilledBy encode size (parts ++ tail)

-- the records that are left can always be laid out behind those that wait
tail_from : {A : Type 0} (encode : A → RecordSet) (size : ℕ) (parts : List (List A)) (first : A) (flows rest : List A)
    → ((x : A) → length_in encode (x ∷ []) ≤ size) → AreFilledBy encode size (parts ++ (first ∷ flows) ∷ [])
    → TailFrom encode size parts (first ∷ flows) rest
tail_from encode size parts first flows [] alone filled =
    record { tail = (first ∷ flows) ∷ []; whole = refl; filled = filled }
tail_from encode size parts first flows (flow ∷ rest) alone filled =
    elim (cases_lt size (length_in encode ((first ∷ flows) ++ flow ∷ []))) [
      | inl full ↦
          (let next = filled-next encode size parts (first ∷ flows) flow filled full (alone flow) in
          let later = tail_from encode size (parts ++ (first ∷ flows) ∷ []) flow [] rest alone next in
          record {
            tail = (first ∷ flows) ∷ later.tail;
            whole = ap (λ fs. (first ∷ flows) ++ fs) later.whole;
            filled = subst (AreFilledBy encode size)
                (append_assoc parts ((first ∷ flows) ∷ []) later.tail) later.filled;
          })
      | inr fits ↦
          (let later = tail_from encode size parts first (flows ++ flow ∷ []) rest alone
          (filled-more encode size parts first flows flow filled fits) in
          record {
            tail = later.tail;
            whole = later.whole ∙ append_assoc (first ∷ flows) (flow ∷ []) rest;
            filled =
                later.filled;
          })
    ]

-- some records in filled messages
pub record InMessages {A : Type 0} (encode : A → RecordSet) (size : ℕ) (xs : List A) : Type 0 where
  pub parts : List (List A)
  pub whole : together parts ≡ xs
  pub filled : AreFilledBy encode size parts

-- any records can be laid out
pub in_messages : {A : Type 0} (encode : A → RecordSet) (size : ℕ) (xs : List A)
    → ((x : A) → length_in encode (x ∷ []) ≤ size) → InMessages encode size xs
unfolding AreFilledBy
in_messages encode size [] alone = record { parts = []; whole = refl; filled = tt }
in_messages encode size (x ∷ xs) alone =
    let laid = tail_from encode size [] x [] xs alone (omega arith, alone x) in
    record { parts = laid.tail; whole = laid.whole; filled = laid.filled }

-- the data messages of some parts, and of those behind them
pub data_messages-append : {A : Type 0} (encode : A → RecordSet) (export_time before : ℕ) (parts others : List (List A))
    → messages_in encode export_time before (parts ++ others) ≡ messages_in encode export_time before parts
    ++ messages_in encode export_time (before + length (together parts)) others
unfolding messages_in
data_messages-append encode export_time before [] others =
    ap (λ n. messages_in encode export_time n others) (sym (add-zero before))
data_messages-append encode export_time before (part ∷ parts) others =
    let first = message export_time (before % 2 ^ 32) (body_in encode part) in
    let later = data_messages-append encode export_time (before + length part) parts others in
    let count : before + length part + length (together parts) ≡ before + length (part ++ together parts) =
    add_assoc before (length part) (length (together parts))
    ∙ ap (λ n. before + n) (sym (length-append part (together parts))) in
    ap (λ bs. first ++ bs)
    (later ∙ ap (λ n. messages_in encode export_time (before + length part) parts
    ++ messages_in encode export_time n others) count)
    ∙ sym (append_assoc first (messages_in encode export_time (before + length part) parts)
    (messages_in encode export_time (before + length (part ++ together parts)) others))

-- the message of the records that wait, behind those before them
pub data_messages-last : {A : Type 0} (encode : A → RecordSet) (export_time : ℕ) (parts : List (List A))
    (waiting : List A)
    → messages_in encode export_time 0 (parts ++ waiting ∷ [])
    ≡ messages_in encode export_time 0 parts
    ++ message export_time (length (together parts) % 2 ^ 32) (body_in encode waiting)
unfolding messages_in
data_messages-last encode export_time parts waiting =
    data_messages-append encode export_time 0 parts (waiting ∷ [])
    ∙ ap (λ n. messages_in encode export_time 0 parts
    ++ (message export_time (n % 2 ^ 32) (body_in encode waiting) ++ [])) (zero-add (length (together parts)))
    ∙ ap (λ bs. messages_in encode export_time 0 parts ++ bs)
    (append-nil (message export_time (length (together parts) % 2 ^ 32) (body_in encode waiting)))

-- a flow record alone always fits
pub alone-fits : (size : ℕ) (flow : FlowRecord) → 92 ≤ size → message_length (flow ∷ []) ≤ size
alone-fits size flow room =
    let more = length_in-snoc encode_flow [] flow in
    let bounds = record_size-bounds flow in
    let empty = length_in-nil encode_flow in
    omega arith

-- The bytes of filled parts begin a layout of their records and of any others behind them.
pub begins-parts : (size export_time : ℕ) (parts : List (List FlowRecord)) (first : FlowRecord)
    (flows rest : List FlowRecord) (bytes more : List ℕ) → 92 ≤ size
    → AreFilled size (parts ++ (first ∷ flows) ∷ [])
    → template_message export_time ++ data_messages export_time 0 parts ≡ bytes ++ more
    → BeginsLayout size export_time (together parts ++ ((first ∷ flows) ++ rest)) bytes
begins-parts size export_time parts first flows rest bytes more room filled is =
    let later = tail_from encode_flow size parts first flows rest (λ flow. alone-fits size flow room) filled in
    let tail_bytes = data_messages export_time (0 + length (together parts)) later.tail in
    record {
      all = template_message export_time ++ data_messages export_time 0 (parts ++ later.tail);
      more = more ++ tail_bytes;
      layout = record {
        parts = parts ++ later.tail;
        whole = together-append parts later.tail ∙ ap (λ fs. together parts ++ fs) later.whole;
        filled = later.filled;
        written = refl;
      };
      begins =
          ap (λ bs. template_message export_time ++ bs)
          (data_messages-append encode_flow export_time 0 parts later.tail)
          ∙ sym (append_assoc (template_message export_time) (data_messages export_time 0 parts) tail_bytes)
          ∙ ap (λ bs. bs ++ tail_bytes) is
          ∙ append_assoc bytes more tail_bytes;
    }

-- the bytes of a beginning of the template message begin every layout
pub begins-start : (size export_time : ℕ) (flows : List FlowRecord) (bytes more : List ℕ) → 92 ≤ size
    → template_message export_time ≡ bytes ++ more → BeginsLayout size export_time flows bytes
unfolding AreFilledBy messages_in
begins-start size export_time [] bytes more room is = record {
  all = template_message export_time ++ [];
  more = more;
  layout = record { parts = []; whole = refl; filled = tt; written = refl };
  begins = append-nil (template_message export_time) ∙ is;
}
begins-start size export_time (flow ∷ flows) bytes more room is =
    begins-parts size export_time [] flow [] flows bytes more room (omega arith, alone-fits size flow room)
    (append-nil (template_message export_time) ∙ is)
