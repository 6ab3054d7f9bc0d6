-- What was taken, one part behind another.
use Rattle.std.proofs.Common.{◌≡◌, ◌+◌, ℕ, true, false, List, [], ◌∷◌, ◌++◌, Result, Ok, Err}
use Rattle.std.proofs.Common.{refl, ◌∙◌, arith, length-append, IfOk, IfErr, OnOk}
use Rattle.ipfix_model.specs.declared.values.DataRecord.{DataRecord}
use Rattle.ipfix_reader.specs.declared.fault.StreamFault.{StreamFault}
use Rattle.ipfix_reader.specs.declared.fault.StreamFault.TheVariants.{BadPadding}
use Rattle.ipfix_reader.specs.Part.{Part, are_zeros}
use Rattle.ipfix_reader.specs.Records.{padding_end}
use Rattle.ipfix_reader.specs.Taking.{IsTaken}

-- nothing was taken
pub taken-nothing : {S : Type 0} (has : List DataRecord → Type 0) (before : List DataRecord)
    (reading : Result S StreamFault) (gives : List DataRecord → Result S StreamFault) → has before
    → reading ≡ gives before → IsTaken has before 0 reading gives
taken-nothing has before reading gives taken is =
    record { after = before; taken = taken; counted = omega arith; reads = is }

-- what was taken behind what was taken before
pub taken-then : {S : Type 0} (has then_has : List DataRecord → Type 0) (before : List DataRecord)
    (count more all : ℕ) (reading : Result S StreamFault) (middle gives : List DataRecord → Result S StreamFault)
    → all ≡ count + more → IsTaken has before count reading middle
    → ((after : List DataRecord) → has after → IsTaken then_has after more (middle after) gives)
    → IsTaken then_has before all reading gives
taken-then has then_has before count more all reading middle gives sum first next =
    let second = next first.after first.taken in
    let one = first.counted in
    let other = second.counted in
    record {
      after = second.after;
      taken = second.taken;
      counted = omega (arith, one, other, sum);
      reads = first.reads ∙ second.reads;
    }

-- and the reading gives something else that is the same
pub taken-same : {S : Type 0} (has : List DataRecord → Type 0) (before : List DataRecord) (count : ℕ)
    (reading : Result S StreamFault) (gives other : List DataRecord → Result S StreamFault)
    → ((after : List DataRecord) → gives after ≡ other after) → IsTaken has before count reading gives
    → IsTaken has before count reading other
taken-same has before count reading gives other same is =
    record { after = is.after; taken = is.taken; counted = is.counted; reads = is.reads ∙ same is.after }

-- one record was taken
pub taken-one : {S : Type 0} (has : List DataRecord → Type 0) (before : List DataRecord) (one : DataRecord)
    (reading : Result S StreamFault) (gives : List DataRecord → Result S StreamFault) → has (before ++ one ∷ [])
    → reading ≡ gives (before ++ one ∷ []) → IsTaken has before 1 reading gives
taken-one has before one reading gives taken is = record {
  after = before ++ one ∷ [];
  taken = taken;
  counted = length-append before (one ∷ []);
  reads = is;
}

-- the padding
pub padded : {S : Type 0} (before : S) (part : Part) → are_zeros part.bytes ≡ true → padding_end before part ≡ Ok before
padded before part is = rw is refl

pub unpadded : {S : Type 0} (before : S) (part : Part) → are_zeros part.bytes ≡ false
    → padding_end before part ≡ Err (BadPadding part.at)
unpadded before part is = rw is refl

-- a fact of an outcome, under another
pub weaken-ok : {T E : Type 0} (r : Result T E) (P Q : T → Type 0) → IfOk r P → ((x : T) → P x → Q x) → IfOk r Q
weaken-ok (Ok x) P Q h f = f x h
weaken-ok (Err e) P Q h f = tt

pub weaken-err : {T E : Type 0} (r : Result T E) (P Q : E → Type 0) → IfErr r P → ((e : E) → P e → Q e) → IfErr r Q
weaken-err (Ok x) P Q h f = tt
weaken-err (Err e) P Q h f = f e h

pub when-ok : {T E : Type 0} (r : Result T E) (P Q : Type 0) → OnOk r P → (P → Q) → OnOk r Q
when-ok (Ok x) P Q h f = f h
when-ok (Err e) P Q h f = tt
