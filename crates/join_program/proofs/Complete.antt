-- Nothing is wrong with valid files where no call failed.
use Rattle.std.proofs.Common.{◌≡◌, ◌≤◌, ◌<◌, ◌++◌, ℕ, zero, suc, List, [], ◌∷◌, length, get_or, take, Option, Some, Err}
use Rattle.std.proofs.Common.{refl, sym}
use Rattle.std.proofs.Common.{ap, ◌∙◌, subst, arith, append_assoc}
use Rattle.std.specs.List.{AllZip}
use Rattle.std.proofs.lemmas.Grind.{flat_map-append}
use Rattle.meter_io.proofs.Sides.{all-read, large-fails, wrong-fails}
use Rattle.record_ledger.specs.declared.record.FlowRecord.{FlowRecord}
use Rattle.ipfix_reader.specs.Messages.{decode}
use Rattle.ipfix_reader.specs.Flows.{flows_of}
use Rattle.join_program.specs.declared.status.FileFault.{FileFault}
use Rattle.join_program.specs.declared.status.FileFault.TheVariants.{ReadFault, TooLarge, NotStream, NotFlows, TooMany}
use Rattle.join_program.specs.Joined.{together, AreFew}
use Rattle.join_program.specs.Outcome.{Files, AreBroken, HasGiven, HaveGiven, IsFile, AreValid, IsFirstWrong}
use Rattle.ipfix_reader.specs.Others.{HasOther}
use Rattle.join_program.specs.Outcome.{HasTooMany}
use Rattle.join_program.specs.Words.{Asked, OneOf}
use Rattle.join_program.proofs.Counts.{few-front}
use Rattle.join_program.proofs.Whole.{no_fault, no_other}

same_some : {A : Type 0} (a b : A) → ◌≡◌ {A = Option A} (Some a) (Some b) → a ≡ b
same_some a b e = cc

-- a file that was given has the flow records that it has
one_given : (contents : List ℕ → Option (List ℕ)) (name bytes : List ℕ) (flows others : List FlowRecord)
    → contents name ≡ Some bytes → flows_of bytes ≡ Some flows → HasGiven contents name others → others ≡ flows
one_given contents name bytes flows others told are given =
    let same = all-read given.file.before given.file.after bytes given.bytes (given.opened ∙ told) given.read.given
    given.read.ended in
    same_some others flows (sym given.are ∙ ap flows_of same ∙ are)

-- the file at a place, and the inputs before it and behind it
pub record IsAt (contents : List ℕ → Option (List ℕ)) (name : List ℕ) (before all : List (List FlowRecord))
    : Type 0 where
  pub bytes : List ℕ
  pub told : contents name ≡ Some bytes
  pub few : length bytes ≤ 4294967296
  pub flows : List FlowRecord
  pub are : flows_of bytes ≡ Some flows
  pub rest : List (List FlowRecord)
  pub whole : all ≡ before ++ flows ∷ rest

pub at_place : (contents : List ℕ → Option (List ℕ)) (names streams : List (List ℕ))
    (all before : List (List FlowRecord))
    (place : ℕ) → AllZip (IsFile contents) names streams
    → AllZip (λ bytes flows. flows_of bytes ≡ Some flows) streams all
    → HaveGiven contents (take place names) before → place < length names
    → IsAt contents (get_or names place []) before all
at_place contents [] streams all before place told are given low = absurd (omega (arith, low))
at_place contents (n ∷ ns) [] all before place told are given low = absurd told
at_place contents (n ∷ ns) (s ∷ ss) [] before place told are given low = absurd are
at_place contents (n ∷ ns) (s ∷ ss) (x ∷ xs) [] zero told are given low = record {
  bytes = s;
  told = told.0.0;
  few = told.0.1;
  flows = x;
  are = are.0;
  rest = xs;
  whole = refl;
}
at_place contents (n ∷ ns) (s ∷ ss) (x ∷ xs) (b ∷ bs) zero told are given low = absurd given
at_place contents (n ∷ ns) (s ∷ ss) (x ∷ xs) [] (suc place) told are given low = absurd given
at_place contents (n ∷ ns) (s ∷ ss) (x ∷ xs) (b ∷ bs) (suc place) told are given low =
    let more = at_place contents ns ss xs bs place told.1 are.1 given.1 (omega (arith, low)) in
    let same : b ≡ x = one_given contents n s x b told.0.0 are.0 given.0 in
    record {
      bytes = more.bytes;
      told = more.told;
      few = more.few;
      flows = more.flows;
      are = more.are;
      rest = more.rest;
      whole = ap (λ y. y ∷ xs) (sym same) ∙ ap (λ ys. b ∷ ys) more.whole;
    }

-- the records of a file aren't too many with those before it
few_at : (share : Option OneOf) (before all : List (List FlowRecord)) (flows : List FlowRecord)
    (rest : List (List FlowRecord)) → all ≡ before ++ flows ∷ rest → AreFew share (together all)
    → AreFew share (together before ++ flows)
few_at share before all flows rest whole few =
    few-front share (together before ++ flows) (together rest)
    (subst (AreFew share) (ap together whole ∙ flat_map-append (λ (list : List FlowRecord). list) before (flows ∷ rest)
    ∙ sym (append_assoc (together before) flows (together rest))) few)

pub first_fails : (asked : Asked) (files : Files) (place : ℕ) (fault : FileFault) → AreValid asked files.contents
    → (AreBroken files → ⊥) → IsFirstWrong asked files place fault → ⊥
first_fails asked files place ReadFault valid quiet first = quiet first.cause
first_fails asked files place TooLarge valid quiet first =
    let at = at_place files.contents asked.files valid.streams valid.inputs first.inputs place valid.told valid.are
    first.given first.inside in
    large-fails first.file 4294967296 at.bytes (first.opened ∙ at.told) at.few first.wrong
first_fails asked files place (NotStream fault) valid quiet first =
    let at = at_place files.contents asked.files valid.streams valid.inputs first.inputs place valid.told valid.are
    first.given first.inside in
    wrong-fails first.file 4294967296 at.bytes (λ bytes. decode bytes ≡ Err fault) (first.opened ∙ at.told)
    (no_fault at.bytes at.flows fault at.are) first.wrong
first_fails asked files place (NotFlows other) valid quiet first =
    let at = at_place files.contents asked.files valid.streams valid.inputs first.inputs place valid.told valid.are
    first.given first.inside in
    wrong-fails first.file 4294967296 at.bytes (HasOther other) (first.opened ∙ at.told)
    (λ has. no_other at.bytes at.flows has.0 other at.are has.1 has.2) first.wrong
first_fails asked files place TooMany valid quiet first =
    let at = at_place files.contents asked.files valid.streams valid.inputs first.inputs place valid.told valid.are
    first.given first.inside in
    wrong-fails first.file 4294967296 at.bytes (HasTooMany asked.share (together first.inputs)) (first.opened ∙ at.told)
    (λ many. many.2 (subst (λ fs. AreFew asked.share (together first.inputs ++ fs))
    (same_some at.flows many.0 (sym at.are ∙ many.1))
    (few_at asked.share first.inputs valid.inputs at.flows at.rest at.whole valid.few))) first.wrong
