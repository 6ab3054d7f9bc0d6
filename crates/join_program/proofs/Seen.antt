-- What was seen of a file, by what its source had left when it was opened and when it was closed.
use Rattle.std.proofs.Common.{◌≡◌, ◌<◌, ◌+◌, ◌++◌, ℕ, List, [], ◌∷◌, length, Option, refl, sym}
use Rattle.std.proofs.Common.{ap, ◌∙◌, subst, arith, take, get_or, append-nil}
use Rattle.std.proofs.KnownBytes.{Consumes-nil}
use Rattle.std.proofs.lemmas.List.{take_more}
use Rattle.std.proofs.lemmas.Grind.{flat_map-append}
use Rattle.meter_io.specs.Reading.{TakesAtMost}
use Rattle.meter_io.specs.Sides.{Side}
use Rattle.flow_parts.proofs.Permuted.{AllZip-append}
use Rattle.record_ledger.specs.declared.record.FlowRecord.{FlowRecord}
use Rattle.join_program.specs.Joined.{together}
use Rattle.join_program.specs.Outcome.{HasGiven, HaveGiven}

abbrev seen : Option (List ℕ) → Option (List ℕ) → Side
seen before after = record { before = before; after = after; faults_before = 0; faults_after = 0 }

pub was_shut : (contents : Option (List ℕ))
    → (file : Side) × (file.before ≡ contents) × TakesAtMost 4294967296 file.before file.after
was_shut contents = (seen contents contents, refl, ([], omega arith, Consumes-nil contents))

-- one more file was given
pub given_more : (contents others : List ℕ → Option (List ℕ)) → others ≡ contents → (names : List (List ℕ)) (p : ℕ)
    (name : List ℕ) → p < length names → get_or names p [] ≡ name
    → (inputs : List (List FlowRecord)) (flows : List FlowRecord)
    → HaveGiven contents (take p names) inputs → HasGiven others name flows
    → HaveGiven contents (take (p + 1) names) (inputs ++ flows ∷ [])
given_more contents others same names p name low at inputs flows before one =
    subst (λ ns. HaveGiven contents ns (inputs ++ flows ∷ [])) (sym (take_more names p [] low))
    (AllZip-append (HasGiven contents) (take p names) inputs (get_or names p [] ∷ []) (flows ∷ []) before
    (subst (λ n. HasGiven contents n flows) (sym at) (subst (λ c. HasGiven c name flows) same one), tt))

pub together_more : (inputs : List (List FlowRecord)) (flows : List FlowRecord)
    → together (inputs ++ flows ∷ []) ≡ together inputs ++ flows
together_more inputs flows = flat_map-append (λ (list : List FlowRecord). list) inputs (flows ∷ [])
    ∙ ap (λ l. together inputs ++ l) (append-nil flows)
