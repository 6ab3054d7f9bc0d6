-- Where an undamaged capture was given and no call failed, a command is done, or memory ran out.
use Rattle.std.proofs.Common.{◌≡◌, ◌⊎◌, inl, inr, ℕ, List, Option, Some, None, refl, sym, ◌∙◌, subst}
use Rattle.std.specs.Prelude.{IsSomeAnd}
use Rattle.pcap_reader.specs.File.{IsKnownLink, capture_file}
use Rattle.pcap_reader.specs.Records.{damage_of}
use Rattle.pcap_reader.proofs.OneKind.{both-kinds}
use Rattle.meter_io.specs.Sides.{Side, HasFailed}
use Rattle.meter_io.proofs.Sides.{large-fails, wrong-fails}
use Rattle.watch_program.specs.declared.status.WatchStatus.{WatchStatus}
use Rattle.watch_program.specs.declared.status.WatchStatus.TheVariants.{Done, ReadFault, Usage, WriteFault, NotCapture}
use Rattle.watch_program.specs.declared.status.WatchStatus.TheVariants.{LinkUnknown, Damaged, TooLarge, NoMemory}
use Rattle.watch_program.specs.Outcome.{Ends, IsValid, limit}
use Rattle.watch_program.specs.Words.{Asked}

none-is : {A : Type 0} (a : A) → ◌≡◌ {A = Option A} None (Some a) → ⊥
none-is a e = absurd (cc)

pub completes : (asked : Asked) (input output : Side) (bytes : List ℕ) (status : WatchStatus)
    → Ends asked input output status
    → input.before ≡ Some bytes → IsValid bytes → ¬ HasFailed input → ¬ HasFailed output
    → (status ≡ Done) ⊎ (status ≡ NoMemory)
completes asked input output bytes Done ends is valid quiet quiet' = inl refl
completes asked input output bytes NoMemory ends is valid quiet quiet' = inr refl
completes asked input output bytes WriteFault ends is valid quiet quiet' = absurd (quiet' ends.cause)
completes asked input output bytes ReadFault ends is valid quiet quiet' = absurd (quiet ends.cause.cause)
completes asked input output bytes Usage ends is valid quiet quiet' = absurd ends.cause
completes asked input output bytes TooLarge ends is valid quiet quiet' =
    absurd (large-fails input limit bytes is valid.0 ends.cause)
completes asked input output bytes NotCapture ends is valid quiet quiet' =
    absurd (wrong-fails input limit bytes _ is
    (λ none. subst (λ o. IsSomeAnd o (λ file. IsKnownLink file.link × (damage_of file ≡ None))) none valid.1)
    ends.cause)
completes asked input output bytes (LinkUnknown link) ends is valid quiet quiet' =
    absurd (wrong-fails input limit bytes _ is
    (λ other. both-kinds (capture_file bytes) _ _ valid.1 other
    (λ file known unknown. unknown.1 (subst IsKnownLink unknown.0 known.0))) ends.cause)
completes asked input output bytes (Damaged at) ends is valid quiet quiet' =
    absurd (wrong-fails input limit bytes _ is
    (λ damaged. both-kinds (capture_file bytes) _ _ valid.1 damaged
    (λ file whole torn. none-is at (sym whole.1 ∙ torn.1))) ends.cause)
