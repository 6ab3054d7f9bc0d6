-- What the end of a command says of its status.
use Rattle.std.proofs.Common.{◌≡◌, ◌⊎◌, ◌^◌, true, List, Some, None, refl, sym, subst, ◌∙◌, inl, inr, ⊎_elim}
use Rattle.std.proofs.Common.{true≢false}
use Rattle.std.specs.Prelude.{IsSomeAnd, Ok, Err}
use Rattle.pcap_reader.specs.File.{capture_file, IsKnownLink}
use Rattle.pcap_reader.specs.Records.{damage_of}
use Rattle.pcap_reader.proofs.OneKind.{both-kinds}
use Rattle.meter_io.specs.Sides.{Side, IsUntouched}
use Rattle.meter_io.proofs.Sides.{large-fails, wrong-fails}
use Rattle.meter_program.specs.declared.status.Status.{Status}
use Rattle.meter_program.specs.declared.status.Status.TheVariants.{Done, ReadFault, WriteFault, NotCapture, LinkUnknown}
use Rattle.meter_program.specs.declared.status.Status.TheVariants.{Damaged, TooLarge, NoMemory, Usage, NotStream}
use Rattle.meter_program.specs.declared.status.Status.TheVariants.{BadSchedule}
use Rattle.meter_program.specs.Statuses.{is_refusal}
use Rattle.meter_program.specs.Seen.{Seen, seen_of}
use Rattle.flow_parts.specs.declared.fragment.Fragment.{Fragment}
use Rattle.meter_program.specs.Words.{Asked, meter, show, make, schedule, selftest}
use Rattle.meter_program.specs.Outcome.{Ends, IsValid, IsQuiet}

-- at a refusal only what standard error took is said of it
pub told-by : (asked : Asked) (input output before after : Side) (metered : List Fragment) (told : Type 0)
    (other : Type 0) (status : Status) → is_refusal status ≡ true
    → Ends asked (seen_of input output before metered) told status → other
    → Ends asked (seen_of input output after metered) other status
told-by asked input output before after metered told other Done refusal h new = absurd (true≢false (sym refusal))
told-by asked input output before after metered told other WriteFault refusal h new = absurd (true≢false (sym refusal))
told-by asked input output before after metered told other ReadFault refusal h new =
    record { cause = h.cause; output = h.output; stderr = new }
told-by asked input output before after metered told other Usage refusal h new =
    record { cause = h.cause; output = h.output; stderr = new }
told-by asked input output before after metered told other NotCapture refusal h new =
    record { cause = h.cause; output = h.output; stderr = new }
told-by asked input output before after metered told other (LinkUnknown link) refusal h new =
    record { cause = h.cause; output = h.output; stderr = new }
told-by asked input output before after metered told other (Damaged at) refusal h new =
    record { cause = h.cause; output = h.output; stderr = new }
told-by asked input output before after metered told other TooLarge refusal h new =
    record { cause = h.cause; output = h.output; stderr = new }
told-by asked input output before after metered told other NoMemory refusal h new =
    record { cause = h.cause; output = h.output; stderr = new }
told-by asked input output before after metered told other (NotStream fault) refusal h new =
    record { cause = h.cause; output = h.output; stderr = new }
told-by asked input output before after metered told other (BadSchedule line) refusal h new =
    record { cause = h.cause; output = h.output; stderr = new }

-- ---- a run that nothing hinders is done

pub complete-by : (asked : Asked) (seen : Seen) (told : Type 0) (status : Status) → Ends asked seen told status
    → IsValid asked seen.input → IsQuiet seen
    → (status ≡ Done) ⊎ (status ≡ NoMemory)
complete-by (meter idle active workers sets piece size) seen told Done h valid quiet = inl refl
complete-by (meter idle active workers sets piece size) seen told NoMemory h valid quiet = inr refl
complete-by (meter idle active workers sets piece size) seen told WriteFault h valid quiet =
    absurd (⊎_elim quiet.output quiet.stderr h.cause)
complete-by (meter idle active workers sets piece size) seen told ReadFault h valid quiet =
    absurd (quiet.input h.cause.cause)
complete-by (meter idle active workers sets piece size) seen told Usage h valid quiet = absurd h.cause
complete-by (meter idle active workers sets piece size) seen told TooLarge h valid quiet =
    absurd (large-fails seen.input (2 ^ 30) valid.0 valid.1 valid.2 h.cause)
complete-by (meter idle active workers sets piece size) seen told NotCapture h valid quiet =
    absurd (wrong-fails seen.input (2 ^ 30) valid.0 _ valid.1
    (λ none. subst (λ o. IsSomeAnd o (λ file. IsKnownLink file.link × (damage_of file ≡ None))) none valid.3) h.cause)
complete-by (meter idle active workers sets piece size) seen told (LinkUnknown link) h valid quiet =
    absurd (wrong-fails seen.input (2 ^ 30) valid.0 _ valid.1
    (λ other. both-kinds (capture_file valid.0) _ _ valid.3 other
    (λ file known unknown. unknown.1 (subst IsKnownLink unknown.0 known.0))) h.cause)
complete-by (meter idle active workers sets piece size) seen told (Damaged at) h valid quiet =
    absurd (wrong-fails seen.input (2 ^ 30) valid.0 _ valid.1
    (λ damaged. both-kinds (capture_file valid.0) _ _ valid.3 damaged
    (λ file whole torn. let bad : None ≡ Some at = sym whole.1 ∙ torn.1 in absurd (cc))) h.cause)
complete-by (meter idle active workers sets piece size) seen told (NotStream fault) h valid quiet = absurd h.cause
complete-by (meter idle active workers sets piece size) seen told (BadSchedule line) h valid quiet = absurd h.cause
complete-by show seen told Done h valid quiet = inl refl
complete-by show seen told NoMemory h valid quiet = inr refl
complete-by show seen told WriteFault h valid quiet = absurd (⊎_elim quiet.output quiet.stderr h.cause)
complete-by show seen told ReadFault h valid quiet = absurd (quiet.input h.cause.cause)
complete-by show seen told Usage h valid quiet = absurd h.cause
complete-by show seen told TooLarge h valid quiet =
    absurd (large-fails seen.input (2 ^ 26) valid.0 valid.1 valid.2 h.cause)
complete-by show seen told NotCapture h valid quiet = absurd h.cause
complete-by show seen told (LinkUnknown link) h valid quiet = absurd h.cause
complete-by show seen told (Damaged at) h valid quiet = absurd h.cause
complete-by show seen told (NotStream fault) h valid quiet =
    absurd (wrong-fails seen.input (2 ^ 26) valid.0 _ valid.1
    (λ faulty. let bad : Ok valid.3 ≡ Err fault = sym valid.4 ∙ faulty in absurd (cc)) h.cause)
complete-by show seen told (BadSchedule line) h valid quiet = absurd h.cause
complete-by (make seed packets keys) seen told Done h valid quiet = inl refl
complete-by (make seed packets keys) seen told NoMemory h valid quiet = inr refl
complete-by (make seed packets keys) seen told WriteFault h valid quiet =
    absurd (⊎_elim quiet.output quiet.stderr h.cause)
complete-by (make seed packets keys) seen told ReadFault h valid quiet = absurd h.cause
complete-by (make seed packets keys) seen told Usage h valid quiet = absurd h.cause
complete-by (make seed packets keys) seen told TooLarge h valid quiet = absurd h.cause
complete-by (make seed packets keys) seen told NotCapture h valid quiet = absurd h.cause
complete-by (make seed packets keys) seen told (LinkUnknown link) h valid quiet = absurd h.cause
complete-by (make seed packets keys) seen told (Damaged at) h valid quiet = absurd h.cause
complete-by (make seed packets keys) seen told (NotStream fault) h valid quiet = absurd h.cause
complete-by (make seed packets keys) seen told (BadSchedule line) h valid quiet = absurd h.cause
complete-by schedule seen told Done h valid quiet = inl refl
complete-by schedule seen told NoMemory h valid quiet = inr refl
complete-by schedule seen told WriteFault h valid quiet = absurd (⊎_elim quiet.output quiet.stderr h.cause)
complete-by schedule seen told ReadFault h valid quiet = absurd (quiet.input h.cause.cause)
complete-by schedule seen told Usage h valid quiet = absurd h.cause
complete-by schedule seen told TooLarge h valid quiet =
    absurd (large-fails seen.input (2 ^ 20) valid.0 valid.1 valid.2 h.cause)
complete-by schedule seen told NotCapture h valid quiet = absurd h.cause
complete-by schedule seen told (LinkUnknown link) h valid quiet = absurd h.cause
complete-by schedule seen told (Damaged at) h valid quiet = absurd h.cause
complete-by schedule seen told (NotStream fault) h valid quiet = absurd h.cause
complete-by schedule seen told (BadSchedule line) h valid quiet =
    absurd (wrong-fails seen.input (2 ^ 20) valid.0 _ valid.1
    (λ bad. let never : None ≡ Some line = sym valid.3 ∙ bad in absurd (cc)) h.cause)
complete-by (selftest seed packets keys) seen told Done h valid quiet = inl refl
complete-by (selftest seed packets keys) seen told NoMemory h valid quiet = inr refl
complete-by (selftest seed packets keys) seen told WriteFault h valid quiet = absurd (quiet.output h.cause.0)
complete-by (selftest seed packets keys) seen told ReadFault h valid quiet = absurd h.cause
complete-by (selftest seed packets keys) seen told Usage h valid quiet = absurd h.cause
complete-by (selftest seed packets keys) seen told TooLarge h valid quiet = absurd h.cause
complete-by (selftest seed packets keys) seen told NotCapture h valid quiet = absurd h.cause
complete-by (selftest seed packets keys) seen told (LinkUnknown link) h valid quiet = absurd h.cause
complete-by (selftest seed packets keys) seen told (Damaged at) h valid quiet = absurd h.cause
complete-by (selftest seed packets keys) seen told (NotStream fault) h valid quiet = absurd h.cause
complete-by (selftest seed packets keys) seen told (BadSchedule line) h valid quiet = absurd h.cause

-- the same of what is seen behind the line of the status
pub complete-at : {X Y Z : Type 0} (input : X → Side) (output : Y → Side) (stderr : Z → Side) (asked other : Asked)
    (x x' : X) (y y' : Y) (z z' : Z) (final : Side) (metered metered' : List Fragment) (s s' : Status)
    → x ≡ x' → y ≡ y' → z ≡ z' → s ≡ s' → Ends asked (seen_of (input x') (output y') (stderr z') metered)
    (IsUntouched (stderr z')) s' → is_refusal s ≡ true
    → asked ≡ other → IsValid other (input x) → IsQuiet (seen_of (input x) (output y) final metered')
    → (s ≡ Done) ⊎ (s ≡ NoMemory)
complete-at input output stderr asked other x x' y y' z z' final metered metered' s s' same_x same_y same_z same_s ends
    refusal same valid quiet =
    let at_s : Ends asked (seen_of (input x') (output y') (stderr z') metered) (IsUntouched (stderr z')) s =
    subst (Ends asked (seen_of (input x') (output y') (stderr z') metered) (IsUntouched (stderr z')))
    (sym same_s) ends in
    let at_z : Ends asked (seen_of (input x') (output y') (stderr z) metered) (IsUntouched (stderr z)) s =
    subst (λ v. Ends asked (seen_of (input x') (output y') (stderr v) metered) (IsUntouched (stderr v)) s)
    (sym same_z) at_s in
    let at_y : Ends asked (seen_of (input x') (output y) (stderr z) metered) (IsUntouched (stderr z)) s =
    subst (λ v. Ends asked (seen_of (input x') (output v) (stderr z) metered) (IsUntouched (stderr z)) s)
    (sym same_y) at_z in
    let at_x : Ends asked (seen_of (input x) (output y) (stderr z) metered) (IsUntouched (stderr z)) s =
    subst (λ v. Ends asked (seen_of (input v) (output y) (stderr z) metered) (IsUntouched (stderr z)) s)
    (sym same_x) at_y in
    let told = told-by asked (input x) (output y) (stderr z) final metered (IsUntouched (stderr z))
    (Unit {0}) s refusal at_x tt in
    complete-by asked (seen_of (input x) (output y) final metered) (Unit {0}) s told
    (subst (λ a. IsValid a (input x)) (sym same) valid)
    (record { input = quiet.input; output = quiet.output; stderr = quiet.stderr })
