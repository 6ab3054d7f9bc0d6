-- The key with six fields as a function: the one answer that `IsKeyOf` allows, as the law `keys_have_fields` says.
use Rattle.std.specs.Prelude.{◌≡◌, ◌≢◌, ◌<◌, ◌^◌, Option, Some, None}
use mathlib.Core.Logic.Dec.{and, not}
use native.Mathlib.Decide.{ℕ_discrete, dec_lt}
use Rattle.flow_key.specs.declared.key.FlowKey.{FlowKey}
use Rattle.flow_key.specs.Fields.{KeyFields, AreFit}

-- Whether one fact implies another, where both are decided.
unfoldable pub implies : {P Q : Type 0} → Dec P → Dec Q → Dec (P → Q)
implies (yes p) (yes q) = yes (λ p'. q)
implies (yes p) (no q) = no (λ rule. q (rule p))
implies (no p) decided = yes (λ p'. absurd (p p'))

-- Whether five facts hold.
unfoldable pub all_five : {A B C D E : Type 0} → Dec A → Dec B → Dec C → Dec D → Dec E → Dec (A × B × C × D × E)
all_five (yes a) (yes b) (yes c) (yes d) (yes e) = yes (a, b, c, d, e)
all_five (yes a) (yes b) (yes c) (yes d) (no e) = no (λ facts. e facts.4)
all_five (yes a) (yes b) (yes c) (no d) e = no (λ facts. d facts.3)
all_five (yes a) (yes b) (no c) d e = no (λ facts. c facts.2)
all_five (yes a) (no b) c d e = no (λ facts. b facts.1)
all_five (no a) b c d e = no (λ facts. a facts.0)

-- Whether numbers fit, where each of the three facts is decided.
unfoldable pub all_fit : (f : KeyFields) → Dec (f.version ≢ 4 → f.version ≡ 6)
    → Dec (f.version ≡ 4 → (f.source < 2 ^ 32) × (f.destination < 2 ^ 32))
    → Dec ((f.source < 2 ^ 128) × (f.destination < 2 ^ 128) × (f.protocol < 2 ^ 8) × (f.source_port < 2 ^ 16)
    × (f.destination_port < 2 ^ 16))
    → Dec (AreFit f)
all_fit f (yes known) (yes narrow) (yes sized) = yes (record { known = known; narrow = narrow; sized = sized })
all_fit f (yes known) (yes narrow) (no sized) = no (λ fit. sized fit.sized)
all_fit f (yes known) (no narrow) sized = no (λ fit. narrow fit.narrow)
all_fit f (no known) narrow sized = no (λ fit. known fit.known)

-- Whether six numbers fit the fields of a key.
unfoldable pub fit_or_not : (f : KeyFields) → Dec (AreFit f)
fit_or_not f =
    all_fit f
    (implies (not (ℕ_discrete f.version 4)) (ℕ_discrete f.version 6))
    (implies (ℕ_discrete f.version 4) (and (dec_lt f.source (2 ^ 32)) (dec_lt f.destination (2 ^ 32))))
    (all_five (dec_lt f.source (2 ^ 128)) (dec_lt f.destination (2 ^ 128)) (dec_lt f.protocol (2 ^ 8))
    (dec_lt f.source_port (2 ^ 16)) (dec_lt f.destination_port (2 ^ 16)))

-- The key with these fields where they fit, and none where they don't.
unfoldable pub key_where : (f : KeyFields) → Dec (AreFit f) → Option FlowKey
key_where f (yes fit) = Some (record {
  version = f.version;
  source = f.source;
  destination = f.destination;
  protocol = f.protocol;
  source_port = f.source_port;
  destination_port = f.destination_port;
  known = fit.known;
  narrow = fit.narrow;
  sized = fit.sized;
})
key_where f (no unfit) = None

-- The key with these fields, and none where they don't fit.
unfoldable pub key_with : KeyFields → Option FlowKey
key_with fields = key_where fields (fit_or_not fields)
