-- What went out is the layout of the pairs.
use Rattle.std.proofs.Common.{◌≡◌, ◌∙◌, ◌≤◌, ℕ, List, subst}
use Rattle.ipfix_writer.specs.Layout.{IsStream}
use Rattle.pair_program.specs.declared.biflow.Biflow.{Biflow}
use Rattle.pair_program.specs.BiLayout.{bi_template_message, encode_biflow, IsBiLayout}
use Rattle.pair_program.specs.Pairing.{IsPaired}

-- A stream by its parts: the first message and the pairs as they were handed on.
layout-of : (size seconds : ℕ) (first bytes : List ℕ) (given pairs : List Biflow) → first ≡ bi_template_message seconds
    → given ≡ pairs → IsStream encode_biflow size seconds first given bytes → IsBiLayout size seconds pairs bytes
layout-of size seconds first bytes given pairs first_is given_is stream =
    subst (λ ps. IsBiLayout size seconds ps bytes) given_is
    (subst (λ f. IsStream encode_biflow size seconds f given bytes) first_is stream)

-- and it is the answer to the stream that was read
pub answer-of : (idle size seconds : ℕ) (first made bytes read : List ℕ) (given pairs : List Biflow)
    → ((n : ℕ) (written : List ℕ) → n ≤ 65535 → IsBiLayout n seconds pairs written → IsPaired idle n read written)
    → size ≤ 65535 → first ≡ made → made ≡ bi_template_message seconds → given ≡ pairs
    → IsStream encode_biflow size seconds first given bytes → IsPaired idle size read bytes
answer-of idle size seconds first made bytes read given pairs paired small first_is made_is given_is stream =
    paired size bytes small (layout-of size seconds first bytes given pairs (first_is ∙ made_is) given_is stream)
