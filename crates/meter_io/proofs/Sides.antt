-- What an input gives that had these bytes to give.
use Rattle.std.proofs.Common.{◌≡◌, ◌≤◌, ◌+◌, ◌++◌, ℕ, List, length, Option, Some, None, sym, ap, subst, ◌∙◌, arith}
use Rattle.std.proofs.Common.{length-append}
use Rattle.std.proofs.lemmas.List.{append-nil}
use Rattle.std.specs.Io.KnownBytes.{Consumes, IsAtEnd}
use Rattle.meter_io.specs.Sides.{Side, IsTooLarge, IsWrong}

-- no more was taken than there was
too-large : (before after : Option (List ℕ)) (all taken : List ℕ) (n : ℕ) → before ≡ Some all → length all ≤ n
    → length taken ≡ n + 1 → Consumes before after taken → ⊥
too-large None after all taken n is few many consumed = absurd (cc)
too-large (Some xs) None all taken n is few many consumed = consumed
too-large (Some xs) (Some ys) all taken n is few many consumed =
    let same : xs ≡ all = cc in
    let sizes : length all ≡ length taken + length ys =
    ap (λ zs. length zs) (sym same ∙ consumed) ∙ length-append taken ys in
    absurd (omega (arith, few, many, sizes))

-- what was read to the end is all that there was
pub all-read : (before after : Option (List ℕ)) (all bytes : List ℕ) → before ≡ Some all → Consumes before after bytes
    → IsAtEnd after → bytes ≡ all
all-read None after all bytes is consumed ended = absurd (cc)
all-read (Some xs) None all bytes is consumed ended = absurd consumed
all-read (Some xs) (Some ys) all bytes is consumed ended =
    let same : xs ≡ all = cc in
    sym (append-nil bytes) ∙ ap (λ zs. bytes ++ zs) (sym ended) ∙ sym consumed ∙ same

-- an input of at most `n` bytes isn't too large
pub large-fails : (input : Side) (n : ℕ) (all : List ℕ) → input.before ≡ Some all → length all ≤ n
    → IsTooLarge input n → ⊥
large-fails input n all is few large = too-large input.before input.after all large.0 n is few large.1 large.2

-- an input of these bytes is wrong in no way in which they aren't
pub wrong-fails : (input : Side) (n : ℕ) (all : List ℕ) (Fault : List ℕ → Type 0) → input.before ≡ Some all
    → (Fault all → ⊥) → IsWrong input n Fault → ⊥
wrong-fails input n all Fault is never wrong =
    never (subst Fault (all-read input.before input.after all wrong.bytes is wrong.read.given wrong.read.ended)
    wrong.fault)
