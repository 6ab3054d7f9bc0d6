-- What is known of the capture file that some bytes are, where they are one.
use Rattle.std.proofs.Common.{Option, Some, None}
use Rattle.std.specs.Prelude.{IsSomeAnd}

-- a file of one kind is of another, where each file is
pub and-so : {X : Type 0} (o : Option X) (P Q : X → Type 0) → IsSomeAnd o P → ((x : X) → P x → Q x) → IsSomeAnd o Q
and-so None P Q p so = p
and-so (Some x) P Q p so = so x p

-- a file isn't of two kinds, where no file is
pub both-kinds : {X : Type 0} (o : Option X) (P Q : X → Type 0) → IsSomeAnd o P → IsSomeAnd o Q
    → ((x : X) → P x → Q x → ⊥) → ⊥
both-kinds None P Q p q never = p
both-kinds (Some x) P Q p q never = never x p q
