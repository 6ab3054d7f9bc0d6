-- Reading all items is reading one, and then all those behind it.
use Rattle.std.proofs.Common.{◌≡◌, ◌<◌, ℕ, zero, suc, Bool, true, false, length, Result, Ok, Err, if◌then◌else◌, refl}
use Rattle.std.proofs.Common.{ap, arith}
use Rattle.ipfix_reader.specs.declared.fault.StreamFault.{StreamFault}
use Rattle.ipfix_reader.specs.declared.fault.StreamError.{StreamError}
use Rattle.ipfix_reader.specs.declared.fault.StreamError.TheVariants.{Fault, NoMemory}
use Rattle.ipfix_reader.specs.Outcome.{IsFaultOf}
use Rattle.octets.specs.Outcome.{◌>>=◌}
use Rattle.ipfix_reader.specs.Part.{Part}
use Rattle.ipfix_reader.specs.Walk.{Reading, at_most, all_items, GoesOn}

-- the reading that an item is given is asked of shorter parts alone
abbrev pub TakesBytes : {S : Type 0} → (Reading S → Reading S) → Type 0
TakesBytes {S} item = (go other : Reading S) (before : S) (part : Part)
    → ((s : S) (p : Part) → length p.bytes < length part.bytes → go s p ≡ other s p)
    → item go before part ≡ item other before part

-- more items than there are bytes are as good as any number of them
at_most-enough : {S : Type 0} (item : Reading S → Reading S) → TakesBytes item → (n m : ℕ) (before : S) (part : Part)
    → length part.bytes < n → length part.bytes < m → at_most n item before part ≡ at_most m item before part
unfolding at_most
at_most-enough item takes zero m before part n_room m_room = absurd (omega arith)
at_most-enough item takes (suc n) zero before part n_room m_room = absurd (omega arith)
at_most-enough item takes (suc n) (suc m) before part n_room m_room =
    takes (at_most n item) (at_most m item) before part
    (λ s p shorter. at_most-enough item takes n m s p (omega arith) (omega arith))

pub goes_on : {S : Type 0} (item : Reading S → Reading S) → TakesBytes item → (before : S) (part : Part)
    → GoesOn item before part
unfolding at_most all_items
goes_on item takes before part =
    takes (at_most (length part.bytes) item) (all_items item) before part
    (λ s p shorter. at_most-enough item takes (length part.bytes) (suc (length p.bytes)) s p shorter (omega arith))

-- two rules that agree wherever the first gives something
pub same_behind : {A B : Type 0} (read : Result A StreamFault) (rule other : A → Result B StreamFault)
    → ((x : A) → read ≡ Ok x → rule x ≡ other x) → (read >>= rule) ≡ (read >>= other)
same_behind (Ok x) rule other same = same x refl
same_behind (Err fault) rule other same = refl

-- what two rules give, the first of them gave something
pub behind_ok : {A B : Type 0} (read : Result A StreamFault) (rule : A → Result B StreamFault) (y : B)
    → (read >>= rule) ≡ Ok y → (x : A) × (read ≡ Ok x) × (rule x ≡ Ok y)
behind_ok (Ok x) rule y is = (x, refl, is)
behind_ok (Err fault) rule y is = cc

-- what a test let through
pub not_fault : {A : Type 0} (test : Bool) (fault : StreamFault) (read : Result A StreamFault) (x : A)
    → (if test then Err fault else read) ≡ Ok x → (test ≡ false) × (read ≡ Ok x)
not_fault true fault read x is = cc
not_fault false fault read x is = (refl, is)

-- the same fact where the test's other side gives something too
pub same_choice : {A : Type 0} (test : Bool) (end one other : A) → (test ≡ false → one ≡ other)
    → (if test then end else one) ≡ (if test then end else other)
same_choice true end one other same = refl
same_choice false end one other same = same refl

-- something that was read
abbrev pub given : {A : Type 0} → A → Result A StreamFault
given x = Ok x

pub same_ok : {A : Type 0} (x y : A) → given x ≡ given y → x ≡ y
same_ok x y is = cc

-- where the first rule has this fault, both have it
pub fault_behind : {A B : Type 0} (read : Result A StreamFault) (rule : A → Result B StreamFault) (error : StreamError)
    → IsFaultOf read error → IsFaultOf (read >>= rule) error
fault_behind read rule (Fault fault) is = ap (λ r. r >>= rule) is
fault_behind read rule NoMemory is = tt

-- the same fault of what is the same
pub fault_of-same : {A : Type 0} (read other : Result A StreamFault) (error : StreamError) → read ≡ other
    → IsFaultOf other error → IsFaultOf read error
fault_of-same read other error same is = rw same is
