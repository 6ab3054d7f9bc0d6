-- Passes are dealt from the last seat on.
use Rattle.std.proofs.Common.{◌≡◌, ◌≢◌, ℕ, ◌+◌, ◌-◌, ◌<◌, List, [], ◌∷◌, ◌++◌, length, get_or, reverse, refl, sym, ap}
use Rattle.std.proofs.Common.{◌∙◌, subst, arith}
use Rattle.std.proofs.lemmas.List.{length-append, get_or-reverse, get_or_append_left}
use mathlib.Core.Logic.{dite}
use native.Mathlib.Decide.{ℕ_discrete}

last_at : {A : Type 0} (xs : List A) (x d : A) → get_or (xs ++ x ∷ []) (length xs) d ≡ x
last_at [] x d = refl
last_at (y ∷ xs) x d = last_at xs x d

-- the last of a list, and those before it
pub last_of : {A : Type 0} (P : ℕ → A → Type 0) (all rest : List A) (x : A) → all ≡ rest ++ x ∷ []
    → ((i : ℕ) (d : A) → i < length all → P i (get_or all i d)) → P (length rest) x
last_of P all rest x is each = subst (P (length rest)) (ap (λ l. get_or l (length rest) x) is ∙ last_at rest x x)
    (each (length rest) x (let e = ap length is in let f = length-append rest (x ∷ []) in omega (arith, e, f)))

pub before_last : {A : Type 0} (P : ℕ → A → Type 0) (all rest : List A) (x : A) → all ≡ rest ++ x ∷ []
    → ((i : ℕ) (d : A) → i < length all → P i (get_or all i d)) → (i : ℕ) (d : A) → i < length rest
    → P i (get_or rest i d)
before_last P all rest x is each i d lt =
    subst (P i) (ap (λ l. get_or l i d) is ∙ get_or_append_left rest (x ∷ []) d i lt)
    (each i d (let e = ap length is in let f = length-append rest (x ∷ []) in omega (arith, e, f, lt)))

-- one more, which stands for the number before
pub one_more : {B : Type 0} (Q : ℕ → B → Type 0) (seats : ℕ) (done : List B) (b : B) (number : ℕ)
    → number + 1 + length done ≡ seats → ((k : ℕ) (d : B) → k < length done → Q (seats - 1 - k) (get_or done k d))
    → Q number b
    → (k : ℕ) (d : B) → k < length (done ++ b ∷ []) → Q (seats - 1 - k) (get_or (done ++ b ∷ []) k d)
one_more Q seats done b number count each here k d lt = dite (ℕ_discrete k (length done))
    (λ (same : k ≡ length done). subst (λ n. Q (seats - 1 - n) (get_or (done ++ b ∷ []) n d)) (sym same)
    (subst (λ n. Q n (get_or (done ++ b ∷ []) (length done) d))
    (let e : number ≡ seats - 1 - length done = omega (arith, count) in e)
    (subst (Q number) (sym (last_at done b d)) here)))
    (λ (apart : k ≢ length done). let near : k < length done =
    (let e = length-append done (b ∷ []) in omega (arith, e, lt, apart)) in
    subst (Q (seats - 1 - k)) (sym (get_or_append_left done (b ∷ []) d k near)) (each k d near))

-- turned round, each stands for its place
pub turned : {B : Type 0} (Q : ℕ → B → Type 0) (seats : ℕ) (done : List B) → length done ≡ seats
    → ((k : ℕ) (d : B) → k < length done → Q (seats - 1 - k) (get_or done k d)) → (i : ℕ) (d : B) → i < seats
    → Q i (get_or (reverse done) i d)
turned Q seats done count each i d lt =
    subst (Q i) (sym (get_or-reverse done i d (omega (arith, count, lt))))
    (subst (λ n. Q n (get_or done (length done - 1 - i) d))
    (let e : seats - 1 - (length done - 1 - i) ≡ i = omega (arith, count, lt) in e)
    (each (length done - 1 - i) d (omega (arith, count, lt))))
