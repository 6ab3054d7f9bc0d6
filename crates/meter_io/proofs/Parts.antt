-- A piece that is written in parts, and the first bytes of what is read in parts.
use Rattle.std.proofs.Common.{◌≡◌, ◌+◌, ◌++◌, List, ℕ, length, min, take, drop, subst, sym, ap, ◌∙◌, arith}
use Rattle.std.proofs.Math.Seq.{take-add, take-append-add}
use Rattle.std.proofs.KnownBytes.{Appends-trans}
use Rattle.std.specs.declared.option.Option.{Option}
use Rattle.std.specs.Io.KnownBytes.{Appends}
use Rattle.std.proofs.lemmas.List.{take_min}

-- after `done` bytes of a piece the next `count` of them are appended
pub Appends-next : (a b c : Option (List ℕ)) (piece rest : List ℕ) (done count : ℕ) → rest ≡ drop done piece
    → Appends a b (take done piece) → Appends b c (take count rest) → Appends a c (take (done + count) piece)
Appends-next a b c piece rest done count is first second =
    subst (Appends a c) (sym (take-add done count piece))
    (Appends-trans a b c _ _ first (subst (λ bytes. Appends b c (take count bytes)) is second))

-- the bytes that find room behind those that are there: with these, `room` more
pub take_room : (size room : ℕ) (first given : List ℕ) → room + length first ≡ size
    → first ++ take (min room (length given)) given ≡ take size (first ++ given)
take_room size room first given is =
    let here : first ++ take (min room (length given)) given ≡ first ++ take room given =
    ap (λ bytes. first ++ bytes) (take_min room given) in
    let sizes : size ≡ length first + room = omega (arith, is) in
    here ∙ sym (subst (λ n. take n (first ++ given) ≡ first ++ take room given) (sym sizes)
    (take-append-add first given room))
