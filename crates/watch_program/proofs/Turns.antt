-- Answers to keys in turn.
use Rattle.std.proofs.Common.{◌≡◌, ◌<◌, ◌+◌, ◌%◌, ℕ, List, [], ◌∷◌, ◌++◌, length, get_or, refl, sym, subst, arith}
use Rattle.std.proofs.Common.{length-append, lt_of_not-le}
use Rattle.std.proofs.Math.Seq.{get_or-append_seam}
use Rattle.std.proofs.lemmas.List.{get_or_append_left, get_or_read_under}
use native.Mathlib.Decide.{dec_le}
use mathlib.Core.Logic.{dite}
use Rattle.flow_key.specs.declared.key.FlowKey.{FlowKey}
use Rattle.watch_program.specs.declared.answer.Answer.{Answer}
use Rattle.watch_program.specs.Answers.{IsOfKey, AreInTurn}

-- one more answer, to the key whose turn it is
one-more : (keys : List FlowKey) (answers : List Answer) (answer : Answer) (at : FlowKey)
    → ((d : FlowKey) → get_or keys (length answers % length keys) d ≡ at) → IsOfKey at answer
    → AreInTurn keys answers → AreInTurn keys (answers ++ answer ∷ [])
one-more keys answers answer at is own before = λ k key other low.
    let size : length (answers ++ answer ∷ []) ≡ length answers + 1 = length-append answers (answer ∷ []) in
    dite (dec_le (length answers) k)
    (λ last.
    let here : length answers ≡ k = omega (arith, last, low, size) in
    let own_key : IsOfKey (get_or keys (length answers % length keys) key) answer =
    subst (λ q. IsOfKey q answer) (sym (is key)) own in
    let own_place : IsOfKey (get_or keys (length answers % length keys) key)
    (get_or (answers ++ answer ∷ []) (length answers) other) =
    subst (λ a. IsOfKey (get_or keys (length answers % length keys) key) a)
    (sym (get_or-append_seam answers answer [] other)) own_key in
    subst (λ j. IsOfKey (get_or keys (j % length keys) key) (get_or (answers ++ answer ∷ []) j other)) here own_place)
    (λ earlier.
    let lt : k < length answers = lt_of_not-le earlier in
    subst (λ a. IsOfKey (get_or keys (k % length keys) key) a)
    (sym (get_or_append_left answers (answer ∷ []) other k lt)) (before k key other lt))

pub next-in-turn : (keys : List FlowKey) (answers after : List Answer) (answer : Answer) (at : FlowKey) (k : ℕ)
    → length answers ≡ k
    → at ≡ get_or keys (k % length keys) at → k % length keys < length keys → IsOfKey at answer
    → after ≡ answers ++ answer ∷ []
    → AreInTurn keys answers → AreInTurn keys after
next-in-turn keys answers after answer at k many is below own pushed before =
    subst (AreInTurn keys) (sym pushed)
    (one-more keys answers answer at
    (λ d. sym
    (subst (λ j. at ≡ get_or keys (j % length keys) d) (sym many)
    (get_or_read_under keys (k % length keys) (length keys) at d is below refl))) own before)
