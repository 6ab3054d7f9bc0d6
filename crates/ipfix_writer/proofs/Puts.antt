-- Numbers that are put at their places, one behind the other.
use Rattle.std.proofs.Common.{◌≡◌, ◌+◌, ◌≤◌, ℕ, List, ◌++◌, length, take, sym, ap, ◌∙◌, arith, append_assoc, length-append}
use Rattle.std.proofs.lemmas.List.{take_at, take_all, length-take-le}
use Rattle.octets.specs.Numbers.{octets_of}
use Rattle.ipfix_writer.specs.DataParts.{IsPut}
use borrow.Rule.Slice.PartMut.{put_mid}

-- a number that is written to the octets from a place on
pub written-put : (size place room value : ℕ) (octets rest : List ℕ) → place ≤ length octets
    → IsPut place (octets_of size value) octets (put_mid place room octets (octets_of size value ++ rest))
written-put size place room value octets rest inside =
    let front : List ℕ = take place octets in
    let number : List ℕ = octets_of size value in
    let whole = ap (λ (l : List ℕ). front ++ l) (append_assoc number rest _) ∙ sym (append_assoc front number _) in
    let long = length-append front number in
    let before = length-take-le place octets inside in
    record { behind = ap (take (place + length number)) whole ∙ take_at (front ++ number) _ _ (omega arith) }

-- bytes behind those that were put before
pub then-put : {place next : ℕ} {xs ys old between new : List ℕ} → IsPut place xs old between
    → next ≡ place + length xs → IsPut next ys between new → IsPut place (xs ++ ys) old new
then-put {place = place} {next = next} {xs = xs} {ys = ys} {old = old} {between = between} {new = new} one at other =
    let long = length-append xs ys in
    let ends : place + length (xs ++ ys) ≡ next + length ys = omega arith in
    record {
      behind =
          ap (λ n. take n new) ends ∙ other.behind ∙ ap (λ n. take n between ++ ys) at
          ∙ ap (λ (l : List ℕ). l ++ ys) one.behind ∙ append_assoc (take place old) xs ys;
    }

-- bytes that were put from the first place to the last are all
pub all-put : {xs old new : List ℕ} → IsPut 0 xs old new → length new ≡ length xs → new ≡ xs
all-put {xs = xs} {new = new} whole long = sym (take_all (0 + length xs) new (omega arith)) ∙ whole.behind
