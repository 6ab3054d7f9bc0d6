-- Pieces of things, how they are drawn, and that all of them are all things.
use Rattle.std.proofs.Common.{◌≡◌, ℕ, zero, suc, ◌+◌, ◌-◌, ◌*◌, ◌/◌, ◌%◌, ◌<◌, ◌≤◌, min, List, [], ◌∷◌, ◌++◌, length}
use Rattle.std.proofs.Common.{take, drop, sym, ap, ◌∙◌, subst, arith, append-nil, length-drop, mul-le-mul_right, mod-lt}
use Rattle.std.proofs.Common.{div-add-mod'}
use Rattle.std.specs.Prelude.{IsPermutation}
use Rattle.std.proofs.lemmas.Grind.{flat_map-append}
use Rattle.std.proofs.lemmas.List.{take_min, take_all}
use Rattle.std.proofs.Math.Seq.{take-add}
use Rattle.work_pieces.specs.Cutting.{piece_of, pieces_of}
use Rattle.work_pieces.specs.Dealing.{times, EachOnce}
use Rattle.work_pieces.proofs.Once.{upto, times-last, once-together}

-- All pieces that can still be drawn lie behind what is done. `place` is the number of the first such, and `counted`
-- how many things were done before.
pub record IsBehind (size counted : ℕ) (drawn : List ℕ) (done : ℕ) : Type 0 where
  pub place : ℕ
  pub next : (n : ℕ) → ((x : ℕ) → 0 < times x drawn → x < n) → place ≤ n
  pub few : done ≤ counted + place * size

module _ (size counted : ℕ) where
  -- nothing is drawn before the first piece
  pub behind-none : (drawn : List ℕ) → IsBehind size counted drawn counted
  behind-none drawn = record { place = 0; next = λ n all. omega arith; few = omega arith }

  -- no more things are done than stand before a piece that is drawn
  pub behind-next : (n done : ℕ) (drawn : List ℕ) → IsBehind size counted drawn done
      → ((x : ℕ) → 0 < times x drawn → x < n) → done ≤ counted + n * size
  behind-next n done drawn b rises =
      let m = mul-le-mul_right {m = b.place} {n = n} size (b.next n rises) in
      let few = b.few in
      omega (arith, m, few)

  -- and once it is done
  pub behind-more : (n done done' stop : ℕ) (drawn : List ℕ) → stop ≤ (n + 1) * size
      → done ≤ counted + n * size → done' + n * size ≡ done + stop
      → IsBehind size counted (drawn ++ n ∷ []) done'
  behind-more n done done' stop drawn within few grown = record {
    place = n + 1;
    next = λ m all. (let h = all n (times-last n drawn) in omega (arith, h));
    few = omega (arith, within, few, grown);
  }

module _ {X : Type 0} (size : ℕ) (things : List X) where
  piece_is : (n : ℕ) → piece_of size things n ≡ take size (drop (n * size) things)
  piece_is n = let e : min ((n + 1) * size) (length things) - n * size ≡ min size (length (drop (n * size) things)) =
      rw length-drop (omega arith) in
      ap (λ k. take k (drop (n * size) things)) e ∙ take_min size (drop (n * size) things)

  taken : (n : ℕ) → pieces_of size things (upto n) ≡ take (n * size) things
  taken zero = ap (λ k. take k things) (let e : 0 ≡ 0 * size = omega arith in e)
  taken (suc n) = flat_map-append (piece_of size things) (upto n) (n ∷ [])
      ∙ ap (λ l. pieces_of size things (upto n) ++ l) (append-nil (piece_of size things n))
      ∙ ap (λ l. l ++ piece_of size things n) (taken n)
      ∙ ap (λ l. take (n * size) things ++ l) (piece_is n) ∙ sym (take-add (n * size) size things)
      ∙ ap (λ k. take k things) (let e : n * size + size ≡ suc n * size = omega arith in e)

  -- the pieces of numbers that are drawn once each are all the things
  pub covered : (n : ℕ) (ks : List ℕ) → length things ≤ n * size → EachOnce n ks
      → IsPermutation things (pieces_of size things ks)
  covered n ks le once =
      subst (λ l. IsPermutation l (pieces_of size things ks)) (taken n ∙ take_all (n * size) things le)
      (once-together (piece_of size things) n ks once)

-- so many pieces of one size are enough
pub enough : (count size : ℕ) → 0 < size → count ≤ (count + size - 1) / size * size
enough count size pos = let a : ℕ = count + size - 1 in let d = div-add-mod' a size in let m = mod-lt a pos in
    let q : ℕ = a / size * size in let r : ℕ = a % size in let d' : q + r ≡ a = d in let m' : r < size = m in
    omega (arith, d', m', pos)
