-- The core that is opened is sound, and the opening words show it.
use Rattle.std.proofs.Common.{◌≡◌, ℕ, zero, suc, ◌+◌, ◌-◌, ◌*◌, ◌<◌, ◌≤◌, List, [], ◌∷◌, ◌++◌, length, get_or, map}
use Rattle.std.proofs.Common.{replicate, sym, refl, ap, ◌∙◌, subst, arith}
use Rattle.std.proofs.lemmas.List.{length-append, length-replicate, get_or-replicate, get_or_append_left}
use Rattle.std.proofs.lemmas.List.{get_or-append_right}
use Rattle.std.proofs.lemmas.List.FromFn.{length-range_with_len, length-map-range_with_len, get_or-map-range_with_len}
use Rattle.std.proofs.lemmas.List.FromFn.{fill_by_all}
use Rattle.std.specs.List.{range_with_len}
use Rattle.std.proofs.Common.{◌/◌, ◌⊎◌, inl, inr, Bool, true, false}
use Rattle.std.proofs.lemmas.Bool.{cases_lt, false≢true, lt-ltb, le-leb}
use Rattle.std.proofs.Math.Nat.{div-lt_iff_lt-mul, div-mul-le_self, lt-div-mul-add}
use Rattle.std.specs.Prelude.{nat_le, nat_lt, ◌&&◌}
use Rattle.pebr_core.specs.declared.kinds.Shape.{Shape}
use Rattle.pebr_core.specs.declared.kinds.ShieldAt.TheVariants as shield
use Rattle.pebr_core.specs.State.{Seat, has, seat_at, shield_at, nobody, first_seat, start_state, slot_count}
use Rattle.pebr_core.specs.State.{slots_per_seat, is_share_of}
use Rattle.std.specs.Prelude.{All}
use Rattle.pebr_core.specs.Kept.{IsSound, IsSeatOfShape}
use Rattle.pebr_words.specs.Places.{Place, epoch_word, status_word, shield_word, root_word, slot_word, IsPlace}
use Rattle.pebr_words.specs.Places.{roots_from, slots_from, index, word_count}
use Rattle.pebr_words.specs.Shown.{of_status, shield_number, sign_at, Tells, Show}
use Rattle.pebr_words.specs.Ruled.{contents, IsFreshNowhere}
use Rattle.pebr_words.specs.Opening.{spare_slots, opening_words, slot_of, rows_of, opening_core}

module _ (shape : Shape) (given : List ℕ) where
  slot_at : (slot : ℕ) → slot < slot_count shape
      → get_or (map (slot_of shape given) (range_with_len 0 (slot_count shape))) slot [] ≡ slot_of shape given slot
  slot_at slot h = get_or-map-range_with_len (slot_of shape given) 0 (slot_count shape) slot slot [] h (omega arith)

  -- a start with given words is sound
  abbrev pub StartsAreSound : Type 0
  StartsAreSound = (words : List (List ℕ)) → length words ≡ slot_count shape
      → ((slot : ℕ) → slot < slot_count shape → length (get_or words slot []) ≡ shape.width)
      → IsSound record (start_state shape) { words = words }

  pub opening_sound : StartsAreSound → IsSound (opening_core shape given)
  opening_sound starts = starts (map (slot_of shape given) (range_with_len 0 (slot_count shape)))
      (length-map-range_with_len (slot_of shape given) 0 (slot_count shape))
      (λ slot h. ap length (slot_at slot h) ∙ length-map-range_with_len
      (λ word. get_or given (slot * shape.width + word) 0) 0 shape.width)

  pub opening_contents : shape.roots ≤ slot_count shape → contents (opening_core shape given) ≡ rows_of shape given
  opening_contents few =
      let read : ℕ → List ℕ = λ slot. get_or (map (slot_of shape given) (range_with_len 0 (slot_count shape))) slot
      [] in
      fill_by_all (slot_of shape given) (map read (range_with_len 0 shape.roots)) shape.roots []
      (length-map-range_with_len read 0 shape.roots)
      (λ k h. get_or-map-range_with_len read 0 shape.roots k k [] h (omega arith) ∙ slot_at k (omega (arith, h, few)))

  pub opening_seat : (i : ℕ) → i < shape.seats → seat_at (opening_core shape given) i ≡ first_seat shape i
  opening_seat i h = get_or-map-range_with_len (first_seat shape) 0 shape.seats i i nobody h (omega arith)

  -- a slot that no seat has fresh is a root's, whose content is whole
  pub opening_whole : (whole : List ℕ → Type 0) → All whole (rows_of shape given) → (slot : ℕ) → slot < slot_count shape
      → IsFreshNowhere (opening_core shape given) slot
      → whole (get_or (map (slot_of shape given) (range_with_len 0 (slot_count shape))) slot [])
  opening_whole whole are_whole slot low nowhere =
      subst whole (sym (slot_at slot low)) (pick (cases_lt slot shape.roots))
    where
      share : ℕ
      share = slots_per_seat shape

      seat : ℕ
      seat = (slot - shape.roots) / slots_per_seat shape

      in_share : shape.roots ≤ slot → (seat < shape.seats) × (is_share_of shape seat slot ≡ true)
      in_share past =
          let n : ℕ = slot - shape.roots in
          let some_share : 0 < share = share_some share (omega (arith, low, past)) in
          let below : seat < shape.seats = (div-lt_iff_lt-mul {k = share} {x = n} {y = shape.seats} some_share).1
          (omega (arith, low, past)) in
          let from : seat * share ≤ n = div-mul-le_self n share in
          let to : n < seat * share + share = lt-div-mul-add {a = n} {b = share} some_share in (
            below,
            and_true (nat_le (shape.roots + seat * share) slot) (nat_lt slot (shape.roots + (seat + 1) * share))
                (le-leb (shape.roots + seat * share) slot (omega (arith, from, past)))
                (lt-ltb slot (shape.roots + (seat + 1) * share)
                (let m = more seat share in omega (arith, to, past, m))),
          )
        where
          more : (a b : ℕ) → (a + 1) * b ≡ a * b + b
          more a b = omega arith

          share_some : (b : ℕ) → slot - shape.roots < shape.seats * b → 0 < b
          share_some zero h = absurd (omega (arith, h))
          share_some (suc b) h = omega arith

          and_true : (a b : Bool) → a ≡ true → b ≡ true → (a && b) ≡ true
          and_true true true h h' = refl
          and_true true false h h' = h'
          and_true false b h h' = h

      pick : ((slot < shape.roots) ⊎ (shape.roots ≤ slot)) → whole (slot_of shape given slot)
      pick (inl root) =
          subst whole (get_or-map-range_with_len (slot_of shape given) 0 shape.roots slot slot [] root (omega arith))
          (are_whole slot []
          (subst (λ n. slot < n) (sym (length-map-range_with_len (slot_of shape given) 0 shape.roots)) root))
      pick (inr past) =
          let here = in_share past in
          absurd (false≢true (sym (nowhere seat)
          ∙ (ap (λ (s : Seat). has s.fresh slot) (opening_seat seat here.0)
          ∙ (get_or-map-range_with_len (is_share_of shape seat) 0 (slot_count shape) slot slot false low (omega arith)
          ∙ here.1))))

  module _ (long : length given ≡ shape.roots * shape.width) where
    abbrev zeros : List ℕ
    zeros = replicate (spare_slots shape * shape.width) 0

    abbrev tail_words : List ℕ
    tail_words = range_with_len 0 shape.roots ++ (given ++ zeros)

    pub opening_wide : length (opening_words shape given) ≡ word_count shape
    opening_wide =
        let a = length-append (replicate (roots_from shape) 0) tail_words in
        let b = length-append (range_with_len 0 shape.roots) (given ++ zeros) in
        let c = length-append given zeros in
        let d = length-replicate {A = ℕ} (roots_from shape) 0 in
        let e = length-range_with_len 0 shape.roots in
        let f = length-replicate {A = ℕ} (spare_slots shape * shape.width) 0 in
        let g = split_product shape.roots (spare_slots shape) shape.width in
        omega (arith, a, b, c, d, e, f, g, long)
      where
        split_product : (m n w : ℕ) → (m + n) * w ≡ m * w + n * w
        split_product m n w = omega arith

    in_front : (k : ℕ) → k < roots_from shape → get_or (opening_words shape given) k 0 ≡ 0
    in_front k h = get_or_append_left (replicate (roots_from shape) 0) tail_words 0 k (rw length-replicate h)
        ∙ get_or-replicate (roots_from shape) k 0 0 h

    behind : (k : ℕ) → get_or (opening_words shape given) (roots_from shape + k) 0 ≡ get_or tail_words k 0
    behind k = get_or-append_right (replicate (roots_from shape) 0) tail_words (roots_from shape)
        (roots_from shape + k) 0 (length-replicate (roots_from shape) 0) (omega arith)
        ∙ ap (λ n. get_or tail_words n 0) (let e : roots_from shape + k - roots_from shape ≡ k = omega arith in e)

    with_zeros : (xs : List ℕ) (n k : ℕ) → get_or (xs ++ replicate n 0) k 0 ≡ get_or xs k 0
    with_zeros [] n k = all_zero n k
      where
        all_zero : (n k : ℕ) → get_or (replicate {A = ℕ} n 0) k 0 ≡ 0
        all_zero zero k = refl
        all_zero (suc n) zero = refl
        all_zero (suc n) (suc k) = all_zero n k
    with_zeros (x ∷ xs) n zero = refl
    with_zeros (x ∷ xs) n (suc k) = with_zeros xs n k

    in_slots : (k : ℕ) → get_or (opening_words shape given) (slots_from shape + k) 0 ≡ get_or given k 0
    in_slots k =
        ap (λ n. get_or (opening_words shape given) n 0)
        (let e : slots_from shape + k ≡ roots_from shape + (shape.roots + k) = omega arith in e)
        ∙ (behind (shape.roots + k)
        ∙ (get_or-append_right (range_with_len 0 shape.roots) (given ++ zeros) shape.roots (shape.roots + k) 0
        (length-range_with_len 0 shape.roots) (omega arith)
        ∙ (ap (λ n. get_or (given ++ zeros) n 0) (let e : shape.roots + k - shape.roots ≡ k = omega arith in e)
        ∙ with_zeros given (spare_slots shape * shape.width) k)))

    pub opening_shown : shape.shields ≤ 8 → Show shape (opening_words shape given) (opening_core shape given)
    opening_shown few = record { wide = opening_wide; each = told }
      where
        told : (at : Place) → IsPlace shape at → Tells (sign_at (opening_core shape given) at)
            (get_or (opening_words shape given) (index shape at) 0)
        told epoch_word h = in_front 0 (omega arith)
        told (status_word i) h =
            subst (λ (s : Seat). Tells (of_status s.status) (get_or (opening_words shape given) (16 * (i + 1)) 0))
            (sym (opening_seat i h)) (0, in_front (16 * (i + 1)) (omega (arith, h)))
        told (shield_word i k) h =
            in_front (16 * (shape.seats + i + 1) + k) (omega (arith, h.0, h.1, few))
            ∙ sym (ap (λ (s : Seat). shield_number (shield_at s k)) (opening_seat i h.0)
            ∙ ap shield_number (all_down shape.shields k))
          where
            all_down : (n k : ℕ) → get_or (replicate n shield.Down) k shield.Down ≡ shield.Down
            all_down zero k = refl
            all_down (suc n) zero = refl
            all_down (suc n) (suc k) = all_down n k
        told (root_word r) h =
            behind r
            ∙ (get_or_append_left (range_with_len 0 shape.roots) (given ++ zeros) 0 r (rw length-range_with_len h)
            ∙ refl)
        told (slot_word slot word) h =
            in_slots (slot * shape.width + word)
            ∙ sym (ap (λ (l : List ℕ). get_or l word 0) (slot_at slot h.0)
            ∙ get_or-map-range_with_len (λ x. get_or given (slot * shape.width + x) 0) 0 shape.width word word 0 h.1
            (omega arith))

-- a seat that has done nothing has an entry for each slot and shield
pub first_fits : (shape : Shape) (i : ℕ) → IsSound (start_state shape) → i < shape.seats
    → IsSeatOfShape shape (first_seat shape i)
first_fits shape i sound inside = subst (IsSeatOfShape shape)
    (get_or-map-range_with_len (first_seat shape) 0 shape.seats i i nobody inside (omega arith))
    (sound.shape.each i inside)
