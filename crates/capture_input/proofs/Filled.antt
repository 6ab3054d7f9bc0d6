-- Bytes that are read behind others, and bytes that are kept.
use Rattle.std.proofs.Common.{◌≡◌, ℕ, ◌+◌, ◌-◌, ◌≤◌, List, ◌++◌, length, take, drop, refl, sym, ap, ◌∙◌, append_assoc}
use Rattle.std.proofs.Common.{arith}
use Rattle.std.specs.List.{copy_within}
use Rattle.capture_input.specs.Filling.{window_in}
use Rattle.std.proofs.Math.Seq.{take-add}
use Rattle.std.proofs.lemmas.List.{length-append, length-take, length-drop, drop-take}
use Rattle.std.proofs.lemmas.List.Edits.{take-paste, length-paste}

-- so many bytes more
pub grown-next : (buffer more first got : List ℕ) (end count : ℕ) → take end buffer ≡ first ++ got
    → take end more ≡ take end buffer
    → take (end + count) more ≡ first ++ (got ++ take count (drop end more))
grown-next buffer more first got end count had same =
    take-add end count more ∙ ap (λ (l : List ℕ). l ++ take count (drop end more)) (same ∙ had)
    ∙ append_assoc first got (take count (drop end more))

pub length-next : (more got : List ℕ) (end count taken : ℕ) → length got ≡ taken → end + count ≤ length more
    → length (got ++ take count (drop end more)) ≡ taken + count
length-next more got end count taken is within =
    omega (
      arith,
      is,
      within,
      length-append got (take count (drop end more)),
      length-take count
          (drop end more),
      length-drop end more,
    )

-- the bytes from a place on, moved to the front
pub kept : (buffer : List ℕ) (from end : ℕ) → from ≤ end → end ≤ length buffer
    → take (end - from) (copy_within buffer from end 0) ≡ drop from (take end buffer)
kept buffer from end low within =
    let n : ℕ = end - from in
    let is : from + n ≡ end = omega arith in
    let at : n ≡ 0 + n = omega arith in
    ap (λ (k : ℕ). take k (copy_within buffer from end 0)) at
    ∙ take-paste buffer 0 (drop from buffer) n (omega arith) (omega (arith, length-drop from buffer))
    ∙ sym (drop-take from n buffer) ∙ ap (λ (k : ℕ). drop from (take k buffer)) is

pub length-kept : (buffer : List ℕ) (from end : ℕ) → from ≤ end → end ≤ length buffer
    → length (copy_within buffer from end 0) ≡ length buffer
length-kept buffer from end low within =
    length-paste buffer 0 (drop from buffer) (end - from) (omega arith) (omega (arith, length-drop from buffer))

pub window-kept : (buffer buffer' : List ℕ) (from end : ℕ) → buffer' ≡ copy_within buffer from end 0
    → from ≤ length (take end buffer) → end ≤ length buffer
    → window_in buffer' (end - from) ≡ record {
      bytes = drop from (window_in buffer end).bytes;
      size = (window_in buffer end).size;
    }
window-kept buffer buffer' from end is low within =
    let below : from ≤ end = omega (arith, low, within, length-take end buffer) in
    rw (is, kept buffer from end below within, length-kept buffer from end below within) refl
