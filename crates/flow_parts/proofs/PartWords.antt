-- A fragment is known by its fields, and so by its words.
use Rattle.std.proofs.Common.{◌≡◌, ◌<◌, ◌≤◌, ◌^◌, ℕ, get_or, take, ap}
use mathlib.Core.HLevel.{is_prop→PathP}
use Rattle.std.proofs.Props.{props}
use Rattle.flow_key.proofs.KeyWords.{same_words}
use Rattle.flow_parts.specs.declared.fragment.Fragment.{Fragment}
use Rattle.flow_parts.specs.Parts.{part_words}

-- two fragments with the same fields are one fragment
pub part_same : (a b : Fragment) → a.key ≡ b.key → a.packets ≡ b.packets → a.octets ≡ b.octets → a.first ≡ b.first
    → a.last ≡ b.last → a.flags ≡ b.flags → a ≡ b
part_same a b k n o f l g = λ i. record {
  key = k i;
  packets = n i;
  octets = o i;
  first = f i;
  last = l i;
  flags = g i;
  counted = is_prop→PathP (λ j. 1 ≤ n j) (λ j. hlevel props) a.counted b.counted i;
  spanned = is_prop→PathP (λ j. f j ≤ l j) (λ j. hlevel props) a.spanned b.spanned i;
  sized = is_prop→PathP (λ j. (n j < 2 ^ 64) × (o j < 2 ^ 64) × (l j < 2 ^ 64) × (g j < 2 ^ 16))
      (λ j. hlevel props) a.sized b.sized i;
}

-- two fragments with the same words are one fragment
pub same_part_words : (a b : Fragment) → part_words a ≡ part_words b → a ≡ b
same_part_words a b e =
    let at : (k : ℕ) → get_or (part_words a) k 0 ≡ get_or (part_words b) k 0 = λ k. ap (λ ws. get_or ws k 0) e in
    part_same a b (same_words a.key b.key (ap (take 5) e)) (at 5) (at 6) (at 7) (at 8) (at 9)
