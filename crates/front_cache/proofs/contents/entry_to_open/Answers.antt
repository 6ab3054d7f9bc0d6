use Rattle.std.proofs.Common.{◌≡◌, ℕ, zero, suc, ◌<◌, ◌≤◌, [], ◌∷◌, length, Option, Some, IsNone, get_or, arith}
use Rattle.std.proofs.lemmas.Bool.{iff_false}
use Rattle.flow_parts.specs.declared.fragment.Fragment.{Fragment}
use Rattle.cache_face.specs.Choice.{HasKey, HasNone, entry_at}
use Rattle.cache_face.specs.Keeping.{entry_of}
use Rattle.cache_choice.proofs.Lowest.{lowest_here, lowest_behind, none_of_more, none_of_none, oldest_here}
use Rattle.cache_choice.proofs.Lowest.{oldest_behind}
use Rattle.cache_choice.proofs.Lowest.{opens_empty, opens_oldest}
use Rattle.cache_choice.proofs.Others.{none_where, empty_where, last_shown}
use Rattle.front_cache.proofs.contents.entry_to_open.Goals.{Else-is_of_key-2}
use Rattle.front_cache.proofs.contents.entry_to_open.Goals.{then-other-eq0-via-then-other-eq0}
use Rattle.front_cache.proofs.contents.entry_to_open.Goals.{then-other-eq0-via-else-other-eq0+then-other-one}
use Rattle.front_cache.proofs.contents.entry_to_open.Goals as goal

-- neither is of the key
none : (c : Else-is_of_key-2)
    → HasNone (HasKey c.args.own.now.key) (entry_of c.args.one.now ∷ entry_of c.args.other.now ∷ [])
none c = none_of_more (HasKey c.args.own.now.key) _ (entry_of c.args.other.now ∷ [])
    (iff_false c.is_of_key.ensures c.if-is_of_key.false)
    (none_of_more (HasKey c.args.own.now.key) _ [] (iff_false c.is_of_key-2.ensures c.if-is_of_key-2.false)
    (none_of_none (HasKey c.args.own.now.key)))

least : (one other : Option Fragment) → ((f g : Fragment) → one ≡ Some f → other ≡ Some g → f.last ≤ g.last)
    → (place : ℕ) (f g : Fragment) → place < length (other ∷ []) → one ≡ Some f → entry_at (other ∷ []) place ≡ Some g
    → f.last ≤ g.last
least one other less zero f g low is is' = less f g is is'
least one other less (suc place) f g low is is' = absurd (omega (arith, low))

pub returns-then-one-eq0-clause-chosen : goal.returns-then-one-eq0-clause-chosen
returns-then-one-eq0-clause-chosen c =
    opens_empty _ _ _ 0 (none (goal.at.returns-then-one-eq0-clause-chosen c).Else-is_of_key-2)
    (lowest_here IsNone _ _ (none_where c.args.one.now c.if-one-eq0.true))

pub returns-then-other-eq0-clause-chosen : goal.returns-then-other-eq0-clause-chosen
returns-then-other-eq0-clause-chosen c =
    let no = none (goal.at.returns-then-other-eq0-clause-chosen c).Else-is_of_key-2 in
    let one = c.args.one.now in
    let other = c.args.other.now in
    let full : ¬ IsNone (entry_of one) = λ empty. c.if-one-eq0.false (empty_where one c.requires.one empty) in
    elim c.then-other-eq0.branch [
      | then-other-eq0-via-then-other-eq0 w ↦
          opens_empty _ _ _ 1 no (lowest_behind IsNone _ _ 0 full
          (lowest_here IsNone _ [] (none_where other w.if-other-eq0.true)))
      | then-other-eq0-via-else-other-eq0+then-other-one w ↦
          opens_oldest _ _ _ 1 no (none_of_more IsNone _ (entry_of other ∷ []) full (none_of_more IsNone _ []
          (λ empty. w.if-other-eq0.false (empty_where other c.requires.other empty)) (none_of_none IsNone)))
          (oldest_behind _ _ 0 (oldest_here _ [] (λ place f g low. absurd (omega (arith, low)))) (λ f g is is'.
          (let less : get_or other 8 0 < get_or one 8 0 = w.if-other-one.true in
          omega (arith, less, last_shown one f c.requires.one is, last_shown other g c.requires.other is'))))
    ]

pub returns-clause-chosen : goal.returns-clause-chosen
returns-clause-chosen c =
    let one = c.args.one.now in
    let other = c.args.other.now in
    opens_oldest _ _ _ 0 (none (goal.at.returns-clause-chosen c).Else-is_of_key-2)
    (none_of_more IsNone _ (entry_of other ∷ []) (λ empty. c.if-one-eq0.false (empty_where one c.requires.one empty))
    (none_of_more IsNone _ [] (λ empty. c.if-other-eq0.false (empty_where other c.requires.other empty))
    (none_of_none IsNone)))
    (oldest_here _ _ (least (entry_of one) (entry_of other) (λ f g is is'.
    (let less : get_or one 8 0 ≤ get_or other 8 0 = c.if-other-one.false in
    omega (arith, less, last_shown one f c.requires.one is, last_shown other g c.requires.other is')))))
