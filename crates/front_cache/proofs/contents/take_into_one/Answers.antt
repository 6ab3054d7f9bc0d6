use Rattle.std.proofs.Common.{◌≡◌, ℕ, ◌+◌, List, [], ◌∷◌, Option, MatchOption, get_or, set, refl, sym, subst, arith, ap}
use Rattle.std.proofs.Common.{◌∙◌}
use Rattle.std.proofs.lemmas.List.{get_or-set_other, set-get_or}
use Rattle.std.proofs.lemmas.List.Elements.{All-get_or}
use Rattle.flow_parts.specs.declared.fragment.Fragment.{Fragment}
use Rattle.flow_parts.specs.Parts.{IsJoined}
use Rattle.cache_face.specs.Choice.{CanJoin}
use Rattle.cache_face.specs.Keeping.{IsWhole, entry_of}
use Rattle.cache_choice.proofs.Lowest.{lowest_here, lowest_behind, none_of_more, none_of_none}
use Rattle.front_cache.proofs.contents.take_into_one.Goals.{Else-take_into}
use Rattle.front_cache.proofs.contents.take_into_one.Goals as goal

-- the first content was left as it was, and the second is beside it
same : (c : Else-take_into) → set c.args.contents.now c.args.first c.take_into.new.content ≡ c.args.contents.now
same c = ap (set c.args.contents.now c.args.first) c.if-take_into.ensures.left.0
    ∙ set-get_or c.args.contents.now c.args.first []

beside : (contents : List (List ℕ)) (first : ℕ) (new : List ℕ)
    → get_or (set contents first new) (first + 1) [] ≡ get_or contents (first + 1) []
beside contents first new = get_or-set_other contents first (first + 1) new [] (λ e. omega (arith, e))

pub returns-then-take_into-clause-taken : goal.returns-then-take_into-clause-taken
returns-then-take_into-clause-taken c =
    let taken = c.if-take_into.ensures.taken in
    record {
      entry = 0;
      kept = taken.0;
      chosen = record {
        lowest = lowest_here (CanJoin c.args.timeouts.now c.args.own.now) _ _ taken.2;
        joined = taken.3;
        none_out = refl;
      };
      at = omega arith;
      written = ap (set c.args.contents.now c.args.first) taken.1;
    }

pub take_into-requires-2-clause-whole : goal.take_into-requires-2-clause-whole
take_into-requires-2-clause-whole c =
    subst IsWhole (sym (beside c.args.contents.now c.args.first c.take_into.new.content))
    (All-get_or IsWhole c.args.contents.now (c.args.first + 1) [] c.requires.both c.requires.whole)

pub returns-then-take_into-2-clause-taken : goal.returns-then-take_into-2-clause-taken
returns-then-take_into-2-clause-taken c =
    let Can : Option Fragment → Type 0 = CanJoin c.args.timeouts.now c.args.own.now in
    let contents = c.args.contents.now in
    let next = c.args.first + 1 in
    let taken = c.if-take_into-2.ensures.taken in
    let at = beside contents c.args.first c.take_into.new.content in
    record {
      entry = 1;
      kept = taken.0;
      chosen = record {
        lowest = lowest_behind Can _ _ 0 c.if-take_into.ensures.left.1
            (lowest_here Can _ [] (subst (λ (x : List ℕ). Can (entry_of x)) at taken.2));
        joined = subst (λ (x : List ℕ). MatchOption (entry_of x) ⊥ (λ old. IsJoined old c.args.own.now taken.0)) at
            taken.3;
        none_out = refl;
      };
      at = refl;
      written = ap (λ b. set b next c.take_into-2.new.content)
          (same (goal.at.returns-then-take_into-2-clause-taken c).Else-take_into) ∙ ap (set contents next) taken.1;
    }

pub returns-clause-left : goal.returns-clause-left
returns-clause-left c =
    let Can : Option Fragment → Type 0 = CanJoin c.args.timeouts.now c.args.own.now in
    let contents = c.args.contents.now in
    let left = c.if-take_into-2.ensures.left in
    let there = set contents c.args.first c.take_into.new.content in (
      ap (set there (c.args.first + 1)) left.0 ∙ set-get_or there (c.args.first + 1) []
          ∙ same (goal.at.returns-clause-left c).Else-take_into,
      none_of_more Can _ (entry_of (get_or contents (c.args.first + 1) []) ∷ []) c.if-take_into.ensures.left.1
          (none_of_more Can _ []
          (subst (λ (x : List ℕ). ¬ Can (entry_of x)) (beside contents c.args.first c.take_into.new.content) left.1)
          (none_of_none Can)),
    )
