use Rattle.std.proofs.Common.{List, ℕ, All, sym, subst}
use Rattle.cache_face.specs.declared.metered.How.TheVariants.{Joined}
use Rattle.cache_face.specs.Choice.{CanJoin, HasNone}
use Rattle.cache_face.specs.Keeping.{IsWhole}
use Rattle.front_cache.specs.Kept.{IsPutIn, two_shown}
use Rattle.front_cache.proofs.contents.put_into.Goals as goal

pub returns-in-Some : goal.returns-in-Some
returns-in-Some c = (Joined, c.in-Some.ensures.taken)

pub returns-in-None : goal.returns-in-None
returns-in-None c =
    let opened = c.open_one.ensures in (
      opened.0,
      subst (λ (old : List (List ℕ)). IsPutIn c.args.timeouts.now old c.open_one.new.contents c.args.first
          c.args.own.now opened.0 c.open_one.result.0 c.open_one.result.1) c.in-None.ensures.left.0 opened.1,
    )
