use Rattle.std.proofs.Common.{◌≡◌, ℕ, List, length, map, ◌++◌, ◌∙◌, sym, ap, subst, arith}
use mathlib.Core.Option.{some}
use lib.ListN.{get_elem?}
use Rattle.atomic_table.specs.Table.{Me}
use Rattle.pebr_table.specs.Tables.{key_of, me_of}
use Rattle.pebr_words.specs.declared.views.Held.{Held}
use Rattle.pebr_words.specs.Ruled.{BackedWhole, view_left}
use Rattle.pebr_words.proofs.Unites.{unites, united_rest, united_lists, united_count, united_numbers}
use Rattle.std.specs.List.{flat_map}
use Rattle.pebr_words.specs.Making.{past_in}
use Rattle.pebr_words.proofs.words.Words.unite.Goals as goal

pub unite-requires : goal.unite-requires
unite-requires g c =
    let words = c.args.self.now in
    let key = (key_of words.table) in
    let first = c.requires.at.0 in
    let second = c.requires.at.1 in (
      first.0,
      second.0,
      second.1,
      omega (arith, words.counted),
      unites (g.P.RootProtocol.keeps key.fixed) (BackedWhole g.P.RootProtocol.whole (g.P.RootProtocol.backed key.fixed))
          key.shape g.P.RootProtocol.merged g.P.RootProtocol.empty (g.P.RootProtocol.unites key.fixed)
          (λ notes content i j a b is apart at at'. (
            is.0,
            g.P.RootProtocol.backs key.fixed notes content i j a b is.1 apart at at',
          )) _ (me_of c.args.first.inner).0 _
          (me_of c.args.second.inner).0 first.2 second.2,
    )

pub returns-clause-united : goal.returns-clause-united
returns-clause-united g c rest rest' =
    let merged = g.P.RootProtocol.merged in
    let empty = g.P.RootProtocol.empty in
    let is = ap (λ (m : Me (Unit {0}) (List (Held _))). m.0) c.unite.ensures.2 in
    subst (λ (view : List (Held _)). (place : ℕ) (held : Held _) → get_elem? (view_left view) place ≡ some held
    → held.note ≡ empty) (sym is)
    (united_rest merged empty (me_of c.args.first.inner).0 (me_of c.args.second.inner).0 c.requires.at.0.2
    c.requires.at.1.2 rest
    rest')

pub returns-clause-lost : goal.returns-clause-lost
returns-clause-lost g c =
    let is = ap (λ (m : Me (Unit {0}) (List (Held _))). m.0) c.unite.ensures.2 in
    ap (λ (view : List (Held _)). (past_in view).lost ++ flat_map (λ held. held.past.lost) (view_left view)) is
    ∙ united_lists (λ past. past.lost) g.P.RootProtocol.merged g.P.RootProtocol.empty (me_of c.args.first.inner).0
    (me_of c.args.second.inner).0 c.requires.at.0.2 c.requires.at.1.2

pub returns-clause-ejections : goal.returns-clause-ejections
returns-clause-ejections g c =
    let is = ap (λ (m : Me (Unit {0}) (List (Held _))). m.0) c.unite.ensures.2 in
    ap (λ (view : List (Held _)). (past_in view).ejections
    ++ flat_map (λ held. held.past.ejections) (view_left view)) is
    ∙ united_lists (λ past. past.ejections) g.P.RootProtocol.merged g.P.RootProtocol.empty (me_of c.args.first.inner).0
    (me_of c.args.second.inner).0 c.requires.at.0.2 c.requires.at.1.2

pub returns-clause-count : goal.returns-clause-count
returns-clause-count g c =
    let is = ap (λ (m : Me (Unit {0}) (List (Held _))). m.0) c.unite.ensures.2 in
    ap (λ (view : List (Held _)). length view) is
    ∙ united_count g.P.RootProtocol.merged g.P.RootProtocol.empty (me_of c.args.first.inner).0
    (me_of c.args.second.inner).0

pub returns-clause-numbers : goal.returns-clause-numbers
returns-clause-numbers g c =
    let is = ap (λ (m : Me (Unit {0}) (List (Held _))). m.0) c.unite.ensures.2 in
    ap (λ (view : List (Held _)). map (λ held. held.number) view) is
    ∙ united_numbers g.P.RootProtocol.merged g.P.RootProtocol.empty (me_of c.args.first.inner).0
    (me_of c.args.second.inner).0
    c.requires.at.0.2 c.requires.at.1.2
