use Rattle.std.proofs.Common.{rules, ◌≡◌, ◌<◌, ◌∷◌, [], ◌∙◌, ℕ, List, Option, Some, None, get_or, sym, arith}
use Rattle.flow_parts.specs.declared.fragment.Fragment.{Fragment}
use Rattle.cache_face.specs.Choice.{IsSmallEntry}
use Rattle.cache_face.specs.Keeping.{IsWhole, entry_of}
use Rattle.cache_face.proofs.Contents.{whole_is_small}
use Rattle.cache_face.proofs.Four.{all_four}
use Rattle.cache_choice.proofs.ByWords.{four_here}
use Rattle.pebr_roots.specs.Passes.{operations_by}
use Rattle.flow_cache.proofs.Sparing.{made_of}
use Rattle.flow_cache.proofs.cache.PebrCache.read_set.Goals as goal

small_entry : (content : List ℕ) (entry : Option Fragment) → IsWhole content → entry ≡ entry_of content
    → IsSmallEntry entry
small_entry content None whole is = tt
small_entry content (Some old) whole is = whole_is_small content old whole (sym is)

pub returns-clause-entries : goal.returns-clause-entries
returns-clause-entries c set protected =
    (λ i. c.entry.ensures i ∷ c.entry-2.ensures i ∷ c.entry-3.ensures i ∷ c.entry-4.ensures i ∷ [])
    ∙ sym (four_here c.read_contents.new.contents (search rules)) ∙ c.read_contents.ensures.entries set protected

pub returns-clause-small : goal.returns-clause-small
returns-clause-small c =
    let ws : List (List ℕ) = c.read_contents.new.contents in
    let whole : (place : ℕ) → place < 4 → IsWhole (get_or ws place []) =
    λ place low. c.read_contents.ensures.whole place [] (search rules) in
    all_four IsSmallEntry c.entry.result c.entry-2.result c.entry-3.result c.entry-4.result
    (small_entry (get_or ws 0 []) c.entry.result (whole 0 (omega arith)) c.entry.ensures)
    (small_entry (get_or ws 1 []) c.entry-2.result (whole 1 (omega arith)) c.entry-2.ensures)
    (small_entry (get_or ws 2 []) c.entry-3.result (whole 2 (omega arith)) c.entry-3.ensures)
    (small_entry (get_or ws 3 []) c.entry-4.result (whole 3 (omega arith)) c.entry-4.ensures)

pub returns-clause-few : goal.returns-clause-few
returns-clause-few c =
    made_of _ _ 40 (operations_by c.args.pass.now) (operations_by c.read_contents.new.pass) c.read_contents.ensures.few
