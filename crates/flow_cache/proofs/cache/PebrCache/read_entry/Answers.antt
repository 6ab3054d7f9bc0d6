use Rattle.std.proofs.Common.{◌≡◌, ◌∙◌, List, ℕ, Option, Some, None, refl, sym, ap}
use Rattle.flow_parts.specs.declared.fragment.Fragment.{Fragment}
use Rattle.cache_face.specs.Choice.{IsSmallEntry}
use Rattle.cache_face.specs.Keeping.{IsWhole, entry_of}
use Rattle.cache_face.proofs.Contents.{whole_is_small}
use Rattle.pebr_roots.specs.Under.{slot_at}
use Rattle.pebr_roots.specs.Passes.{known_by_pass, past_by}
use Rattle.pebr_roots.specs.Passes.{operations_by}
use Rattle.flow_cache.proofs.Sparing.{made_of}
use Rattle.flow_cache.proofs.Sets.{words_are, has_ten}
use Rattle.flow_cache.proofs.cache.PebrCache.read_entry.Goals as goal

small_entry : (content : List ℕ) (entry : Option Fragment) → IsWhole content → entry ≡ entry_of content
    → IsSmallEntry entry
small_entry content None whole is = tt
small_entry content (Some old) whole is = whole_is_small content old whole (sym is)

pub returns-clause-ten : goal.returns-clause-ten
returns-clause-ten c = has_ten (past_by c.read_words.new.pass).reads
    (slot_at (known_by_pass c.args.pass.now) c.args.place)
    c.read_words.new.words c.read_words.ensures.long c.read_words.ensures.read

pub returns-clause-entry : goal.returns-clause-entry
returns-clause-entry c =
    c.entry.ensures
    ∙ ap entry_of
    (words_are (past_by c.read_words.new.pass).reads
    (slot_at (known_by_pass c.args.pass.now) c.args.place) c.read_words.new.words c.read_words.ensures.long
    c.read_words.ensures.read)

pub returns-clause-grown : goal.returns-clause-grown
returns-clause-grown c =
    let g = (c.read_words.ensures.grown refl refl) in
    record { reads = g.reads; grown = g.grown; many = g.many; ten = g.ten; shows = g.shows ∙ sym c.entry.ensures }

pub returns-clause-small : goal.returns-clause-small
returns-clause-small c = small_entry c.read_words.new.words c.entry.result c.read_words.ensures.whole c.entry.ensures

pub returns-clause-few : goal.returns-clause-few
returns-clause-few c =
    made_of _ _ 10 (operations_by c.args.pass.now) (operations_by c.read_words.new.pass) c.read_words.ensures.few
