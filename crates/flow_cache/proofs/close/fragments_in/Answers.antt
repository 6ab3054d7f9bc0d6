use Rattle.std.proofs.Common.{◌∙◌, ◌++◌, ℕ, List, option_to_list, sym, ap, arith}
use Rattle.std.proofs.lemmas.List.FromFn.{map-range_with_len_more}
use Rattle.cache_face.specs.Keeping.{entry_of, parts_in}
use Rattle.cache_face.proofs.Apart.{snoc}
use Rattle.pebr_words.specs.Opening.{slot_of}
use Rattle.flow_cache.specs.Ending.{rows_at}
use Rattle.flow_cache.specs.Places.{cache_shape}
use Rattle.flow_cache.proofs.close.fragments_in.Goals as goal

pub loop-root-preserved : goal.loop-root-preserved
loop-root-preserved c =
    let root = c.loop-root.root in
    let words : List ℕ = c.args.words.now in
    record {
      low = omega (arith, c.loop-root-test.true);
      parts = λ sets seats. c.in_ok-add.ensures
          ∙ ap (λ l. l ++ option_to_list c.entry.result) (c.loop-root.invariant.parts sets seats)
          ∙ ap (λ e. parts_in (rows_at sets seats words root) ++ option_to_list e)
          (c.entry.ensures ∙ ap entry_of (c.content.ensures sets seats))
          ∙ sym (snoc (λ content. option_to_list (entry_of content)) (rows_at sets seats words root)
          (slot_of (cache_shape sets seats) words root))
          ∙ ap parts_in
          (sym (map-range_with_len_more (slot_of (cache_shape sets seats) words) 0 root root (omega arith)));
    }
