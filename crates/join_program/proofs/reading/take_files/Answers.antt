-- Each turn takes one more file.
use Rattle.std.proofs.Common.{◌∙◌, [], ◌∷◌, ◌++◌, map, sym, ap, subst, arith, refl}
use Rattle.std.specs.String.{string_bytes}
use Rattle.std.proofs.lemmas.List.{get_or-map, length-map}
use Rattle.join_program.specs.Taking.{IsTaken, share_of}
use Rattle.join_program.proofs.Seen.{given_more, together_more}
use Rattle.join_program.proofs.reading.take_files.Goals as goal

pub loop-place-init : goal.loop-place-init
loop-place-init g c = record {
  long = refl;
  size = c.in-Ok.ensures.size;
  same = refl;
  later = omega arith;
  taken = ([], tt, c.nothing_taken-taken.ensures (share_of c.args.settings.now.share));
}

pub loop-place-preserved : goal.loop-place-preserved
loop-place-preserved g c =
    let before = c.loop-place.invariant.taken in
    let one = c.in-Ok-take_file.ensures.taken in
    record {
      long = refl;
      size = c.take_file.ensures.size;
      same = c.take_file.ensures.same ∙ c.loop-place.invariant.same;
      later = (let a = c.loop-place.invariant.later in let b = c.take_file.ensures.later in omega arith);
      taken = (
        before.0 ++ one.0 ∷ [],
        given_more (g.O.Opener.contents c.args.opener.now) (g.O.Opener.contents c.loop-place.opener)
            c.loop-place.invariant.same (map string_bytes c.args.names.now) c.loop-place.place
            c.as_str-name.result.now
            (let long = length-map c.args.names.now string_bytes in omega arith)
            (get_or-map string_bytes c.args.names.now c.loop-place.place c.index-names-place.result [] (omega arith)
            ∙ ap string_bytes (sym c.index-names-place.is) ∙ sym c.as_str-name.ensures.value)
            before.0 one.0 before.1 one.1,
        subst (λ l. IsTaken (share_of c.args.settings.now.share) l c.in-Ok-take_file.kept)
            (sym (together_more before.0 one.0)) (one.2 _ before.2),
      );
    }
