-- One window more is read and dropped.
use Rattle.std.proofs.Common.{◌≡◌, ◌+◌, ◌++◌, length, inr, rules, arith, ◌∙◌}
use Rattle.std.proofs.lemmas.List.{length-append}
use Rattle.std.proofs.KnownBytes.{Consumes-trans}
use Rattle.capture_input.proofs.Filling.{cut-moved}
use Rattle.capture_input.proofs.windows.read_on.Goals as goal

pub returns-in-Err : goal.returns-in-Err
returns-in-Err g c =
    let had = c.loop-input.invariant.read in
    let told = c.in-Err.ensures in
    let counts : c.loop-input.input.taken + length told.got ≡ c.args.input.taken + length (had.0 ++ told.got) =
    (let e = had.2 in omega (arith, e, length-append had.0 told.got)) in
    record {
      got = had.0 ++ told.got;
      given = Consumes-trans _ _ _ _ _ had.1 told.given;
      still = λ e. absurd (let f = (had.3 e).1 in let t = c.loop-input-test.true in cc);
      ends = inr
          (cut-moved (g.S.Source.left c.args.source.now) (g.S.Source.left c.loop-input.source)
          (g.S.Source.left c.fill.new.source) _ _ _ _ _ _ _ c.in-Err.broken c.loop-input.invariant.quiet counts
          c.loop-input.invariant.limit told.cut);
    }

pub loop-input-preserved : goal.loop-input-preserved
loop-input-preserved g c =
    let had = c.loop-input.invariant.read in
    let told = c.in-Ok.ensures in
    let more = told.more in
    record {
      within = more.within;
      limit = told.limit ∙ c.loop-input.invariant.limit;
      size = search rules;
      read = (
        had.0 ++ told.got,
        Consumes-trans _ _ _ _ _ had.1 told.given,
        (let e = had.2 in omega (arith, e, more.taken_is, length-append had.0 told.got)),
        λ e. absurd (let f = (had.3 e).1 in let t = c.loop-input-test.true in cc),
      );
      quiet = more.quiet ∙ c.loop-input.invariant.quiet;
      ended = more.ended;
    }
