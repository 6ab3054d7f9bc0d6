use Rattle.std.proofs.Common.{◌++◌, ◌∙◌, List, ap, sym, take, drop, append_assoc, take-append-drop}
use Rattle.sink_buffer.proofs.buffer.SinkBuffer.put.Goals as goal

pub returns-in-Err-clause-cut : goal.returns-in-Err-clause-cut
returns-in-Err-clause-cut g c =
    let h = c.in-Err.ensures.prefix in
    let held = c.args.self.now in
    let piece = c.args.piece.now in (
      drop h.0 held ++ piece,
      record {
        taken = take h.0 held;
        appended = h.1;
        whole = sym (append_assoc (take h.0 held) (drop h.0 held) piece)
            ∙ ap (λ bytes. bytes ++ piece) (take-append-drop h.0 held);
      },
    )
