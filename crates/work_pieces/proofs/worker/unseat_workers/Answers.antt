use Rattle.std.proofs.Common.{◌≡◌, List, [], ◌∷◌, ◌++◌, Some, map, sym, ap, ◌∙◌, append_assoc}
use Rattle.std.specs.Prelude.{◌≢◌}
use Rattle.std.proofs.lemmas.List.Elements.{All-pop, All-push, All-same}
use Rattle.std.proofs.lemmas.List.{map-append}
use Rattle.work_pieces.specs.declared.worker.WorkState.TheVariants.{Finished, Going}
use Rattle.work_pieces.specs.declared.worker.Worker.{Worker}
use Rattle.work_pieces.proofs.worker.unseat_workers.Goals as goal

-- one is taken off the end, and what is taken of it put to the front of the others
moved : {W Y : Type 0} (f : W → Y) (ws ws' : List W) (w : W) (ys ys' all : List Y) → ws ≡ ws' ++ w ∷ []
    → ys' ≡ f w ∷ ys → map f ws ++ ys ≡ all → map f ws' ++ ys' ≡ all
moved f ws ws' w ys ys' all taken put is =
    ap (λ l. map f ws' ++ l) put ∙ sym (append_assoc (map f ws') (f w ∷ []) ys)
    ∙ ap (λ l. l ++ ys) (sym (ap (map f) taken ∙ map-append f ws' (w ∷ []))) ∙ is

pub loop-worker-preserved : goal.loop-worker-preserved
loop-worker-preserved g c =
    let W : Type 0 = Worker g.row.S.Denot g.row.T.Denot in
    let i = c.loop-worker.invariant in
    let w = c.in-Some.worker in
    let items = c.in-Some.ensures.items in
    record {
      ended = (All-pop (λ (v : W). v.state ≢ Going) _ _ (Some w) items i.ended).0;
      shares = moved (λ (v : W). v.share) _ _ w _ _ _ items c.in_ok-insert.ensures.items i.shares;
      seats = moved (λ (v : W). v.seat) _ _ w _ _ _ items c.in_ok-insert-2.ensures.items i.seats;
      finished = λ all. i.finished (All-same (λ (v : W). v.state ≡ Finished) _ _ items
          (All-push (λ (v : W). v.state ≡ Finished) _ w all c.in-Finished.is));
    }
