use Rattle.std.proofs.Common.{◌≡◌, ◌+◌, List, [], ◌∷◌, ◌++◌, Some, length, sym, ap, ◌∙◌, subst, arith, append_assoc}
use Rattle.std.proofs.Common.{append-nil, length-append}
use Rattle.std.specs.Prelude.{flat_map, IsPermutation}
use Rattle.std.proofs.lemmas.Grind.{flat_map-append}
use Rattle.std.proofs.lemmas.List.Elements.{All-pop}
use Rattle.std.proofs.lemmas.List.Sorted.{IsPermutation-trans, IsPermutation-append_comm}
use Rattle.std.proofs.lemmas.List.Sorted.{IsPermutation-append_right}
use Rattle.batch_queue.specs.declared.batch.Batch.{Batch}
use Rattle.batch_queue.specs.declared.queue.QueuePass.{QueuePass}
use Rattle.batch_queue.specs.Passes.{put_of, took_of}
use Rattle.batch_queue.specs.Uniting.{IsOther}
use Rattle.batch_queue.proofs.queue.BatchQueue.unite_all.Goals as goal

-- what one of them took goes from the others to those that are united
took : (whole a b : List Batch) (seats seats' : List QueuePass) (s : QueuePass) → seats ≡ seats' ++ s ∷ []
    → b ≡ a ++ took_of s → IsPermutation whole (a ++ flat_map took_of seats)
    → IsPermutation whole (b ++ flat_map took_of seats')
took whole a b seats seats' s is more all =
    let rest = flat_map took_of seats' in
    subst (λ l. IsPermutation whole l) (sym (ap (λ l. l ++ rest) more ∙ append_assoc a (took_of s) rest))
    (IsPermutation-trans _ (a ++ (rest ++ took_of s)) _
    (subst (λ l. IsPermutation whole (a ++ l)) (ap (flat_map took_of) is ∙ flat_map-append took_of seats' (s ∷ [])
    ∙ ap (λ l. rest ++ l) (append-nil (took_of s))) all)
    (IsPermutation-append_right a (rest ++ took_of s) (took_of s ++ rest) (IsPermutation-append_comm rest (took_of s))))

pub unite-all-requires : goal.unite-all-requires
unite-all-requires c =
    let p = All-pop (IsOther c.args.self.now) _ _ (Some c.in-Some.seat) c.in-Some.ensures.items
    c.loop-seat.invariant.left in
    record { own = (c.loop-seat.invariant.own, p.1.0) }

pub loop-seat-preserved : goal.loop-seat-preserved
loop-seat-preserved c =
    let i = c.loop-seat.invariant in
    let is = c.in-Some.ensures.items in
    let p = All-pop (IsOther c.args.self.now) _ _ (Some c.in-Some.seat) is i.left in
    let e : length c.loop-seat.others.items ≡ length c.pop.new.self.items + 1 =
    ap length is ∙ length-append c.pop.new.self.items (c.in-Some.seat ∷ []) in
    let told = c.unite-all.ensures in
    record {
      left = p.0;
      own = told.own;
      reader = λ r. told.reader.0 (i.reader r);
      put = told.batches.0 ∙ ap (λ l. put_of c.loop-seat.all ++ l) p.1.1 ∙ append-nil (put_of c.loop-seat.all) ∙ i.put;
      others = (let o = told.seats.1 in let n = p.1.3 in let a = i.others in omega (arith, o, n, a));
      many = (let s = told.seats.0 in let n = p.1.2 in let m = i.many in omega (arith, s, n, m, e));
      took = took _ _ _ _ _ c.in-Some.seat is told.batches.1 i.took;
    }
