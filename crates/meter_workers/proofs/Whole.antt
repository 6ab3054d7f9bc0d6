-- A whole capture was metered.
use Rattle.meter_workers.proofs.Common.{◌≡◌, ℕ, ◌∙◌, List, subst, packets_in, SharesOut, IsTallyOf, Ghosts, Answer}
use Rattle.meter_workers.proofs.Common.{CaptureMetered, HaveMetered}
use Rattle.meter_io.specs.Sides.{Side}
use Rattle.capture_input.specs.Giving.{IsReadWhole}
use Rattle.meter_workers.specs.Whole.{IsMeteredWhole}

pub metered-whole : {X P : Type 0} (the : Ghosts X P) (cache : X) (answers : List Answer) (all : CaptureMetered X P)
    (source : Side) (limit tail : ℕ)
    → IsReadWhole source.before source.after limit answers tail → HaveMetered the cache answers all → all.tail ≡ tail
    → IsMeteredWhole source limit (the.means cache).limits (the.shown all.pass).note.taken all.tally all.tail
metered-whole the cache answers all source limit tail whole metered same = record {
  bytes = whole.file.bytes;
  read = record { given = whole.given; ended = whole.ended; within = whole.within };
  file = whole.file;
  is_file = whole.is_file;
  known = whole.known;
  undamaged = whole.undamaged;
  shared = subst (λ (a : List Answer). SharesOut (the.means cache).limits (packets_in a)
      (the.shown all.pass).note.taken) whole.are metered.shared;
  tallied = subst (λ (a : List Answer). IsTallyOf all.tally a) whole.are metered.tallied;
  tail_is = same ∙ whole.tail_is;
}
