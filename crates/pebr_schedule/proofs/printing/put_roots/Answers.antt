use Rattle.pebr_schedule.specs.Printed.{root_line}
use Rattle.pebr_schedule.proofs.Texts.{text_more}
use Rattle.pebr_schedule.proofs.printing.put_roots.Goals as goal

pub loop-root-preserved : goal.loop-root-preserved
loop-root-preserved c =
    text_more (root_line c.args.core.now) c.loop-root.root c.args.out.now.items c.loop-root.out.items
    c.put_root.new.out.items c.loop-root.invariant c.in_ok-put_root.ensures
