use Rattle.std.proofs.Common.{◌∙◌, length-set, arith}
use Rattle.planner.proofs.TickLists.{times_fit, times_more}
use Rattle.planner.proofs.ticks.compressed_times.Goals as goal

pub overflow_add-times : goal.overflow_add-times
overflow_add-times c =
    omega (arith, times_fit c.args.free.now c.loop-tick.times c.loop-tick.tick c.from.result (omega arith) c.loop-tick.invariant.so_far c.from.ensures)

pub loop-tick-preserved : goal.loop-tick-preserved
loop-tick-preserved c =
    let before = c.loop-tick.invariant in
    record {
      size = length-set _ _ _ ∙ before.size;
      so_far = times_more c.args.free.now c.loop-tick.times c.loop-tick.tick c.from.result (omega arith) before.so_far c.from.ensures (omega arith);
    }
