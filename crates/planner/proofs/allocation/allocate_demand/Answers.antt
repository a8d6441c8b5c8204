use Rattle.std.proofs.Common.{◌≡◌, ◌<◌, ◌∙◌, ap, arith}
use Rattle.schedule.specs.Demands.{Demand}
use Rattle.schedule.specs.Placing.{place_at, spot}
use Rattle.planner.specs.Plan.{state_of}
use Rattle.planner.proofs.Runs.{unit_room, unit_filled}
use Rattle.planner.proofs.allocation.allocate_demand.Goals as goal

pub loop-preserved : goal.loop-preserved
loop-preserved c =
    let d = c.args.demand.now in
    let i = c.loop.counter in
    let st = state_of c.loop.plan in
    let after = state_of c.allocate_unit.new.plan in
    let before = c.loop.invariant in
    let allocated : after ≡ place_at d.from (spot d.from d.to st) st = rw (← before.from, ← before.to) c.allocate_unit.ensures.allocated in
    let lt : i < d.units = omega (arith, ap (λ (x : Demand). x.units) c.demand.view_is) in
    record {
      room = unit_room i d.from d.to st after (omega arith) allocated before.room;
      hull = c.allocate_unit.ensures.hull;
      from = c.allocate_unit.ensures.window.0 ∙ before.from;
      to = c.allocate_unit.ensures.window.1 ∙ before.to;
      rest = unit_filled i d.units d.from d.to st after lt allocated ∙ before.rest;
    }
