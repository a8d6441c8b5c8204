use Rattle.std.proofs.Common.{◌∙◌, sym, ap, arith}
use Rattle.schedule.specs.Placing.{run}
use Rattle.planner.specs.Plan.{state_of}
use Rattle.planner.proofs.Runs.{empty_room, demand_room, demand_run, window, all_run, units_same, units_in_force}
use Rattle.planner.proofs.allocation.settings.Goals as goal

pub loop-demand-init : goal.loop-demand-init
loop-demand-init c = record { room = empty_room (state_of c.new-plan.result) c.new-plan.ensures; rest = ap (run c.demands.inside.list.now) c.new-plan.ensures }

pub loop-demand-preserved : goal.loop-demand-preserved
loop-demand-preserved c =
    let ds = c.demands.inside.list.now in
    let i = c.loop-demand.demand-index in
    let d = c.demand-item.result in
    let st = state_of c.loop-demand.plan in
    let after = state_of c.allocate_demand.new.plan in
    record {
      room = demand_room ds i d st after c.allocate_demand.ensures.filled (omega arith) c.allocate_demand.ensures.units c.loop-demand.invariant.room;
      rest = demand_run ds i d st after c.allocate_demand.ensures.filled c.loop-demand-test.true c.demand-item.is ∙ c.loop-demand.invariant.rest;
    }

pub allocate_demand-requires-clause-window : goal.allocate_demand-requires-clause-window
allocate_demand-requires-clause-window c = window c.demands.inside.list.now c.loop-demand.demand-index c.demand-item.result c.demands.invariant c.loop-demand-test.true c.demand-item.is

pub returns : goal.returns
returns c =
    let ds = c.demands.inside.list.now in
    let p = c.loop-demand.plan in
    let done = sym (all_run ds c.loop-demand.demand-index (state_of p) c.loop-demand-test.false) ∙ c.loop-demand.invariant.rest in
    rw (← c.demands.view_is) (record { settings = units_same ds p c.demands.invariant done; in_force = units_in_force ds p c.demands.invariant done })
