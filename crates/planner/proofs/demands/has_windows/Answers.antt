use Rattle.std.proofs.Common.{All, IsTrue, ◌↔◌, rules}
use Rattle.schedule.specs.Demands.{Windowed}
use Rattle.planner.proofs.Orders.{sound_answer}
use Rattle.planner.proofs.demands.has_windows.Goals as goal

pub returns : goal.returns
returns c =
    let h : IsTrue c.all.result ↔ All (Windowed 256) c.args.list.now = search rules in
    sound_answer c.args.list.now c.all.result h
