use Rattle.std.proofs.Common.{◌≡◌, ◌<◌, ◌∙◌, ◌++◌, take, drop, length, map, sym, ap, subst, rules, arith}
use Rattle.std.specs.List.{AllByRecursion}
use Rattle.std.proofs.lemmas.List.{length-take, take-append-le}
use Rattle.schedule.specs.Certificate.{listed}
use Rattle.schedule.specs.InForce.{horizon}
use Rattle.schedule.specs.Compressed.{seen, compressed, windows, NonEmpty}
use Rattle.schedule.specs.BestPair.{extent}
use Rattle.schedule.proofs.Theory.{theory}
use Rattle.planner.specs.Pair.{times_of, best_pair_of, IsCounted}
use Rattle.planner.specs.Ticks.{is_free_in}
use Rattle.planner.proofs.Compressing.{windows_by, windows_first, windows_proper}
use Rattle.planner.proofs.NextRound.{Steps, steps_leave, steps_block}
use Rattle.planner.proofs.rounds.Rounds.next_block.Goals as goal

pub windows-windows-requires-clause-within : goal.windows-windows-requires-clause-within
windows-windows-requires-clause-within c = subst (λ n. NonEmpty n (take c.self.inside.count c.self.inside.demands)) theory.ticks c.self.invariant.1.windowed

pub best_pair-requires-clause-proper : goal.best_pair-requires-clause-proper
best_pair-requires-clause-proper c =
    let n = c.self.inside.count in
    let ds = take n c.self.inside.demands in
    let free = is_free_in c.self.inside.free in
    let times = c.compressed_times-times.result in
    let long : length c.self.inside.demands ≡ 64 = search rules in
    let are = windows_first (listed times) n c.self.inside.demands c.windows-windows.result (omega (arith, c.self.invariant.0)) c.windows-windows.ensures
    ∙ windows_by free times c.compressed_times-times.ensures ds (subst (λ m. NonEmpty m ds) theory.ticks c.self.invariant.1.windowed) in
    subst (AllByRecursion (λ w. w.from < w.to)) (sym are) (windows_proper (compressed free horizon) (windows free ds) c.self.invariant.1.free_left)

pub remove_inside-self-inside-requires : goal.remove_inside-self-inside-requires
remove_inside-self-inside-requires c = record { within = subst (λ n. NonEmpty n (take c.self.inside.count c.self.inside.demands)) theory.ticks c.self.invariant.1.windowed }

windows_are : (c : goal.After-round_block) → take c.self.inside.count c.windows-windows.result ≡ map (seen (listed c.compressed_times-times.result)) (take c.self.inside.count c.self.inside.demands)
windows_are c =
    let long : length c.self.inside.demands ≡ 64 = search rules in
    windows_first (listed c.compressed_times-times.result) c.self.inside.count c.self.inside.demands c.windows-windows.result (omega (arith, c.self.invariant.0)) c.windows-windows.ensures

steps : (c : goal.After-round_block) → Steps c.self.inside.free (take c.self.inside.count c.self.inside.demands) c.compressed_times-times.result (times_of c.in_ok-pair.pair)
    c.taken_ticks-taken.result c.take_ticks.new.free (take c.remove_inside-self-inside.result c.remove_inside-self-inside.new.demands)
steps c = record {
  before = c.self.invariant.1;
  size = c.self.told;
  table = c.compressed_times-times.ensures;
  best = c.in_ok-pair.ensures.pair ∙ ap best_pair_of (windows_are c);
  marks_long = search rules;
  marked = c.taken_ticks-taken.ensures;
  free_long = c.take_ticks.array_long;
  freed = c.take_ticks.ensures;
  kept = c.remove_inside-self-inside.ensures.left;
}

-- what is left comes first
left : (c : goal.After-round_block) → take c.remove_inside-self-inside.result (c.remove_inside-self-inside.new.demands ++ drop c.self.inside.count c.self.inside.demands) ≡ take c.remove_inside-self-inside.result c.remove_inside-self-inside.new.demands
left c = take-append-le _ _ _ c.remove_inside-self-inside.ensures.count

pub invariant_of-self : goal.invariant_of-self
invariant_of-self c =
    let same : length c.remove_inside-self-inside.new.demands ≡ length (take c.self.inside.count c.self.inside.demands) = c.remove_inside-self-inside.auto.demands in
    (omega (arith, c.remove_inside-self-inside.ensures.count, length-take c.self.inside.count c.self.inside.demands, c.self.invariant.0), rw (left c) (steps_leave _ _ _ _ _ _ _ (steps c)))

pub returns : goal.returns
returns c =
    let work = subst (λ ws. IsCounted ws c.in_ok-pair.pair) (windows_are c) c.in_ok-pair.ensures.work in
    let speed = c.round_block.ensures.speed ∙ ap (λ w. (w, extent (times_of c.in_ok-pair.pair))) work in
    sym c.self.view_is ∙ rw (left c) (steps_block _ _ _ _ _ _ _ (steps c) c.round_block.result speed c.round_block.ensures.from c.round_block.ensures.to)
