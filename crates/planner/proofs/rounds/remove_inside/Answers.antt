use Rattle.std.proofs.Common.{◌≡◌, Bool, true, false, not, ◌∙◌, ap, sym, arith}
use Rattle.std.proofs.lemmas.List.Filters.{FiltersInPlace-more_set, FiltersInPlace-more_no}
use Rattle.schedule.specs.Certificate.{listed}
use Rattle.schedule.specs.Compressed.{seen}
use Rattle.schedule.specs.Demands.{Demand}
use Rattle.schedule.specs.Work.{inside}
use Rattle.planner.proofs.rounds.remove_inside.Goals as goal
use Rattle.planner.proofs.rounds.remove_inside.Goals.{then-not-is_inside, else-not-is_inside}

pub loop-index-preserved : goal.loop-index-preserved
loop-index-preserved c =
    let p = c.args.pair.now in
    let lies : Demand → Bool = inside p.low p.high in
    let d = c.index-demands-index.result in
    let told : c.is_inside.result ≡ lies (seen (listed c.args.times.now) d) = c.is_inside.ensures ∙ ap lies c.seen.ensures in
    elim c.if-not-is_inside.branch [
      | then-not-is_inside w ↦
          let left : not (lies (seen (listed c.args.times.now) d)) ≡ true = ap not (sym told) ∙ ap not w.if-not-is_inside.true in
          rw (w.demands-is, w.count-is) (FiltersInPlace-more_set c.loop-index.invariant (omega arith) left c.index-demands-index.is)
      | else-not-is_inside w ↦
          let removed : not (lies (seen (listed c.args.times.now) d)) ≡ false = ap not (sym told) ∙ ap not w.if-not-is_inside.false in
          rw (w.demands-is, w.count-is) (FiltersInPlace-more_no c.loop-index.invariant (omega arith) removed c.index-demands-index.is)
    ]
