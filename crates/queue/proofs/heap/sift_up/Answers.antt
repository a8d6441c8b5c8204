use Rattle.std.proofs.Common.{◌≡◌, ◌-◌, ◌/◌, ◌<◌, true, false, ◌≢◌, length, set, sym, arith}
use Rattle.std.proofs.lemmas.List.{length-set}
use Rattle.std.proofs.lemmas.List.Sorted.{IsPermutation-trans}
use Rattle.queue.proofs.Sifting.{exchanged, moved_up, stays_below_parent, at_top, last_but_above, last_holds}
use Rattle.queue.proofs.Ranks.{ranks}
use Rattle.queue.proofs.heap.sift_up.Goals as goal
use Rattle.queue.proofs.heap.sift_up.Goals.{else-loop-index-test, then-loop-index-test+then-not-is_before}

pub loop-index-init : goal.loop-index-init
loop-index-init g c =
    let s = c.args.heap.now in
    let n = length s - 1 in
    record {
      within = omega (arith, c.requires.nonempty);
      holds = last_holds s n c.args.moving (omega (arith, c.requires.nonempty));
      ordered = last_but_above g.T.Rank.before s n c.args.moving (omega (arith, c.requires.nonempty)) c.requires.ordered;
    }

pub loop-index-preserved : goal.loop-index-preserved
loop-index-preserved g c =
    let s = c.loop-index.heap in
    let x = c.args.moving in
    let i = c.loop-index.index in
    let p = (i - 1) / 2 in
    let y = c.index-heap-parent.result in
    let v = c.loop-index.invariant in
    let pl : p < length s = omega (arith, v.within) in
    let ne : p ≢ i = omega (arith, c.loop-index-test.true) in
    let test : true ≡ g.T.Rank.before x y = c.if-not-is_before.ensures in
    let o = ranks g.met.T.Rank.one g.met.T.Rank.ordered g.met.T.Rank.tied in
    record {
      within = omega (arith, pl, length-set s i y);
      holds = IsPermutation-trans _ _ _ v.holds (exchanged s i p x y v.within pl ne c.index-heap-parent.is);
      ordered = moved_up s i p x y v.within pl ne c.index-heap-parent.is g.T.Rank.before o (omega arith, omega arith) (sym test) v.ordered;
    }

pub returns-clause-ordered : goal.returns-clause-ordered
returns-clause-ordered g c =
    let s = c.loop-index.heap in
    let x = c.args.moving in
    let i = c.loop-index.index in
    let p = (i - 1) / 2 in
    let v = c.loop-index.invariant in
    let o = ranks g.met.T.Rank.one g.met.T.Rank.ordered g.met.T.Rank.tied in
    elim c.loop-index-test.branch [
      | else-loop-index-test w ↦ at_top g.T.Rank.before o (set s i x) i (omega (arith, w.loop-index-test.false)) v.ordered
      | then-loop-index-test+then-not-is_before w ↦
          let y = w.index-heap-parent.result in
          let pl : p < length s = omega (arith, v.within) in
          let ne : p ≢ i = omega (arith, w.loop-index-test.true) in
          let test : false ≡ g.T.Rank.before x y = w.if-not-is_before.ensures in
          stays_below_parent s i p x y v.within pl ne w.index-heap-parent.is g.T.Rank.before o (omega arith, omega arith) (sym test) v.ordered
    ]
