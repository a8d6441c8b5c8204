use Rattle.std.proofs.Common.{◌≡◌, true, false, ◌≢◌, set, sym, arith}
use Rattle.std.proofs.lemmas.List.{length-set}
use Rattle.std.proofs.lemmas.List.Sorted.{IsPermutation-trans}
use Rattle.queue.proofs.Sifting.{exchanged, moved_down, stays_above_children, at_bottom, first_but_below, first_holds}
use Rattle.queue.proofs.Ranks.{ranks}
use Rattle.queue.proofs.heap.sift_down.Goals as goal
use Rattle.queue.proofs.heap.sift_down.Goals.{else-loop-index-test, then-loop-index-test+then-not-is_before}

pub loop-index-init : goal.loop-index-init
loop-index-init g c = record {
  within = c.requires.nonempty;
  holds = first_holds c.args.heap.now c.args.moving c.requires.nonempty;
  ordered = first_but_below g.T.Rank.before c.args.heap.now c.args.moving c.requires.ordered;
}

pub loop-index-preserved : goal.loop-index-preserved
loop-index-preserved g c =
    let s = c.loop-index.heap in
    let x = c.args.moving in
    let i = c.loop-index.index in
    let j = c.lesser_child-child.result in
    let y = c.index-heap-child.result in
    let v = c.loop-index.invariant in
    let child = c.lesser_child-child.ensures.child in
    let ne : j ≢ i = omega (arith, child.0) in
    let test : true ≡ g.T.Rank.before y x = c.if-not-is_before.ensures in
    let o = ranks g.met.T.Rank.one g.met.T.Rank.ordered g.met.T.Rank.tied in
    record {
      within = omega (arith, child.1, length-set s i y);
      holds = IsPermutation-trans _ _ _ v.holds (exchanged s i j x y v.within child.1 ne c.index-heap-child.is);
      ordered = moved_down s i j x y v.within child.1 ne c.index-heap-child.is g.T.Rank.before o child.0 c.lesser_child-child.ensures.least v.ordered (sym test);
    }

pub returns-clause-ordered : goal.returns-clause-ordered
returns-clause-ordered g c =
    let s = c.loop-index.heap in
    let x = c.args.moving in
    let i = c.loop-index.index in
    let v = c.loop-index.invariant in
    let o = ranks g.met.T.Rank.one g.met.T.Rank.ordered g.met.T.Rank.tied in
    elim c.loop-index-test.branch [
      | else-loop-index-test w ↦ at_bottom g.T.Rank.before o (set s i x) i (omega (arith, w.loop-index-test.false, length-set s i x)) v.ordered
      | then-loop-index-test+then-not-is_before w ↦
          let j = w.lesser_child-child.result in
          let y = w.index-heap-child.result in
          let child = w.lesser_child-child.ensures.child in
          let ne : j ≢ i = omega (arith, child.0) in
          let test : false ≡ g.T.Rank.before y x = w.if-not-is_before.ensures in
          stays_above_children s i j x y v.within child.1 ne w.index-heap-child.is g.T.Rank.before o child.0 w.lesser_child-child.ensures.least v.ordered (sym test)
    ]
