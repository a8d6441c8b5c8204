use Rattle.std.proofs.Common.{◌∙◌, get_or, arith}
use Rattle.queue.specs.Slots.{slots_of, elements_of}
use Rattle.planner.proofs.Slots.{put_added}
use Rattle.book.proofs.Jobs.{no_job}
use Rattle.book.proofs.Ready.{queue_more, queue_same, all_queued}
use Rattle.book.specs.Ready.{ready_job}
use Rattle.book.proofs.tick.ready_jobs.Goals as goal
use Rattle.book.proofs.tick.ready_jobs.Goals.{then-job-now, else-job-now}

pub loop-index-preserved : goal.loop-index-preserved
loop-index-preserved c =
    let js = c.args.jobs.now in
    let i = c.loop-index.index in
    let q = slots_of c.loop-index.ready in
    let before = c.loop-index.invariant in
    elim c.if-job-now.branch [
      | then-job-now w ↦
          let added = put_added (ready_job i (get_or js i no_job)) q (slots_of w.put.new.self) (omega arith) w.put.ensures.after in
          rw w.ready-is (record {
            size = added.slots ∙ before.size;
            count = omega (arith, added.count);
            queued = queue_more c.args.now i js no_job (elements_of q) (elements_of (slots_of w.put.new.self)) c.loop-index-test.true w.if-job-now.true before.queued added.holds;
          })
      | else-job-now w ↦
          rw w.ready-is (record {
            size = before.size;
            count = omega arith;
            queued = queue_same c.args.now i js no_job (elements_of q) c.loop-index-test.true (omega arith) before.queued;
          })
    ]

pub returns : goal.returns
returns c = all_queued c.args.now c.loop-index.index c.args.jobs.now (elements_of (slots_of c.loop-index.ready)) c.loop-index-test.false c.loop-index.invariant.queued
