use Rattle.std.proofs.Common.{◌≡◌, ◌∙◌, get_or, min, arith, ap, refl, subst, sym}
use Rattle.queue.specs.Slots.{slots_of, elements_of}
use Rattle.planner.proofs.Slots.{take_removed}
use Rattle.queue.specs.Elements.{is_ready_before}
use Rattle.layout.specs.declared.job.Job.{Job}
use Rattle.layout.specs.Jobs.{job_after}
use Rattle.book.proofs.Jobs.{no_job}
use Rattle.book.proofs.Ready.{took_none}
use Rattle.book.proofs.Serving.{Start, WhileServing, first_state, started, next_job, next_units, next_bound, next_is, next_room, next_serving, used_up, all_served}
use Rattle.book.proofs.tick.serve.Goals as goal

pub loop-left-init : goal.loop-left-init
loop-left-init c =
    let start : Start = record { now = c.args.now; units = c.args.setting; jobs = c.args.jobs.now; list = c.args.list.now } in
    let q = elements_of (slots_of c.ready_jobs-ready.result) in
    subst (λ v. WhileServing start (record { left = v; count = 0; jobs = start.jobs; list = start.list; queue = q })) (sym c.from-left.ensures)
    (started start q c.requires.few c.requires.in_order c.requires.open c.ready_jobs-ready.ensures)

pub bounds-jobs-from : goal.bounds-jobs-from
bounds-jobs-from c =
    let q = slots_of c.loop-left.ready in
    let r = slots_of c.take.new.self in
    let removed = take_removed is_ready_before q r c.take.result c.in-Some.next c.take.ensures.said.leaves c.in-Some.is in
    let bound = next_bound _ _ c.in-Some.next q r c.loop-left.invariant refl c.loop-left-test.true c.requires.room removed in
    omega (arith, bound, c.from.ensures)

pub bounds-list-count : goal.bounds-list-count
bounds-list-count c =
    let q = slots_of c.loop-left.ready in
    let r = slots_of c.take.new.self in
    let removed = take_removed is_ready_before q r c.take.result c.in-Some.next c.take.ensures.said.leaves c.in-Some.is in
    next_room _ _ c.in-Some.next q r c.loop-left.invariant refl c.loop-left-test.true c.requires.room removed

pub loop-left-preserved : goal.loop-left-preserved
loop-left-preserved c =
    let q = slots_of c.loop-left.ready in
    let r = slots_of c.take.new.self in
    let left = c.loop-left.left in
    let removed = take_removed is_ready_before q r c.take.result c.in-Some.next c.take.ensures.said.leaves c.in-Some.is in
    let next = next_job _ _ c.in-Some.next q r c.loop-left.invariant refl c.loop-left-test.true c.requires.room removed in
    let is = next_is _ _ c.in-Some.next q r c.loop-left.invariant refl c.loop-left-test.true c.requires.room removed no_job in
    let then = next_serving _ _ c.in-Some.next q r c.loop-left.invariant refl c.loop-left-test.true c.requires.room removed in
    let job : get_or c.loop-left.jobs c.from.result no_job ≡ next = ap (λ p. get_or c.loop-left.jobs p no_job) c.from.ensures ∙ is in
    let units : c.serve-units.result ≡ min next.work left = c.serve-units.ensures.units ∙ ap (λ (j : Job). min j.work left) job in
    let new : c.serve-units.new.self ≡ job_after next (min next.work left) = c.serve-units.ensures.after ∙ (λ i. job_after (job i) (units i)) in
    rw (new, units, c.from.ensures) then

pub returns-after-loop-left : goal.returns-after-loop-left
returns-after-loop-left c =
    let e = used_up _ _ c.loop-left.invariant (omega arith) in
    record { jobs = e.jobs_are; list = e.list_is; count = e.count_is }

pub returns-in_default : goal.returns-in_default
returns-in_default c =
    let q = slots_of c.loop-left.ready in
    let none = took_none is_ready_before q (slots_of c.take.new.self) c.take.result c.take.ensures.said.leaves c.in_default.is in
    let e = all_served _ _ c.loop-left.invariant q refl none in
    record { jobs = e.jobs_are; list = e.list_is; count = e.count_is }
