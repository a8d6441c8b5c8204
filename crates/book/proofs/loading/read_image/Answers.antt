use Rattle.std.proofs.Common.{◌∙◌, is_some, ap, sym, subst}
use Rattle.std.specs.List.{All}
use Rattle.std.proofs.lemmas.Result.{err_from_is_err_and}
use Rattle.book.specs.Book.{IsOpenAt, IsInOrder}
use Rattle.book.specs.Calls.{overload_fault}
use Rattle.book.proofs.Images.ImageRead.{book_with, read_short, read_no_clock, read_wrong, well_formed_read, read_overload, read_book, lawful_read}
use Rattle.book.proofs.loading.read_image.Goals as goal

pub returns-then-list-lt-IMAGE_LEN : goal.returns-then-list-lt-IMAGE_LEN
returns-then-list-lt-IMAGE_LEN c = read_short c.args.list.now c.if-list-lt-IMAGE_LEN.true

pub returns-in_default : goal.returns-in_default
returns-in_default c = read_no_clock c.args.list.now c.if-list-lt-IMAGE_LEN.false c.as_chunks.result.0.now c.as_chunks.ensures.front c.in_default.ensures

pub returns-in_err-jobs : goal.returns-in_err-jobs
returns-in_err-jobs c =
    let p = err_from_is_err_and c.from_residual.result c.from_residual.ensures.1 in
    rw (p.1, p.2)
    (read_wrong c.args.list.now c.if-list-lt-IMAGE_LEN.false c.as_chunks.result.0.now c.as_chunks.ensures.front c.in-Some.now c.in-Some.top c.in-Some.ensures c.in_err-jobs.field-0.0 c.in_err-jobs.ensures)

pub overload_fault-requires-clause-in_time : goal.overload_fault-requires-clause-in_time
overload_fault-requires-clause-in_time c =
    let b = well_formed_read c.args.list.now c.if-list-lt-IMAGE_LEN.false c.as_chunks.result.0.now c.as_chunks.ensures.front c.in-Some.now c.in-Some.top c.in-Some.ensures c.in_ok-jobs.jobs c.in_ok-jobs.ensures in
    b.in_time

pub overload_fault-requires-clause-in_order : goal.overload_fault-requires-clause-in_order
overload_fault-requires-clause-in_order c =
    let b = well_formed_read c.args.list.now c.if-list-lt-IMAGE_LEN.false c.as_chunks.result.0.now c.as_chunks.ensures.front c.in-Some.now c.in-Some.top c.in-Some.ensures c.in_ok-jobs.jobs c.in_ok-jobs.ensures in
    subst IsInOrder (sym c.jobs.ensures.jobs) b.in_order

pub overload_fault-requires-clause-open : goal.overload_fault-requires-clause-open
overload_fault-requires-clause-open c =
    let b = well_formed_read c.args.list.now c.if-list-lt-IMAGE_LEN.false c.as_chunks.result.0.now c.as_chunks.ensures.front c.in-Some.now c.in-Some.top c.in-Some.ensures c.in_ok-jobs.jobs c.in_ok-jobs.ensures in
    subst (All (IsOpenAt c.in-Some.now)) (sym c.jobs.ensures.jobs) b.jobs_open

pub returns-then-is_some : goal.returns-then-is_some
returns-then-is_some c =
    let searched = c.overload_fault.ensures ∙ ap (λ js. overload_fault (book_with c.in-Some.now c.in-Some.top js)) c.jobs.ensures.jobs in
    read_overload c.args.list.now c.if-list-lt-IMAGE_LEN.false c.as_chunks.result.0.now c.as_chunks.ensures.front c.in-Some.now c.in-Some.top c.in-Some.ensures c.in_ok-jobs.jobs c.in_ok-jobs.ensures
    (sym (c.if-is_some.ensures ∙ ap is_some searched))

pub invariant_of-result : goal.invariant_of-result
invariant_of-result c =
    let searched = c.overload_fault.ensures ∙ ap (λ js. overload_fault (book_with c.in-Some.now c.in-Some.top js)) c.jobs.ensures.jobs in
    lawful_read c.args.list.now c.if-list-lt-IMAGE_LEN.false c.as_chunks.result.0.now c.as_chunks.ensures.front c.in-Some.now c.in-Some.top c.in-Some.ensures c.in_ok-jobs.jobs c.in_ok-jobs.ensures
    (sym (c.if-is_some.ensures ∙ ap is_some searched))

pub returns : goal.returns
returns c =
    let searched = c.overload_fault.ensures ∙ ap (λ js. overload_fault (book_with c.in-Some.now c.in-Some.top js)) c.jobs.ensures.jobs in
    read_book c.args.list.now c.if-list-lt-IMAGE_LEN.false c.as_chunks.result.0.now c.as_chunks.ensures.front c.in-Some.now c.in-Some.top c.in-Some.ensures c.in_ok-jobs.jobs c.in_ok-jobs.ensures
    (sym (c.if-is_some.ensures ∙ ap is_some searched))
