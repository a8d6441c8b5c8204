use Rattle.std.proofs.Common.{◌+◌, ◌∙◌, [], ◌∷◌, ◌++◌, length, get_or, drop, ap, sym, arith}
use Rattle.std.proofs.lemmas.List.{length-append}
use Rattle.layout.specs.Jobs.{job_in}
use Rattle.book.specs.Images.{is_next_job}
use Rattle.book.specs.Reading.{leading_jobs}
use Rattle.book.proofs.Images.ImageRead.{some_if, none_if, one_more, no_more}
use Rattle.book.proofs.loading.leading_jobs.Goals as goal

pub returns-in_default : goal.returns-in_default
returns-in_default c =
    let i = c.loop-bytes.bytes-index in
    let js = c.loop-bytes.jobs in
    let rs = c.args.records.now in
    let r = get_or rs i [] in
    sym (c.loop-bytes.invariant.rest ∙ no_more c.args.now i js rs c.loop-bytes-test.true [] (none_if (is_next_job c.args.now js r) (job_in r) c.in_default.ensures))

pub loop-bytes-preserved : goal.loop-bytes-preserved
loop-bytes-preserved c =
    let i = c.loop-bytes.bytes-index in
    let js = c.loop-bytes.jobs in
    let rs = c.args.records.now in
    let r = get_or rs i [] in
    let on = some_if (is_next_job c.args.now js r) (job_in r) c.in-Some.job c.in-Some.ensures in
    let more = c.push.ensures ∙ ap (λ j. js ++ (j ∷ [])) on.1 in
    record {
      count = omega (arith, c.loop-bytes.invariant.count, ap length more, length-append js (job_in r ∷ []));
      rest = c.loop-bytes.invariant.rest ∙ one_more c.args.now i js rs c.loop-bytes-test.true [] on.0 ∙ ap (λ ks. leading_jobs c.args.now ks (drop (i + 1) rs)) (sym more);
    }
