use Rattle.std.proofs.Common.{◌≡◌, ◌∙◌, Ok, not, length, position, drop, ap, sym, rules, tests}
use Rattle.std.specs.Str.{bytes_eq}
use Rattle.std.proofs.lemmas.List.{take_rest}
use Rattle.std.proofs.lemmas.Iterator.{YieldsList-from_slice}
use Rattle.std.proofs.lemmas.Iterator.Search.{position_from_yields_List}
use Rattle.book.specs.Images.{blank_record}
use Rattle.book.proofs.Images.ImageRead.{count_within, rest_blank, rest_wrong}
use Rattle.book.proofs.loading.read_jobs.Goals as goal

pub slice_bounds-iter-count : goal.slice_bounds-iter-count
slice_bounds-iter-count c = count_within c.args.now _ c.args.records.now (ap length (c.jobs-count.ensures.jobs ∙ c.leading_jobs-jobs.ensures))

pub slice_bounds-iter-start : goal.slice_bounds-iter-start
slice_bounds-iter-start c = count_within c.args.now _ c.args.records.now (ap length (c.jobs-count.ensures.jobs ∙ c.leading_jobs-jobs.ensures))

pub returns-in-None : goal.returns-in-None
returns-in-None c =
    let rest = drop (length c.jobs-count.result.now) c.args.records.now in
    let found : c.position.result ≡ position (λ r. not (bytes_eq r blank_record)) rest =
    position_from_yields_List (λ r. not (bytes_eq r blank_record)) _ _ c.position.result c.position.ensures.ran (YieldsList-from_slice rest (c.iter.ensures.rest ∙ take_rest c.args.records.now (length c.jobs-count.result.now))) (λ x b q k. search (rules, tests)) in
    ap Ok c.leading_jobs-jobs.ensures
    ∙ rest_blank c.args.now _ c.args.records.now (ap length (c.jobs-count.ensures.jobs ∙ c.leading_jobs-jobs.ensures)) (sym found ∙ c.in-None.is)

pub returns-in-Some : goal.returns-in-Some
returns-in-Some c =
    let rest = drop (length c.jobs-count.result.now) c.args.records.now in
    let found : c.position.result ≡ position (λ r. not (bytes_eq r blank_record)) rest =
    position_from_yields_List (λ r. not (bytes_eq r blank_record)) _ _ c.position.result c.position.ensures.ran (YieldsList-from_slice rest (c.iter.ensures.rest ∙ take_rest c.args.records.now (length c.jobs-count.result.now))) (λ x b q k. search (rules, tests)) in
    rest_wrong c.args.now _ c.args.records.now (ap length (c.jobs-count.ensures.jobs ∙ c.leading_jobs-jobs.ensures)) c.in-Some.index (sym found ∙ c.in-Some.is)
