use Rattle.std.proofs.Common.{◌≡◌, ◌≤◌, rules, tests, arith, length, take, ap, ◌∙◌, not, sym}
use Rattle.std.specs.List.{position, position_or_len}
use Rattle.std.specs.Option.{unwrap_or}
use Rattle.std.proofs.lemmas.List.{length-take}
use Rattle.std.proofs.lemmas.List.Sums.{prefix_len-le-length}
use Rattle.std.proofs.lemmas.Iterator.{YieldsList-from_slice}
use Rattle.std.proofs.lemmas.Iterator.Search.{position_from_yields_List}
use Rattle.book.specs.Jobs.{is_before}
use Rattle.book.proofs.Places.{take_inserted}
use Rattle.book.proofs.Jobs.{position-unwrap_or}
use Rattle.book.proofs.table.Table.with_job.Goals as goal

pub returns : goal.returns
returns c =
    let n = c.self.inside.count in
    let old = take n c.self.inside.places in
    let long : length c.self.inside.places ≡ 64 = search rules in
    let few : n ≤ 64 = c.self.invariant in
    let held : length old ≡ n = omega (arith, length-take n c.self.inside.places) in
    let found : c.position.result ≡ position (is_before c.args.job) old =
    position_from_yields_List (is_before c.args.job) _ _ c.position.result c.position.ensures.ran (YieldsList-from_slice c.jobs.result.now cc) (λ x b q k. search (rules, tests))
    ∙ ap (position (is_before c.args.job)) (c.jobs.ensures.jobs ∙ sym c.self.view_is) in
    let index : c.unwrap_or-index.result ≡ position_or_len (is_before c.args.job) old =
    c.unwrap_or-index.ensures ∙ ap (λ o. unwrap_or o n) found ∙ position-unwrap_or (is_before c.args.job) old n (sym held) in
    rw (← c.self.view_is, c.copy_within.ensures.after, index)
    (take_inserted c.self.inside.places n (position_or_len (is_before c.args.job) old) c.args.job (omega (arith, prefix_len-le-length (λ j. not (is_before c.args.job j)) old)) (omega (arith, ap length c.self.view_is)))
