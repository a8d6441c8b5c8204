use Rattle.std.proofs.Common.{◌≡◌, ℕ, ◌<◌, ◌∙◌, Some, sym, get_or, drop, arith, rules}
use Rattle.std.proofs.lemmas.List.{length-drop}
use Rattle.layout.specs.Layout.{kind_of}
use Rattle.layout.proofs.OneForm.{only_form}
use Rattle.layout.proofs.Layouts.{forbidden_within}
use Rattle.record.specs.Content.{content_of}
use Rattle.record.proofs.reading.parse.Goals as goal

pub overflow_add-result : goal.overflow_add-result
overflow_add-result c =
    let b = c.args.bytes.now in
    omega (arith, forbidden_within c.in_ok-kind.kind 1 (drop 1 b) c.in-Some.index c.in-Some.ensures, length-drop 1 b)

pub returns-clause-only : goal.returns-clause-only
returns-clause-only c =
    let b = c.args.bytes.now in
    let kind : Some c.in_ok-kind.kind ≡ kind_of (get_or b 0 0) = search rules in
    let small : (i : ℕ) → get_or b i 0 < 256 = λ i. search rules in
    only_form c.in_ok-kind.kind b (search rules) small kind (sym c.in_default.is ∙ c.first_forbidden.ensures) (content_of c.record_in.result) c.record_in.ensures
