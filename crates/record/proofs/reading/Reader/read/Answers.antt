use Rattle.std.proofs.Common.{◌∙◌, ap, take, drop, arith}
use Rattle.std.proofs.lemmas.List.{take_all, length-drop}
use Rattle.layout.specs.BigEndian.{part}
use Rattle.layout.specs.Reading.{Position}
use Rattle.record.proofs.reading.Reader.read.Goals as goal

pub returns-clause-only : goal.returns-clause-only
returns-clause-only c =
    let i = c.self.inside in
    let left = take_all _ (drop i.offset i.input.now) (omega (arith, length-drop i.offset i.input.now)) in
    let whole = c.in-Some.ensures.cases.same ∙ ap (take 24) left ∙ ap (λ (p : Position). part p.offset 24 p.input) c.self.view_is in
    rw whole at c.in_ok-record.ensures.only
