use Rattle.std.proofs.Common.{Ok, Err, ap, sym}
use Rattle.std.proofs.lemmas.Result.{err_from_is_err_and}
use Rattle.book.specs.Outcomes.{Outcome}
use Rattle.book.specs.declared.fault.BookFault.{BookFault}
use Rattle.book.proofs.Images.ImageRead.{load_refused, load_accepted, only_loaded}
use Rattle.book.proofs.book.Book.load.Goals as goal

pub returns-in_err-self-clause-answer : goal.returns-in_err-self-clause-answer
returns-in_err-self-clause-answer c =
    let p = err_from_is_err_and c.from_residual.result c.from_residual.ensures.1 in
    rw (p.1, p.2) (sym (ap (λ (o : Outcome (Unit {0}) BookFault (Unit {0})). o.answer) (load_refused c.args.self.now c.args.list.now c.in_err-self.field-0.0 c.in_err-self.ensures)))

pub returns-in_err-self-clause-after : goal.returns-in_err-self-clause-after
returns-in_err-self-clause-after c = sym (ap (λ (o : Outcome (Unit {0}) BookFault (Unit {0})). o.book) (load_refused c.args.self.now c.args.list.now c.in_err-self.field-0.0 c.in_err-self.ensures))

pub returns-clause-answer : goal.returns-clause-answer
returns-clause-answer c = sym (ap (λ (o : Outcome (Unit {0}) BookFault (Unit {0})). o.answer) (load_accepted c.args.self.now c.in_ok-self.field-0 c.args.list.now c.in_ok-self.ensures))

pub returns-clause-after : goal.returns-clause-after
returns-clause-after c = sym (ap (λ (o : Outcome (Unit {0}) BookFault (Unit {0})). o.book) (load_accepted c.args.self.now c.in_ok-self.field-0 c.args.list.now c.in_ok-self.ensures))

pub returns-in_err-self-clause-only_images : goal.returns-in_err-self-clause-only_images
returns-in_err-self-clause-only_images c long =
    let p = err_from_is_err_and c.from_residual.result c.from_residual.ensures.1 in
    rw (p.1, p.2) (only_loaded c.args.self.now c.args.list.now (Err c.in_err-self.field-0.0) c.args.self.now long (load_refused c.args.self.now c.args.list.now c.in_err-self.field-0.0 c.in_err-self.ensures))

pub returns-clause-only_images : goal.returns-clause-only_images
returns-clause-only_images c long =
    only_loaded c.args.self.now c.args.list.now (Ok tt) c.in_ok-self.field-0 long (load_accepted c.args.self.now c.in_ok-self.field-0 c.args.list.now c.in_ok-self.ensures)
