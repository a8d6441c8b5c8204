use Rattle.life.proofs.Handling.{lawful_handled}
use Rattle.life.proofs.handle.Goals as goal

pub returns-clause-law : goal.returns-clause-law
returns-clause-law c =
    lawful_handled c.args.book.now c.args.request.now c.args.list.now c.apply.result c.apply.new.book c.apply.new.list c.apply.ensures.answer c.apply.ensures.after c.apply.ensures.list
