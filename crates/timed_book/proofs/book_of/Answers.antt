use Rattle.std.proofs.Common.{◌∙◌, ap}
use Rattle.book.specs.Images.{load_outcome}
use Rattle.timed_book.specs.Timed.{book_of}
use Rattle.timed_book.proofs.book_of.Goals as goal

pub returns : goal.returns
unfolding book_of
returns c = c.load.ensures.after ∙ ap (λ b. (load_outcome b c.args.image.now).book) c.new-book.ensures
