use Rattle.std.proofs.Common.{◌∙◌, ap}
use Rattle.timed_book.specs.Timed.{offer_answer}
use Rattle.timed_book.specs.Answers.{answer_of_offer}
use Rattle.timed_book.proofs.offer.Goals as goal

pub returns : goal.returns
unfolding offer_answer
returns c = c.of_offer.ensures ∙ ap answer_of_offer c.offer.ensures.answer
