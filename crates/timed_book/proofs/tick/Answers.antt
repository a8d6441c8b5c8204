use Rattle.std.proofs.Common.{◌∙◌, ap}
use Rattle.timed_book.specs.Timed.{tick_answer, tick_entries}
use Rattle.timed_book.specs.Answers.{answer_of_tick}
use Rattle.timed_book.proofs.tick.Goals as goal

pub returns : goal.returns
unfolding tick_answer tick_entries
returns c = record { answer = c.of_tick.ensures ∙ ap answer_of_tick c.tick-answer.ensures.answer; list = c.write.ensures ∙ c.tick-answer.ensures.list }
