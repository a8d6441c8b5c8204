-- What is done many times to the book of an image.
use Rattle.std.specs.Prelude.{ℕ, zero, suc, List}
use Rattle.layout.specs.declared.job.Job.{Job}
use Rattle.book.specs.declared.tick.Entry.{Entry}
use Rattle.book.specs.Book.{View, empty_book}
use Rattle.book.specs.Calls.{offer_outcome, strike_outcome}
use Rattle.book.specs.Images.{load_outcome}
use Rattle.book.specs.Ticks.{no_entries, tick_outcome}
use Rattle.timed_book.specs.declared.TimedAnswer.{TimedAnswer}
use Rattle.timed_book.specs.Answers.{answer_of_offer, answer_of_tick}

-- the book of an image, or a new one where the image is refused
unfoldable pub book_of : List ℕ → View
book_of image = (load_outcome (empty_book 0 1) image).book

-- the job of these numbers
abbrev pub job_of : (ticket arrival deadline work : ℕ) → Job
job_of t a d w = record { ticket = t; arrival = a; deadline = d; work = w }

-- the book after the job was offered, and struck again
unfoldable pub offer_and_strike : Job → View → View
offer_and_strike job b = (strike_outcome (offer_outcome b job).book job.ticket).book

-- the book one tick later
unfoldable pub tick_once : View → View
tick_once b = (tick_outcome b no_entries).book

-- the book after so many times
abbrev pub after : (View → View) → ℕ → View → View
after step zero b = b
after step (suc n) b = after step n (step b)

-- what C is told of an offer
unfoldable pub offer_answer : Job → View → TimedAnswer
offer_answer job b = answer_of_offer (offer_outcome b job).answer

-- what C is told of a tick
unfoldable pub tick_answer : View → TimedAnswer
tick_answer b = answer_of_tick (tick_outcome b no_entries).answer

-- the entries of a tick, in a list that had none
unfoldable pub tick_entries : View → List Entry
tick_entries b = (tick_outcome b no_entries).list
