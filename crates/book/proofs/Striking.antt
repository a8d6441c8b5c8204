-- What a strike answers and leaves, by the index of the ticket.
use Rattle.std.proofs.Common.{◌≡◌, ℕ, Some, None, Ok, Err, refl}
use Rattle.std.specs.List.{position, remove}
use Rattle.book.specs.declared.fault.BookFault.TheVariants.{NotOpen}
use Rattle.book.specs.Jobs.{has_ticket}
use Rattle.book.specs.Book.{View, IsLawful, book_with_jobs}
use Rattle.book.specs.Outcomes.{accepted_outcome}
use Rattle.book.specs.Calls.{strike_outcome}
use Rattle.book.proofs.Jobs.{not_open, found_open, found_without}
use Rattle.book.proofs.Keeping.{lawful-jobs_without}

pub struck_missed : (t : ℕ) (b : View) → position (has_ticket t) b.jobs ≡ None → strike_outcome b t ≡ record { answer = Err (NotOpen t); book = b; list = tt }
struck_missed t b e = rw (not_open (has_ticket t) b.jobs e) refl

pub struck_found : (t i : ℕ) (b : View) → IsLawful b → position (has_ticket t) b.jobs ≡ Some i → strike_outcome b t ≡ accepted_outcome tt (book_with_jobs (remove b.jobs i) b) tt
struck_found t i b h e = rw (found_open t i b.jobs e, found_without t i b.jobs e h.well_formed.tickets_differ) refl

pub lawful_removed : (t i : ℕ) (b : View) → IsLawful b → position (has_ticket t) b.jobs ≡ Some i → IsLawful (book_with_jobs (remove b.jobs i) b)
lawful_removed t i b h e = rw (found_without t i b.jobs e h.well_formed.tickets_differ) (lawful-jobs_without t b h)
