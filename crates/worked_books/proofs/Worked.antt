-- The worked books: what is asked of the calls is computed, and the settings in force by certificate.
use Rattle.std.proofs.Common.{[], ◌∷◌, ◌∙◌, refl, lit<, lit≤}
use Rattle.power.specs.Breaks.{first_break}
use Rattle.power.specs.Draws.{cube_draw}
use Rattle.schedule.specs.InForce.{horizon}
use Rattle.schedule.specs.Demands.{job as window}
use Rattle.schedule.specs.Certificate.{listed}
use Rattle.schedule.proofs.Theory.{theory}
use Rattle.worked_books.specs.Numbers.{Numbers}
use Rattle.worked_books.specs.WorkedBooks.{NoJob, Uneven, Nested, Even, SameDeadline, LowTop, Together, Full, TooFull, Models, WorkedBooks}
use Rattle.worked_books.proofs.Offers.{worked, overloads}
use Rattle.worked_books.proofs.Writing.{sets, at_all_ticks, has_blocks}
use Rattle.worked_books.proofs.Serving.{serves}
use Rattle.worked_books.proofs.Billing.{drawn_same}

no_job : NoJob
unfolding horizon
no_job = worked _ _ _ refl tt (sets _ _ theory.examples.nothing, drawn_same (cube_draw 10 1) _ (listed []) theory.examples.nothing ∙ refl)

uneven : Uneven
unfolding horizon
uneven = worked _ _ _ refl (refl, (refl, tt)) (sets _ _ theory.examples.uneven)

nested : Nested
unfolding horizon
nested =
    let xs = 1 ∷ 1 ∷ 1 ∷ 1 ∷ 3 ∷ 3 ∷ [] in
    let same = (theory.computing.certified 10 (window 4 6 6 ∷ window 0 10 4 ∷ []) xs (lit≤ tt) refl).1 in
    worked _ _ _ refl (refl, (refl, tt)) (has_blocks _ _ refl, sets _ _ same, drawn_same (cube_draw 0 1) _ (listed xs) same ∙ refl)

even : Even
unfolding horizon
even = worked _ _ _ refl (refl, (refl, tt)) (sets _ _ theory.examples.level)

same_deadline : SameDeadline
unfolding horizon
same_deadline =
    let same = (theory.computing.certified 1 (window 0 1 2 ∷ window 0 1 2 ∷ []) (4 ∷ []) (lit≤ tt) refl).1 in
    worked _ _ _ refl (refl, (refl, tt)) (serves _ 4 _ refl (same 0 (lit< tt)) refl)

low_top : LowTop
unfolding horizon
low_top = worked _ _ _ refl (refl, tt) (overloads _ _ _ _ _ refl)

together : Together
unfolding horizon
together = worked _ _ _ refl (refl, tt) (overloads _ _ _ _ _ refl)

full : Full
unfolding horizon
full = worked _ _ _ refl (refl, tt) (sets _ _ (at_all_ticks _ 255 (theory.computing.even 255)))

too_full : TooFull
unfolding horizon
too_full = worked _ _ _ refl tt (overloads _ _ _ _ _ refl)

models : Models
unfolding first_break
models = (record { answer = refl; number = refl }, refl, refl)

pub all_worked : WorkedBooks
all_worked = record {
  no_job = no_job;
  uneven = uneven;
  nested = nested;
  even = even;
  same_deadline = same_deadline;
  low_top = low_top;
  together = together;
  full = full;
  too_full = too_full;
  models = models;
}

pub numbers : Numbers
numbers = record {
  horizon = refl;
  places = refl;
  most_demands = refl;
  last_tick = refl;
  setting_values = refl;
  label_len = refl;
  record_len = refl;
  image_len = refl;
}
