-- Books made by offers, from the faults of the offers one by one.
use Rattle.std.proofs.Common.{◌≡◌, ℕ, List, [], ◌∷◌, Some, None, ◌∙◌, ap, subst, sym, refl}
use Rattle.layout.specs.declared.job.Job.{Job}
use Rattle.book.specs.declared.fault.BookFault.TheVariants.{Overload}
use Rattle.book.specs.Book.{View, empty_book}
use Rattle.book.specs.Calls.{open_fault, plain_outcome, offer_fault, book_with_job}
use Rattle.worked_books.specs.Words.{book_at_0, book_after_offers, AllAccepted, Worked, Overloads}

-- the book with all of the jobs counted as open
abbrev pub all_counted : View → List Job → View
all_counted b [] = b
all_counted b (j ∷ js) = all_counted (book_with_job b j) js

-- none of the offers has a fault
abbrev pub NoFault : View → List Job → Type 0
NoFault b [] = Unit {0}
NoFault b (j ∷ js) = (offer_fault b j ≡ None) × NoFault (book_with_job b j) js

-- so each of them is accepted
accepted : (b : View) (js : List Job) → NoFault b js → AllAccepted b js × (book_after_offers b js ≡ all_counted b js)
accepted b [] none = (tt, refl)
accepted b (j ∷ js) (none, more) =
    let is = ap (λ o. plain_outcome o b (book_with_job b j)) none in
    let (rest, same) = accepted (book_with_job b j) js more in (
      (ap (λ o. o.answer) is, subst (λ c. AllAccepted c js) (sym (ap (λ o. o.book) is)) rest),
      ap (λ o. book_after_offers o.book js) is ∙ same,
    )

-- what is said of the book with the jobs counted as open is said of the book that the offers make
pub worked : (top : ℕ) (js : List Job) (Says : View → Type 0) → open_fault 0 top ≡ None → NoFault (empty_book 0 top) js
    → Says (all_counted (empty_book 0 top) js) → Worked top js Says
worked top js Says opens none says =
    let is = ap (λ o. plain_outcome o (empty_book 0 1) (empty_book 0 top)) opens in
    let (all, same) = accepted (empty_book 0 top) js none in
    let begun : book_at_0 top ≡ empty_book 0 top = ap (λ o. o.book) is in
    record {
      opens = ap (λ o. o.answer) is;
      accepts = subst (λ b. AllAccepted b js) (sym begun) all;
      says = subst Says (sym (ap (λ b. book_after_offers b js) begun ∙ same)) says;
    }

-- an offer with the fault is refused
pub overloads : (b : View) (j : Job) (start end work : ℕ) → offer_fault b j ≡ Some (Overload start end work) → Overloads b j start end work
overloads b j start end work fault =
    let is = ap (λ o. plain_outcome o b (book_with_job b j)) fault in
    record { answer = ap (λ o. o.answer) is; number = refl; unchanged = ap (λ o. o.book) is }
