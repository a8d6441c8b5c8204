-- At the beginning of a life its tally and its book agree.
use Rattle.std.proofs.Common.{◌≡◌, ℕ, ◌<◌, List, [], Option, Some, None, Ok, refl, sym, subst, arith}
use Rattle.std.specs.List.{All}
use Rattle.std.specs.List.Sorted.{IsPermutation}
use Rattle.std.proofs.lemmas.Bool.Decides.{nat_tests}
use Rattle.std.proofs.lemmas.List.Sorted.{IsPermutation-refl}
use Rattle.book.specs.declared.fault.BookFault.{BookFault}
use Rattle.book.specs.Book.{View, IsLawful, empty_book}
use Rattle.book.specs.Calls.{open_fault, plain_outcome, open_outcome}
use Rattle.book.specs.Images.{book_in, load_outcome}
use Rattle.book.proofs.Images.BookSaid.{lawful_loaded, loaded_book}
use Rattle.life.specs.Tally.{tally_of_open, tally_of_load}
use Rattle.life.specs.Life.{Beginning, opening, loading, beginning_outcome, tally_of}
use Rattle.life.proofs.Rows.{loaded_open, loaded_newest, loaded_within}
use Rattle.life.proofs.Agreeing.{Agrees}

-- an empty book is lawful where its fields are as they can be
lawful_empty : (start top : ℕ) → open_fault start top ≡ None → IsLawful (empty_book start top)
lawful_empty start top none = record {
  well_formed = record {
    in_time = grind (arith, nat_tests);
    top_positive = grind (arith, nat_tests);
    top_within = grind (arith, nat_tests);
    few = omega arith;
    tickets_differ = λ a b d lt le. absurd (omega arith);
    in_order = λ a b d lt le. absurd (omega arith);
    jobs_open = λ k d lt. absurd (omega arith);
  };
  none_overloaded = λ a b lt le. omega arith;
}

-- an accepted open
opened_agrees : (b : View) (start top : ℕ) → (open_outcome b start top).answer ≡ Ok tt → Agrees (tally_of_open start top) (open_outcome b start top).book
opened_agrees b start top = go (open_fault start top) refl
  where
    go : (o : Option BookFault) → open_fault start top ≡ o → (plain_outcome o b (empty_book start top)).answer ≡ Ok tt → Agrees (tally_of_open start top) (plain_outcome o b (empty_book start top)).book
    go None e ok = record {
      now = refl;
      top = refl;
      same = IsPermutation-refl [];
      newest = tt;
      within = λ k d lt. absurd (omega arith);
      lawful = lawful_empty start top e;
    }
    go (Some f) e ok = absurd (cc)

-- an accepted load
loaded_agrees : (b : View) (list : List ℕ) → (load_outcome b list).answer ≡ Ok tt → Agrees (tally_of_load list) (load_outcome b list).book
loaded_agrees b list ok =
    let lawful : IsLawful (book_in list) = lawful_loaded b list ok in
    let some : All (λ j. 0 < j.work) (book_in list).jobs = λ k d lt. (lawful.well_formed.jobs_open k d lt).work_left in
    subst (Agrees (tally_of_load list)) (sym (loaded_book b list ok)) (record {
      now = refl;
      top = refl;
      same = subst (λ js. IsPermutation js (book_in list).jobs) (sym (loaded_open (book_in list).jobs some)) (IsPermutation-refl (book_in list).jobs);
      newest = loaded_newest (book_in list).jobs some lawful.well_formed.tickets_differ;
      within = loaded_within (book_in list).jobs;
      lawful = lawful;
    })

pub begun_agrees : (b : View) (beginning : Beginning) → (beginning_outcome b beginning).answer ≡ Ok tt → Agrees (tally_of beginning) (beginning_outcome b beginning).book
begun_agrees b (opening start top) ok = opened_agrees b start top ok
begun_agrees b (loading list) ok = loaded_agrees b list ok
