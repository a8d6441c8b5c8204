-- An offer keeps its promise, and leaves a tally and a book that agree.
use Rattle.std.proofs.Common.{◌≡◌, ℕ, ◌+◌, ◌≤◌, ◌∙◌, inl, inr, List, ◌∷◌, Option, Some, None, refl, sym, ap, subst, arith}
use Rattle.std.specs.List.{All, position_or_len}
use Rattle.std.specs.List.Sorted.{IsPermutation}
use Rattle.std.specs.Option.{option_map, option_or}
use Rattle.std.proofs.lemmas.List.Elements.{All-cons}
use Rattle.std.proofs.lemmas.List.Sorted.{IsPermutation-sym, IsPermutation-trans, IsPermutation-cons, IsPermutation-insert, All-permutation, list_any-IsPermutation, length_permutation}
use Rattle.schedule.specs.InForce.{horizon}
use Rattle.schedule.specs.Sharing.{Does}
use Rattle.schedule.specs.Work.{work}
use Rattle.layout.specs.declared.job.Job.{Job}
use Rattle.book.specs.declared.fault.BookFault.{BookFault}
use Rattle.book.specs.Jobs.{is_before, has_ticket, jobs_with}
use Rattle.book.specs.Demands.{demands}
use Rattle.book.specs.Book.{View, IsOpenAt}
use Rattle.book.specs.Outcomes.{Outcome}
use Rattle.book.specs.Calls.{early_fault, first_overload_of, overload_fault_at, book_with_job, plain_outcome}
use Rattle.book.specs.Offers.{IsDoable}
use Rattle.book.proofs.Offering.{Admissible, admissible, counted_open, counted_lawful, counted_doable, counted_not_doable}
use Rattle.life.specs.Events.{offer, done_answer, plain_event}
use Rattle.life.specs.Tally.{Row, Tally, open_jobs, book_of_tally, row_of, tally_answered}
use Rattle.life.specs.Promises.{CanDo, Admits}
use Rattle.life.proofs.Rows.{newest_new, open_new}
use Rattle.life.proofs.Agreeing.{Agrees, Kept}
use Rattle.life.proofs.Standing.{does_any_order}

-- the checks before overload look at the open jobs only for their tickets and their number
early_any_order : (now top : ℕ) (js ks : List Job) (j : Job) → IsPermutation js ks
    → early_fault (record { now = now; top = top; jobs = js }) j ≡ early_fault (record { now = now; top = top; jobs = ks }) j
early_any_order now top js ks j same = rw (list_any-IsPermutation (has_ticket j.ticket) js ks same, ← length_permutation js ks same) refl

module _ (t : Tally) (b : View) (j : Job) (agrees : Agrees t b) where
  -- the open rows with the offered job are the jobs with it
  with_offered : IsPermutation (j ∷ open_jobs t.rows) (jobs_with j b.jobs)
  with_offered = IsPermutation-trans _ _ _ (IsPermutation-cons j (open_jobs t.rows) b.jobs agrees.same) (IsPermutation-insert b.jobs (position_or_len (is_before j) b.jobs) j)

  same_early : early_fault (book_of_tally t) j ≡ early_fault b j
  same_early = ap (λ now. early_fault (record { now = now; top = t.top; jobs = open_jobs t.rows }) j) agrees.now ∙ early_any_order b.now b.top (open_jobs t.rows) b.jobs j agrees.same

  module _ (ok : Admissible b j) where
    open_at : All (IsOpenAt b.now) (jobs_with j b.jobs)
    open_at = counted_open b j agrees.lawful ok

    -- what can be done is the same by the tally and by the book
    can_by_book : CanDo t j → IsDoable (book_with_job b j)
    can_by_book can = (
      can.0,
      (λ k lt. omega (arith, can.1 k lt, agrees.top)),
      does_any_order b.now (j ∷ open_jobs t.rows) (jobs_with j b.jobs) can.0 open_at with_offered
          (subst (λ now. Does horizon (demands now (j ∷ open_jobs t.rows)) can.0) agrees.now can.2),
    )

    can_by_tally : IsDoable (book_with_job b j) → CanDo t j
    can_by_tally can =
        let back = IsPermutation-sym (j ∷ open_jobs t.rows) (jobs_with j b.jobs) with_offered in (
          can.0,
          (λ k lt. omega (arith, can.1 k lt, agrees.top)),
          subst (λ now. Does horizon (demands now (j ∷ open_jobs t.rows)) can.0) (sym agrees.now)
              (does_any_order b.now (jobs_with j b.jobs) (j ∷ open_jobs t.rows) can.0 (All-permutation (IsOpenAt b.now) (jobs_with j b.jobs) (j ∷ open_jobs t.rows) back open_at) back can.2),
        )

    -- the tally and the book after an accepted offer
    agrees_more : first_overload_of (book_with_job b j) ≡ None → Agrees (record { now = t.now; top = t.top; rows = row_of j ∷ t.rows }) (book_with_job b j)
    agrees_more none = record {
      now = agrees.now;
      top = agrees.top;
      same = subst (λ js. IsPermutation js (jobs_with j b.jobs)) (sym (open_new j t.rows ok.is_open_at.work_left)) with_offered;
      newest = newest_new j t.rows (list_any-IsPermutation (has_ticket j.ticket) (open_jobs t.rows) b.jobs agrees.same ∙ ok.closed) agrees.newest;
      within = All-cons (λ (r : Row). r.had ≤ r.job.work) (row_of j) t.rows (omega arith) agrees.within;
      lawful = counted_lawful b j agrees.lawful ok none;
    }

  -- an answer that is as promised, and a book that agrees with the tally then
  record Answered (o : Outcome (Unit {0}) BookFault (Unit {0})) : Type 0 where
    admits : Admits t j (done_answer o.answer)
    agrees_after : Agrees (tally_answered t (plain_event (offer j) (done_answer o.answer)) (done_answer o.answer)) o.book

  answered : (o : Option BookFault) → early_fault b j ≡ o → (r : Option (ℕ × ℕ)) → first_overload_of (book_with_job b j) ≡ r
      → Answered (plain_outcome (option_or o (option_map (overload_fault_at (book_with_job b j)) r)) b (book_with_job b j))
  answered (Some f) e r s = record { admits = λ none. absurd (let early = same_early in cc); agrees_after = agrees }
  answered None e (Some xy) s =
      let ok = admissible b j e in
      let ds = demands b.now (jobs_with j b.jobs) in
      record {
        admits = λ _. inr ((b.now + xy.0, b.now + xy.1, work ds xy.0 xy.1, refl), λ can. counted_not_doable b j agrees.lawful ok xy.0 xy.1 s (can_by_book ok can));
        agrees_after = agrees;
      }
  answered None e None s =
      let ok = admissible b j e in
      record {
        admits = λ _. inl (refl, can_by_tally ok (counted_doable b j agrees.lawful ok s));
        agrees_after = agrees_more ok s;
      }

  pub offer_kept : Kept t b (offer j)
  offer_kept =
      let a = answered (early_fault b j) refl (first_overload_of (book_with_job b j)) refl in
      record { answers = a.admits; agrees = a.agrees_after }
