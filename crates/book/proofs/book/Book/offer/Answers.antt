use Rattle.std.proofs.Common.{◌≡◌, None, Ok, Err, sym, subst, rules}
use Rattle.book.specs.Book.{View, IsLawful}
use Rattle.book.specs.Calls.{early_fault, offer_outcome}
use Rattle.book.proofs.Offering.{admissible, no_fault, counted_order, counted_open, lawful-offer_outcome, only_overload}
use Rattle.book.proofs.book.Book.offer.Goals as goal

pub overload_fault-requires-clause-in_order : goal.overload_fault-requires-clause-in_order
overload_fault-requires-clause-in_order c =
    let b : View = record { now = c.self.inside.tick; top = c.self.inside.top; jobs = c.self.inside.jobs } in
    let early : early_fault b c.args.job ≡ None = subst (λ v. early_fault v c.args.job ≡ None) (sym c.self.view_is) (no_fault _ (sym c.in_ok-check.ensures)) in
    rw (c.jobs.ensures.jobs, c.with_job-jobs.ensures) (counted_order b c.args.job c.self.invariant (admissible b c.args.job early))

pub overload_fault-requires-clause-open : goal.overload_fault-requires-clause-open
overload_fault-requires-clause-open c =
    let b : View = record { now = c.self.inside.tick; top = c.self.inside.top; jobs = c.self.inside.jobs } in
    let early : early_fault b c.args.job ≡ None = subst (λ v. early_fault v c.args.job ≡ None) (sym c.self.view_is) (no_fault _ (sym c.in_ok-check.ensures)) in
    rw (c.jobs.ensures.jobs, c.with_job-jobs.ensures) (counted_open b c.args.job c.self.invariant (admissible b c.args.job early))

pub returns-in_err-check-clause-only_overload : goal.returns-in_err-check-clause-only_overload
returns-in_err-check-clause-only_overload c = only_overload c.args.self.now c.args.job c.from_residual.result (subst IsLawful c.self.view_is c.self.invariant) (search rules)

pub returns-in-Some-clause-only_overload : goal.returns-in-Some-clause-only_overload
returns-in-Some-clause-only_overload c = only_overload c.args.self.now c.args.job (Err c.in-Some.fault) (subst IsLawful c.self.view_is c.self.invariant) (search rules)

pub invariant_of-self : goal.invariant_of-self
invariant_of-self c =
    let after : View = record { now = c.self.inside.tick; top = c.self.inside.top; jobs = c.with_job-jobs.result } in
    let left : after ≡ (offer_outcome c.args.self.now c.args.job).book = search rules in
    subst IsLawful (sym left) (lawful-offer_outcome c.args.self.now c.args.job (subst IsLawful c.self.view_is c.self.invariant))

pub returns-clause-only_overload : goal.returns-clause-only_overload
returns-clause-only_overload c = only_overload c.args.self.now c.args.job (Ok tt) (subst IsLawful c.self.view_is c.self.invariant) (search rules)
