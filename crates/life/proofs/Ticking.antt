-- A tick keeps its promise, and leaves a tally and a book that agree.
use Rattle.std.proofs.Common.{◌≡◌, ◌≢◌, ◌+◌, List, length, take, drop, Option, Some, None, refl, sym, ap, subst, arith}
use Rattle.std.proofs.lemmas.Bool.Decides.{nat_tests}
use Rattle.std.proofs.lemmas.List.{take_at}
use Rattle.schedule.proofs.Theory.{theory}
use Rattle.book.specs.declared.fault.BookFault.{BookFault}
use Rattle.book.specs.declared.tick.Entry.{Entry}
use Rattle.book.specs.Book.{View}
use Rattle.layout.specs.declared.job.TheConstants.{LAST_TICK}
use Rattle.book.specs.Settings.{settings_of}
use Rattle.book.specs.declared.tick.Served.{Served}
use Rattle.book.specs.Lists.{list_with}
use Rattle.book.specs.Outcomes.{Outcome, accepted_outcome, outcome}
use Rattle.book.specs.Ticks.{entries_of, grants_of, book_after_tick, tick_fault}
use Rattle.book.proofs.Ticking.{gives_setting, lawful_after}
use Rattle.life.specs.Events.{tick, served_answer, entries_written}
use Rattle.life.specs.Tally.{Tally, rows_after_entries, tally_answered}
use Rattle.life.specs.Promises.{ServesTick, TickAnswer}
use Rattle.life.proofs.Feeding.{Fed, fed}
use Rattle.life.proofs.Agreeing.{Agrees, Kept}
use Rattle.life.proofs.Standing.{in_force_same}

-- a tick that is not refused is before the last
not_last : (b : View) (list : List Entry) → tick_fault b list ≡ None → b.now ≢ LAST_TICK
not_last b list none last = grind (arith, nat_tests)

module _ (t : Tally) (b : View) (list : List Entry) (agrees : Agrees t b) where
  -- the entries of the tick, to the tally's rows
  abbrev es : List Entry
  es = entries_of (grants_of b)

  the_fed : Fed t es (book_after_tick b).jobs
  the_fed = fed t b agrees.lawful agrees.now agrees.same agrees.newest agrees.within

  -- they stand in the first elements of the list
  first_places : take (length es) (list_with es list) ≡ es
  first_places = take_at es (drop (length es) list) (length es) refl

  serves : ServesTick t b (record { setting = settings_of b 0; count = length es }) es
  serves = record {
    first = sym (in_force_same b 0 (omega (arith, theory.ticks)));
    whole = gives_setting b agrees.lawful;
    counted = refl;
    to_open = the_fed.to_open;
  }

  -- the tally and the book after an accepted tick
  agrees_later : b.now ≢ LAST_TICK → Agrees (record { now = t.now + 1; top = t.top; rows = rows_after_entries es t.rows }) (book_after_tick b)
  agrees_later more = record {
    now = ap (λ n. n + 1) agrees.now;
    top = agrees.top;
    same = the_fed.same;
    newest = the_fed.newest;
    within = the_fed.within;
    lawful = lawful_after b agrees.lawful more;
  }

  -- an answer that is as promised, and a book that agrees with the tally then
  record Answered (x : Outcome Served BookFault (List Entry)) : Type 0 where
    serving : TickAnswer t b (served_answer x.answer) (entries_written (served_answer x.answer) x.list)
    agrees_after : Agrees (tally_answered t (record { call = tick list; answer = served_answer x.answer; entries = entries_written (served_answer x.answer) x.list }) (served_answer x.answer)) x.book

  answered : (o : Option BookFault) → tick_fault b list ≡ o
      → Answered (outcome o b list (accepted_outcome (record { setting = settings_of b 0; count = length es }) (book_after_tick b) (list_with es list)))
  answered (Some f) e = record { serving = tt; agrees_after = agrees }
  answered None e = record {
    serving = subst (ServesTick t b (record { setting = settings_of b 0; count = length es })) (sym first_places) serves;
    agrees_after = subst (λ xs. Agrees (record { now = t.now + 1; top = t.top; rows = rows_after_entries xs t.rows }) (book_after_tick b)) (sym first_places) (agrees_later (not_last b list e));
  }

  pub tick_kept : Kept t b (tick list)
  tick_kept =
      let a = answered (tick_fault b list) refl in
      record { answers = a.serving; agrees = a.agrees_after }
