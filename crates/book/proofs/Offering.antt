-- What an offer answers and leaves.
use Rattle.std.proofs.Common.{◌≡◌, ◌≢◌, ℕ, ◌+◌, ◌<◌, ◌≤◌, true, false, not, nat_le, inl, inr, List, length, get_or, Option, Some, None, Ok, Err, Result, refl, sym, arith, subst}
use Rattle.std.specs.List.{All, AllPairs, position_or_len}
use Rattle.std.specs.Option.{option_map, option_or}
use Rattle.std.proofs.lemmas.Bool.{cases_Bool, cases_eq, both_ways}
use Rattle.std.proofs.lemmas.Bool.Decides.{nat_tests}
use Rattle.std.proofs.lemmas.List.Edits.{length-insert}
use Rattle.std.proofs.lemmas.List.Folds.{list_any_at}
use Rattle.std.proofs.lemmas.List.Sums.{fails_before_first, passes_at_first, prefix_len-le-length}
use Rattle.schedule.specs.Demands.{Sound}
use Rattle.schedule.specs.InForce.{horizon}
use Rattle.schedule.specs.Overload.{FirstOverload, Searched}
use Rattle.schedule.specs.Work.{work}
use Rattle.schedule.proofs.Theory.{theory}
use Rattle.layout.specs.declared.job.Job.{Job}
use Rattle.book.specs.declared.fault.BookFault.{BookFault}
use Rattle.book.specs.declared.fault.BookFault.TheVariants.{Field, TicketOpen, Full}
use Rattle.book.specs.declared.fault.BookField.{BookField}
use Rattle.book.specs.Jobs.{is_before, has_ticket, is_ticket_open, jobs_with}
use Rattle.book.specs.Demands.{demands}
use Rattle.book.specs.Book.{View, IsOpenAt, IsInOrder, IsLawful}
use Rattle.book.specs.Outcomes.{ok_unless}
use Rattle.book.specs.Calls.{field_fault, place_fault, early_fault, first_overload_of, overload_fault_at, book_with_job, plain_outcome, offer_outcome}
use Rattle.book.specs.Offers.{IsDoable, IsOverloadRefusal, NamesFirst, OnlyOverload}
use Rattle.book.proofs.DemandFacts.{sound-demands}
use Rattle.book.proofs.Jobs.{All-insert, AllPairs-insert}

-- the order of two jobs
before-trans : (i j k : Job) → is_before i j ≡ true → is_before j k ≡ true → is_before i k ≡ true
before-trans i j k p q = grind (arith, nat_tests)

before-total : (j k : Job) → j.ticket ≢ k.ticket → is_before j k ≡ false → is_before k j ≡ true
before-total j k apart p = grind (arith, nat_tests)

-- where no job has the ticket, each has another
pub others : (t : ℕ) (js : List Job) → is_ticket_open t js ≡ false → (k : ℕ) (d : Job) → k < length js → (get_or js k d).ticket ≢ t
others t js closed k d lt same = both_ways (is_ticket_open t js) closed (list_any_at (has_ticket t) js k d lt (grind (arith, nat_tests)))

-- one job more keeps the order and the tickets apart
in_order-jobs_with : (j : Job) (js : List Job) → is_ticket_open j.ticket js ≡ false → IsInOrder js → IsInOrder (jobs_with j js)
in_order-jobs_with j js closed order =
    let index = position_or_len (is_before j) js in
    let le : index ≤ length js = prefix_len-le-length (λ k. not (is_before j k)) js in
    AllPairs-insert (λ i k. is_before i k ≡ true) js index j le order
    (λ k d lt. before-total j (get_or js k d) (λ e. others j.ticket js closed k d (omega arith) (sym e)) (fails_before_first (is_before j) js k d lt))
    (λ k d from lt.
    let here = passes_at_first (is_before j) js d (omega arith) in
    elim (cases_eq index k) [
      | inl same ↦ subst (λ x. is_before j (get_or js x d) ≡ true) same here
      | inr apart ↦ before-trans j (get_or js index d) (get_or js k d) here (order index k d (omega arith) lt)
    ])

tickets_differ-jobs_with : (j : Job) (js : List Job) → is_ticket_open j.ticket js ≡ false → AllPairs (λ i k. i.ticket ≢ k.ticket) js → AllPairs (λ i k. i.ticket ≢ k.ticket) (jobs_with j js)
tickets_differ-jobs_with j js closed differ =
    let index = position_or_len (is_before j) js in
    let le : index ≤ length js = prefix_len-le-length (λ k. not (is_before j k)) js in
    AllPairs-insert (λ i k. i.ticket ≢ k.ticket) js index j le differ
    (λ k d lt. others j.ticket js closed k d (omega arith))
    (λ k d from lt e. others j.ticket js closed k d lt (sym e))

-- an offer that passes the checks before overload
pub record Admissible (b : View) (j : Job) : Type 0 where
  pub is_open_at : IsOpenAt b.now j
  pub closed : is_ticket_open j.ticket b.jobs ≡ false
  pub room : length b.jobs < 64

both_none : {A B : Type 0} (f : A → B) (o : Option A) (p : Option B) → option_or (option_map f o) p ≡ None → (o ≡ None) × (p ≡ None)
both_none f None p e = (refl, e)
both_none f (Some x) p e = absurd (cc)

open_fields : (now : ℕ) (j : Job) → field_fault now j ≡ None → IsOpenAt now j
open_fields now j e = record {
  some_ticket = grind (arith, nat_tests);
  work_left = grind (arith, nat_tests);
  not_due = grind (arith, nat_tests);
  in_sight = grind (arith, nat_tests);
  in_time = grind (arith, nat_tests);
  some_window = grind (arith, nat_tests);
  short_window = grind (arith, nat_tests);
}

pub admissible : (b : View) (j : Job) → early_fault b j ≡ None → Admissible b j
admissible b j e =
    let none = both_none Field (field_fault b.now j) (place_fault b.jobs j) e in
    let fields = none.0 in
    let places = none.1 in
    record { is_open_at = open_fields b.now j fields; closed = grind (arith, nat_tests); room = grind (arith, nat_tests) }

pub no_fault : {A : Type 0} (o : Option A) → ok_unless {A = Unit {0}} o tt ≡ Ok tt → o ≡ None
no_fault None e = refl
no_fault (Some x) e = absurd (cc)

-- the offered job counted, in a lawful book
module _ (b : View) (j : Job) (lawful : IsLawful b) (ok : Admissible b j) where
  pub counted_order : IsInOrder (jobs_with j b.jobs)
  counted_order = in_order-jobs_with j b.jobs ok.closed lawful.well_formed.in_order

  pub counted_open : All (IsOpenAt b.now) (jobs_with j b.jobs)
  counted_open = All-insert (IsOpenAt b.now) b.jobs (position_or_len (is_before j) b.jobs) j ok.is_open_at lawful.well_formed.jobs_open

  counted_sound : Sound horizon (demands b.now (jobs_with j b.jobs))
  counted_sound = sound-demands horizon b.now (jobs_with j b.jobs) theory.ticks counted_open

  counted_searched : Searched horizon (demands b.now (jobs_with j b.jobs)) b.top (first_overload_of (book_with_job b j))
  counted_searched = theory.enough.searched horizon b.top (demands b.now (jobs_with j b.jobs)) counted_sound

  pub counted_lawful : first_overload_of (book_with_job b j) ≡ None → IsLawful (book_with_job b j)
  counted_lawful none = record {
    well_formed = record {
      in_time = lawful.well_formed.in_time;
      top_positive = lawful.well_formed.top_positive;
      top_within = lawful.well_formed.top_within;
      few = omega (arith, length-insert b.jobs (position_or_len (is_before j) b.jobs) j (prefix_len-le-length (λ k. not (is_before j k)) b.jobs), ok.room);
      tickets_differ = tickets_differ-jobs_with j b.jobs ok.closed lawful.well_formed.tickets_differ;
      in_order = counted_order;
      jobs_open = counted_open;
    };
    none_overloaded = subst (Searched horizon (demands b.now (jobs_with j b.jobs)) b.top) none counted_searched;
  }

  -- the interval that the search finds is the first
  pub counted_first : (x y : ℕ) → first_overload_of (book_with_job b j) ≡ Some (x, y) → FirstOverload horizon (demands b.now (jobs_with j b.jobs)) b.top x y
  counted_first x y some = (subst (Searched horizon (demands b.now (jobs_with j b.jobs)) b.top) some counted_searched).0

  -- the search finds none just where the work can be done
  pub counted_doable : first_overload_of (book_with_job b j) ≡ None → IsDoable (book_with_job b j)
  counted_doable none = (theory.enough.up_to_top horizon (demands b.now (jobs_with j b.jobs)) b.top counted_sound).0 (counted_lawful none).none_overloaded

  pub counted_not_doable : (x y : ℕ) → first_overload_of (book_with_job b j) ≡ Some (x, y) → IsDoable (book_with_job b j) → ⊥
  counted_not_doable x y some can =
      let found = subst (Searched horizon (demands b.now (jobs_with j b.jobs)) b.top) some counted_searched in
      found.1 ((theory.enough.up_to_top horizon (demands b.now (jobs_with j b.jobs)) b.top counted_sound).1 can)

-- a fault of the first checks is no overload
field_other : (field : BookField) → IsOverloadRefusal (Err (Field field)) → ⊥
field_other field is = let told = is.3 in cc

ticket_other : (ticket : ℕ) → IsOverloadRefusal (Err (TicketOpen ticket)) → ⊥
ticket_other ticket is = let told = is.3 in cc

full_other : (places : ℕ) → IsOverloadRefusal (Err (Full places)) → ⊥
full_other places is = let told = is.3 in cc

other_fault : (o : Option BookFault) (f g : BookFault) → o ≡ Some g → (IsOverloadRefusal (Err g) → ⊥) → o ≡ Some f → IsOverloadRefusal (Err f) → ⊥
other_fault o f g is other e = let same : g ≡ f = cc in subst (λ x. IsOverloadRefusal (Err x) → ⊥) same other

place_other : (jobs : List Job) (j : Job) (f : BookFault) → place_fault jobs j ≡ Some f → IsOverloadRefusal (Err f) → ⊥
place_other jobs j f e = elim (cases_Bool (is_ticket_open j.ticket jobs)) [
  | inl held ↦ other_fault (place_fault jobs j) f (TicketOpen j.ticket) (rw held refl) (ticket_other j.ticket) e
  | inr closed ↦ elim (cases_Bool (nat_le 64 (length jobs))) [
    | inl full ↦ other_fault (place_fault jobs j) f (Full 64) (rw (closed, full) refl) (full_other 64) e
    | inr room ↦ absurd (let none : place_fault jobs j ≡ None = rw (closed, room) refl in cc)
  ]
]

early_other : (b : View) (j : Job) (f : BookFault) → early_fault b j ≡ Some f → IsOverloadRefusal (Err f) → ⊥
early_other b j f = go (field_fault b.now j)
  where
    go : (o : Option BookField) → option_or (option_map Field o) (place_fault b.jobs j) ≡ Some f → IsOverloadRefusal (Err f) → ⊥
    go None e = place_other b.jobs j f e
    go (Some field) e = other_fault (Some (Field field)) f (Field field) refl (field_other field) e

-- the fault of an interval names it, and no other
named_by : (b : View) (x y : ℕ) → FirstOverload horizon (demands b.now b.jobs) b.top x y → NamesFirst b (Err (overload_fault_at b (x, y)))
named_by b x y first u v w same =
    let ds = demands b.now b.jobs in
    let told_from : b.now + x ≡ b.now + u = cc in
    let told_to : b.now + y ≡ b.now + v = cc in
    let told_work : work ds x y ≡ w = cc in
    let from : x ≡ u = omega arith in
    let to : y ≡ v = omega arith in
    rw (← from, ← to) (first, sym told_work)

-- an offer leaves a lawful book
pub lawful-offer_outcome : (b : View) (j : Job) → IsLawful b → IsLawful (offer_outcome b j).book
lawful-offer_outcome b j lawful = go (early_fault b j) refl (first_overload_of (book_with_job b j)) refl
  where
    go : (o : Option BookFault) → early_fault b j ≡ o → (r : Option (ℕ × ℕ)) → first_overload_of (book_with_job b j) ≡ r
        → IsLawful (plain_outcome (option_or o (option_map (overload_fault_at (book_with_job b j)) r)) b (book_with_job b j)).book
    go (Some f) e r s = lawful
    go None e (Some xy) s = lawful
    go None e None s = counted_lawful b j lawful (admissible b j e) s

-- and its answer tells what work can be done, or names the first overloaded interval
only_offered : (b : View) (j : Job) → IsLawful b → OnlyOverload b j (offer_outcome b j).answer
only_offered b j lawful = go (early_fault b j) refl (first_overload_of (book_with_job b j)) refl
  where
    go : (o : Option BookFault) → early_fault b j ≡ o → (r : Option (ℕ × ℕ)) → first_overload_of (book_with_job b j) ≡ r
        → OnlyOverload b j (plain_outcome (option_or o (option_map (overload_fault_at (book_with_job b j)) r)) b (book_with_job b j)).answer
    go (Some f) e r s = record {
      accepted = (λ no. absurd (cc), λ can. absurd (cc));
      refused = (λ is. absurd (early_other b j f e is), λ cannot. absurd (cc));
      named = λ x y w same. absurd (early_other b j f e (b.now + x, b.now + y, w, same));
    }
    go None e (Some xy) s =
        let cannot = counted_not_doable b j lawful (admissible b j e) xy.0 xy.1 s in
        let first = counted_first b j lawful (admissible b j e) xy.0 xy.1 s in
        let ds = demands b.now (jobs_with j b.jobs) in
        record {
          accepted = (λ no. absurd (cc), λ can. absurd (cannot can.1));
          refused = (λ _. (e, cannot), λ _. (b.now + xy.0, b.now + xy.1, work ds xy.0 xy.1, refl));
          named = named_by (book_with_job b j) xy.0 xy.1 first;
        }
    go None e None s =
        let can = counted_doable b j lawful (admissible b j e) s in
        record { accepted = (λ _. (e, can), λ _. refl); refused = (λ is. let told = is.3 in absurd (cc), λ cannot. absurd (cannot.1 can)); named = λ x y w same. absurd (cc) }

pub only_overload : (b : View) (j : Job) (answer : Result (Unit {0}) BookFault) → IsLawful b → answer ≡ (offer_outcome b j).answer → OnlyOverload b j answer
only_overload b j answer lawful e = subst (OnlyOverload b j) (sym e) (only_offered b j lawful)
