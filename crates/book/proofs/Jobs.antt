-- Lists of jobs with one more or one less.
use Rattle.std.proofs.Common.{◌≡◌, ◌≢◌, ℕ, zero, suc, ◌<◌, ◌≤◌, Bool, true, false, not, List, [], ◌∷◌, length, take, drop, get_or, Some, None, refl, arith, nat_lt}
use Rattle.std.specs.List.{All, AllPairs, insert, remove, list_any, position, position_or_len}
use Rattle.std.proofs.lemmas.List.Elements.{All-head, All-tail, All-cons, All-append, All-take, All-drop}
use Rattle.std.proofs.lemmas.List.Kept.{AllPairs-cons}
use Rattle.std.proofs.lemmas.Bool.Decides.{nat_tests}
use Rattle.std.specs.Option.{unwrap_or}
use Rattle.std.proofs.lemmas.Bool.{cond_both}
use Rattle.std.proofs.lemmas.List.Sums.{prefix_len-le-length}
use Rattle.layout.specs.declared.job.Job.{Job}
use Rattle.std.proofs.lemmas.List.Quantifiers.{position-Some}
use Rattle.std.proofs.lemmas.List.Folds.{list_any_at}
use Rattle.book.specs.Jobs.{has_ticket, is_ticket_open, jobs_without}

-- a job with no values
abbrev pub no_job : Job
no_job = record { ticket = 0; arrival = 0; deadline = 0; work = 0 }

-- what holds of all jobs and one more holds of them with that one
pub All-insert : {X : Type 0} (P : X → Type 0) (xs : List X) (i : ℕ) (y : X) → P y → All P xs → All P (insert xs i y)
All-insert P xs i y one all = All-append P (take i xs) (y ∷ drop i xs) (All-take P i xs all) (All-cons P y (drop i xs) one (All-drop P i xs all))

pub AllPairs-tail : {X : Type 0} (R : X → X → Type 0) (x : X) (xs : List X) → AllPairs R (x ∷ xs) → AllPairs R xs
AllPairs-tail R x xs pairs a b d lt le = pairs (suc a) (suc b) d (omega arith) (omega arith)

pub AllPairs-head : {X : Type 0} (R : X → X → Type 0) (x : X) (xs : List X) → AllPairs R (x ∷ xs) → All (R x) xs
AllPairs-head R x xs pairs k d lt = pairs 0 (suc k) d (omega arith) (omega arith)

pub AllPairs-insert : {X : Type 0} (R : X → X → Type 0) (xs : List X) (i : ℕ) (y : X) → i ≤ length xs → AllPairs R xs
    → ((k : ℕ) (d : X) → k < i → R (get_or xs k d) y) → ((k : ℕ) (d : X) → i ≤ k → k < length xs → R y (get_or xs k d)) → AllPairs R (insert xs i y)
AllPairs-insert R xs zero y le pairs before after = AllPairs-cons R y xs (λ k d lt. after k d (omega arith) lt) pairs
AllPairs-insert R [] (suc i) y le pairs before after = absurd (omega arith)
AllPairs-insert R (x ∷ xs) (suc i) y le pairs before after =
    AllPairs-cons R x (insert xs i y)
    (All-insert (R x) xs i y (before 0 x (omega arith)) (AllPairs-head R x xs pairs))
    (AllPairs-insert R xs i y (omega arith) (AllPairs-tail R x xs pairs)
    (λ k d lt. before (suc k) d (omega arith)) (λ k d low high. after (suc k) d (omega arith) (omega arith)))

-- no job has the ticket where none is found
pub not_open : (p : Job → Bool) (js : List Job) → position p js ≡ None → list_any p js ≡ false
not_open p [] none = refl
not_open p (j ∷ js) none = let rest = not_open p js in grind (arith, nat_tests)

-- all jobs have other tickets
pub without_others : (t : ℕ) (js : List Job) → All (λ j. t ≢ j.ticket) js → jobs_without t js ≡ js
without_others t [] all = refl
without_others t (j ∷ js) all = let here = All-head (λ k. t ≢ k.ticket) j js all in let rest = without_others t js (All-tail (λ k. t ≢ k.ticket) j js all) in grind (arith, nat_tests)

-- where tickets differ, the jobs without a ticket are those without the one that has it
pub without_removes : (t i : ℕ) (js : List Job) (d : Job) → i < length js → has_ticket t (get_or js i d) ≡ true → AllPairs (λ j k. j.ticket ≢ k.ticket) js
    → remove js i ≡ jobs_without t js
without_removes t i [] d lt has pairs = absurd (omega arith)
without_removes t zero (j ∷ js) d lt has pairs =
    let rest = without_others j.ticket js (AllPairs-head (λ j k. j.ticket ≢ k.ticket) j js pairs) in grind (arith, nat_tests)
without_removes t (suc i) (j ∷ js) d lt has pairs =
    let apart = AllPairs-head (λ j k. j.ticket ≢ k.ticket) j js pairs i d (omega arith) in
    let rest = without_removes t i js d (omega arith) has (AllPairs-tail (λ j k. j.ticket ≢ k.ticket) j js pairs) in grind (arith, nat_tests)

-- where a job goes, by what a search for the index answers
pub position-unwrap_or : {X : Type 0} (p : X → Bool) (xs : List X) (n : ℕ) → n ≡ length xs → unwrap_or (position p xs) n ≡ position_or_len p xs
position-unwrap_or p xs n e = cond_both (nat_lt (position_or_len p xs) (length xs)) (Some (position_or_len p xs)) None (λ o. unwrap_or o n ≡ position_or_len p xs)
    (λ _. refl) (λ past. grind (arith, nat_tests, prefix_len-le-length (λ x. not (p x)) xs))

-- an index that is found holds an open job with the ticket
pub found_open : (t i : ℕ) (js : List Job) → position (has_ticket t) js ≡ Some i → is_ticket_open t js ≡ true
found_open t i js e = let at = position-Some (has_ticket t) js i no_job e in list_any_at (has_ticket t) js i no_job at.0 at.1

-- and the jobs without it are those without the ticket
pub found_without : (t i : ℕ) (js : List Job) → position (has_ticket t) js ≡ Some i → AllPairs (λ j k. j.ticket ≢ k.ticket) js → remove js i ≡ jobs_without t js
found_without t i js e differ = let at = position-Some (has_ticket t) js i no_job e in without_removes t i js no_job at.0 at.1 differ
