-- The ready jobs, and the first of them that a queue gives.
use Rattle.std.proofs.Common.{◌≡◌, ℕ, ◌+◌, ◌<◌, ◌≤◌, Bool, true, false, cond, ◌&&◌, inl, inr, List, [], ◌∷◌, ◌++◌, ◌∙◌, length, take, get_or, Option, Some, None, refl, sym, ap, nat_le, subst, arith, ◌==◌, add-one, append_assoc, sum_by}
use Rattle.std.specs.List.{All, AllByRecursion}
use Rattle.std.specs.List.Sorted.{IsPermutation}
use Rattle.std.proofs.Math.Seq.{take-suc}
use Rattle.std.proofs.lemmas.List.{length-take, append-nil, take_all}
use Rattle.std.proofs.lemmas.Bool.{cases_Bool}
use Rattle.std.proofs.lemmas.Bool.Decides.{nat_tests}
use Rattle.std.proofs.lemmas.List.Elements.{All-head, All-tail}
use Rattle.std.proofs.lemmas.List.Sorted.{IsPermutation-push_more, sum_by-IsPermutation}
use Rattle.std.proofs.lemmas.List.Sums.{sum_by-cons, sum_by-le-sum_by}
use Rattle.queue.specs.declared.ready.ReadyJob.{ReadyJob}
use Rattle.queue.specs.Elements.{is_ready_before}
use Rattle.queue.specs.Slots.{Slots}
use Rattle.queue.specs.Says.{TakeLeaves}
use Rattle.layout.specs.declared.job.Job.{Job}
use Rattle.book.specs.Jobs.{is_before}
use Rattle.book.specs.Ready.{ready_job, ready_jobs}

-- a job more at the end
abbrev pub one_more : ℕ → ℕ → Job → List ReadyJob
one_more now index j = cond (nat_le j.arrival now) (ready_job index j ∷ []) []

ready_jobs-push : (now k : ℕ) (xs : List Job) (x : Job) → ready_jobs now k (xs ++ x ∷ []) ≡ ready_jobs now k xs ++ one_more now (k + length xs) x
ready_jobs-push now k [] x =
    let e : k + 0 ≡ k = omega arith in
    elim (cases_Bool (nat_le x.arrival now)) [
      | inl t ↦ rw (e, t) refl
      | inr t ↦ rw t refl
    ]
ready_jobs-push now k (y ∷ ys) x =
    let rest = ready_jobs-push now (k + 1) ys x in
    let e : k + length (y ∷ ys) ≡ k + 1 + length ys = omega arith in
    rw (e, rest) (sym (append_assoc (one_more now k y) (ready_jobs now (k + 1) ys) (one_more now (k + 1 + length ys) x)))

ready_jobs-more : (now i : ℕ) (js : List Job) (d : Job) → i < length js → ready_jobs now 0 (take (i + 1) js) ≡ ready_jobs now 0 (take i js) ++ one_more now i (get_or js i d)
ready_jobs-more now i js d lt =
    let long : 0 + length (take i js) ≡ i = omega (arith, length-take i js) in
    rw (add-one, take-suc js i d lt) (ready_jobs-push now 0 (take i js) (get_or js i d) ∙ ap (λ k. ready_jobs now 0 (take i js) ++ one_more now k (get_or js i d)) long)

-- a ready job more is put into the queue
pub queue_more : (now i : ℕ) (js : List Job) (d : Job) (q r : List ReadyJob) → i < length js → (get_or js i d).arrival ≤ now
    → IsPermutation (ready_jobs now 0 (take i js)) q → IsPermutation (ready_job i (get_or js i d) ∷ q) r → IsPermutation (ready_jobs now 0 (take (i + 1) js)) r
queue_more now i js d q r lt begun before put =
    let t : nat_le (get_or js i d).arrival now ≡ true = grind (arith, nat_tests) in
    rw (ready_jobs-more now i js d lt, t) (IsPermutation-push_more (ready_jobs now 0 (take i js)) q r (ready_job i (get_or js i d)) before put)

-- and one that is not ready is not
pub queue_same : (now i : ℕ) (js : List Job) (d : Job) (q : List ReadyJob) → i < length js → now < (get_or js i d).arrival
    → IsPermutation (ready_jobs now 0 (take i js)) q → IsPermutation (ready_jobs now 0 (take (i + 1) js)) q
queue_same now i js d q lt later before =
    let t : nat_le (get_or js i d).arrival now ≡ false = grind (arith, nat_tests) in
    subst (λ xs. IsPermutation xs q) (sym (ready_jobs-more now i js d lt ∙ ap (λ b. ready_jobs now 0 (take i js) ++ cond b (ready_job i (get_or js i d) ∷ []) []) t ∙ append-nil (ready_jobs now 0 (take i js)))) before

-- two lists have the same elements, in any order: their sums are equal, whatever is added up
pub record Alike (xs ys : List ReadyJob) : Type 0 where
  pub sums : (f : ReadyJob → ℕ) → sum_by f xs ≡ sum_by f ys

pub alike : (xs ys : List ReadyJob) → IsPermutation xs ys → Alike xs ys
alike xs ys h = record { sums = λ f. sym (sum_by-IsPermutation f xs ys h) }

pub alike-trans : (xs ys zs : List ReadyJob) → Alike xs ys → Alike ys zs → Alike xs zs
alike-trans xs ys zs h k = record { sums = λ f. h.sums f ∙ k.sums f }

-- whether two are the same
abbrev is_same : ReadyJob → ReadyJob → Bool
is_same x y = (x.deadline == y.deadline) && ((x.ticket == y.ticket) && (x.index == y.index))

abbrev not_after : ReadyJob → ReadyJob → ℕ
not_after y z = cond (is_ready_before y z) 0 1

abbrev same_as : ReadyJob → ReadyJob → ℕ
same_as y z = cond (is_same y z) 1 0

abbrev comes_first : ReadyJob → ReadyJob → ℕ
comes_first x z = cond (is_ready_before z x) 1 0

same_not_after : (y z : ReadyJob) → same_as y z ≤ not_after y z
same_not_after y z = grind (arith, nat_tests)

all_after : (y : ReadyJob) (ys : List ReadyJob) → AllByRecursion (λ z. is_ready_before y z ≡ true) ys → sum_by (not_after y) ys ≡ 0
all_after y [] h = refl
all_after y (z ∷ zs) h = let rest = all_after y zs h.1 in let one : not_after y z ≡ 0 = rw h.0 refl in omega (arith, sum_by-cons (not_after y) z zs)

none_first : (x : ReadyJob) (q : List ReadyJob) → AllByRecursion (λ z. is_ready_before z x ≡ false) q → sum_by (comes_first x) q ≡ 0
none_first x [] h = refl
none_first x (z ∷ zs) h = let rest = none_first x zs h.1 in let one : comes_first x z ≡ 0 = rw h.0 refl in omega (arith, sum_by-cons (comes_first x) z zs)

same : (y x : ReadyJob) → 1 ≤ same_as y x → y ≡ x
same y x one =
    let d : y.deadline ≡ x.deadline = grind (arith, nat_tests) in
    let t : y.ticket ≡ x.ticket = grind (arith, nat_tests) in
    let p : y.index ≡ x.index = grind (arith, nat_tests) in
    λ i. record { deadline = d i; ticket = t i; index = p i }

not_before_itself : (y : ReadyJob) → is_ready_before y y ≡ false
not_before_itself y = grind (arith, nat_tests)

-- what a queue gives of ready jobs in the order of serving is the first of them, and the others are left
pub first_taken : (x y : ReadyJob) (ys q r : List ReadyJob) → Alike (y ∷ ys) q → AllByRecursion (λ z. is_ready_before y z ≡ true) ys → IsPermutation q (x ∷ r)
    → AllByRecursion (λ z. is_ready_before z x ≡ false) q → (y ≡ x) × Alike ys r
first_taken x y ys q r likes after taken least =
    let given : Alike (y ∷ ys) (x ∷ r) = alike-trans (y ∷ ys) q (x ∷ r) likes (alike q (x ∷ r) taken) in
    let none : comes_first x y ≡ 0 = omega (arith, none_first x q least, likes.sums (comes_first x), sum_by-cons (comes_first x) y ys) in
    let x_after : not_after y x ≡ 1 = grind (arith, nat_tests) in
    let itself : not_after y y ≡ 1 = rw (not_before_itself y) refl in
    let left : sum_by (not_after y) r ≡ 0 =
    omega (arith, given.sums (not_after y), sum_by-cons (not_after y) y ys, sum_by-cons (not_after y) x r, all_after y ys after) in
    let few : sum_by (same_as y) r ≡ 0 = omega (arith, sum_by-le-sum_by (same_as y) (not_after y) r (same_not_after y)) in
    let own : same_as y y ≡ 1 = grind (arith, nat_tests) in
    let one : 1 ≤ same_as y x = omega (arith, given.sums (same_as y), sum_by-cons (same_as y) y ys, sum_by-cons (same_as y) x r) in
    let e = same y x one in
    (e, record { sums = λ f. omega (arith, given.sums f, sum_by-cons f y ys, sum_by-cons f x r, ap f e) })

-- what is served later is after it
pub ready_after : (now k n : ℕ) (j : Job) (js : List Job) → All (λ i. is_before j i ≡ true) js → AllByRecursion (λ z. is_ready_before (ready_job k j) z ≡ true) (ready_jobs now n js)
ready_after now k n j [] all = tt
ready_after now k n j (i ∷ is) all =
    let here : is_before j i ≡ true = All-head (λ i. is_before j i ≡ true) i is all in
    let rest = ready_after now k (n + 1) j is (All-tail (λ i. is_before j i ≡ true) i is all) in
    go (nat_le i.arrival now) here rest
  where
    go : (b : Bool) → is_before j i ≡ true → AllByRecursion (λ z. is_ready_before (ready_job k j) z ≡ true) (ready_jobs now (n + 1) is)
        → AllByRecursion (λ z. is_ready_before (ready_job k j) z ≡ true) (cond b (ready_job n i ∷ []) [] ++ ready_jobs now (n + 1) is)
    go true here rest = (here, rest)
    go false here rest = rest

pub all_queued : (now i : ℕ) (js : List Job) (q : List ReadyJob) → length js ≤ i → IsPermutation (ready_jobs now 0 (take i js)) q → IsPermutation (ready_jobs now 0 js) q
all_queued now i js q past queued = subst (λ xs. IsPermutation (ready_jobs now 0 xs) q) (take_all i js past) queued

-- a queue that gives a ready job holds some
pub alike_length : (xs q : List ReadyJob) (x : ReadyJob) (r : List ReadyJob) → Alike xs q → IsPermutation q (x ∷ r) → 0 < length xs
alike_length [] q x r likes taken = omega (arith, likes.sums (λ _. 1), (alike q (x ∷ r) taken).sums (λ _. 1), sum_by-cons (λ (_ : ReadyJob). 1) x r)
alike_length (y ∷ ys) q x r likes taken = omega arith

pub alike_none : (xs q : List ReadyJob) → Alike xs q → q ≡ [] → length xs ≡ 0
alike_none [] q likes empty = refl
alike_none (y ∷ ys) q likes empty =
    let none : sum_by (λ (_ : ReadyJob). 1) q ≡ 0 = ap (sum_by (λ (_ : ReadyJob). 1)) empty in absurd (omega (arith, likes.sums (λ _. 1), sum_by-cons (λ (_ : ReadyJob). 1) y ys))

-- a queue that gives none holds none
pub took_none : {X : Type 0} (before : X → X → Bool) (q r : Slots X) (answer : Option X) → TakeLeaves before q r answer → (answer ≡ None) → q.count ≡ 0
took_none before q r None said none = said.0
took_none before q r (Some x) said none = absurd (cc)
