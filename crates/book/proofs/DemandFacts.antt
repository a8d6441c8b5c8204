-- What the demands of open jobs are.
use Rattle.std.proofs.Common.{◌≡◌, ℕ, List, [], ◌∷◌, arith}
use Rattle.std.specs.List.{All}
use Rattle.std.proofs.lemmas.List.Elements.{All-head, All-tail}
use Rattle.schedule.specs.Demands.{Sound}
use Rattle.schedule.specs.Compressed.{NonEmpty}
use Rattle.layout.specs.declared.job.Job.{Job}
use Rattle.book.specs.Demands.{demands}
use Rattle.book.specs.Book.{IsOpenAt}

-- they have their windows within sight
pub sound-demands : (n now : ℕ) (js : List Job) → n ≡ 256 → All (IsOpenAt now) js → Sound n (demands now js)
sound-demands n now [] ticks all = tt
sound-demands n now (j ∷ js) ticks all =
    let here = All-head (IsOpenAt now) j js all in
    ((λ _. (omega (arith, here.not_due, here.some_window), omega (arith, here.in_sight))), sound-demands n now js ticks (All-tail (IsOpenAt now) j js all))

-- and none of these is empty
pub non_empty-demands : (n now : ℕ) (js : List Job) → n ≡ 256 → All (IsOpenAt now) js → NonEmpty n (demands now js)
non_empty-demands n now [] ticks all = tt
non_empty-demands n now (j ∷ js) ticks all =
    let here = All-head (IsOpenAt now) j js all in
    ((omega (arith, here.not_due, here.some_window), omega (arith, here.in_sight)), non_empty-demands n now js ticks (All-tail (IsOpenAt now) j js all))
