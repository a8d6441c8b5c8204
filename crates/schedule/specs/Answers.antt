-- What the definitions answer for a small book, by numbers, to be held against a search through all lists and
-- sharings.
use Rattle.std.specs.Prelude.{ℕ, zero, suc, ◌+◌, ◌-◌, ◌*◌, max, Bool, cond, ◌&&◌, List, [], ◌∷◌, ◌++◌, map}
use Rattle.std.specs.Prelude.{Option, Some, None, is_some, ◌==◌}
use Rattle.schedule.specs.Sums.{upto}
use Rattle.schedule.specs.Demands.{Demand, total}
use Rattle.schedule.specs.Work.{work}
use Rattle.schedule.specs.Overload.{first_overload}
use Rattle.schedule.specs.Edf.{serve, next}
use Rattle.schedule.specs.Draws.{drawn}
use Rattle.schedule.specs.Lowering.{is_fit, settle}
use Rattle.schedule.specs.Certificate.{listed}
use Rattle.schedule.specs.Blocks.{blocks}

-- a small book: the ticks that are looked at, the top, and the demands in an order of serving
pub record Book : Type 0 where
  pub ticks : ℕ
  pub top : ℕ
  pub demands : List Demand

-- a demand by its window [from, to) and its units
abbrev Triple : Type 0
Triple = ℕ × ℕ × ℕ

-- what is asked of it
pub record Answers : Type 0 where
  -- the first overloaded interval from a start to an end, with its work
  pub overload : List ℕ
  -- how many lists up to the top do the open work, and how many of them are exact
  pub able : ℕ
  pub exact : ℕ
  -- the settings in force
  pub settings : List ℕ
  -- what each demand gets in the first tick, and what is left of it, seen one tick later
  pub served : List ℕ
  pub left : List Triple
  -- where none is overloaded, the least that a list up to the top draws under each of the models
  pub draws : List ℕ
  -- work, length, first tick and tick after the last of each critical block
  pub blocks : List (ℕ × ℕ × ℕ × ℕ)

-- the first n settings of s
abbrev listing : ℕ → (ℕ → ℕ) → List ℕ
listing zero s = []
listing (suc n) s = s 0 ∷ listing n (λ t. s (suc t))

-- how many lists up to the top, of xs and n settings more, pass a test
abbrev count : (List ℕ → Bool) → ℕ → ℕ → List ℕ → ℕ
count test top zero xs = cond (test xs) 1 0
count test top (suc n) xs = upto (λ s. count test top n (xs ++ (s ∷ []))) (suc top)

-- four models: the setting itself, a cube on a base, the cube over a floor of 2, and what exceeds 1
abbrev models : List (ℕ → ℕ)
models = (λ s. s) ∷ (λ s. 10 + s * s * s) ∷ (λ s. max s 2 * max s 2 * max s 2) ∷ (λ s. s - 1) ∷ []

-- an interval and its work, if there is one
abbrev interval : List Demand → Option (ℕ × ℕ) → List ℕ
interval ds None = []
interval ds (Some (a, b)) = a ∷ b ∷ work ds a b ∷ []

-- what the definitions answer
abbrev pub answers : Book → Answers
answers book =
    let n = book.ticks in
    let ds = book.demands in
    let s = settle n ds (work ds 0 n) in
    let over = first_overload book.top ds 0 n in
    record {
      overload = interval ds over;
      able = count (λ xs. is_fit n ds (listed xs)) book.top n [];
      exact = count (λ xs. is_fit n ds (listed xs) && upto (listed xs) n == total ds) book.top n [];
      settings = listing n s;
      served = serve (s 0) ds;
      left = map (λ d. (d.from, d.to, d.units)) (next (s 0) ds);
      draws = cond (is_some over) [] (map (λ D. drawn n D s) models);
      blocks = map (λ b. (b.load, b.size, b.first, b.past)) (blocks n ds);
    }

-- a book, and what a search found for it
pub record Case : Type 0 where
  pub book : Book
  pub found : Answers

-- what the definitions answer for each book of the cases
abbrev pub answered : List Case → List Answers
answered cs = map (λ c. answers c.book) cs

-- and what was found for each
abbrev pub found_for : List Case → List Answers
found_for cs = map (λ c. c.found) cs
