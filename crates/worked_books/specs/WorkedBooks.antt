-- The worked books. Each begins with now 0. [a, d) w is a job with arrival a, deadline d and work w.
use Rattle.std.specs.Prelude.{◌≡◌, [], ◌∷◌, replicate}
use Rattle.power.specs.Draws.{cube_draw, floor_draw}
use Rattle.book.specs.Bills.{bill_of}
use Rattle.worked_books.specs.Words.{job, Worked, Sets, HasBlocks, TickServes, Overloads, Breaks}

-- 1. no job: all 256 settings are 0, and the cube model with the fixed draw 10 and the factor 1 bills 256 times 10
abbrev pub NoJob : Type 0
NoJob = Worked 4 [] (λ b. Sets b [] × (bill_of (cube_draw 10 1) b ≡ 2560))

-- 2. [0, 2) 3 and [0, 3) 1: of the two settings that do the first job's three units, the greater comes first
abbrev pub Uneven : Type 0
Uneven = Worked 4 (job 1 0 2 3 ∷ job 2 0 3 1 ∷ []) (λ b. Sets b (2 ∷ 1 ∷ 1 ∷ []))

-- 3. [0, 10) 4 and [4, 6) 6, a short window inside a long one: the first critical block is 6 units in the ticks 4 and
-- 5, the second 4 units in the 8 other ticks before 10; and the cube model with the fixed draw 0 and the factor 1 bills
-- 4 times 1 and 2 times 27
abbrev pub Nested : Type 0
Nested = Worked 4 (job 1 0 10 4 ∷ job 2 4 6 6 ∷ []) (λ b.
    HasBlocks b (record { speed = (6, 2); start = 4; end = 6 } ∷ record { speed = (4, 8); start = 0; end = 10 } ∷ [])
    × Sets b (1 ∷ 1 ∷ 1 ∷ 1 ∷ 3 ∷ 3 ∷ [])
    × (bill_of (cube_draw 0 1) b ≡ 58))

-- 4. [2, 3) 1 and [0, 3) 2: the work spreads evenly
abbrev pub Even : Type 0
Even = Worked 4 (job 1 2 3 1 ∷ job 2 0 3 2 ∷ []) (λ b. Sets b (1 ∷ 1 ∷ 1 ∷ []))

-- 5. [0, 1) 2 twice: with the top 4 the lesser ticket is served first
abbrev pub SameDeadline : Type 0
SameDeadline = Worked 4 (job 1 0 1 2 ∷ job 2 0 1 2 ∷ []) (λ b.
    TickServes b 4 (record { ticket = 1; units = 2 } ∷ record { ticket = 2; units = 2 } ∷ []))

-- and with the top 3 the second offer is refused
abbrev pub LowTop : Type 0
LowTop = Worked 3 (job 1 0 1 2 ∷ []) (λ b. Overloads b (job 2 0 1 2) 0 1 4)

-- 6. [0, 4) 14, and an offer of [2, 4) 4, which fits its own window: with it the window of the open job is overloaded
abbrev pub Together : Type 0
Together = Worked 4 (job 1 0 4 14 ∷ []) (λ b. Overloads b (job 2 2 4 4) 0 4 18)

-- 7. [0, 256) with as much work as the top 255 can do there: every setting is 255
abbrev pub Full : Type 0
Full = Worked 255 (job 1 0 256 65280 ∷ []) (λ b. Sets b (replicate 256 255))

-- and with the most work that a job can bring: refused
abbrev pub TooFull : Type 0
TooFull = Worked 255 [] (λ b. Overloads b (job 1 0 256 65535) 0 256 65535)

-- 8. measured draws of 0, 1 and from then on 2 add less at the setting 3 than at the setting 2;
-- the cube model with the fixed draw 0 and the factor 1, over the floor 2, draws 8 at the setting 0 and 27 at 3
abbrev pub Models : Type 0
Models =
    Breaks (0 ∷ 1 ∷ replicate 254 2) 3 × (floor_draw (cube_draw 0 1) 2 0 ≡ 8) × (floor_draw (cube_draw 0 1) 2 3 ≡ 27)

-- all of them
pub record WorkedBooks : Type 0 where
  pub no_job : NoJob
  pub uneven : Uneven
  pub nested : Nested
  pub even : Even
  pub same_deadline : SameDeadline
  pub low_top : LowTop
  pub together : Together
  pub full : Full
  pub too_full : TooFull
  pub models : Models
