-- Plans of the code and states of the theory.
use Rattle.std.proofs.Common.{◌≡◌, ℕ, ◌+◌, ◌-◌, ◌<◌, ◌≤◌, cond, ◌&&◌, ltb, leb, ◌⊎◌, get_or, length, set, replicate, List, ap, ◌∙◌, inl, inr, rules, arith}
use mathlib.Core.Path.{fun_ext}
use borrow.Rule.Slice.PartMut.{put_mid, mid_of}
use Rattle.std.proofs.lemmas.List.{places, get_or-set_same, get_or-set_other, get_or-replicate, get_or_past, length-replicate}
use Rattle.std.proofs.lemmas.Bool.{cases_lt, cases_eq}
use Rattle.std.proofs.lemmas.Bool.Decides.{nat_tests}
use Rattle.schedule.specs.Placing.{State, place_at, put, slack_after, empty}
use Rattle.schedule.specs.Certificate.{listed}
use Rattle.planner.specs.declared.plan.Plan.{Plan}
use Rattle.planner.specs.Plan.{state_of}

-- a plan that holds the numbers of a state is that state
pub state_same : (p : Plan) (st : State) → ((t : ℕ) → get_or p.units t 0 ≡ st.settings t) → ((t : ℕ) → get_or p.slack t 0 ≡ st.slack t) → state_of p ≡ st
state_same p st units slack = λ i. record { settings = fun_ext units i; slack = fun_ext slack i }

-- a plan of zeros has nothing allocated
zero_at : (n t : ℕ) → listed (replicate n 0) t ≡ 0
zero_at n t = elim (cases_lt t n) [
  | inl lt ↦ get_or-replicate n t 0 0 lt
  | inr ge ↦ get_or_past (replicate n 0) t 0 (omega (arith, length-replicate {A = ℕ} n 0))
]

pub zeros_empty : state_of record { units = replicate 256 0; slack = replicate 256 0 } ≡ empty
zeros_empty = state_same record { units = replicate 256 0; slack = replicate 256 0 } empty (zero_at 256) (zero_at 256)

-- one more at one index
put_written : (xs : List ℕ) (u t : ℕ) → u < length xs → get_or (set xs u (get_or xs u 0 + 1)) t 0 ≡ put (listed xs) u t
put_written xs u t within = elim (cases_eq t u) [
  | inl same ↦ rw same (grind (arith, nat_tests, get_or-set_same xs u (get_or xs u 0 + 1) 0 within))
  | inr other ↦ grind (arith, nat_tests, get_or-set_other xs u t (get_or xs u 0 + 1) 0 other)
]

pub allocated : (p : Plan) (f u : ℕ) (slack : List ℕ) → u < length p.units → ((t : ℕ) → get_or slack t 0 ≡ slack_after f u (listed p.slack) t)
    → state_of record { units = set p.units u (get_or p.units u 0 + 1); slack = slack } ≡ place_at f u (state_of p)
allocated p f u slack within after = state_same record { units = set p.units u (get_or p.units u 0 + 1); slack = slack } (place_at f u (state_of p)) (λ t. put_written p.units u t within) after

-- a part of a list, from a up to b, is written anew: g of what was at each index
module _ (g : ℕ → ℕ) (a b : ℕ) (xs ys : List ℕ) (within : b ≤ length xs) (ab : a ≤ b) (size : length ys ≡ length (mid_of a (b - a) xs))
    (each : (k : ℕ) → k < length (mid_of a (b - a) xs) → get_or ys k 0 ≡ g (get_or (mid_of a (b - a) xs) k 0)) where
  part_size : length (mid_of a (b - a) xs) ≡ b - a
  part_size = search (rules, places)

  outside : (t : ℕ) → (t < a) ⊎ (b ≤ t) → get_or (put_mid a (b - a) xs ys) t 0 ≡ get_or xs t 0
  outside t (inl lt) = let total = size ∙ part_size in search (rules, places)
  outside t (inr le) = let total = size ∙ part_size in search (rules, places)

  amid : (t : ℕ) → a ≤ t → t < b → get_or (put_mid a (b - a) xs ys) t 0 ≡ g (get_or xs t 0)
  amid t le lt =
      let total = size ∙ part_size in
      let now : get_or (put_mid a (b - a) xs ys) t 0 ≡ get_or ys (t - a) 0 = search (rules, places) in
      let was : get_or (mid_of a (b - a) xs) (t - a) 0 ≡ get_or xs t 0 = search (rules, places) in
      now ∙ (each (t - a) (omega (arith, part_size)) ∙ ap g was)

  part_written : (t : ℕ) → get_or (put_mid a (b - a) xs ys) t 0 ≡ cond (leb a t && ltb t b) (g (get_or xs t 0)) (get_or xs t 0)
  part_written t = grind (arith, nat_tests, outside t, amid t)

pub raised : (f u : ℕ) (xs ys : List ℕ) → f < u → u < length xs → length ys ≡ length (mid_of (f + 1) (u + 1 - (f + 1)) xs)
    → ((k : ℕ) → k < length (mid_of (f + 1) (u + 1 - (f + 1)) xs) → get_or ys k 0 ≡ get_or (mid_of (f + 1) (u + 1 - (f + 1)) xs) k 0 + 1)
    → (t : ℕ) → get_or (put_mid (f + 1) (u + 1 - (f + 1)) xs ys) t 0 ≡ slack_after f u (listed xs) t
raised f u xs ys fu within size each t = grind (arith, nat_tests, part_written (λ n. n + 1) (f + 1) (u + 1) xs ys (omega arith) (omega arith) size each t)

pub lowered : (f u : ℕ) (xs ys : List ℕ) → u ≤ f → f < length xs → length ys ≡ length (mid_of (u + 1) (f + 1 - (u + 1)) xs)
    → ((k : ℕ) → k < length (mid_of (u + 1) (f + 1 - (u + 1)) xs) → get_or ys k 0 ≡ get_or (mid_of (u + 1) (f + 1 - (u + 1)) xs) k 0 - 1)
    → (t : ℕ) → get_or (put_mid (u + 1) (f + 1 - (u + 1)) xs ys) t 0 ≡ slack_after f u (listed xs) t
lowered f u xs ys uf within size each t = grind (arith, nat_tests, part_written (λ n. n - 1) (u + 1) (f + 1) xs ys (omega arith) (omega arith) size each t)
