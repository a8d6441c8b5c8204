-- Lists of ticks, and the table of compressed times.
use Rattle.std.proofs.Common.{◌≡◌, ℕ, zero, suc, ◌+◌, ◌<◌, ◌≤◌, Bool, true, false, cond, ◌&&◌, List, get_or, set, length, inl, inr, Option, None, Some, MatchOption, unwrap_or, refl, sym, ap, ◌∙◌, add-one, arith}
use mir.Val.{bool_byte}
use Rattle.std.specs.Option.{option_map_or}
use Rattle.std.proofs.lemmas.Bool.{cases_eq}
use Rattle.std.proofs.lemmas.Bool.Decides.{nat_tests}
use Rattle.std.proofs.lemmas.List.{get_or-set_same, get_or-set_other, get_or_default}
use Rattle.schedule.specs.Certificate.{listed}
use Rattle.schedule.specs.Compressed.{compressed}
use Rattle.schedule.specs.Blocks.{first_tick, past_tick}
use Rattle.planner.specs.Ticks.{is_free_in, is_marked_in}

byte_one : (b : Bool) → bool_byte b ≡ cond b 1 0
byte_one true = refl
byte_one false = refl

-- no more ticks are free than there are
pub compressed_most : (free : ℕ → Bool) (t : ℕ) → compressed free t ≤ t
compressed_most free zero = omega arith
compressed_most free (suc t) = grind (arith, nat_tests, compressed_most free t)

-- a tick read as free counts
free_one : (xs : List Bool) (i x : ℕ) → i < length xs → x ≡ bool_byte (get_or xs i false) → x ≡ cond (is_free_in xs i) 1 0
free_one xs i x within is = is ∙ (ap bool_byte (get_or_default xs i false true within) ∙ byte_one (get_or xs i true))

-- the compressed time of the next tick is written behind those so far
module _ (xs : List Bool) (times : List ℕ) (i x : ℕ) (within : i < length xs) (so_far : (t : ℕ) → t ≤ i → listed times t ≡ compressed (is_free_in xs) t) (is : x ≡ bool_byte (get_or xs i false)) where
  pub times_fit : listed times i + x ≤ i + 1
  times_fit = let here = so_far i (omega arith) in let one = free_one xs i x within is in grind (arith, nat_tests, compressed_most (is_free_in xs) i)

  pub times_more : i + 1 < length times → (t : ℕ) → t ≤ i + 1 → listed (set times (i + 1) (listed times i + x)) t ≡ compressed (is_free_in xs) t
  times_more room t le = elim (cases_eq t (i + 1)) [
    | inl same ↦
        let here = so_far i (omega arith) in
        let one = free_one xs i x within is in
        let next : compressed (is_free_in xs) (i + 1) ≡ compressed (is_free_in xs) i + cond (is_free_in xs i) 1 0 = rw add-one refl in
        rw same (get_or-set_same times (i + 1) (listed times i + x) 0 room ∙ omega (arith, here, one, next))
    | inr other ↦ get_or-set_other times (i + 1) t (listed times i + x) 0 other ∙ so_far t (omega arith)
  ]

-- a tick more is marked as a test says
pub marks_more : (test : ℕ → Bool) (xs : List Bool) (i : ℕ) (b : Bool) → i < length xs → ((t : ℕ) → t < i → is_marked_in xs t ≡ test t) → b ≡ test i
    → (t : ℕ) → t < i + 1 → is_marked_in (set xs i b) t ≡ test t
marks_more test xs i b within so_far is t lt = elim (cases_eq t i) [
  | inl same ↦ rw same (get_or-set_same xs i b false within ∙ is)
  | inr other ↦ get_or-set_other xs i t b false other ∙ so_far t (omega arith)
]

-- the test whether a tick is free, and one more
module _ (xs : List Bool) (i : ℕ) (b more : Bool) (within : i < length xs) where
  pub and_free : get_or xs i false ≡ true → b ≡ more → b ≡ (is_free_in xs i && more)
  and_free free is = let here : is_free_in xs i ≡ true = get_or_default xs i true false within ∙ free in rw here is

  pub and_not_free : get_or xs i false ≡ false → b ≡ get_or xs i false → b ≡ (is_free_in xs i && more)
  and_not_free taken is = let here : is_free_in xs i ≡ false = get_or_default xs i true false within ∙ taken in rw here (is ∙ taken)

-- r is the index of the first mark, or none
abbrev pub FirstMark : List Bool → Option ℕ → Type 0
FirstMark xs r = MatchOption r ((k : ℕ) → k < length xs → get_or xs k false ≡ false) (λ a. (a < length xs) × (get_or xs a false ≡ true) × ((k : ℕ) → k < a → get_or xs k false ≡ false))

first_tick_none : (test : ℕ → Bool) (n : ℕ) → ((k : ℕ) → k < n → test k ≡ false) → first_tick test n ≡ n
first_tick_none test zero none = refl
first_tick_none test (suc n) none =
    let before = first_tick_none test n (λ k kn. none k (omega arith)) in
    let here = none n (omega arith) in
    grind (arith, nat_tests)

first_tick_at : (test : ℕ → Bool) (n a : ℕ) → a < n → test a ≡ true → ((k : ℕ) → k < a → test k ≡ false) → first_tick test n ≡ a
first_tick_at test zero a an here early = absurd (omega arith)
first_tick_at test (suc n) a an here early = elim (cases_eq a n) [
  | inl same ↦
      let before : first_tick test n ≡ n = first_tick_none test n (λ k kn. early k (omega arith)) in
      let found : test n ≡ true = ap test (sym same) ∙ here in
      grind (arith, nat_tests)
  | inr other ↦ let before = first_tick_at test n a (omega arith) here early in grind (arith, nat_tests)
]

pub first_found : (xs : List Bool) (r : Option ℕ) → FirstMark xs r → unwrap_or r (length xs) ≡ first_tick (is_marked_in xs) (length xs)
first_found xs None none = sym (first_tick_none (is_marked_in xs) (length xs) none)
first_found xs (Some a) (an, here, early) = sym (first_tick_at (is_marked_in xs) (length xs) a an here early)

-- r is the index of the last mark, or none
abbrev pub LastMark : List Bool → Option ℕ → Type 0
LastMark xs r = MatchOption r ((k : ℕ) → k < length xs → get_or xs k false ≡ false) (λ a. (a < length xs) × (get_or xs a false ≡ true) × ((k : ℕ) → a < k → k < length xs → get_or xs k false ≡ false))

past_tick_none : (test : ℕ → Bool) (n : ℕ) → ((k : ℕ) → k < n → test k ≡ false) → past_tick test n ≡ 0
past_tick_none test zero none = refl
past_tick_none test (suc n) none =
    let before = past_tick_none test n (λ k kn. none k (omega arith)) in
    let here = none n (omega arith) in
    grind (arith, nat_tests)

past_tick_at : (test : ℕ → Bool) (n a : ℕ) → a < n → test a ≡ true → ((k : ℕ) → a < k → k < n → test k ≡ false) → past_tick test n ≡ a + 1
past_tick_at test zero a an here late = absurd (omega arith)
past_tick_at test (suc n) a an here late = elim (cases_eq a n) [
  | inl same ↦ let found : test n ≡ true = ap test (sym same) ∙ here in grind (arith, nat_tests)
  | inr other ↦
      let before = past_tick_at test n a (omega arith) here (λ k ak kn. late k ak (omega arith)) in
      let none = late n (omega arith) (omega arith) in
      grind (arith, nat_tests)
]

pub last_found : (xs : List Bool) (r : Option ℕ) → LastMark xs r → option_map_or (λ a. a + 1) r 0 ≡ past_tick (is_marked_in xs) (length xs)
last_found xs None none = sym (past_tick_none (is_marked_in xs) (length xs) none)
last_found xs (Some a) (an, here, late) = sym (past_tick_at (is_marked_in xs) (length xs) a an here late)
