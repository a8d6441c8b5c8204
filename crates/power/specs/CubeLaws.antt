-- The laws of the cubes, and the numbers of their table.
use Rattle.std.specs.Prelude.{◌≡◌, ℕ, ◌-◌, ◌*◌, ◌≤◌, List, refl}
use Rattle.std.proofs.Common.{ap, ◌∙◌, arith, mul-le-mul, mul-le-mul_left}
use Rattle.std.proofs.lemmas.List.FromFn.{get_or-map-range_with_len}
use Rattle.power.specs.Laws.{Rising, Convex, Lawful}
use Rattle.power.specs.Draws.{draw_at, cube, cube_draw}
use Rattle.power.specs.Breaks.{first_break}
use Rattle.power.specs.BreakLaws.{lawful}
use Rattle.power.specs.Cubes.{cube_table}

-- the number of the table at a setting is its cube
pub cube_in_table : (t : List ℕ) → t ≡ cube_table → (s : ℕ) → s ≤ 255 → draw_at t s ≡ cube s
cube_in_table t rule s h =
    ap (λ u. draw_at u s) rule ∙ get_or-map-range_with_len cube 0 256 s s 0 (omega arith) (omega arith)

-- the cubes keep the laws: one test over all settings
pub cubes_lawful : Lawful 255 cube
unfolding first_break
cubes_lawful = lawful cube refl

-- what keeps the laws keeps them under another name
same_lawful : (last : ℕ) (D E : ℕ → ℕ) → ((s : ℕ) → s ≤ last → D s ≡ E s) → Lawful last E → Lawful last D
same_lawful last D E same laws = (
  λ s h k. omega (arith, same s k, same (s - 1) (omega arith), laws.0 s h k),
  λ s h k. omega (arith, same s k, same (s - 1) (omega arith), same (s - 2) (omega arith), laws.1 s h k),
)

-- so the table keeps them, by its rule
pub table_lawful : (t : List ℕ) → t ≡ cube_table → Lawful 255 (draw_at t)
table_lawful t rule = same_lawful 255 (draw_at t) cube (cube_in_table t rule) cubes_lawful

pub cube_rising : (fixed factor : ℕ) → Rising 255 (cube_draw fixed factor)
cube_rising p c s h k = omega (arith, mul-le-mul_left c (cubes_lawful.0 s h k))

pub cube_convex : (fixed factor : ℕ) → Convex 255 (cube_draw fixed factor)
cube_convex p c s h k = omega (arith, mul-le-mul_left c (cubes_lawful.1 s h k))

-- no draw above the fixed one is greater than that of the greatest factor and setting
pub cube_bounded : (factor s : ℕ) → factor ≤ 255 → s ≤ 255 → factor * cube s ≤ 4228250625
cube_bounded c s h k = mul-le-mul h (mul-le-mul (mul-le-mul k k) k)

-- so every draw is a 32-bit number
pub cube_draw_bounded : (fixed factor : ℕ) → (fixed ≤ 66000000) × (factor ≤ 255) → (s : ℕ) → s ≤ 255
    → cube_draw fixed factor s ≤ 4294967295
cube_draw_bounded p c fits s h = omega (arith, cube_bounded c s fits.1 h)
