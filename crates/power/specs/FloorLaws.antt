-- The laws of a model over a floor, from those of the lower model's draws D.
use Rattle.std.specs.Prelude.{ℕ, ◌≤◌, max}
use Rattle.std.proofs.Common.{arith}
use Rattle.power.specs.Laws.{Rising, Convex}
use Rattle.power.specs.Draws.{floor_draw}

pub floor_bounded : (D : ℕ → ℕ) (floor : ℕ) → floor ≤ 255 → ((s : ℕ) → s ≤ 255 → D s ≤ 4294967295)
    → (s : ℕ) → s ≤ 255 → floor_draw D floor s ≤ 4294967295
floor_bounded D floor b bounded s h = bounded (max s floor) (omega arith)

pub floor_rising : (D : ℕ → ℕ) (floor : ℕ) → Rising 255 D → Rising 255 (floor_draw D floor)
floor_rising D floor rising s h k = grind (arith, rising s h k)

pub floor_convex : (D : ℕ → ℕ) (floor : ℕ) → Rising 255 D → Convex 255 D → Convex 255 (floor_draw D floor)
floor_convex D floor rising convex s h k = grind (arith, rising s (omega arith) k, convex s h k)
