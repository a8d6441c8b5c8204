-- The work of windows, added up with no branch.
use Rattle.std.proofs.Common.{◌≡◌, ℕ, ◌*◌, ◌∙◌, Bool, true, false, cond, List, ap, arith}
use mathlib.Core.Path.{fun_ext}
use mir.Val.{bool_byte}
use Rattle.std.specs.List.{sum_by}
use Rattle.schedule.specs.Demands.{Demand}
use Rattle.schedule.specs.Work.{inside, work}
use Rattle.schedule.proofs.WorkLaws.{work_sum}

-- a test times the units is the units or 0
units_or_none : (b : Bool) (u : ℕ) → cond b u 0 ≡ bool_byte b * u
units_or_none true u = omega arith
units_or_none false u = omega arith

-- the work of an interval as a sum of these
pub work-no_branch : (a b : ℕ) (ws : List Demand) → work ws a b ≡ sum_by (λ w. bool_byte (inside a b w) * w.units) ws
work-no_branch a b ws = work_sum ws a b ∙ ap (λ (f : Demand → ℕ). sum_by f ws) (fun_ext (λ w. units_or_none (inside a b w) w.units))
