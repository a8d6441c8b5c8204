use Rattle.std.proofs.Common.{◌≡◌, ℕ, ◌-◌, ◌<◌, ◌≤◌, slice_index}
use Rattle.planner.proofs.plan.lower.Given as goal

abbrev pub invariant-loop-value : goal.invariant-loop-value
invariant-loop-value l = record {
  before : (k : ℕ) → k < l.value-index → slice_index l.value-items k ≡ slice_index l.fn.slack k - 1;
  after : (k : ℕ) → l.value-index ≤ k → slice_index l.value-items k ≡ slice_index l.fn.slack k;
}
