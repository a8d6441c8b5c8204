-- The small books, computed.
use Rattle.std.proofs.Common.{◌≡◌, refl}
use Rattle.schedule.specs.Lowering.{lower, sweep, descend, settle}
use Rattle.schedule.specs.Answers.{answered, found_for}
use Rattle.schedule.specs.Cases.{cases}

pub answered_as_found : answered cases ≡ found_for cases
unfolding lower sweep descend settle
answered_as_found = refl
