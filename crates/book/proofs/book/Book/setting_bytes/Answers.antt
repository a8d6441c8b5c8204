use Rattle.std.proofs.Common.{◌≡◌, ◌<◌, ◌∙◌, length, get_or, arith, rules, sym, subst, ap}
use Rattle.std.proofs.Math.ListN.{length-set}
use Rattle.schedule.specs.Certificate.{listed}
use Rattle.schedule.specs.InForce.{horizon, Same, InForce}
use Rattle.schedule.specs.Overload.{NoneOverloaded}
use Rattle.schedule.proofs.Theory.{theory}
use Rattle.book.specs.Demands.{demands}
use Rattle.book.specs.Book.{View, IsInOrder, book_with_jobs}
use Rattle.book.specs.Settings.{settings_of}
use Rattle.book.proofs.Copying.{copied_more, copied_all}
use Rattle.book.proofs.book.Book.setting_bytes.Goals as goal

pub settings_in_force-settings-requires-clause-in_order : goal.settings_in_force-settings-requires-clause-in_order
settings_in_force-settings-requires-clause-in_order c = subst IsInOrder (sym c.jobs.ensures.jobs) c.self.invariant.well_formed.in_order

pub overflow_cast-bytes : goal.overflow_cast-bytes
overflow_cast-bytes c =
    let now = c.self.inside.tick in
    let lt : c.loop-tick.tick < horizon = omega (arith, theory.ticks) in
    let same = c.settings_in_force-settings.ensures.settings c.loop-tick.tick lt in
    let few = theory.standing.within (demands now c.jobs.result.now) c.self.inside.top (subst (λ js. NoneOverloaded horizon (demands now js) c.self.inside.top) (sym c.jobs.ensures.jobs) c.self.invariant.none_overloaded) c.loop-tick.tick lt in
    omega (arith, c.self.invariant.well_formed.top_within)

pub loop-tick-preserved : goal.loop-tick-preserved
loop-tick-preserved c =
    let xs = c.settings_in_force-settings.result in
    let long : length xs ≡ 256 = search rules in
    let bytes = c.loop-tick.bytes in
    let i = c.loop-tick.tick in
    let before = c.loop-tick.invariant in
    record { long = length-set bytes i (get_or xs i 0) ∙ before.long; copied = copied_more xs bytes i (omega arith) (omega arith) before.copied }

pub returns : goal.returns
returns c =
    let b : View = record { now = c.self.inside.tick; top = c.self.inside.top; jobs = c.self.inside.jobs } in
    let xs = c.settings_in_force-settings.result in
    let long : length xs ≡ 256 = search rules in
    let all : c.loop-tick.bytes ≡ xs = copied_all xs c.loop-tick.bytes c.loop-tick.tick (omega arith) (omega arith) c.loop-tick.invariant.copied in
    let same : Same horizon (listed xs) (settings_of b) = λ t lt. c.settings_in_force-settings.ensures.settings t lt ∙ ap (λ js. settings_of (book_with_jobs js b) t) c.jobs.ensures.jobs in
    let stands : InForce horizon (demands b.now b.jobs) (listed xs) = subst (λ js. InForce horizon (demands b.now js) (listed xs)) c.jobs.ensures.jobs c.settings_in_force-settings.ensures.in_force in
    rw (← c.self.view_is, all) (record { settings = same; in_force = stands; lawful = c.self.invariant })
