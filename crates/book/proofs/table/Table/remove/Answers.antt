use Rattle.std.proofs.Common.{◌≡◌, ◌≤◌, rules, arith, length, ap}
use Rattle.std.proofs.lemmas.List.{length-take}
use Rattle.book.proofs.Places.{take_removed}
use Rattle.book.proofs.table.Table.remove.Goals as goal

pub returns : goal.returns
returns c =
    let long : length c.self.inside.places ≡ 64 = search rules in
    let few : c.self.inside.count ≤ 64 = c.self.invariant in
    let held : length c.args.self.now ≡ c.self.inside.count = omega (arith, length-take c.self.inside.count c.self.inside.places, ap length c.self.view_is) in
    rw (← c.self.view_is, c.copy_within.ensures.after) (take_removed c.self.inside.places c.self.inside.count c.args.index (omega arith) (omega arith))
