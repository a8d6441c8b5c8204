use Rattle.std.proofs.Common.{◌≡◌, ◌++◌, ◌∙◌, drop, false, length, ltb, ap, arith, rules}
use Rattle.std.proofs.lemmas.Bool.Decides.{nat_tests}
use Rattle.std.proofs.lemmas.List.{length-take-le}
use Rattle.book.proofs.Planning.{written, in_force_first}
use Rattle.book.proofs.book.Book.settings.Goals as goal

pub copy_from_slice-requires : goal.copy_from_slice-requires
copy_from_slice-requires c =
    let long : length c.setting_bytes.result ≡ 256 = search rules in
    omega (arith, length-take-le 256 c.args.list.now c.if-list-lt-HORIZON.false)

pub returns-clause-list : goal.returns-clause-list
returns-clause-list c =
    let list = c.args.list.now in
    let xs = c.setting_bytes.result in
    let long : length xs ≡ 256 = search rules in
    let enough : ltb (length list) 256 ≡ false = grind (arith, nat_tests) in
    rw enough (ap (λ ys. ys ++ drop 256 list) c.copy_from_slice.ensures.after ∙ written c.args.self.now xs list long c.setting_bytes.ensures.settings)

pub returns-clause-in_force : goal.returns-clause-in_force
returns-clause-in_force c =
    let b = c.args.self.now in
    let xs = c.setting_bytes.result in
    let long : length xs ≡ 256 = search rules in
    rw c.copy_from_slice.ensures.after
    (in_force_first b.now b.jobs xs (drop 256 c.args.list.now) long c.setting_bytes.ensures.lawful.well_formed.jobs_open c.setting_bytes.ensures.in_force)
