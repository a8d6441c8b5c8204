use Rattle.std.proofs.Common.{◌≡◌, ◌∙◌, length, rules}
use Rattle.book.proofs.Billing.{billed}
use Rattle.book.proofs.book.Book.bill.Goals as goal

pub returns : goal.returns
returns g c =
    let long : length c.setting_bytes.result ≡ 256 = search rules in
    c.total_draw.ensures ∙ billed (g.M.PowerModel.draws c.args.model.now) c.args.self.now c.setting_bytes.result long c.setting_bytes.ensures.settings
