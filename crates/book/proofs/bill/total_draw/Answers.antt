use Rattle.std.proofs.Common.{◌^◌, arith, rules}
use Rattle.std.proofs.lemmas.Iterator.{YieldsList-from_slice}
use Rattle.std.proofs.lemmas.Iterator.Adapters.{fits_from_length, at_most_from_yields_List}
use Rattle.book.proofs.bill.total_draw.Goals as goal

-- 256 draws of 32 bits
pub sum-requires-clause-fits : goal.sum-requires-clause-fits
sum-requires-clause-fits g c =
    fits_from_length _ _ 256 (2 ^ 64) (at_most_from_yields_List (YieldsList-from_slice c.args.settings.now cc) (search rules)) c.map.ensures.closure (omega arith) (λ x r q k. search rules)
