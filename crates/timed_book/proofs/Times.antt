-- Steps that are still to be done.
use Rattle.std.proofs.Common.{◌≡◌, ℕ, suc, ◌-◌, ◌+◌, ◌<◌, ap, arith}
use Rattle.book.specs.Book.{View}
use Rattle.timed_book.specs.Timed.{after}

-- one of the steps is done
pub one_more : (f : View → View) (n t : ℕ) (b : View) → t < n → after f (n - t) b ≡ after f (n - (t + 1)) (f b)
one_more f n t b h =
    let e : n - t ≡ suc (n - (t + 1)) = omega (arith, h) in
    ap (λ k. after f k b) e

-- none is left
pub no_more : (f : View → View) (n : ℕ) (b : View) → after f (n - n) b ≡ b
no_more f n b =
    let e : n - n ≡ 0 = omega arith in
    ap (λ k. after f k b) e
