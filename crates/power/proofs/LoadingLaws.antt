-- What the answer to a list of draws says of the laws.
use Rattle.std.specs.Prelude.{◌≡◌, ℕ, ◌≤◌, true, Some, None, Option, List, length, take, if◌then◌else◌, is_ok}
use Rattle.std.proofs.Common.{ap, sym, arith}
use Rattle.std.proofs.lemmas.Bool.{cond_above}
use Rattle.std.proofs.lemmas.Bool.Decides.{nat_tests}
use Rattle.power.specs.Laws.{Lawful}
use Rattle.power.specs.Breaks.{is_break_at, first_break}
use Rattle.power.specs.BreakLaws.{found, keeps, lawful}
use Rattle.power.specs.Loading.{list_draw, break_answer, load_answer, numbers_after, Accepts, NamesLeast}

-- draws that break a law at s do not keep both up to s
breaks : (D : ℕ → ℕ) (s : ℕ) → 1 ≤ s → is_break_at D s ≡ true → Lawful s D → ⊥
breaks D s h e l = grind (arith, nat_tests, l.0 s h (omega arith))

-- a list is accepted just where it can be loaded
accepts : (list : List ℕ) (o : Option ℕ) → 256 ≤ length list → first_break (list_draw list) ≡ o → Accepts list (break_answer o)
accepts list None long e = (long, lawful (list_draw list) e)
accepts list (Some s) long e =
    let f = rw e at (found (list_draw list)) in
    λ p. breaks (list_draw list) s f.0 f.2 (λ k h l. p.1.0 k h (omega (arith, f.1)), λ k h l. p.1.1 k h (omega (arith, f.1)))

-- the setting named is the least at which a law breaks
least : (D : ℕ → ℕ) (o : Option ℕ) → first_break D ≡ o → NamesLeast D (break_answer o)
least D None e = tt
least D (Some s) e =
    let f = rw e at (found D) in (f.0, omega (arith, f.1), keeps D _ (λ k h l. f.3 k h (omega (arith, f.0))), breaks D s f.0 f.2)

-- what is answered to a list that is long enough, and what numbers stand then
pub loads : (old new list : List ℕ) (o : Option ℕ) → 256 ≤ length list → o ≡ first_break (list_draw list) → new ≡ if is_ok (break_answer o) then take 256 list else old
    → record { answer : break_answer o ≡ load_answer list; accepts : Accepts list (break_answer o); least : NamesLeast (list_draw list) (break_answer o); numbers : new ≡ numbers_after old list }
loads old new list o long first after =
    let answer : break_answer o ≡ load_answer list = cond_above (length list) 256 _ _ _ long (ap break_answer first) in
    record { answer = answer; accepts = accepts list o long (sym first); least = least (list_draw list) o (sym first); numbers = rw (← answer) after }
