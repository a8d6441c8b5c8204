-- What the reader answers, and where it is afterwards, by what remains of the input.
use Rattle.std.proofs.Common.{◌≡◌, ℕ, ◌+◌, ◌<◌, ◌≤◌, List, length, get_or, drop, Some, None, Ok, Err, Option, arith}
use Rattle.std.proofs.lemmas.Bool.Decides.{nat_tests}
use Rattle.layout.specs.declared.fault.ReadFault.TheVariants.{Cut}
use Rattle.layout.specs.declared.kind.Kind.{Kind}
use Rattle.layout.specs.BigEndian.{part}
use Rattle.layout.specs.Content.{Content}
use Rattle.layout.specs.Layout.{kind_of, first_forbidden}
use Rattle.layout.specs.Reading.{content_in, content_unless_forbidden, parse_answer_by, parse_answer, some_content, read_answer, offset_after}

module _ (s : List ℕ) (p : ℕ) where
  pub read_end : length s ≤ p → read_answer s p ≡ Ok None
  read_end h = grind (arith, nat_tests)

  pub read_cut : p < length s → length s < p + 24 → read_answer s p ≡ Err (Cut p)
  read_cut h k = grind (arith, nat_tests)

  pub read_whole : p + 24 ≤ length s → read_answer s p ≡ some_content (parse_answer p (part p 24 s))
  read_whole h = grind (arith, nat_tests)

  pub stays : length s < p + 24 → p ≤ length s → offset_after s p ≡ p
  stays h k = grind (arith, nat_tests)

  pub moves_on : p + 24 ≤ length s → offset_after s p ≡ p + 24
  moves_on h = grind (arith, nat_tests)

not_cut_unless : (p : ℕ) (c : Content) (o : Option ℕ) (at : ℕ) → content_unless_forbidden p o c ≡ Err (Cut at) → ⊥
not_cut_unless p c None at e = cc
not_cut_unless p c (Some i) at e = cc

not_cut_as : (p : ℕ) (b : List ℕ) (k : Option Kind) (at : ℕ) → parse_answer_by p b k ≡ Err (Cut at) → ⊥
not_cut_as p b None at e = cc
not_cut_as p b (Some k) at e = not_cut_unless p (content_in k b) (first_forbidden k 1 (drop 1 b)) at e

-- a whole record is not cut
pub not_cut : (p : ℕ) (b : List ℕ) (at : ℕ) → parse_answer p b ≡ Err (Cut at) → ⊥
not_cut p b at e = not_cut_as p b (kind_of (get_or b 0 0)) at e
