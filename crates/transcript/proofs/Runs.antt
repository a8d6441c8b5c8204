-- A run over the input, line by line.
use Rattle.std.proofs.Common.{◌≡◌, ℕ, suc, ◌+◌, ◌*◌, ◌<◌, ◌≤◌, Bool, true, false, ◌⊎◌, List, [], ◌∷◌, ◌++◌, length, Some, None, Option, sym, refl, ap, ◌∙◌, subst, inl, inr, ⊎_elim, arith}
use Rattle.std.specs.List.{range_with_len, flat_map}
use Rattle.std.proofs.lemmas.List.FromFn.{map-range_with_len_more}
use Rattle.std.proofs.lemmas.List.{flat_map_more, map-id}
use Rattle.std.proofs.lemmas.Bool.{cond-true, cond-false, cases_lt}
use Rattle.layout.specs.declared.fault.ReadFault.TheVariants.{Cut}
use Rattle.layout.specs.BigEndian.{part}
use Rattle.layout.specs.Reading.{parse_answer, offset_after}
use Rattle.layout.proofs.Readings.{read_end, read_cut, read_whole, not_cut, stays, moves_on}
use Rattle.book.specs.declared.fault.BookFault.TheVariants.{Read}
use Rattle.transcript.specs.declared.fault.BenchFault.TheVariants.{Book}
use Rattle.transcript.specs.Lines.{PlainLine, refused, read_outcome, outcome_at, line_of_answer, line_at, book_before, is_over_after}
use Rattle.transcript.specs.Run.{Run, next_line, next_run}
use Rattle.transcript.specs.Text.{text_at, record_count}
use Rattle.transcript.proofs.Faults.{goes_on, said}

-- what remains of an input at an offset: nothing, less than a record, or a record
data Remains (s : List ℕ) (p : ℕ) : Type 0 where
  none : length s ≤ p → Remains s p
  cut : p < length s → length s < p + 24 → Remains s p
  whole : p + 24 ≤ length s → Remains s p

remains : (s : List ℕ) (p : ℕ) → Remains s p
remains s p =
    ⊎_elim
    (λ (a : p < length s). ⊎_elim (λ (b : length s < p + 24). cut a b) (λ (b : p + 24 ≤ length s). whole b) (cases_lt (length s) (p + 24)))
    (λ (a : length s ≤ p). none a)
    (cases_lt p (length s))

none_some : {X : Type 0} (o : Option X) (x : X) → o ≡ None → o ≡ Some x → ⊥
none_some o x p q = cc

-- k lines are printed: the next record is the k-th, and the book is the one before it, or the run is over
abbrev pub Running : Run → ℕ → Type 0
Running r k = ((r.over ≡ false) × (r.offset ≡ 24 * k) × (24 * k ≤ length r.input) × (r.book ≡ book_before r.input k)) ⊎ ((r.over ≡ true) × (k ≡ record_count r.input))

-- after one more line
pub record Onward (r : Run) (k : ℕ) (e : PlainLine) : Type 0 where
  pub running : Running (next_run r) (k + 1)
  pub entry : line_at (book_before r.input k) r.input (24 * k) ≡ Some e

book_more : (s : List ℕ) (k : ℕ) → book_before s (k + 1) ≡ (outcome_at (book_before s k) s (24 * k)).book
book_more s k = let more : k + 1 ≡ suc k = omega arith in ap (book_before s) more

-- while the run is not over
module _ (r : Run) (k : ℕ) (going : r.over ≡ false) (offset : r.offset ≡ 24 * k) (within : 24 * k ≤ length r.input) (book : r.book ≡ book_before r.input k) where
  entry_is : next_line r ≡ line_at r.book r.input r.offset
  entry_is = cond-false r.over None (line_at r.book r.input r.offset) going

  entry_by_lem : (o : Option PlainLine) → line_at r.book r.input r.offset ≡ o → next_line r ≡ o
  entry_by_lem o e = entry_is ∙ e

  entry_now : line_at r.book r.input r.offset ≡ line_at (book_before r.input k) r.input (24 * k)
  entry_now = ap (λ b. line_at b r.input r.offset) book ∙ ap (line_at (book_before r.input k) r.input) offset

  book_now : (outcome_at r.book r.input r.offset).book ≡ book_before r.input (k + 1)
  book_now = ap (λ b. (outcome_at b r.input r.offset).book) book ∙ ap (λ p. (outcome_at (book_before r.input k) r.input p).book) offset ∙ sym (book_more r.input k)

  -- from the parts of the run afterwards
  onward_by : (e : PlainLine) → next_line r ≡ Some e → (v : Bool) (q : ℕ) → is_over_after (outcome_at r.book r.input r.offset).answer ≡ v → offset_after r.input r.offset ≡ q → Running (record { input = r.input; offset = q; book = book_before r.input (k + 1); over = v }) (k + 1) → Onward r k e
  onward_by e h v q ev eq run =
      let step = outcome_at r.book r.input r.offset in
      let after : next_run r ≡ record { input = r.input; offset = q; book = book_before r.input (k + 1); over = v } =
      λ i. record { input = r.input; offset = (cond-false r.over r.offset (offset_after r.input r.offset) going ∙ eq) i; book = (cond-false r.over r.book step.book going ∙ book_now) i; over = (cond-false r.over true (is_over_after step.answer) going ∙ ev) i } in
      record { running = subst (λ x. Running x (k + 1)) (sym after) run; entry = sym entry_now ∙ sym entry_is ∙ h }

  onward_going : (e : PlainLine) → next_line r ≡ Some e → Remains r.input r.offset → Onward r k e
  onward_going e h (none a) = absurd (none_some (next_line r) e (entry_by_lem None (ap (λ x. line_of_answer r.offset (read_outcome r.book x).answer) (read_end r.input r.offset a))) h)
  onward_going e h (cut a b) = onward_by e h true r.offset (ap (λ x. is_over_after (read_outcome r.book x).answer) (read_cut r.input r.offset a b)) (stays r.input r.offset b (omega arith)) (inr (refl, omega arith))
  onward_going e h (whole b) =
      let bytes = part r.offset 24 r.input in
      onward_by e h false (r.offset + 24) (ap (λ x. is_over_after (read_outcome r.book x).answer) (read_whole r.input r.offset b) ∙ goes_on r.book (parse_answer r.offset bytes) (not_cut r.offset bytes)) (moves_on r.input r.offset b) (inl (refl, omega arith, omega arith, refl))

  finished_going : next_line r ≡ None → Remains r.input r.offset → k ≡ record_count r.input
  finished_going n (none a) = omega arith
  finished_going n (cut a b) = absurd (none_some (next_line r) (refused r.offset (Book (Read (Cut r.offset)))) n (entry_is ∙ ap (λ x. line_of_answer r.offset (read_outcome r.book x).answer) (read_cut r.input r.offset a b)))
  finished_going n (whole b) = absurd (said r.book r.offset (parse_answer r.offset (part r.offset 24 r.input)) (sym (entry_is ∙ ap (λ x. line_of_answer r.offset (read_outcome r.book x).answer) (read_whole r.input r.offset b)) ∙ n))

pub onward : (r : Run) (k : ℕ) (e : PlainLine) → Running r k → next_line r ≡ Some e → Onward r k e
onward r k e (inl g) h = onward_going r k g.0 g.1 g.2 g.3 e h (remains r.input r.offset)
onward r k e (inr g) h = absurd (none_some (next_line r) e (cond-true r.over None (line_at r.book r.input r.offset) g.0) h)

-- after the last line
pub finished : (r : Run) (k : ℕ) → Running r k → next_line r ≡ None → k ≡ record_count r.input
finished r k (inl g) n = finished_going r k g.0 g.1 g.2 g.3 n (remains r.input r.offset)
finished r k (inr g) n = g.1

-- the text of the first k lines, and of one more
abbrev pub front : List ℕ → ℕ → List ℕ
front s k = flat_map (text_at s) (range_with_len 0 k)

counting_more : (k : ℕ) → range_with_len 0 (k + 1) ≡ range_with_len 0 k ++ (k ∷ [])
counting_more k = sym (map-id (range_with_len 0 (k + 1))) ∙ map-range_with_len_more (λ n. n) 0 k k (omega arith) ∙ ap (λ (l : List ℕ). l ++ (k ∷ [])) (map-id (range_with_len 0 k))

pub front_more : (s : List ℕ) (k : ℕ) → front s (k + 1) ≡ front s k ++ text_at s k
front_more s k = ap (flat_map (text_at s)) (counting_more k) ∙ sym (flat_map_more (text_at s) [] (range_with_len 0 k) k)
