-- What settings and blocks write, from the settings in force and the critical blocks.
use Rattle.std.proofs.Common.{◌≡◌, ℕ, ◌∙◌, List, length, drop, map, refl, arith}
use Rattle.std.specs.Prelude.{replicate}
use Rattle.std.specs.List.{range_with_len}
use Rattle.std.proofs.lemmas.List.{get_or_append_left, get_or-replicate}
use Rattle.std.proofs.lemmas.List.FromFn.{get_or-map-range_with_len, length-map-range_with_len}
use Rattle.std.proofs.Math.Seq.{take-append_seam}
use Rattle.schedule.specs.InForce.{horizon, Same}
use Rattle.schedule.specs.Certificate.{listed}
use Rattle.schedule.proofs.Theory.{theory}
use Rattle.book.specs.declared.blocks.CriticalBlock.{CriticalBlock}
use Rattle.book.specs.Book.{View}
use Rattle.book.specs.Settings.{settings_of, list_with_settings}
use Rattle.book.specs.Blocks.{book_blocks}
use Rattle.worked_books.specs.Words.{Sets, HasBlocks}

-- the settings in force stand in the first elements of a list that they are written into
first_elements : (b : View) (list : List ℕ) → Same horizon (listed (list_with_settings b list)) (settings_of b)
first_elements b list t lt =
    let written = map (settings_of b) (range_with_len 0 horizon) in
    get_or_append_left written (drop horizon list) 0 t (omega (arith, length-map-range_with_len (settings_of b) 0 horizon))
    ∙ get_or-map-range_with_len (settings_of b) 0 horizon t t 0 lt (omega arith)

-- so settings writes what the settings in force are
pub sets : (b : View) (xs : List ℕ) → Same horizon (settings_of b) (listed xs) → Sets b xs
sets b xs same = record {
  answer = λ list enough. rw enough refl;
  written = λ list enough. rw enough (λ t lt. first_elements b list t lt ∙ same t lt);
}

-- one setting at all ticks, as a list
pub at_all_ticks : (s : ℕ → ℕ) (c : ℕ) → Same horizon s (λ _. c) → Same horizon s (listed (replicate 256 c))
at_all_ticks s c same t lt = omega (arith, same t lt, get_or-replicate 256 t c 0 (omega (arith, theory.ticks)))

-- and blocks writes the critical blocks
pub has_blocks : (b : View) (cs : List CriticalBlock) → book_blocks b ≡ cs → HasBlocks b cs
has_blocks b cs is = record {
  answer = λ list enough. rw (enough, is) refl;
  written = λ list enough. rw (enough, is) (take-append_seam cs (drop (length cs) list));
}
