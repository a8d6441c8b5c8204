-- What a tick serves, from the first setting in force and the grants at that setting.
use Rattle.std.proofs.Common.{◌≡◌, ℕ, ◌==◌, false, List, length, drop, Ok, ◌∙◌, ap}
use Rattle.std.proofs.Math.Seq.{take-append_seam}
use Rattle.book.specs.declared.tick.Entry.{Entry}
use Rattle.book.specs.Book.{View}
use Rattle.layout.specs.declared.job.TheConstants.{LAST_TICK}
use Rattle.book.specs.Settings.{settings_of}
use Rattle.book.specs.Ticks.{grants, grants_of, entries_of}
use Rattle.worked_books.specs.Words.{TickServes}

pub serves : (b : View) (setting : ℕ) (es : List Entry) → (b.now == LAST_TICK) ≡ false → settings_of b 0 ≡ setting
    → entries_of (grants b.now setting b.jobs) ≡ es → TickServes b setting es
serves b setting es more first at_setting = record {
  answer = λ list enough. rw (enough, more) (λ i. Ok (record { setting = first i; count = length (granted i) }));
  written = λ list enough. rw (enough, more, granted) (take-append_seam es (drop (length es) list));
}
  where
    granted : entries_of (grants_of b) ≡ es
    granted = ap (λ u. entries_of (grants b.now u b.jobs)) first ∙ at_setting
