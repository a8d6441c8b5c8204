-- What the call blocks answers, and what its list holds afterwards.
use Rattle.std.specs.Prelude.{ℕ, ◌+◌, List, length, map}
use Rattle.book.specs.declared.table.TheConstants.{PLACES}
use Rattle.schedule.specs.InForce.{horizon}
use Rattle.schedule.specs.Blocks.{blocks}
use Rattle.planner.specs.declared.blocks.RelativeBlock.{RelativeBlock}
use Rattle.planner.specs.Blocks.{block_of}
use Rattle.book.specs.declared.blocks.CriticalBlock.{CriticalBlock}
use Rattle.book.specs.declared.fault.BookFault.{BookFault}
use Rattle.book.specs.Demands.{demands}
use Rattle.book.specs.Book.{View}
use Rattle.book.specs.Lists.{list_with, short_fault}
use Rattle.book.specs.Outcomes.{Outcome, accepted_outcome, outcome}

-- a block of the planner, whose ticks count from now, in ticks of time
abbrev pub block_in_time : ℕ → RelativeBlock → CriticalBlock
block_in_time now b = record { speed = b.speed; start = now + b.from; end = now + b.to }

-- the critical blocks of a book, in the order of the rounds
abbrev pub book_blocks : View → List CriticalBlock
book_blocks b = map (λ c. block_in_time b.now (block_of c)) (blocks horizon (demands b.now b.jobs))

-- blocks writes the critical blocks into the first elements of the list, and answers how many there are
abbrev pub blocks_outcome : View → List CriticalBlock → Outcome ℕ BookFault (List CriticalBlock)
blocks_outcome b list =
    let found = book_blocks b in
    outcome (short_fault PLACES list) b list (accepted_outcome (length found) b (list_with found list))
