-- The refusals of the bench.
use Rattle.std.specs.Prelude.{Bool, true, false}
use Rattle.refusal.specs.declared.Refusal.{Refusal}
use Rattle.layout.specs.declared.fault.ReadFault.TheVariants.{Cut, UnknownKind, Forbidden}
use Rattle.book.specs.declared.fault.BookFault.{BookFault}
use Rattle.book.specs.declared.fault.BookFault.TheVariants.{Read, Field, TicketOpen, Full, Overload, NotOpen}
use Rattle.book.specs.declared.fault.BookFault.TheVariants.{Short, LastTick, Image}
use Rattle.book.specs.Refusals.{book_refusal}
use Rattle.transcript.specs.declared.fault.BenchFault.{BenchFault}
use Rattle.transcript.specs.declared.fault.BenchFault.TheVariants.{Book}

-- a fault of the book is told as the book tells it
abbrev pub bench_refusal : BenchFault → Refusal
bench_refusal (Book e) = book_refusal e

-- whether no record can follow
abbrev pub ends_book : BookFault → Bool
ends_book (Read (Cut offset)) = true
ends_book (Read (UnknownKind offset)) = false
ends_book (Read (Forbidden offset)) = false
ends_book (Field f) = false
ends_book (TicketOpen ticket) = false
ends_book (Full places) = false
ends_book (Overload start end work) = false
ends_book (NotOpen ticket) = false
ends_book (Short needed) = false
ends_book (LastTick now) = false
ends_book (Image number) = false

-- a cut record ends the run
abbrev pub ends_run : BenchFault → Bool
ends_run (Book e) = ends_book e
