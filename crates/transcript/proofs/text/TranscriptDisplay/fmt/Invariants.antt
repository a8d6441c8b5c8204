use Rattle.std.proofs.Common.{◌≡◌, ℕ}
use Rattle.std.specs.Fmt.{IsPlainFormatter, HasWritten}
use Rattle.transcript.proofs.Runs.{Running, front}
use Rattle.transcript.proofs.text.TranscriptDisplay.fmt.Given as goal

-- some k lines are printed, and the run goes on from there
abbrev pub invariant-loop-line : goal.invariant-loop-line
invariant-loop-line g l =
    (l.line-iterator.input ≡ l.self.input.now)
    × ((k : ℕ) × (Running l.line-iterator k × (IsPlainFormatter l.initial.f → HasWritten g.W.Write.write_str_gives l.initial.f (front l.self.input.now k) l.f)))
