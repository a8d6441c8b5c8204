use Rattle.std.proofs.Common.{take}
use Rattle.std.specs.Fmt.{HasWritten, IsPlainFormatter}
use Rattle.transcript.specs.Text.{tick_text}
use Rattle.transcript.proofs.line.ServedTickDisplay.fmt.Given as goal

-- the entries so far are written
abbrev pub invariant-loop-entry : goal.invariant-loop-entry
invariant-loop-entry g l =
    IsPlainFormatter l.fn.f → HasWritten g.W.Write.write_str_gives l.fn.f (tick_text l.self.now l.self.setting (take l.entry-index l.entry-items)) l.f
