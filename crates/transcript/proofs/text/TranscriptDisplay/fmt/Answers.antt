use Rattle.std.proofs.Common.{◌≡◌, ℕ, ◌+◌, ◌*◌, true, List, ◌++◌, Some, sym, refl, ap, ◌∙◌, subst}
use Rattle.std.proofs.Output.{has_written_append, has_written_of_eq}
use Rattle.transcript.specs.Lines.{plain_line, line_at, book_before}
use Rattle.transcript.specs.Run.{Run}
use Rattle.transcript.specs.Text.{line_text_of, record_count, transcript}
use Rattle.transcript.proofs.Runs.{Running, front, front_more, onward, finished}
use Rattle.transcript.proofs.text.TranscriptDisplay.fmt.Goals as goal

pub loop-line-preserved : goal.loop-line-preserved
loop-line-preserved g c =
    let s = c.args.self.now.input.now in
    let inv = c.loop-line.invariant in
    let k = inv.1.0 in
    let e = plain_line c.in-Some.line in
    let call = c.in-Some.ensures.steps in
    let went = onward c.loop-line.line-iterator k e inv.1.1.0 (sym call.line) in
    let line : line_at (book_before s k) s (24 * k) ≡ Some e = ap (λ (x : List ℕ). line_at (book_before x k) x (24 * k)) (sym inv.0) ∙ went.entry in
    let text : front s k ++ line_text_of (Some e) ≡ front s (k + 1) = sym (front_more s k ∙ ap (λ o. front s k ++ line_text_of o) line) in (
      ap (λ (r : Run). r.input) call.run ∙ inv.0,
      (
        k + 1,
        (
          subst (λ (r : Run). Running r (k + 1)) (sym call.run) went.running,
          λ plain.
              let before = inv.1.1.1 plain in
              has_written_of_eq g.W.Write.write_str_gives c.args.f.now (front s k ++ line_text_of (Some e)) (front s (k + 1)) c.writeln.new.self text
              (has_written_append g.W.Write.write_str_gives c.args.f.now (front s k) c.loop-line.f (line_text_of (Some e)) c.writeln.new.self before (c.in_ok-writeln.ensures.writes before.plain (refl {a = true}))),
        ),
      ),
    )

pub returns-clause-writes : goal.returns-clause-writes
returns-clause-writes g c plain t =
    let s = c.args.self.now.input.now in
    let inv = c.loop-line.invariant in
    let k = inv.1.0 in
    let all : k ≡ record_count s = finished c.loop-line.line-iterator k inv.1.1.0 (sym c.in-None.ensures.steps.line) ∙ ap record_count inv.0 in
    has_written_of_eq g.W.Write.write_str_gives c.args.f.now (front s k) (transcript s) c.loop-line.f (ap (front s) all) (inv.1.1.1 plain)
