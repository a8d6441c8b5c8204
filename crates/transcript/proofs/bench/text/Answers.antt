use Rattle.std.proofs.Common.{rules}
use Rattle.std.proofs.lemmas.Str.{IsUtf8-from_ascii}
use Rattle.transcript.proofs.bench.text.Goals as goal

pub unwrap-requires : goal.unwrap-requires
unwrap-requires c = let u = IsUtf8-from_ascii c.args.label.now c.requires in search rules
