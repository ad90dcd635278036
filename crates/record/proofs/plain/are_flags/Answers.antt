-- The word has a bit of the mask where one of its bytes is above 1.
use Rattle.std.proofs.Common.{rules}
use Rattle.record.proofs.ByteLaws.{four-flags}
use Rattle.record.proofs.plain.are_flags.Goals as goal

pub returns : goal.returns
returns c = four-flags c.args.a c.args.b c.args.c c.args.d (search rules) (search rules) (search rules) (search rules)
