-- The word has a bit of the mask where one of its bytes is above 3.
use Rattle.std.proofs.Common.{rules}
use Rattle.record.proofs.ByteLaws.{four-sets}
use Rattle.record.proofs.plain.are_sets.Goals as goal

pub returns : goal.returns
returns c = four-sets c.args.a c.args.b c.args.c c.args.d (search rules) (search rules) (search rules) (search rules)
