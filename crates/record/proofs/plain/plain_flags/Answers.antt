-- The tests are the definition's.
use Rattle.std.proofs.Common.{rules}
use Rattle.record.specs.Plain.{flag_tests}
use Rattle.record.proofs.plain.plain_flags.Goals as goal

pub returns : goal.returns
unfolding flag_tests
returns c = search rules
