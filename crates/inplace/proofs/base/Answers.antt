-- Each flag is 0 or 1, and its number is its bit.
use Rattle.std.proofs.Common.{arith}
use Rattle.inplace.proofs.PlaceLaws.{Flags, flags, base-is}
use Rattle.inplace.proofs.base.Goals as goal
use Rattle.inplace.proofs.base.Goals.{Start}

low : (s : Start) → Flags s.args.terminal
low s = flags s.args.terminal s.requires

pub overflow_mul-result : goal.overflow_mul-result
overflow_mul-result c = record { fits = omega (arith, low (goal.at.overflow_mul-result c).Start) }

pub overflow_mul-result-2 : goal.overflow_mul-result-2
overflow_mul-result-2 c = record { fits = omega (arith, low (goal.at.overflow_mul-result-2 c).Start) }

pub overflow_add-result : goal.overflow_add-result
overflow_add-result c = record { fits = omega (arith, low (goal.at.overflow_add-result c).Start) }

pub overflow_mul-result-3 : goal.overflow_mul-result-3
overflow_mul-result-3 c = record { fits = omega (arith, low (goal.at.overflow_mul-result-3 c).Start) }

pub overflow_add-result-2 : goal.overflow_add-result-2
overflow_add-result-2 c = record { fits = omega (arith, low (goal.at.overflow_add-result-2 c).Start) }

pub overflow_mul-result-4 : goal.overflow_mul-result-4
overflow_mul-result-4 c = record { fits = omega (arith, low (goal.at.overflow_mul-result-4 c).Start) }

pub overflow_add-result-3 : goal.overflow_add-result-3
overflow_add-result-3 c = record { fits = omega (arith, low (goal.at.overflow_add-result-3 c).Start) }

pub overflow_mul-result-5 : goal.overflow_mul-result-5
overflow_mul-result-5 c = record { fits = omega (arith, low (goal.at.overflow_mul-result-5 c).Start) }

pub overflow_add-result-4 : goal.overflow_add-result-4
overflow_add-result-4 c = record { fits = omega (arith, low (goal.at.overflow_add-result-4 c).Start) }

pub returns : goal.returns
returns c = base-is _ (low (goal.at.returns c).Start)
