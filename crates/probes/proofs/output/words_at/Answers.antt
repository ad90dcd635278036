use Rattle.std.proofs.Common.{arith, rules, drop_of_length-le}
use Rattle.probes.proofs.OutputLaws.{all-remains, none-remains, words-less}
use Rattle.probes.proofs.output.words_at.Goals as goal

pub loop-word-preserved : goal.loop-word-preserved
loop-word-preserved c = words-less c.args.from.now c.loop-word.word-index (omega arith) c.loop-word.invariant (rw c.from.ensures at c.put_number.ensures)

pub loop-word-init : goal.loop-word-init
loop-word-init c = all-remains _ _

pub returns : goal.returns
returns c =
    let all = none-remains (rw (drop_of_length-le c.args.from.now {i = c.loop-word.word-index} (omega arith)) at c.loop-word.invariant) in
    search (rules, all)
