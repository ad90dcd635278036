-- Which of the two each is.
use Rattle.std.proofs.Common.{true, false}
use Rattle.rectangles.proofs.attributes.restyling_of.Given as goal

abbrev pub ghost-restyled_by : goal.ghost-restyled_by
ghost-restyled_by a = true

abbrev pub ghost-restyled_by-2 : goal.ghost-restyled_by-2
ghost-restyled_by-2 a = false
