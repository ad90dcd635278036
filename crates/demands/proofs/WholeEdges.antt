-- The edges of a whole state are as the table says (specs/WholeEdges.antt): by computing.
use Rattle.std.proofs.Common.{refl}
use Rattle.demands.specs.WholeEdges.{holds, Edges}

pub edges : Edges
unfolding holds
edges = refl
