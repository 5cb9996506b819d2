-- Values that are apart are distinct.
use Rattle.std.proofs.Common.{subst}
use Rattle.std.specs.List.{IsDistinct}
use Rattle.sm_numbering.proofs.PlaceLemmas.{distinct}
use Rattle.sm_numbering.proofs.numbering.Numbering.as_slice.Goals as goal

pub returns-clause-unique : goal.returns-clause-unique
returns-clause-unique g c =
    subst (IsDistinct g.T.PartialEq.eq) c.self.view_is (distinct g.T.PartialEq.eq c.self.inside.list.items c.self.invariant.1)
