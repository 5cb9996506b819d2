-- By the keys that were found.
use Rattle.sm_cc.proofs.Imports.{Option, IfSome, length, subst, are_together, AreFirsts, met_at, alike_at, headed_at, AreInside}
use Rattle.sm_cc.specs.declared.ground.FirstPlaces.{FirstPlaces}
use Rattle.sm_cc.proofs.ground.made_ground.Goals as goal

pub returns-in-Some : goal.returns-in-Some
returns-in-Some c = λ v before classes numbered.
    let d = c.args.closure in
    let found = c.in_ok-keys.ensures in
    record {
      before = before;
      classes = classes;
      exact = c.requires;
      keyed = record {
        alike =
            subst (λ (o : Option FirstPlaces). IfSome o (λ (k : FirstPlaces). AreFirsts (alike_at d) (are_together d.roots.items) (met_at k.alike) (length d.rows.items)))
            c.in-Some.is found.alike;
        headed =
            subst (λ (o : Option FirstPlaces). IfSome o (λ (k : FirstPlaces). AreFirsts (headed_at d) (are_together d.roots.items) (met_at k.headed) (length d.rows.items)))
            c.in-Some.is found.headed;
      };
      inside = subst (λ (o : Option FirstPlaces). IfSome o (λ (k : FirstPlaces). AreInside d.rows.items)) c.in-Some.is found.inside;
      numbered = numbered;
    }
