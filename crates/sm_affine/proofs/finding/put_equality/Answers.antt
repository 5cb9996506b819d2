-- One more equality, which gives the column.
use Rattle.std.proofs.Common.{List, Option, IfSome, All, sym, subst}
use Rattle.std.proofs.lemmas.List.Elements.{All-push}
use Rattle.sm_affine.specs.declared.equality.Equality.{Equality}
use Rattle.sm_affine.specs.Equalities.{GivesColumn, GivesOneOf}
use Rattle.sm_affine.proofs.finding.put_equality.Goals as goal

pub returns-in_ok-push-clause-gives : goal.returns-in_ok-push-clause-gives
returns-in_ok-push-clause-gives c = λ first last low high all.
    let e = c.in-Some.equality in
    let gives =
    subst (λ (o : Option Equality). IfSome o (λ (f : Equality). GivesColumn c.args.column f.parts.items)) c.in-Some.is
    c.in_ok-equality.ensures.gives in
    subst (λ (es : List Equality). All (GivesOneOf first last) es) (sym c.in_ok-push.ensures.items)
    (All-push (GivesOneOf first last) c.args.list.now.items e all (c.args.column, (low, high, gives)))
