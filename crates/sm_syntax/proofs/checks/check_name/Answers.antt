use denote.Enum.Bare.{sameb}
use Rattle.sm_syntax.proofs.Imports.{◌≡◌, ℕ, true, false, Option, Some, None, refl, sym, ap, ◌∙◌, arith, common_steps, WrongSort, sort_refusal}
use Rattle.sm_syntax.specs.contracts.tree.Sort.{the_type}
use Rattle.sm_syntax.specs.declared.tree.Sort.{Sort}
use Rattle.sm_syntax.specs.declared.tree.Sort.TheVariants.{Num, Arr}
use Rattle.sm_syntax.proofs.Uses.{first_sort_fault-one}
use Rattle.sm_syntax.proofs.checks.check_name.Goals as goal

-- a name that stands as it is declared
same_sort : (declared sort : Sort) (x : ℕ) → true ≡ sameb the_type declared sort → sort_refusal (Some declared) sort x ≡ None
same_sort Num Num x same = refl
same_sort Num Arr x same = cc
same_sort Arr Num x same = cc
same_sort Arr Arr x same = refl

-- a name that stands with the other sort
other_sort : (declared sort : Sort) (x : ℕ) → false ≡ sameb the_type declared sort → sort_refusal (Some declared) sort x ≡ Some (WrongSort x)
other_sort Num Num x other = cc
other_sort Num Arr x other = refl
other_sort Arr Num x other = refl
other_sort Arr Arr x other = cc

pub returns-in-None : goal.returns-in-None
returns-in-None c = grind (arith, common_steps, first_sort_fault-one)

pub returns-in-Some : goal.returns-in-Some
returns-in-Some c =
    first_sort_fault-one _ _ _ ∙ ap (λ (o : Option Sort). sort_refusal o c.args.sort c.args.name.0) (sym c.in-Some.ensures.value) ∙
    same_sort c.in-Some.declared.now c.args.sort c.args.name.0 c.if-eq.ensures

pub returns-in-Some-2 : goal.returns-in-Some-2
returns-in-Some-2 c = λ named.
    first_sort_fault-one _ _ _ ∙ ap (λ (o : Option Sort). sort_refusal o c.args.sort c.args.name.0) (sym c.in-Some.ensures.value) ∙
    other_sort c.in-Some.declared.now c.args.sort c.args.name.0 c.if-eq.ensures
