-- What the state's copy has is the state's.
use Rattle.sm_plan.proofs.Imports.{refl, ap, ◌∙◌, fun_ext, Copy, Code, append, copy_named, code_of, with_copy, rest_after}
use Rattle.sm_plan.proofs.moves.enter_both.Goals as goal

pub returns-clause-first : goal.returns-clause-first
returns-clause-first c = record { rests = c.in_ok-enter-2.ensures; stores = λ (d : Copy). refl; target = refl; is_final = refl }

pub returns-clause-second : goal.returns-clause-second
returns-clause-second c =
    let k = copy_named c.args.copy in
    let second = code_of c.args.second.now in
    record {
      rests = λ (d : Copy). c.in_ok-enter.ensures d
          ∙ ap (λ (h : Copy → Code). with_copy h k (append second (rest_after 1 (h k))) d) (fun_ext c.in_ok-other.ensures.rests);
      stores = c.in_ok-other.ensures.stores;
      target = c.in_ok-other.ensures.target;
      is_final = c.in_ok-other.ensures.is_final;
    }
