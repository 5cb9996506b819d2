-- Both states are ready.
use Rattle.sm_plan.proofs.Imports.{◌≡◌, [], ◌∷◌, sym, subst, ◌∙◌, PerCopy, SymStore, BlockParts, block_alone, AreFormsReady, AreSuccessorsReady, IsStateReady, Successor}
use Rattle.sm_plan.specs.declared.state.SymState.{SymState}
use Rattle.sm_plan.proofs.blocks.block_states.Goals as goal

-- a state with other stores
abbrev with_stores : SymState → PerCopy SymStore → SymState
with_stores st stores = record {
  rests = st.rests;
  stores = stores;
  target = st.target;
  is_final = st.is_final;
}

pub returns-clause-ready : goal.returns-clause-ready
returns-clause-ready c = λ sorts trees alone after some.
    let st : SymState = c.args.state in
    let made : BlockParts = c.args.made in
    let first : Successor = c.in_ok-first.first in
    let second : Successor = record {
      kept = made.kept;
      more = c.no_formulas-2.result;
      state = with_stores st c.swap.new.y;
    } in
    let items : c.followed.result.states.items ≡ first ∷ second ∷ [] = c.followed.ensures.states ∙ c.in_ok-states.ensures.items in
    subst (AreSuccessorsReady sorts trees) (sym items) (
      c.in_ok-first.ensures.ready sorts trees
          (subst (λ (s : PerCopy SymStore). IsStateReady sorts trees (with_stores (block_alone st made) s)) (sym c.swap.ensures.x_after) alone)
          (subst (AreFormsReady sorts trees) (sym c.no_formulas.ensures) tt),
      (
        record {
          state = subst (λ (s : PerCopy SymStore). IsStateReady sorts trees (with_stores st s)) (sym c.swap.ensures.y_after) after;
          kept = some;
          more = subst (AreFormsReady sorts trees) (sym c.no_formulas-2.ensures) tt;
        },
        tt,
      ),
    )
