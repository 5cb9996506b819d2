-- One mask more.
use Rattle.sm_plan.proofs.Imports.{rules, ◌≡◌, ◌==◌, ◌+◌, ◌∙◌, ℕ, bit_and, if◌then◌else◌, List, [], ◌∷◌, ◌++◌, map, sym, ap, subst, arith, map-append, filter, range_with_len, Copy, Sorts, of_copy, Assertion, Tree, IsHeadReady, set_of, State, rest_code, forms_in, stores_in, successor_in}
use Rattle.sm_plan.specs.Heads as heads
use Rattle.sm_plan.proofs.TurnsMade.{filter_push}
use Rattle.sm_plan.proofs.turns.turns.Goals as goal

pub loop-smaller-preserved : goal.loop-smaller-preserved
loop-smaller-preserved c = record {
  made = λ (sorts : Sorts) (trees : List Tree) (facts : List Assertion).
      let head = c.args.head.now in
      let n = c.loop-smaller.smaller in
      let test = λ (m : ℕ). bit_and m c.args.set == m in
      let turn : ℕ → State = λ (m : ℕ).
      heads.turn_of (λ (d : Copy). rest_code (of_copy c.args.rests.now d)) facts (stores_in trees head.stores)
      (forms_in sorts trees head.kept.value.list.items) (heads.guard_forms sorts trees head.guards)
      (forms_in sorts trees c.args.target.now.value.list.items) (set_of m) in
      c.in_ok-put_turn.ensures.made sorts trees facts
      ∙ ap (λ (l : List State). l ++ map turn (if test (n + 1) then (n + 1) ∷ [] else [])) (c.loop-smaller.invariant.made sorts trees facts)
      ∙ sym (ap (map turn) (filter_push test n) ∙ map-append turn (filter test (range_with_len 1 n))
      (if test (n + 1) then (n + 1) ∷ [] else []));
  ready = λ (sorts : Sorts) (trees : List Tree) well (head : IsHeadReady sorts trees c.args.head.now) target.
      c.in_ok-put_turn.ensures.ready sorts trees well head target (c.loop-smaller.invariant.ready sorts trees well head target);
}

pub returns-clause-made : goal.returns-clause-made
returns-clause-made c = λ (sorts : Sorts) (trees : List Tree) (facts : List Assertion).
    let head = c.args.head.now in
    let turn : ℕ → State = λ (m : ℕ).
    heads.turn_of (λ (d : Copy). rest_code (of_copy c.args.rests.now d)) facts (stores_in trees head.stores)
    (forms_in sorts trees head.kept.value.list.items) (heads.guard_forms sorts trees head.guards)
    (forms_in sorts trees c.args.target.now.value.list.items) (set_of m) in
    let high = c.loop-smaller-test.false in
    let low = c.loop-smaller.auto.smaller-end in
    let last : c.loop-smaller.smaller ≡ 15 = omega arith in
    c.loop-smaller.invariant.made sorts trees facts
    ∙ ap (λ (n : ℕ). map turn (filter (λ (m : ℕ). bit_and m c.args.set == m) (range_with_len 1 n))) last
