-- One turn more.
use Rattle.sm_plan.proofs.Imports.{◌≡◌, ◌==◌, ◌∙◌, ℕ, Bool, true, if◌then◌else◌, bit_and, List, [], ◌∷◌, ◌++◌, map, sym, ap, subst, map-append, Copy, Sorts, of_copy, Assertion, Tree, IsHeadReady, set_of, AreFormsReady, AreSuccessorsReady, Successor, State, rest_code, forms_in, stores_in, successor_in}
use Rattle.std.proofs.lemmas.Bool.{eq-eqb}
use Rattle.sm_plan.specs.Heads as heads
use Rattle.sm_plan.proofs.TurnsMade.{successors_push}
use Rattle.sm_plan.proofs.turns.put_turn.Goals as goal

pub returns-in_ok-push-clause-made : goal.returns-in_ok-push-clause-made
returns-in_ok-push-clause-made c = λ (sorts : Sorts) (trees : List Tree) (facts : List Assertion).
    let old = c.args.states.now.items in
    let n = c.in_ok-turn.field-0 in
    let one = c.in_ok-turn.ensures.made sorts trees facts in
    let head = c.args.head.now in
    let mask = c.args.mask in
    let turn : ℕ → State = λ (m : ℕ).
    heads.turn_of (λ (d : Copy). rest_code (of_copy c.args.rests.now d)) facts (stores_in trees head.stores)
    (forms_in sorts trees head.kept.value.list.items)
    (heads.guard_forms sorts trees head.guards) (forms_in sorts trees c.args.target.now.value.list.items) (set_of m) in
    let inside : (bit_and mask c.args.set == mask) ≡ true = eq-eqb (bit_and mask c.args.set) mask c.if-mask-set.true in
    ap (map (successor_in sorts trees facts)) c.in_ok-push.ensures.items ∙ map-append (successor_in sorts trees facts) old (n ∷ [])
    ∙ ap (λ (st : State). map (successor_in sorts trees facts) old ++ st ∷ []) one
    ∙ sym (ap (λ (b : Bool). map (successor_in sorts trees facts) old ++ map turn (if b then mask ∷ [] else [])) inside)

pub returns-in_ok-push-clause-ready : goal.returns-in_ok-push-clause-ready
returns-in_ok-push-clause-ready c = λ (sorts : Sorts) (trees : List Tree) well (head : IsHeadReady sorts trees c.args.head.now)
    target ready.
    subst (AreSuccessorsReady sorts trees) (sym c.in_ok-push.ensures.items)
    (successors_push sorts trees c.args.states.now.items c.in_ok-turn.field-0 ready
    (c.in_ok-turn.ensures.ready sorts trees well head target))
