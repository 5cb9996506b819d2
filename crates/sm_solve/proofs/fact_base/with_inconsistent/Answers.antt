-- What is found of the facts of a node is noted.
use Rattle.sm_solve.proofs.Imports.{◌≡◌, List, [], ◌∷◌, ◌++◌, refl, sym, ap, subst, ◌∙◌, Sorts, Formula, AreFormsSorted, trees_in, sorts_in, IsLedBy, classes_by, all_numbered, assertions_in, AreNamed, room_for_goal}
use Rattle.sm_term.specs.Assertions.{Yes}
use Rattle.sm_solve.proofs.InconsistentLemmas.{node_led, node_named, node_sorted, node_inconsistent}
use Rattle.sm_solve.proofs.fact_base.with_inconsistent.Goals as goal

pub inconsistent_of-requires-clause-sorted : goal.inconsistent_of-requires-clause-sorted
inconsistent_of-requires-clause-sorted c =
    let own = c.args.node.terms.own in
    subst (λ (fs : List Formula). AreFormsSorted (sorts_in own) (assertions_in (sorts_in own) (trees_in own) (all_numbered fs)))
    (sym c.deref-2.ensures.value) (node_sorted c.requires.0 c.requires.1 c.args.node c.requires.2)

pub inconsistent_of-requires-clause-led : goal.inconsistent_of-requires-clause-led
inconsistent_of-requires-clause-led c =
    let own = c.args.node.terms.own in
    let l = node_led c.requires.0 c.requires.1 c.args.node c.requires.2 in (
      l.0,
      l.1,
      λ ids counted. subst (λ (fs : List Formula). IsLedBy l.0 (classes_by own ids fs)) (sym c.deref-2.ensures.value) (l.2 ids counted),
    )

pub inconsistent_of-requires-clause-named : goal.inconsistent_of-requires-clause-named
inconsistent_of-requires-clause-named c =
    let own = c.args.node.terms.own in
    subst (λ (fs : List Formula). AreNamed (trees_in own) (assertions_in (sorts_in own) (trees_in own) (all_numbered fs)))
    (sym c.deref-2.ensures.value) (node_named c.requires.0 c.requires.1 c.args.node c.requires.2)

pub returns : goal.returns
returns c = λ table given is.
    let own = c.args.node.terms.own in
    let sorts = sorts_in own in
    let told : assertions_in sorts (trees_in own) (all_numbered c.deref-2.result.now) ≡ room_for_goal given =
    ap (λ (fs : List Formula). assertions_in sorts (trees_in own) (all_numbered fs)) c.deref-2.ensures.value
    ∙ ap (λ (s : Sorts). assertions_in s (trees_in own) (all_numbered c.args.node.facts.items)) is.shared.sorts ∙ is.facts in
    node_inconsistent table given c.args.node _ refl refl refl refl c.in_ok-inconsistent.ensures.stays (c.in_ok-inconsistent.ensures.inconsistent (given ++ Yes ∷ []) told) is
