-- No more terms stand in the table of their own than the facts name.
use Rattle.sm_solve.proofs.Imports.{◌≡◌, IfSome, Option, ℕ, List, [], length, refl, sym, ap, ◌∙◌, subst, range_with_len, Linear, Sorts, Formula, AreFormsSorted, trees_in, sorts_in, TermId, AreAllForms, IsFrom, with_formulas, IsWhole, classes_by, numbers_of, all_numbered, assertions_in, AreFormulasWithin}
use Rattle.std.specs.Prelude.{Vec}
use Rattle.std.specs.declared.alloc.Global.{Global}
use Rattle.sm_certify.specs.declared.base.Base.{Base}
use Rattle.sm_solve.proofs.GroundingLemmas.{room_sorted, as_many, node_of}
use Rattle.sm_solve.proofs.fact_base.FactBase.grounded.Goals as goal

abbrev Found : Type 0
Found = Vec (Linear ℕ) Global × Base

pub count_named-requires : goal.count_named-requires
count_named-requires c =
    let count = length (trees_in c.args.table.now) in
    subst (λ (fs : List Formula). AreFormulasWithin count (all_numbered fs)) (sym c.deref.ensures.value)
    (c.in_ok-all.ensures.within count c.requires.within)

pub shared_facts-requires : goal.shared_facts-requires
shared_facts-requires c =
    let count = length (trees_in c.args.table.now) in
    subst (λ (fs : List Formula). AreFormulasWithin count (all_numbered fs)) (sym c.deref-2.ensures.value)
    (c.in_ok-all.ensures.within count c.requires.within)

pub facts_base-requires-clause-sorted : goal.facts_base-requires-clause-sorted
facts_base-requires-clause-sorted c =
    let sorts = sorts_in c.args.table.now in
    let trees = trees_in c.args.table.now in
    let own = c.in_ok-shared.shared.terms.own in
    let given = assertions_in sorts trees (all_numbered c.args.facts.now) in
    let here = c.in_ok-shared.ensures.terms.sorts ∙ c.in_ok-shared.ensures.grows.sorts in
    let are = ap (λ (fs : List Formula). assertions_in sorts (trees_in own) (all_numbered fs)) c.deref-3.ensures.value
    ∙ c.in_ok-shared.ensures.facts
    ∙ ap (λ (fs : List Formula). assertions_in sorts trees (all_numbered fs)) c.deref-2.ensures.value
    ∙ c.in_ok-all.ensures.facts sorts trees in
    subst (λ (s : Sorts). AreFormsSorted s (assertions_in s (trees_in own) (all_numbered c.deref-3.result.now))) (sym here)
    (subst (AreFormsSorted sorts) (sym are) (room_sorted sorts given c.requires.sorted))

pub returns-in-Some-clause-node : goal.returns-in-Some-clause-node
returns-in-Some-clause-node c =
    let table = c.args.table.now in
    let sorts = sorts_in table in
    let trees = trees_in table in
    let own = c.in_ok-shared.shared.terms.own in
    let given = assertions_in sorts trees (all_numbered c.args.facts.now) in
    let first = assertions_in sorts trees (all_numbered c.deref.result.now) in
    let second = assertions_in sorts trees (all_numbered c.deref-2.result.now) in
    let one = ap (λ (fs : List Formula). assertions_in sorts trees (all_numbered fs)) c.deref.ensures.value
    ∙ c.in_ok-all.ensures.facts sorts trees in
    let two = ap (λ (fs : List Formula). assertions_in sorts trees (all_numbered fs)) c.deref-2.ensures.value
    ∙ c.in_ok-all.ensures.facts sorts trees in
    let counted = subst (λ (o : Option Found). IfSome o (λ (_ : Found). length (trees_in own) ≡ c.in_ok-count.count)) c.in-Some.is
    c.in_ok-forms.ensures.counted in
    let many : length (trees_in own) ≡ length (with_formulas first []) = counted ∙ c.in_ok-count.ensures in
    let forms = subst (λ (o : Option Found). IfSome o (λ (p : Found). AreAllForms (trees_in own) p.0.items)) c.in-Some.is
    c.in_ok-forms.ensures.forms in
    let found = subst (λ (o : Option Found). IfSome o (λ (p : Found). (ids : List TermId) × IsWhole (trees_in own) ids
    × (numbers_of ids ≡ range_with_len 0 (length (trees_in own)))
    × IsFrom (classes_by own ids c.deref-3.result.now) p.1)) c.in-Some.is c.in_ok-forms.ensures.base in
    let ground = subst (λ (fs : List Formula). IsFrom (classes_by own found.0 fs) c.in-Some.base) c.deref-3.ensures.value found.3 in
    node_of table c.shared_facts.new.table given first second _ c.in_ok-shared.ensures.grows.sorts one two c.in_ok-shared.ensures.terms
    forms many c.in_ok-shared.ensures.facts c.in_ok-shared.ensures.within (as_many sorts trees c.args.facts.now) c.requires.sorted found.0
    found.1 found.2 ground refl
