-- Names that are declared by number have the sorts of the declarations, and so have some of them.
use Rattle.sm_template.proofs.Imports.{◌≡◌, ℕ, ℤ, ◌==◌, Bool, true, false, cond, if◌then◌else◌, Some, List, [], ◌∷◌, ◌++◌, refl, sym, ap, ◌∙◌, subst, filter, flat_map, eq-eqb, ne_eqb, Code, Copy, Parts, sort_of, Sorts, Sort, declared_of, Formula, Assertion, TableValue, trees_in, sorts_in, AddsTerms, Copies, AreOutputsDeclared, AreNumbered, loop_guard, loop_body, forms_in, only_in, AddsForms, AreBoundsReady, AddsBounds, bounds_in, distinct, guard_templates, same_formula, IsSiteOf, name_templates, written_templates, block_templates, loop_templates, is_written, names_written}
use Rattle.sm_plan.specs.ReadyStates.{AreFormsReady}
use Rattle.sm_moves.specs.CopySets.{members}
use Rattle.sm_template.specs.declared.site.SiteContext.{SiteContext}
use Rattle.sm_template.proofs.AddedLemmas.{added_then, added_grown}
use Rattle.sm_template.proofs.NameRepeats.{same_name, declared_once}
use Rattle.sm_template.proofs.RepeatsLemmas.{AreNew, HasNoRepeats}
use Rattle.sm_template.proofs.TemplatesOnce.{block_once, loop_once}

-- with one more declaration before
declared_later : (d : ℕ × Sort) (ds es : List (ℕ × Sort)) → AreNew same_name (d ∷ []) es → AreOutputsDeclared (sort_of ds) es →
    AreOutputsDeclared (sort_of (d ∷ ds)) es
declared_later d ds [] new h = tt
declared_later d ds (e ∷ es) new h = (
  ap (λ (b : Bool). if b then Some d.1 else sort_of ds e.0)
      (ne_eqb d.0 e.0 (λ (q : d.0 ≡ e.0). let one : (e.0 == d.0) ≡ true = eq-eqb e.0 d.0 (sym q) in
      let other : true ≡ false = sym one ∙ new.0.0 in cc))
      ∙ h.0,
  declared_later d ds es new.1 h.1,
)

declared_by_once : (ds : List (ℕ × Sort)) → HasNoRepeats same_name ds → AreOutputsDeclared (sort_of ds) ds
declared_by_once [] h = tt
declared_by_once (d ∷ ds) h = (
  ap (λ (b : Bool). if b then Some d.1 else sort_of ds d.0) (eq-eqb d.0 d.0 refl),
  declared_later d ds ds h.0 (declared_by_once ds h.1),
)

pub all_declared : (ds : List (ℕ × Sort)) → AreNumbered ds → AreOutputsDeclared (sort_of ds) ds
all_declared ds numbered = declared_by_once ds (declared_once ds numbered)

some_declared : (sorts : Sorts) (test : ℕ × Sort → Bool) (ds : List (ℕ × Sort)) → AreOutputsDeclared sorts ds →
    AreOutputsDeclared sorts (filter test ds)
some_declared sorts test [] h = tt
some_declared sorts test (d ∷ ds) h = by (test d) (some_declared sorts test ds h.1)
  where
    by : (b : Bool) → AreOutputsDeclared sorts (filter test ds) → AreOutputsDeclared sorts (cond b (d ∷ filter test ds) (filter test ds))
    by true later = (h.0, later)
    by false later = later

-- the names that code writes
pub written_declared : (sorts : Sorts) (declared : List (ℕ × Sort)) → sorts ≡ sort_of declared → AreNumbered declared →
    (code : Copy → Code) → AreOutputsDeclared sorts (names_written declared code)
written_declared sorts declared same numbered code =
    some_declared sorts (λ (d : ℕ × Sort). is_written code d.0) declared
    (subst (λ (f : Sorts). AreOutputsDeclared f declared) (sym same) (all_declared declared numbered))

-- the templates of names, by declarations and literals alone
templates_are : (t : Parts) (site : SiteContext) (names : List (ℕ × Sort)) (literals : List ℤ) (code : Copy → Code) → IsSiteOf t site →
    names ≡ names_written (declared_of site.decls.now) code → literals ≡ site.literals.items →
    flat_map (name_templates literals) names ≡ written_templates t code
templates_are t site names literals code of written l =
    λ k. flat_map (name_templates ((l ∙ of.literals) k)) ((written ∙ ap (λ (ds : List (ℕ × Sort)). names_written ds code) of.declared) k)

-- formulas that are put where none is
pub new_forms : (u w : TableValue) (fs gs : List Formula) (more : List Assertion) → fs ≡ [] → AddsForms u w fs gs more →
    AreFormsReady (sorts_in w) (trees_in w) gs × (forms_in (sorts_in w) (trees_in w) gs ≡ more)
new_forms u w fs gs more none added = subst (λ (l : List Formula). AddsForms u w l gs more) none added tt

-- the templates of a block
pub block_made : (u w : TableValue) (t : Parts) (site : SiteContext) (fs gs : List Formula) (names : List (ℕ × Sort)) (literals : List ℤ)
    (code : Copy → Code) → IsSiteOf t site → AreNumbered (declared_of site.decls.now) →
    names ≡ names_written (declared_of site.decls.now) code → literals ≡ site.literals.items → fs ≡ [] →
    AddsForms u w fs gs (flat_map (name_templates literals) names) → forms_in (sorts_in w) (trees_in w) gs ≡ block_templates t code
block_made u w t site fs gs names literals code of numbered written l none added =
    (new_forms u w fs gs (flat_map (name_templates literals) names) none added).1
    ∙ templates_are t site names literals code of written l
    ∙ sym (block_once t code (subst AreNumbered of.declared numbered))

-- inequalities of guards are put behind formulas
pub guards_put : (v w : TableValue) (gs hs : List Formula) (keys : List (ℕ × ℕ)) (guards : List Assertion) → AddsTerms v w →
    AddsBounds v w [] keys guards →
    ((x : TableValue) → AreBoundsReady (sorts_in x) (trees_in x) keys → AddsForms x x gs hs (bounds_in (trees_in x) keys)) →
    AddsForms v w gs hs (distinct same_formula guards)
guards_put v w gs hs keys guards grows bounds put =
    let made = bounds tt in
    let found = bounds_in (trees_in w) keys in
    subst (AddsForms v w gs hs) made.1 (added_then v w w gs gs hs [] found (added_grown v w grows gs) (put w made.0))

-- the templates of loops
pub loop_made : (u w : TableValue) (t : Parts) (site : SiteContext) (set : Copies) (fs hs : List Formula) (names : List (ℕ × Sort))
    (literals : List ℤ) (code : Copy → Code) → IsSiteOf t site → AreNumbered (declared_of site.decls.now) →
    names ≡ names_written (declared_of site.decls.now) (only_in set (λ (c : Copy). loop_body (code c))) →
    literals ≡ site.literals.items → fs ≡ [] →
    AddsForms u w fs hs
    (flat_map (name_templates literals) names
    ++ distinct same_formula (flat_map (λ (c : Copy). guard_templates (loop_guard (code c)) c) (members set))) →
    forms_in (sorts_in w) (trees_in w) hs ≡ loop_templates t set code
loop_made u w t site set fs hs names literals code of numbered written l none added =
    let bodies = only_in set (λ (c : Copy). loop_body (code c)) in
    let guards = distinct same_formula (flat_map (λ (c : Copy). guard_templates (loop_guard (code c)) c) (members set)) in
    (new_forms u w fs hs (flat_map (name_templates literals) names ++ guards) none added).1
    ∙ ap (λ (fs : List Assertion). fs ++ guards) (templates_are t site names literals bodies of written l)
    ∙ sym (loop_once t set code (subst AreNumbered of.declared numbered))
