-- Cited by public clauses: the templates of the sites of a sketch, over numbers of terms.
use Rattle.std.specs.Prelude.{List, [], ◌∷◌, ◌++◌, map}
use Rattle.std.specs.declared.alloc.Global.{Global}
use Rattle.std.specs.declared.rc.Rc.{Rc}
use Rattle.sm_syntax.specs.text.Sorts.{Sorts}
use Rattle.sm_term.specs.declared.formula.Formula.{Formula}
use Rattle.sm_term.specs.Terms.{Tree}
use Rattle.sm_plan.specs.declared.state.Formulas.{Formulas}
use Rattle.sm_plan.specs.ReadyStates.{AreFormsReady}
use Rattle.sm_sketch.specs.NumberedSketches.{NumberedSite, Plain, LoopSite, BlockSite, NumberedSketch, Draw, NumberedSketches, Over, More}

-- the templates of a node that is a site
abbrev pub forms_at : NumberedSite → List (List Formula)
forms_at (Plain node) = []
forms_at (LoopSite set fs) = fs ∷ []
forms_at (BlockSite counts fs) = fs ∷ []

abbrev mutual
  -- those of each site of a sketch, in preorder
  pub forms_of : NumberedSketch → List (List Formula)
  forms_of (Draw node ps) = forms_at node ++ forms_below ps

  -- the templates of each site of sketches, in preorder
  pub forms_below : NumberedSketches → List (List Formula)
  forms_below Over = []
  forms_below (More p ps) = forms_of p ++ forms_below ps

-- the templates of each site of a list of sketches, in preorder
abbrev pub forms_of_all : List NumberedSketch → List (List Formula)
forms_of_all [] = []
forms_of_all (p ∷ ps) = forms_of p ++ forms_of_all ps

-- the formulas of shared lists
abbrev pub shared_forms : List (Rc Formulas Global) → List (List Formula)
shared_forms l = map (λ (fs : Rc Formulas Global). fs.value.list.items) l

-- the formulas of each list are in a table, each part with the sort that it is used with
abbrev pub AreListsReady : Sorts → List Tree → List (List Formula) → Type 0
AreListsReady sorts trees [] = Unit {0}
AreListsReady sorts trees (fs ∷ rest) =
    AreFormsReady sorts trees fs × AreListsReady sorts trees rest
