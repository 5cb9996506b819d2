-- Cited by public clauses: the choices that the program's own stand for.
use Rattle.std.specs.Prelude.{ℕ, ◌+◌, ◌++◌, List, [], ◌∷◌, map, length, slice_get, option_to_list, Vec}
use Rattle.std.specs.declared.alloc.Global.{Global}
use Rattle.sm_syntax.specs.text.Sorts.{Sorts}
use Rattle.sm_term.specs.Terms.{Tree}
use Rattle.sm_term.specs.declared.formula.Formula.{Formula}
use Rattle.sm_term.specs.Assertions.{Assertion}
use Rattle.sm_plan.specs.Plans.{Plan}
use Rattle.sm_expand.specs.declared.plan.Plan as program
use Rattle.sm_expand.specs.NumberedPlans.{IsPlanReady}
use Rattle.sm_expand.specs.Views.{numbered_plan}
use Rattle.sm_sketch.specs.declared.kept.TemplateChoice.{TemplateChoice}
use Rattle.sm_sketch.specs.Choices.{Choice}
use Rattle.sm_sketch.specs.NumberedSketches.{NumberedSketch, AreNodesReady}
use Rattle.sm_sketch.specs.Sketches.{Sketch, plan_with, sites_of}
use denote.Bor.{Bor}

-- the choice that one of the program stands for
abbrev pub choice_in : TemplateChoice → Choice
choice_in c = map (λ (s : Vec ℕ Global). s.items) c.sites.items

-- formulas that are told by where they stand
abbrev pub pointed : List (Bor Formula) → List Formula
pointed fs = map (λ (f : Bor Formula). f.now) fs

-- the formulas with these numbers, without those that aren't there
abbrev pub picked_forms : List Formula → List ℕ → List Formula
picked_forms fs [] = []
picked_forms fs (k ∷ rest) = option_to_list (slice_get fs k) ++ picked_forms fs rest

-- the plans of sketches, of which the sites are numbered from s on
abbrev pub plans_from : (ℕ → List Assertion → Assertion) → ℕ → List Sketch → List Plan
plans_from keep s [] = []
plans_from keep s (p ∷ ps) =
    plan_with keep s p ∷ plans_from keep (s + length (sites_of p)) ps

-- how many sites sketches have
abbrev pub sites_among : List Sketch → ℕ
sites_among [] = 0
sites_among (p ∷ ps) = length (sites_of p) + sites_among ps

-- each of several sketches is ready
abbrev pub AreSomeReady : Sorts → List Tree → List NumberedSketch → Type 0
AreSomeReady sorts trees [] = Unit {0}
AreSomeReady sorts trees (p ∷ ps) = AreNodesReady sorts trees p × AreSomeReady sorts trees ps

-- each of several plans is ready
abbrev pub AreAllReady : Sorts → List Tree → List program.Plan → Type 0
AreAllReady sorts trees [] = Unit {0}
AreAllReady sorts trees (p ∷ ps) =
    IsPlanReady sorts trees (numbered_plan p) × AreAllReady sorts trees ps
