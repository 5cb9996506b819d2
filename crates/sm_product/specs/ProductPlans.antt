-- Cited by public clauses: the plan of a task under a choice of templates, and its sites.
use Rattle.std.specs.Prelude.{ℕ, List, [], length, slice_get, unwrap_or}
use Rattle.sm_syntax.specs.text.Parts.{Parts}
use Rattle.sm_term.specs.Assertions.{Assertion}
use Rattle.sm_plan.specs.Plans.{Plan}
use Rattle.sm_sketch.specs.Choices.{Choice, kept_by, all_chosen}
use Rattle.sm_sketch.specs.Sketches.{sites_of, plan_with}
use Rattle.sm_product.specs.Products.{sketch_of}

-- how many sites a task has
abbrev pub site_count : Parts → ℕ
site_count t = length (sites_of (sketch_of t))

-- the templates of a site, none where there is no such site
abbrev pub templates : Parts → ℕ → List Assertion
templates t site = unwrap_or (slice_get (sites_of (sketch_of t)) site) []

-- the plan under a choice
abbrev pub plan_of : Parts → Choice → Plan
plan_of t choice = plan_with (kept_by choice) 0 (sketch_of t)

-- the choice of all templates
abbrev pub full_choice : Parts → Choice
full_choice t = all_chosen (sites_of (sketch_of t))
