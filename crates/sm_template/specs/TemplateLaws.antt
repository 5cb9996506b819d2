-- Cited by public clauses: what holds of the templates of sites.
use Rattle.std.specs.Prelude.{◌≡◌, ◌++◌, flat_map}
use Rattle.sm_syntax.specs.claim.Syntax.{Code}
use Rattle.sm_syntax.specs.claim.ConflictFree.{Copy}
use Rattle.sm_syntax.specs.text.Parts.{Parts}
use Rattle.sm_plan.specs.Copies.{Copies}
use Rattle.sm_plan.specs.Starts.{AreNumbered}
use Rattle.sm_plan.specs.Statements.{loop_guard, loop_body}
use Rattle.sm_moves.specs.CopySets.{members, only_in}
use Rattle.sm_template.specs.Distinct.{distinct}
use Rattle.sm_template.specs.Guards.{guard_templates}
use Rattle.sm_template.specs.SameFormulas.{same_formula}
use Rattle.sm_template.specs.Templates.{written_templates, block_templates, loop_templates}

-- no template of a name stands twice where names are declared by number
abbrev pub BlockTemplatesStandOnce : Type 0
BlockTemplatesStandOnce =
    (t : Parts) (code : Copy → Code) → AreNumbered t.declared →
    block_templates t code ≡ written_templates t code

-- only what guards suggest can stand twice
abbrev pub LoopTemplatesStandOnce : Type 0
LoopTemplatesStandOnce =
    (t : Parts) (set : Copies) (code : Copy → Code) → AreNumbered t.declared →
    loop_templates t set code
    ≡ written_templates t (only_in set (λ (c : Copy). loop_body (code c)))
    ++ distinct same_formula
    (flat_map (λ (c : Copy). guard_templates (loop_guard (code c)) c) (members set))

-- templates depend on a task through its declarations and the literals of its fillings alone
abbrev pub TemplatesDependOnTwo : Type 0
TemplatesDependOnTwo =
    (t u : Parts) (set : Copies) (code : Copy → Code) → t.declared ≡ u.declared →
    ((c : Copy) → t.fillings c ≡ u.fillings c) →
    (block_templates t code ≡ block_templates u code)
    × (loop_templates t set code ≡ loop_templates u set code)
