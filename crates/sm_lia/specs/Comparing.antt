-- Private: how the linear forms of two terms compare.
use Rattle.std.specs.Prelude.{◌&&◌, if◌then◌else◌}
use Rattle.std.specs.Ordering.{int_eq}
use Rattle.sm_syntax.specs.text.Sorts.{Sorts}
use Rattle.sm_num.specs.Forms.{Linear}
use Rattle.sm_term.specs.Terms.{Tree}
use Rattle.sm_theory.specs.LinearTerms.{linear_of}
use Rattle.sm_theory.specs.Arithmetic.{is_numeric, same_parts}
use Rattle.sm_lia.specs.declared.comparing.Comparison.{Comparison}
use Rattle.sm_lia.specs.declared.comparing.Comparison.TheVariants.{Equal, Unequal, Other}

-- how two forms compare: those with the same parts by their constants
abbrev pub form_comparison : Linear Tree → Linear Tree → Comparison
form_comparison f g =
    if same_parts f g then (if int_eq f.constant g.constant then Equal else Unequal) else Other

-- how two terms compare, which are numbers, by their forms
abbrev pub term_comparison : Sorts → Tree → Tree → Comparison
term_comparison sorts t u =
    if is_numeric sorts t && is_numeric sorts u
    then form_comparison (linear_of t) (linear_of u) else Other
