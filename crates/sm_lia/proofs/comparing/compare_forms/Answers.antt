-- By the parts, then by the constants.
use Rattle.std.proofs.Common.{◌≡◌, rules, sym, ap, ◌∙◌, false, true}
use Rattle.std.proofs.lemmas.Int.{to_z-of_z}
use Rattle.std.specs.Int.{w128}
use mir.Val.{SFits, to_z, of_z}
use Rattle.sm_lia.proofs.ComparingLemmas.{compare_other, compare_equal, compare_unequal}
use Rattle.sm_lia.proofs.comparing.compare_forms.Goals as goal

pub returns-then-not-have_same_parts : goal.returns-then-not-have_same_parts
returns-then-not-have_same_parts c = λ trees h i first second.
    compare_other trees c.args.f.now c.args.g.now h i first second
    (λ (e : c.args.f.now.parts ≡ c.args.g.now.parts).
    let wrong : false ≡ true = sym c.if-not-have_same_parts.true ∙ c.have_same_parts.ensures.1 e in absurd cc)

pub returns-then-constant : goal.returns-then-constant
returns-then-constant c = λ trees h i first second.
    let one : SFits w128 c.constant.result = search rules in
    let other : SFits w128 c.constant-else-not-have_same_parts.result = search rules in
    let same : c.constant.result ≡ c.constant-else-not-have_same_parts.result =
    sym (to_z-of_z w128 c.constant.result one) ∙ ap (to_z w128) c.if-constant.true
    ∙ to_z-of_z w128 c.constant-else-not-have_same_parts.result other in
    compare_equal trees c.args.f.now c.args.g.now h i first second (c.have_same_parts.ensures.0 c.if-not-have_same_parts.false)
    (sym c.constant.ensures ∙ same ∙ c.constant-else-not-have_same_parts.ensures)

pub returns-else-constant : goal.returns-else-constant
returns-else-constant c = λ trees h i first second.
    compare_unequal trees c.args.f.now c.args.g.now h i first second (c.have_same_parts.ensures.0 c.if-not-have_same_parts.false)
    (λ (e : c.args.f.now.constant ≡ c.args.g.now.constant).
    c.if-constant.false (ap (of_z w128) (c.constant.ensures ∙ e ∙ sym c.constant-else-not-have_same_parts.ensures)))
