-- Whether a formula is held, by whether its parts are.
use Rattle.sm_judge.proofs.Imports.{◌≡◌, Bool, true, false, ◌&&◌, ◌||◌, sym, ap, ◌∙◌, subst, Formula, Assertion, Seen, is_fact, is_held}
use Rattle.sm_term.specs.Assertions.{And, Or}

-- a comparison is held where it is a fact
pub comparison_held : (b : Seen) (says : Formula → Assertion) (f g : Formula) (r : Bool) → f ≡ g → is_fact b (says g) ≡ is_held b (says g) →
    r ≡ is_fact b (says f) → r ≡ is_held b (says f)
comparison_held b says f g r is same first =
    first ∙ subst (λ (h : Formula). is_fact b (says h) ≡ is_held b (says h)) (sym is) same

-- a part is a fact or is held
pub part_is : (b : Seen) (says : Formula → Assertion) (f one : Formula) (r : Bool) → r ≡ (is_fact b (says one) || is_held b (says one)) →
    one ≡ f → r ≡ (is_fact b (says f) || is_held b (says f))
part_is b says f one r first same = first ∙ ap (λ (g : Formula). is_fact b (says g) || is_held b (says g)) same

-- by the first part, or by the second
pub and_first : (b : Seen) (a p q : Assertion) (first : Bool) → a ≡ And p q → first ≡ (is_fact b p || is_held b p) → first ≡ false → first ≡ is_held b a
and_first b a p q first same is e =
    let x : (is_fact b p || is_held b p) ≡ false = sym is ∙ e in
    e ∙ ap (λ (v : Bool). v && (is_fact b q || is_held b q)) (sym x) ∙ ap (is_held b) (sym same)

pub and_second : (b : Seen) (a p q : Assertion) (first second : Bool) → a ≡ And p q → first ≡ (is_fact b p || is_held b p) →
    second ≡ (is_fact b q || is_held b q) → first ≡ true → second ≡ is_held b a
and_second b a p q first second same is also e =
    let x : (is_fact b p || is_held b p) ≡ true = sym is ∙ e in
    also ∙ ap (λ (v : Bool). v && (is_fact b q || is_held b q)) (sym x) ∙ ap (is_held b) (sym same)

pub or_first : (b : Seen) (a p q : Assertion) (first : Bool) → a ≡ Or p q → first ≡ (is_fact b p || is_held b p) → first ≡ true → first ≡ is_held b a
or_first b a p q first same is e =
    let x : (is_fact b p || is_held b p) ≡ true = sym is ∙ e in
    e ∙ ap (λ (v : Bool). v || (is_fact b q || is_held b q)) (sym x) ∙ ap (is_held b) (sym same)

pub or_second : (b : Seen) (a p q : Assertion) (first second : Bool) → a ≡ Or p q → first ≡ (is_fact b p || is_held b p) →
    second ≡ (is_fact b q || is_held b q) → first ≡ false → second ≡ is_held b a
or_second b a p q first second same is also e =
    let x : (is_fact b p || is_held b p) ≡ false = sym is ∙ e in
    also ∙ ap (λ (v : Bool). v || (is_fact b q || is_held b q)) (sym x) ∙ ap (is_held b) (sym same)

-- what is a fact isn't looked into
pub fact_first : (b : Seen) (a : Assertion) (r : Bool) → r ≡ is_fact b a → r ≡ true → r ≡ (is_fact b a || is_held b a)
fact_first b a r is e = e ∙ ap (λ (v : Bool). v || is_held b a) (sym e ∙ is)

-- what isn't a fact may be held
pub held_then : (b : Seen) (a : Assertion) (r s : Bool) → r ≡ is_fact b a → r ≡ false → s ≡ is_held b a → s ≡ (is_fact b a || is_held b a)
held_then b a r s is e held = held ∙ ap (λ (v : Bool). v || is_held b a) (sym e ∙ is)
