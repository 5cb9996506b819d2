-- The first term that has a partner.
use Rattle.sm_judge.proofs.Imports.{◌≡◌, ◌<◌, ◌∙◌, None, length, ap, sym, subst, below_more, arith, trees_in, sorts_in, Pairs, TellClasses, AreLinked, IsPartnerIf}
use Rattle.std.proofs.Common.{ℕ}
use Rattle.sm_judge.proofs.TornLemmas.{torn_found, none_torn}
use Rattle.sm_judge.proofs.torn.torn_terms.Goals as goal

pub returns-in-Some : goal.returns-in-Some
returns-in-Some c = λ (equal : Pairs) (tell : TellClasses (trees_in c.args.table.now) equal c.args.labels.now).
    let sorts = sorts_in c.args.table.now in
    let trees = trees_in c.args.table.now in
    let labels = c.args.labels.now in
    let n = c.loop-n.n in
    let inside : n < length trees = omega (arith, c.loop-n-test.true, c.len-n-end.ensures.len) in
    let count : length labels ≡ length c.deref.result.now = sym (ap length c.deref.ensures.value ∙ c.in_ok-before.ensures.count) in
    let linked = subst (AreLinked labels) (sym c.deref.ensures.value) c.in_ok-before.ensures.linked in
    let found = subst (IsPartnerIf sorts trees labels n) c.in-Some.is (c.partner_of.ensures labels count linked) in
    let torn = torn_found sorts trees equal labels c.requires.count tell n c.in-Some.u inside found in
    (inside, torn.0, torn.1)

pub loop-n-preserved : goal.loop-n-preserved
loop-n-preserved c =
    let sorts = sorts_in c.args.table.now in
    let trees = trees_in c.args.table.now in
    let labels = c.args.labels.now in
    let n = c.loop-n.n in
    let count : length labels ≡ length c.deref.result.now = sym (ap length c.deref.ensures.value ∙ c.in_ok-before.ensures.count) in
    let linked = subst (AreLinked labels) (sym c.deref.ensures.value) c.in_ok-before.ensures.linked in
    below_more (λ (m : ℕ). IsPartnerIf sorts trees labels m None) n c.loop-n.invariant
    (subst (IsPartnerIf sorts trees labels n) c.in_default.is (c.partner_of.ensures labels count linked))

pub returns : goal.returns
returns c = λ (equal : Pairs) (tell : TellClasses (trees_in c.args.table.now) equal c.args.labels.now).
    let trees = trees_in c.args.table.now in
    none_torn (sorts_in c.args.table.now) trees equal c.args.labels.now c.requires.count tell
    (λ (m : ℕ) (h : m < length trees). c.loop-n.invariant m (omega (arith, h, c.len-n-end.ensures.len, c.loop-n-test.false)))
