-- By the labels of the places; what is numbered goes on.
use Rattle.sm_cc.proofs.Imports.{◌∙◌, IsTrue, Bool, List, length, ap, sym, subst, IfOk-weaker, trees_in, TermId, IsLonger, AreEqualByLabels, AreTermsLabelled, AreTermLabels, ArePositions, AreRowsFrom, ClassesValue}
use Rattle.sm_cc.specs.declared.row.Row.{Row}
use Rattle.sm_cc.specs.Views.{trees_of}
use Rattle.sm_cc.proofs.BehindTerms.{equal_told, exact_told}
use Rattle.sm_cc.proofs.GroundLemmas.{ground_later}
use Rattle.sm_cc.proofs.ground.BaseClasses.behind.Goals as goal

pub added_rows-requires-clause-led : goal.added_rows-requires-clause-led
added_rows-requires-clause-led c =
    let v = c.requires.ground.0 in (
      v,
      c.requires.ground.1,
      c.requires.ground.2,
      subst (λ (ids : List TermId). IsLonger v.terms ids) (sym c.deref.ensures.value) c.requires.ground.3,
    )

pub returns-in_err-more-clause-ground : goal.returns-in_err-more-clause-ground
returns-in_err-more-clause-ground c = λ v is.
    ground_later v c.args.self.now c.args.numbering.now c.added_rows.new.numbering c.in_err-more.ensures.further is

pub returns-clause-ground : goal.returns-clause-ground
returns-clause-ground c = λ v is.
    ground_later v c.args.self.now c.args.numbering.now c.added_rows.new.numbering c.in_ok-more.ensures.further is

pub returns-clause-equal : goal.returns-clause-equal
returns-clause-equal c = λ v given is fine led.
    let g = c.args.self.now in
    let table = c.args.table.now in
    let terms = c.args.terms.now.list.items in
    let w : ClassesValue = record { table = table; terms = terms; given = given } in
    let made = c.in_ok-more.ensures in
    let more = c.in_ok-more.more.rows.items in
    let q = c.in_ok-more.more.positions in
    let m = c.added_rows.new.numbering in
    let told = subst (λ (ts : List TermId). ArePositions (trees_in table) (trees_of (trees_in table) ts) q) c.deref.ensures.value
    made.positions in
    let total = made.count ∙ ap length c.deref.ensures.value in
    let rows =
    subst (λ (ts : List TermId). AreRowsFrom table (trees_of (trees_in table) ts) m (length g.closure.rows.items) more)
    c.deref.ensures.value made.rows in
    IfOk-weaker c.term_labels.result (AreTermsLabelled g q c.deref-2.result.now c.deref-3.result.now c.args.apart.now)
    (λ b. AreEqualByLabels w b.labels.items)
    (λ b so.
    let told_of = subst (λ (ts : List TermId). AreTermsLabelled g q more ts c.args.apart.now b) c.deref-3.ensures.value
    (subst (λ (rs : List Row). AreTermsLabelled g q rs c.deref-3.result.now c.args.apart.now b) c.deref-2.ensures.value so) in
    let seen = told_of.labelled in
    equal_told v w g c.args.numbering.now is led q told fine c.len.ensures.apart c.len.ensures.codes_apart m made.further more total rows
    c.requires.before seen.seen seen.looked seen.count told_of.places.labels.items b.labels.items seen.are told_of.are)
    c.term_labels.ensures

pub returns-clause-exact : goal.returns-clause-exact
returns-clause-exact c = λ v given is fine led adds.
    let g = c.args.self.now in
    let table = c.args.table.now in
    let terms = c.args.terms.now.list.items in
    let w : ClassesValue = record { table = table; terms = terms; given = given } in
    let made = c.in_ok-more.ensures in
    let more = c.in_ok-more.more.rows.items in
    let q = c.in_ok-more.more.positions in
    let m = c.added_rows.new.numbering in
    let told = subst (λ (ts : List TermId). ArePositions (trees_in table) (trees_of (trees_in table) ts) q) c.deref.ensures.value
    made.positions in
    let total = made.count ∙ ap length c.deref.ensures.value in
    let rows =
    subst (λ (ts : List TermId). AreRowsFrom table (trees_of (trees_in table) ts) m (length g.closure.rows.items) more)
    c.deref.ensures.value made.rows in
    IfOk-weaker c.term_labels.result (AreTermsLabelled g q c.deref-2.result.now c.deref-3.result.now c.args.apart.now)
    (λ b. IsTrue b.is_exact → AreTermLabels w b.labels.items)
    (λ b so exact.
    let told_of = subst (λ (ts : List TermId). AreTermsLabelled g q more ts c.args.apart.now b) c.deref-3.ensures.value
    (subst (λ (rs : List Row). AreTermsLabelled g q rs c.deref-3.result.now c.args.apart.now b) c.deref-2.ensures.value so) in
    let seen = told_of.labelled in
    let both = seen.exact (subst (λ (x : Bool). IsTrue x) told_of.exact exact) in
    exact_told v w g c.args.numbering.now is led q told fine c.len.ensures.apart c.len.ensures.codes_apart m made.further more total rows
    c.requires.before seen.seen seen.looked seen.count told_of.places.labels.items b.labels.items seen.are told_of.are c.args.apart.now adds
    both.0 both.1)
    c.term_labels.ensures
