use Rattle.sm_cert.proofs.Imports.{rules, ◌≡◌, ◌+◌, ◌*◌, ◌<◌, ◌++◌, ◌∷◌, [], arith, suc, List, length, sym, ap, ◌∙◌, subst, trees_in, sorts_in, line_in, AllStand, CertLine, Fact, ways_with, CertFault, Certificate, Closed, Split, first_of_three, first_bad, bad_line, lines_in, lines_before, certificate_in, lines_of, AreLinesWithin, FaultTells, CertTree, SplitsInto, line_number, Passes}
use Rattle.std.proofs.Common.{Option}
use Rattle.sm_cert.specs.declared.error.CertFault.TheVariants as fault
use Rattle.sm_cert.proofs.CheckLemmas.{tree_closed, tree_split, three_sound, line_sorted, counted_more}
use Rattle.sm_cert.proofs.WaysLemmas.{stand_append}
use Rattle.std.proofs.lemmas.Result.{IfOk-weaker, IfErr-weaker}
use Rattle.sm_cert.proofs.TreeLemmas.{own_within, split_within, first_within, second_within, first_fewer, second_fewer, closed_passes, open_tells, whole_tells, halves, err_is, split_passes, split_first, split_second}
use Rattle.sm_cert.proofs.check.+check.Goals as goal

pub check_at-add_lines-requires-clause-within : goal.check_at-add_lines-requires-clause-within
check_at-add_lines-requires-clause-within g t c =
    subst (AreLinesWithin (length (trees_in c.args.table.now))) (sym c.deref.ensures.value)
    (own_within (length (trees_in c.args.table.now)) c.args.tree.now c.requires.within)

pub check_at-parts-requires : goal.check_at-parts-requires
check_at-parts-requires g t c =
    (split_within (length (trees_in c.args.table.now)) c.args.tree.now c.in-Split.line c.in-Split.first c.in-Split.second c.in-Split.is
    c.requires.within).0

pub check_at-returns-then-closes-clause-ok : goal.check_at-returns-then-closes-clause-ok
check_at-returns-then-closes-clause-ok g t c = λ facts m all fine e.
    let sorts = sorts_in c.args.table.now in
    let trees = trees_in c.args.table.now in
    let theories = first_of_three (g.E.Theory.adds c.args.three.now.euf.now) (g.L.Theory.adds c.args.three.now.lia.now)
    (g.R.Theory.adds c.args.three.now.rows.now) sorts in
    let ls = c.deref.result.now in
    let l = c.in-Close.line in
    let whole : certificate_in trees c.args.tree.now ≡ lines_before trees ls (Closed (line_in trees l)) =
    tree_closed trees c.args.tree.now l c.in-Close.is ∙ ap (λ (lines : List CertLine). lines_before trees lines (Closed (line_in trees l)))
    (sym c.deref.ensures.value) in
    subst (λ (t : Certificate). Passes theories sorts facts m t c.saturating_add.result) (sym whole)
    (closed_passes theories sorts trees facts m ls c.add_lines.new.path.list.items c.in_ok-at.at l c.saturating_add.result
    (c.in_ok-at.ensures.ok facts m all fine e)
    (λ ks added stand. sym c.if-closes.true ∙ c.closes.ensures ks added stand) c.saturating_add.ensures)

pub check_at-returns-else-closes-clause-err : goal.check_at-returns-else-closes-clause-err
check_at-returns-else-closes-clause-err g t c = λ facts m all fine e.
    let sorts = sorts_in c.args.table.now in
    let trees = trees_in c.args.table.now in
    let theories = first_of_three (g.E.Theory.adds c.args.three.now.euf.now) (g.L.Theory.adds c.args.three.now.lia.now)
    (g.R.Theory.adds c.args.three.now.rows.now) sorts in
    let ls = c.deref.result.now in
    let l = c.in-Close.line in
    let whole : certificate_in trees c.args.tree.now ≡ lines_before trees ls (Closed (line_in trees l)) =
    tree_closed trees c.args.tree.now l c.in-Close.is ∙ ap (λ (lines : List CertLine). lines_before trees lines (Closed (line_in trees l)))
    (sym c.deref.ensures.value) in
    subst (λ (t : Certificate). FaultTells (fault.Wrong c.in_ok-at.at) (bad_line (first_bad theories sorts facts m t))) (sym whole)
    (open_tells theories sorts trees facts m ls c.add_lines.new.path.list.items c.in_ok-at.at l (c.in_ok-at.ensures.ok facts m all fine e)
    (λ ks added stand. sym c.if-closes.false ∙ c.closes.ensures ks added stand))

pub check_at-returns-in-None-clause-err : goal.check_at-returns-in-None-clause-err
check_at-returns-in-None-clause-err g t c = λ facts m all fine e.
    let sorts = sorts_in c.args.table.now in
    let trees = trees_in c.args.table.now in
    let theories = first_of_three (g.E.Theory.adds c.args.three.now.euf.now) (g.L.Theory.adds c.args.three.now.lia.now)
    (g.R.Theory.adds c.args.three.now.rows.now) sorts in
    let sound = three_sound (g.E.Theory.adds c.args.three.now.euf.now) (g.L.Theory.adds c.args.three.now.lia.now)
    (g.R.Theory.adds c.args.three.now.rows.now)
    (g.met.E.Theory.holds c.args.three.now.euf.now) (g.met.L.Theory.holds c.args.three.now.lia.now)
    (g.met.R.Theory.holds c.args.three.now.rows.now)
    (g.met.E.Theory.sorted c.args.three.now.euf.now) (g.met.L.Theory.sorted c.args.three.now.lia.now)
    (g.met.R.Theory.sorted c.args.three.now.rows.now) sorts in
    let n = length trees in
    let ls = c.deref.result.now in
    let l = c.in-Split.line in
    let path = c.add_lines.new.path.list.items in
    let at = c.in_ok-at.at in
    let first = certificate_in trees c.in-Split.first.value in
    let second = certificate_in trees c.in-Split.second.value in
    let within = (split_within n c.args.tree.now l c.in-Split.first c.in-Split.second c.in-Split.is c.requires.within).0 in
    let whole : certificate_in trees c.args.tree.now ≡ lines_before trees ls (Split (line_in trees l) first second) =
    tree_split trees c.args.tree.now l c.in-Split.first c.in-Split.second c.in-Split.is
    ∙ ap (λ (lines : List CertLine). lines_before trees lines (Split (line_in trees l) first second)) (sym c.deref.ensures.value) in
    let r = c.in_ok-at.ensures.ok facts m all fine e in
    subst (λ (t : Certificate). FaultTells (fault.Wrong at) (bad_line (first_bad theories sorts facts m t))) (sym whole)
    (whole_tells theories sorts trees facts m ls path at l first second r
    (λ ks added stand. subst (λ (o : Option (Fact × Fact)). SplitsInto sorts trees o (ways_with sorts ks added (line_in trees l)))
    c.in-None.is (c.in_ok-f-in-Split.ensures ks added stand)))

pub check_at-returns-in_err-next-in-Some-clause-err : goal.check_at-returns-in_err-next-in-Some-clause-err
check_at-returns-in_err-next-in-Some-clause-err g t c = λ facts m all fine e.
    let sorts = sorts_in c.args.table.now in
    let trees = trees_in c.args.table.now in
    let theories = first_of_three (g.E.Theory.adds c.args.three.now.euf.now) (g.L.Theory.adds c.args.three.now.lia.now)
    (g.R.Theory.adds c.args.three.now.rows.now) sorts in
    let sound = three_sound (g.E.Theory.adds c.args.three.now.euf.now) (g.L.Theory.adds c.args.three.now.lia.now)
    (g.R.Theory.adds c.args.three.now.rows.now)
    (g.met.E.Theory.holds c.args.three.now.euf.now) (g.met.L.Theory.holds c.args.three.now.lia.now)
    (g.met.R.Theory.holds c.args.three.now.rows.now)
    (g.met.E.Theory.sorted c.args.three.now.euf.now) (g.met.L.Theory.sorted c.args.three.now.lia.now)
    (g.met.R.Theory.sorted c.args.three.now.rows.now) sorts in
    let n = length trees in
    let ls = c.deref.result.now in
    let l = c.in-Split.line in
    let path = c.add_lines.new.path.list.items in
    let at = c.in_ok-at.at in
    let first = certificate_in trees c.in-Split.first.value in
    let second = certificate_in trees c.in-Split.second.value in
    let within = (split_within n c.args.tree.now l c.in-Split.first c.in-Split.second c.in-Split.is c.requires.within).0 in
    let whole : certificate_in trees c.args.tree.now ≡ lines_before trees ls (Split (line_in trees l) first second) =
    tree_split trees c.args.tree.now l c.in-Split.first c.in-Split.second c.in-Split.is
    ∙ ap (λ (lines : List CertLine). lines_before trees lines (Split (line_in trees l) first second)) (sym c.deref.ensures.value) in
    let r = c.in_ok-at.ensures.ok facts m all fine e in
    let h = halves theories sorts trees facts m ls path at c.in-Some.f c.in-Some.g l first second sound
    (line_sorted sorts trees l c.requires.sorted within) r
    (λ ks added stand. subst (λ (o : Option (Fact × Fact)). SplitsInto sorts trees o (ways_with sorts ks added (line_in trees l)))
    c.in-Some.is (c.in_ok-f-in-Split.ensures ks added stand)) in
    let count : c.saturating_add-next.result ≡ line_number (suc (m + length ls)) =
    c.saturating_add-next.ensures ∙ counted_more at (m + length ls) r.count in
    let x = c.in_err-next-in-Some.field-0.0 in
    let told = subst (λ (tree : CertTree).
    FaultTells x (bad_line (first_bad theories sorts (h.later ++ h.way) (suc (m + length ls)) (certificate_in trees tree))))
    c.deref-in-Some.ensures
    (c.in_err-next-in-Some.ensures.err h.later h.way (suc (m + length ls)) h.stand h.first h.fine_first count) in
    err_is (λ (f : CertFault). FaultTells f (bad_line (first_bad theories sorts facts m (certificate_in trees c.args.tree.now))))
    c.from_residual-in_err-next-in-Some.result x
    c.from_residual-in_err-next-in-Some.ensures.1
    (subst (λ (t : Certificate). FaultTells x (bad_line (first_bad theories sorts facts m t))) (sym whole)
    (split_first theories sorts trees facts m ls path c.in-Some.f c.in-Some.g l first second x h told))

pub check_at-returns-in_ok-next-in-Some-clause-ok : goal.check_at-returns-in_ok-next-in-Some-clause-ok
check_at-returns-in_ok-next-in-Some-clause-ok g t c = λ facts m all fine e.
    let sorts = sorts_in c.args.table.now in
    let trees = trees_in c.args.table.now in
    let theories = first_of_three (g.E.Theory.adds c.args.three.now.euf.now) (g.L.Theory.adds c.args.three.now.lia.now)
    (g.R.Theory.adds c.args.three.now.rows.now) sorts in
    let sound = three_sound (g.E.Theory.adds c.args.three.now.euf.now) (g.L.Theory.adds c.args.three.now.lia.now)
    (g.R.Theory.adds c.args.three.now.rows.now)
    (g.met.E.Theory.holds c.args.three.now.euf.now) (g.met.L.Theory.holds c.args.three.now.lia.now)
    (g.met.R.Theory.holds c.args.three.now.rows.now)
    (g.met.E.Theory.sorted c.args.three.now.euf.now) (g.met.L.Theory.sorted c.args.three.now.lia.now)
    (g.met.R.Theory.sorted c.args.three.now.rows.now) sorts in
    let n = length trees in
    let ls = c.deref.result.now in
    let l = c.in-Split.line in
    let path = c.add_lines.new.path.list.items in
    let at = c.in_ok-at.at in
    let first = certificate_in trees c.in-Split.first.value in
    let second = certificate_in trees c.in-Split.second.value in
    let within = (split_within n c.args.tree.now l c.in-Split.first c.in-Split.second c.in-Split.is c.requires.within).0 in
    let whole : certificate_in trees c.args.tree.now ≡ lines_before trees ls (Split (line_in trees l) first second) =
    tree_split trees c.args.tree.now l c.in-Split.first c.in-Split.second c.in-Split.is
    ∙ ap (λ (lines : List CertLine). lines_before trees lines (Split (line_in trees l) first second)) (sym c.deref.ensures.value) in
    let r = c.in_ok-at.ensures.ok facts m all fine e in
    let h = halves theories sorts trees facts m ls path at c.in-Some.f c.in-Some.g l first second sound
    (line_sorted sorts trees l c.requires.sorted within) r
    (λ ks added stand. subst (λ (o : Option (Fact × Fact)). SplitsInto sorts trees o (ways_with sorts ks added (line_in trees l)))
    c.in-Some.is (c.in_ok-f-in-Split.ensures ks added stand)) in
    let count : c.saturating_add-next.result ≡ line_number (suc (m + length ls)) =
    c.saturating_add-next.ensures ∙ counted_more at (m + length ls) r.count in
    let next = c.in_ok-next-in-Some.next in
    let one = subst (λ (tree : CertTree). Passes theories sorts (h.later ++ h.way) (suc (m + length ls)) (certificate_in trees tree) next)
    c.deref-in-Some.ensures
    (c.in_ok-next-in-Some.ensures.ok h.later h.way (suc (m + length ls)) h.stand h.first h.fine_first count) in
    let stand = subst (λ (fs : List Fact). AllStand sorts trees fs h.later) (sym c.in_ok-next-in-Some.ensures.kept) h.stand in
    IfOk-weaker c.check_side-in-Some.result
    (Passes theories sorts (h.later ++ h.other) (suc (m + length ls) + lines_in first) (certificate_in trees c.deref-in-Some-2.result.now))
    (Passes theories sorts facts m (certificate_in trees c.args.tree.now))
    (λ last two. subst (λ (t : Certificate). Passes theories sorts facts m t last) (sym whole)
    (split_passes theories sorts trees facts m ls path c.in-Some.f c.in-Some.g l first second next last h one
    (subst (λ (tree : CertTree). Passes theories sorts (h.later ++ h.other) (suc (m + length ls) + lines_in first)
    (certificate_in trees tree) last) c.deref-in-Some-2.ensures two)))
    (c.check_side-in-Some.ensures.ok h.later h.other (suc (m + length ls) + lines_in first) stand h.second h.fine_second one.1)

pub check_at-returns-in_ok-next-in-Some-clause-err : goal.check_at-returns-in_ok-next-in-Some-clause-err
check_at-returns-in_ok-next-in-Some-clause-err g t c = λ facts m all fine e.
    let sorts = sorts_in c.args.table.now in
    let trees = trees_in c.args.table.now in
    let theories = first_of_three (g.E.Theory.adds c.args.three.now.euf.now) (g.L.Theory.adds c.args.three.now.lia.now)
    (g.R.Theory.adds c.args.three.now.rows.now) sorts in
    let sound = three_sound (g.E.Theory.adds c.args.three.now.euf.now) (g.L.Theory.adds c.args.three.now.lia.now)
    (g.R.Theory.adds c.args.three.now.rows.now)
    (g.met.E.Theory.holds c.args.three.now.euf.now) (g.met.L.Theory.holds c.args.three.now.lia.now)
    (g.met.R.Theory.holds c.args.three.now.rows.now)
    (g.met.E.Theory.sorted c.args.three.now.euf.now) (g.met.L.Theory.sorted c.args.three.now.lia.now)
    (g.met.R.Theory.sorted c.args.three.now.rows.now) sorts in
    let n = length trees in
    let ls = c.deref.result.now in
    let l = c.in-Split.line in
    let path = c.add_lines.new.path.list.items in
    let at = c.in_ok-at.at in
    let first = certificate_in trees c.in-Split.first.value in
    let second = certificate_in trees c.in-Split.second.value in
    let within = (split_within n c.args.tree.now l c.in-Split.first c.in-Split.second c.in-Split.is c.requires.within).0 in
    let whole : certificate_in trees c.args.tree.now ≡ lines_before trees ls (Split (line_in trees l) first second) =
    tree_split trees c.args.tree.now l c.in-Split.first c.in-Split.second c.in-Split.is
    ∙ ap (λ (lines : List CertLine). lines_before trees lines (Split (line_in trees l) first second)) (sym c.deref.ensures.value) in
    let r = c.in_ok-at.ensures.ok facts m all fine e in
    let h = halves theories sorts trees facts m ls path at c.in-Some.f c.in-Some.g l first second sound
    (line_sorted sorts trees l c.requires.sorted within) r
    (λ ks added stand. subst (λ (o : Option (Fact × Fact)). SplitsInto sorts trees o (ways_with sorts ks added (line_in trees l)))
    c.in-Some.is (c.in_ok-f-in-Split.ensures ks added stand)) in
    let count : c.saturating_add-next.result ≡ line_number (suc (m + length ls)) =
    c.saturating_add-next.ensures ∙ counted_more at (m + length ls) r.count in
    let next = c.in_ok-next-in-Some.next in
    let one = subst (λ (tree : CertTree). Passes theories sorts (h.later ++ h.way) (suc (m + length ls)) (certificate_in trees tree) next)
    c.deref-in-Some.ensures
    (c.in_ok-next-in-Some.ensures.ok h.later h.way (suc (m + length ls)) h.stand h.first h.fine_first count) in
    let stand = subst (λ (fs : List Fact). AllStand sorts trees fs h.later) (sym c.in_ok-next-in-Some.ensures.kept) h.stand in
    IfErr-weaker c.check_side-in-Some.result
    (λ (x : CertFault). FaultTells x
    (bad_line (first_bad theories sorts (h.later ++ h.other) (suc (m + length ls) + lines_in first)
    (certificate_in trees c.deref-in-Some-2.result.now))))
    (λ (x : CertFault). FaultTells x (bad_line (first_bad theories sorts facts m (certificate_in trees c.args.tree.now))))
    (λ x two. subst (λ (t : Certificate). FaultTells x (bad_line (first_bad theories sorts facts m t))) (sym whole)
    (split_second theories sorts trees facts m ls path c.in-Some.f c.in-Some.g l first second x next h one
    (subst (λ (tree : CertTree).
    FaultTells x (bad_line (first_bad theories sorts (h.later ++ h.other) (suc (m + length ls) + lines_in first)
    (certificate_in trees tree)))) c.deref-in-Some-2.ensures two)))
    (c.check_side-in-Some.ensures.err h.later h.other (suc (m + length ls) + lines_in first) stand h.second h.fine_second one.1)

pub check_side-returns-in_err-next-clause-err : goal.check_side-returns-in_err-next-clause-err
check_side-returns-in_err-next-clause-err g t c = λ facts way m all one fine e.
    let sorts = sorts_in c.args.table.now in
    let trees = trees_in c.args.table.now in
    let theories = first_of_three (g.E.Theory.adds c.args.three.now.euf.now) (g.L.Theory.adds c.args.three.now.lia.now)
    (g.R.Theory.adds c.args.three.now.rows.now) sorts in
    let path = c.args.path.now.list.items in
    let stand = subst (λ (fs : List Fact). AllStand sorts trees fs (facts ++ way)) (sym c.in_ok-push.ensures.items)
    (stand_append sorts trees path (c.args.fact ∷ []) facts way all one) in
    err_is (λ (x : CertFault). FaultTells x (bad_line (first_bad theories sorts (facts ++ way) m (certificate_in trees c.args.tree.now))))
    c.from_residual-in_err-next.result c.in_err-next.field-0.0
    c.from_residual-in_err-next.ensures.1 (c.in_err-next.ensures.err (facts ++ way) m stand fine e)

pub check_side-returns-clause-ok : goal.check_side-returns-clause-ok
check_side-returns-clause-ok g t c = λ facts way m all one fine e.
    let sorts = sorts_in c.args.table.now in
    let trees = trees_in c.args.table.now in
    let theories = first_of_three (g.E.Theory.adds c.args.three.now.euf.now) (g.L.Theory.adds c.args.three.now.lia.now)
    (g.R.Theory.adds c.args.three.now.rows.now) sorts in
    let path = c.args.path.now.list.items in
    let stand = subst (λ (fs : List Fact). AllStand sorts trees fs (facts ++ way)) (sym c.in_ok-push.ensures.items)
    (stand_append sorts trees path (c.args.fact ∷ []) facts way all one) in
    c.in_ok-next.ensures.ok (facts ++ way) m stand fine e

pub check_at-check_side-requires : goal.check_at-check_side-requires
check_at-check_side-requires g t c κs within =
    let side : AreLinesWithin (length (trees_in c.args.table.now)) (lines_of c.deref-in-Some.result.now) =
    first_within (length (trees_in c.args.table.now)) c.args.tree.now c.in-Split.line c.in-Split.first c.in-Split.second
    c.deref-in-Some.result.now c.in-Split.is c.deref-in-Some.ensures c.requires.within in
    let fewer : length (lines_of c.deref-in-Some.result.now) < length (lines_of c.args.tree.now) =
    first_fewer c.args.tree.now c.in-Split.line c.in-Split.first c.in-Split.second c.deref-in-Some.result.now c.in-Split.is
    c.deref-in-Some.ensures in
    let whole : 2 * length (lines_of c.args.tree.now) ≡ t = c.decreases in
    let less : 2 * length (lines_of c.deref-in-Some.result.now) + 1 < t = omega arith in
    (less, search (rules, side))

pub check_at-check_side-requires-in-Some : goal.check_at-check_side-requires-in-Some
check_at-check_side-requires-in-Some g t c κs within =
    let side : AreLinesWithin (length (trees_in c.args.table.now)) (lines_of c.deref-in-Some-2.result.now) =
    second_within (length (trees_in c.args.table.now)) c.args.tree.now c.in-Split.line c.in-Split.first c.in-Split.second
    c.deref-in-Some-2.result.now c.in-Split.is c.deref-in-Some-2.ensures c.requires.within in
    let fewer : length (lines_of c.deref-in-Some-2.result.now) < length (lines_of c.args.tree.now) =
    second_fewer c.args.tree.now c.in-Split.line c.in-Split.first c.in-Split.second c.deref-in-Some-2.result.now c.in-Split.is
    c.deref-in-Some-2.ensures in
    let whole : 2 * length (lines_of c.args.tree.now) ≡ t = c.decreases in
    let less : 2 * length (lines_of c.deref-in-Some-2.result.now) + 1 < t = omega arith in
    (less, search (rules, side))
