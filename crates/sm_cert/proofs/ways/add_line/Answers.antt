use Rattle.sm_cert.proofs.Imports.{◌≡◌, ◌∷◌, [], List, IfOk, true, false, take, length, sym, subst, trees_in, sorts_in, line_in, StandsIf, CertLine, Fact, equation_at, contrary_at, Ways, ways_with, adding, first_of_three, GoesOn}
use Rattle.std.proofs.Common.{Option}
use Rattle.sm_cert.proofs.WaysLemmas.{adding_goes_on, clash_stops, theory_adds, take_first}
use Rattle.sm_cert.proofs.ways.add_line.Goals as goal

pub returns-in-Both-clause-ways : goal.returns-in-Both-clause-ways
returns-in-Both-clause-ways g c = λ facts all fine.
    let sorts = sorts_in c.args.table.now in
    let trees = trees_in c.args.table.now in
    let theories = first_of_three (g.E.Theory.adds c.args.euf.now) (g.L.Theory.adds c.args.lia.now) (g.R.Theory.adds c.args.rows.now)
    sorts in
    subst (λ (line : CertLine). IfOk c.add_both.result
    (λ good. GoesOn sorts trees good c.add_both.new.path.list.items facts
    (ways_with sorts facts (theories facts (line_in trees c.args.line.now)) (line_in trees line))))
    (sym c.in-Both.is) (c.add_both.ensures.ways sorts trees facts (theories facts (line_in trees c.args.line.now)) all)

pub returns-in-Clash-clause-ways : goal.returns-in-Clash-clause-ways
returns-in-Clash-clause-ways g c = λ facts all fine.
    let sorts = sorts_in c.args.table.now in
    let trees = trees_in c.args.table.now in
    let theories = first_of_three (g.E.Theory.adds c.args.euf.now) (g.L.Theory.adds c.args.lia.now) (g.R.Theory.adds c.args.rows.now)
    sorts in
    subst (λ (line : CertLine). GoesOn sorts trees false c.args.path.now.list.items facts
    (ways_with sorts facts (theories facts (line_in trees c.args.line.now)) (line_in trees line)))
    (sym c.in-Clash.is) (clash_stops sorts trees c.args.path.now.list.items facts (equation_at facts c.in-Clash.field-0)
    (contrary_at facts c.in-Clash.field-1))

pub returns-in_ok-push-in-Some : goal.returns-in_ok-push-in-Some
returns-in_ok-push-in-Some g c =
    let sorts = sorts_in c.args.table.now in
    let trees = trees_in c.args.table.now in
    let theories = first_of_three (g.E.Theory.adds c.args.euf.now) (g.L.Theory.adds c.args.lia.now) (g.R.Theory.adds c.args.rows.now)
    sorts in
    let path = c.args.path.now.list.items in
    let items = c.in_ok-push-in-Some.ensures.items in
    let others = c.in_default in
    record {
      ways = λ facts all fine.
          let added = theories facts (line_in trees c.args.line.now) in
          let stands = subst (λ (o : Option Fact). StandsIf sorts trees o added) c.in-Some.is
          (c.in_ok-fact-in_default.ensures facts all fine) in
          subst (λ (w : Ways). GoesOn sorts trees true c.push.new.self.items facts w)
          (sym (theory_adds sorts trees facts added c.args.line.now others.not-Both others.not-Either others.not-Cases others.not-Order
          others.not-Close others.not-Clash))
          (subst (λ (fs : List Fact). GoesOn sorts trees true fs facts (adding added)) (sym items)
          (adding_goes_on sorts trees path c.in-Some.fact facts added all stands));
      kept = subst (λ (fs : List Fact). take (length path) fs ≡ path) (sym items) (take_first path (c.in-Some.fact ∷ []));
    }
