-- The first term keeps its number while the second gets one.
use Rattle.sm_write.proofs.Imports.{ℕ, ◌<◌, Option, length, sym, subst, IfSome, trees_in, tree_at, TermId, first_term, IsBuilt, Seen, value_of, IsNamed}
use Rattle.sm_write.proofs.LineTermsLemmas.{first_named, second_named, first_each, second_each, line_named, some_kept}
use Rattle.sm_write.proofs.WalkedLemmas.{extends_twice, set_later}
use Rattle.sm_write.proofs.lines.name_line.Goals as goal

pub name_some-requires : goal.name_some-requires
name_some-requires c =
    let count = length (trees_in c.args.table.now) in
    subst (λ (o : Option TermId). IfSome o (λ (t : TermId). t.0 < count)) (sym c.first_term.ensures)
    (first_named (λ (n : ℕ). n < count) c.args.line.now c.requires)

pub name_some-requires-2 : goal.name_some-requires-2
name_some-requires-2 c =
    let count = length (trees_in c.args.table.now) in
    subst (λ (o : Option TermId). IfSome o (λ (t : TermId). t.0 < count)) (sym c.second_term.ensures)
    (second_named (λ (n : ℕ). n < count) c.args.line.now c.requires)

pub returns : goal.returns
returns c s seen p set each =
    let v = c.args.table.now in
    let trees = trees_in v in
    let line = c.args.line.now in
    let old = value_of c.args.w.now in
    let mid = value_of c.name_some.new.w in
    let new = value_of c.name_some-2.new.w in
    let one = c.in_ok-name_some.ensures.extends s seen p set
    (subst (λ (o : Option TermId). IfSome o (λ (t : TermId). IsBuilt (Seen seen) (tree_at trees t.0))) (sym c.first_term.ensures)
    (first_each (IsBuilt (Seen seen)) trees line each)) in
    let two = c.in_ok-name_some-2.ensures.extends s seen one.after (set_later s v old mid seen p set one)
    (subst (λ (o : Option TermId). IfSome o (λ (t : TermId). IsBuilt (Seen seen) (tree_at trees t.0))) (sym c.second_term.ensures)
    (second_each (IsBuilt (Seen seen)) trees line each)) in
    let first = subst (λ (o : Option TermId). IfSome o (IsNamed mid.names)) c.first_term.ensures c.in_ok-name_some.ensures.named in
    let second = subst (λ (o : Option TermId). IfSome o (IsNamed new.names)) c.second_term.ensures c.in_ok-name_some-2.ensures.named in (
      extends_twice s trees old mid new p one two,
      line_named new.names line (some_kept mid.names new.names two.kept (first_term line) first) second,
    )
