use Rattle.sm_deps.proofs.Imports.{◌≡◌, true, ℕ, Bool, map, drop, length, refl, sym, ap, subst, ◌∙◌, arith, OnFalse_at, each_same, End, expression_of, condition_of, sequence, statement_of, code_of, Stmt, statement_of-Assign, statement_of-Store, Loops, needed, loops_in, GoesOver, KeepsSet, mentions, tests, members, either}
use Rattle.sm_deps.proofs.LoopsExact.{over_append, over_plain, over_choice, over_loop, one_turn, last_turn}
use Rattle.sm_deps.proofs.MembersLemmas.{on_ok}
use Rattle.sm_deps.proofs.NeededLemmas.{without, needed-Assign, needed-Assign-other, needed-Store, needed-Store-other, sequence-before, members-remove, members-same, members-contains, turn_grows}
use Rattle.sm_deps.proofs.backward.+before.Goals as goal

-- one statement more is gone over
pub before_block-loop-i-preserved : goal.before_block-loop-i-preserved
before_block-loop-i-preserved t c =
    let l = c.args.b.now.list.items in
    let wanted = members c.args.names.now in
    let s = c.index.result.now in
    let found = members c.before_stmt.new.names in
    record {
      within = omega (arith, c.loop-i.invariant.within);
      over =
          subst (λ code. GoesOver code wanted found c.args.loops.now c.before_stmt.new.loops)
          (sequence-before l c.loop-i.i s c.loop-i-test.true c.loop-i.invariant.within c.index.ensures)
          (over_append (statement_of s End) (sequence (map statement_of (drop c.loop-i.i l)) End) wanted
          (members c.loop-i.names) found c.args.loops.now c.loop-i.loops c.before_stmt.new.loops
          c.loop-i.invariant.over c.in_ok-before_stmt.ensures);
    }

-- the assigned name is wanted
pub before_stmt-returns-in_ok-add_expr-in-Assign : goal.before_stmt-returns-in_ok-add_expr-in-Assign
before_stmt-returns-in_ok-add_expr-in-Assign t c =
    let wanted = members c.args.names.now in
    let x = c.in-Assign.x in
    let e = c.in-Assign.e in
    let names = mentions (expression_of e) in
    let here : wanted x.0 ≡ true = sym (members-contains c.args.names.now x.0) ∙ sym c.remove.ensures.test ∙ c.if-remove.true in
    let removed : members c.remove.new.self ≡ without wanted x.0 =
    members-remove c.args.names.now c.remove.new.self x.0 c.remove.ensures.updates in
    let added : members c.add_expr.new.names ≡ either (without wanted x.0) names =
    c.in_ok-add_expr-in-Assign.ensures ∙ ap (λ (s : ℕ → Bool). either s names) removed in
    let is : needed (statement_of c.args.s.now End) wanted ≡ either (without wanted x.0) names =
    ap (λ (s : Stmt). needed (statement_of s End) wanted) c.in-Assign.is ∙ needed-Assign x e wanted here in
    let plain : loops_in (statement_of c.args.s.now End) ≡ 0 =
    ap (λ (s : Stmt). loops_in (statement_of s End)) c.in-Assign.is ∙ ap loops_in (statement_of-Assign x e End) in
    over_plain (statement_of c.args.s.now End) wanted (members c.add_expr.new.names) c.args.loops.now c.requires plain (added ∙ sym is)

-- the assigned name isn't wanted
pub before_stmt-returns-else-remove : goal.before_stmt-returns-else-remove
before_stmt-returns-else-remove t c =
    let wanted = members c.args.names.now in
    let x = c.in-Assign.x in
    let e = c.in-Assign.e in
    let plain : loops_in (statement_of c.args.s.now End) ≡ 0 =
    ap (λ (s : Stmt). loops_in (statement_of s End)) c.in-Assign.is ∙ ap loops_in (statement_of-Assign x e End) in
    over_plain (statement_of c.args.s.now End) wanted (members c.remove.new.self) c.args.loops.now c.requires plain
    (members-same c.args.names.now c.remove.new.self (OnFalse_at c.if-remove.false c.remove.ensures.unchanged) ∙
    sym (ap (λ (s : Stmt). needed (statement_of s End) wanted) c.in-Assign.is ∙ needed-Assign-other x e wanted
    (sym (members-contains c.args.names.now x.0) ∙ sym c.remove.ensures.test ∙ c.if-remove.false)))

-- the written array is wanted
pub before_stmt-returns-in_ok-add_expr-in-Store-2 : goal.before_stmt-returns-in_ok-add_expr-in-Store-2
before_stmt-returns-in_ok-add_expr-in-Store-2 t c =
    let wanted = members c.args.names.now in
    let a = c.in-Store.a in
    let i = c.in-Store.i in
    let e = c.in-Store.e in
    let places = mentions (expression_of i) in
    let values = mentions (expression_of e) in
    let start = members c.add_expr-then-contains.new.names in
    let here : wanted a.0 ≡ true = sym (members-contains c.args.names.now a.0) ∙ sym c.contains.ensures ∙ c.if-contains.true in
    let first : start ≡ either wanted places = c.in_ok-add_expr-in-Store.ensures in
    let second : members c.add_expr-then-contains-2.new.names ≡ either start values = c.in_ok-add_expr-in-Store-2.ensures in
    let is : needed (statement_of c.args.s.now End) wanted ≡ either (either wanted places) values =
    ap (λ (s : Stmt). needed (statement_of s End) wanted) c.in-Store.is ∙ needed-Store a i e wanted here in
    let plain : loops_in (statement_of c.args.s.now End) ≡ 0 =
    ap (λ (s : Stmt). loops_in (statement_of s End)) c.in-Store.is ∙ ap loops_in (statement_of-Store a i e End) in
    over_plain (statement_of c.args.s.now End) wanted (members c.add_expr-then-contains-2.new.names) c.args.loops.now c.requires plain
    (second ∙ ap (λ (s : ℕ → Bool). either s values) first ∙ sym is)

-- the written array isn't wanted
pub before_stmt-returns-else-contains : goal.before_stmt-returns-else-contains
before_stmt-returns-else-contains t c =
    let wanted = members c.args.names.now in
    let a = c.in-Store.a in
    let i = c.in-Store.i in
    let e = c.in-Store.e in
    let plain : loops_in (statement_of c.args.s.now End) ≡ 0 =
    ap (λ (s : Stmt). loops_in (statement_of s End)) c.in-Store.is ∙ ap loops_in (statement_of-Store a i e End) in
    over_plain (statement_of c.args.s.now End) wanted wanted c.args.loops.now c.requires plain
    (sym (ap (λ (s : Stmt). needed (statement_of s End) wanted) c.in-Store.is ∙ needed-Store-other a i e wanted
    (sym (members-contains c.args.names.now a.0) ∙ sym c.contains.ensures ∙ c.if-contains.false)))

-- what both branches need, and the names of the condition
pub before_choice-returns : goal.before_choice-returns
before_choice-returns t c =
    let wanted = members c.args.names.now in
    let b = condition_of c.args.b.now in
    let first = members c.before_block.new.names in
    let second = members c.before_block-2.new.names in
    let one = c.args.loops.now in
    let two = c.before_block.new.loops in
    let three = c.before_block-2.new.loops in
    let same : members c.in_ok-others.others ≡ wanted =
    members-same c.args.names.now c.in_ok-others.others
    (each_same c.args.names.now.keys c.in_ok-others.others.keys c.in_ok-others.ensures.cases) in
    let of_d : GoesOver (code_of c.args.d.now) wanted second two three =
    subst (λ (s : ℕ → Bool). GoesOver (code_of c.args.d.now) s second two three) same c.in_ok-before_block-2.ensures in
    on_ok c.add_cond.result c.add_cond.ensures
    (λ more.
    over_choice b (code_of c.args.c.now) (code_of c.args.d.now) wanted first second
    (members c.add_cond.new.names) one two three c.in_ok-before_block.ensures of_d
    (more ∙ ap (λ (s : ℕ → Bool). either s (tests b)) c.in_ok-add_all.ensures))

-- the rounds of a loop, from its kept set on
pub before_loop-returns : goal.before_loop-returns
before_loop-returns t c =
    let wanted = members c.args.names.now in
    let settled = members c.before_turns.new.names in
    let one = c.args.loops.now in
    let three = c.before_turns.new.loops in
    let four = c.keep.new.loops in
    on_ok c.keep.result c.keep.ensures
    (λ kept.
    over_loop (condition_of c.args.b.now) (code_of c.args.c.now) wanted (members c.add_cond.new.names)
    (members c.resume.new.names) settled one c.resume.new.loops three four
    c.in_ok-add_cond.ensures c.in_ok-number.ensures.set c.in_ok-before_turns.ensures
    (subst (λ (n : ℕ). KeepsSet n settled three four) c.in_ok-number.ensures.number kept))

-- a turn that adds nothing is the last
pub before_turns-returns-then-len-size : goal.before_turns-returns-then-len-size
before_turns-returns-then-len-size t c =
    let body = code_of c.args.c.now in
    let start = members c.args.names.now in
    let old = c.loop-more.names in
    let new = c.add_all.new.names in
    let more = members c.before_block.new.names in
    let between = c.loop-more.loops in
    let again : Loops = record { sets = between.sets; next = c.args.loops.now.next } in
    let copied = members-same old c.in_ok-more.more (each_same old.keys c.in_ok-more.more.keys c.in_ok-more.ensures.cases) in
    let over : GoesOver body (members old) more again c.before_block.new.loops =
    subst (λ (s : ℕ → Bool). GoesOver body s more again c.before_block.new.loops) copied c.in_ok-before_block.ensures in
    let same : length new.keys ≡ length old.keys = omega (arith, c.len.ensures.len, c.len-size.ensures.len, c.if-len-size.true) in
    last_turn body start old new more c.args.loops.now between again c.before_block.new.loops c.len-size.ensures.ordered same
    c.loop-more.invariant refl refl over c.in_ok-add_all.ensures

-- another one makes the set greater
pub before_turns-loop-more-smaller : goal.before_turns-loop-more-smaller
before_turns-loop-more-smaller t c =
    let old = c.loop-more.names in
    let new = c.add_all.new.names in
    let grows = turn_grows old new (members c.before_block.new.names) c.len-size.ensures.ordered c.in_ok-add_all.ensures in
    omega (arith, grows, c.len.ensures.len, c.len.ensures.small, c.len-size.ensures.len, c.len-size.ensures.small, c.if-len-size.false)

-- it is one turn more
pub before_turns-loop-more-preserved : goal.before_turns-loop-more-preserved
before_turns-loop-more-preserved t c =
    let body = code_of c.args.c.now in
    let old = c.loop-more.names in
    let more = members c.before_block.new.names in
    let between = c.loop-more.loops in
    let again : Loops = record { sets = between.sets; next = c.args.loops.now.next } in
    let copied = members-same old c.in_ok-more.more (each_same old.keys c.in_ok-more.more.keys c.in_ok-more.ensures.cases) in
    let over : GoesOver body (members old) more again c.before_block.new.loops =
    subst (λ (s : ℕ → Bool). GoesOver body s more again c.before_block.new.loops) copied c.in_ok-before_block.ensures in
    one_turn body (members c.args.names.now) (members old) more
    (members c.add_all.new.names) c.args.loops.now between again c.before_block.new.loops c.loop-more.invariant refl refl over
    c.in_ok-add_all.ensures
