-- Certificates of what a product asks have no line with many facts.
use Rattle.sm_houdini.proofs.Imports.{◌≡◌, ◌≤◌, ℕ, ℤ, zero, suc, ◌+◌, nat_lt, Bool, true, false, ◌&&◌, if◌then◌else◌, List, [], ◌∷◌, ◌++◌, length, refl, ap, subst, arith, and_parts, and_from, nat_tests, same_Some, Copy, O, A, B, M, fill, Code, Refusal, over, first_of_all, double_hole, hole_in_filling, unknown_hole, missing_filling, ill_assumed, double_name, first_output_fault, first_sort_fault, size_fault, code_nodes, code_depth, Parts, sort_of, task_of, Sorts, Sort, Num, Arr, Eq, arguments_of, same_head, IsDeclaredIn, tree_sort, Tree, BranchFact, EachNamed, facts_named, Certificate, Next, Closed, Split, lines_in, splits_above, first_bad, TooManySplits, bad_line, refused, EachTerm, State, start_state, Each, each_take, plan_of, EachInStates, IsClosed, Nameable, NoTerm, plan_states, IsBuilt, IsAtom, Goal, all_goals, states_until, AreShown, IsShort, AreShort, built_more, sides_more, term_more, NamesShort, AllNameShort, CertifiedAreShort, ValidIsSearchable, parts_none}
use Rattle.std.proofs.Common.{Option, Some, None, slice_get}
use Rattle.sm_syntax.specs.text.Conditions.{TooMany, ill_formed, first_refusal}
use Rattle.sm_syntax.specs.text.Conditions.{program_fault}
use Rattle.sm_syntax.specs.text.Uses.{names_used}
use Rattle.sm_theory.specs.Equality.{or_other, formula_if, say_equal, is_inhabited_list}
use Rattle.sm_theory.specs.Lines as cert
use Rattle.sm_theory.specs.Lines.{CertificateLine}
use Rattle.sm_theory.specs.Ways.{ways_with, adding, adds}
use Rattle.sm_product.proofs.HolesLemmas.{valid_no_hole}
use Rattle.sm_houdini.proofs.LeanStates.{IsLeanState, states_lean}
use Rattle.sm_houdini.proofs.LeanTerms.{is_lean, Lean, built_lean, arguments_lean, arguments_few}
use Rattle.sm_houdini.proofs.SimpleWritable.{shown_goals}
use Rattle.sm_houdini.proofs.SortedSites.{product_simple}
use Rattle.sm_syntax.proofs.Refusals.{neither_refuses}
use Rattle.sm_cert.proofs.WaysTaken.{two_ways, one_way, no_way}

-- what can be named after such states is so too
module _ (sorts : Sorts) (most : ℕ) where
  states_pass : (states : List State) → Each (IsLeanState most) states → EachInStates sorts (Lean most) states
  states_pass [] all = tt
  states_pass (st ∷ states) all = (
    record {
      stores = λ (c : Copy) (x : ℕ) (here : IsDeclaredIn sorts x). built_lean most (st.stores c x) (all.0.stores c x);
      facts = sides_more (IsBuilt (Lean most)) (Lean most) (built_lean most) st.facts all.0.facts;
      target =
          sides_more (IsBuilt NoTerm) (Lean most)
          (λ (t : Tree) (b : IsBuilt NoTerm t).
          built_lean most t (built_more NoTerm (Lean most) (λ (u : Tree) (a : IsAtom u) (n : NoTerm u). absurd n) t b)) st.target
          all.0.target;
    },
    states_pass states all.1,
  )

  lean_closed : (states : List State) → Each (IsLeanState most) states → IsClosed sorts states (is_lean most)
  lean_closed states all = record {
    literals = λ (z : ℤ). refl;
    starts = λ (x : ℕ) (here : IsDeclaredIn sorts x). refl;
    slots = λ (c : Copy) (x : ℕ) (here : IsDeclaredIn sorts x). refl;
    cell = refl;
    known = states_pass states all;
    arguments = arguments_lean most;
    reads = λ (a i : Tree) (p : Lean most a) (s : tree_sort sorts a ≡ Arr) (q : Lean most i) (r : tree_sort sorts i ≡ Num).
        and_from (is_lean most a) (is_lean most i) p q;
    writes = λ (a i e : Tree) (p : Lean most a) (s : tree_sort sorts a ≡ Arr) (q : Lean most i) (r : tree_sort sorts i ≡ Num)
        (o : Lean most e) (v : tree_sort sorts e ≡ Num). and_from (is_lean most a) (is_lean most i && is_lean most e) p
        (and_from (is_lean most i) (is_lean most e) q o);
    contraries = λ (t : Tree) (p : Lean most t) (s : tree_sort sorts t ≡ Num). p;
    sums = λ (t u : Tree) (p : Lean most t) (s : tree_sort sorts t ≡ Num) (q : Lean most u) (r : tree_sort sorts u ≡ Num).
        and_from (is_lean most t) (is_lean most u) p q;
    differences = λ (t u : Tree) (p : Lean most t) (s : tree_sort sorts t ≡ Num) (q : Lean most u) (r : tree_sort sorts u ≡ Num).
        and_from (is_lean most t) (is_lean most u) p q;
    products = λ (t u : Tree) (p : Lean most t) (s : tree_sort sorts t ≡ Num) (q : Lean most u) (r : tree_sort sorts u ≡ Num).
        and_from (is_lean most t) (is_lean most u) p q;
  }

-- as many facts as arguments
as_many : (facts : List BranchFact) (ns : List ℕ) (ts us : List Tree) → say_equal facts ns ts us ≡ true → length ns ≡ length ts
as_many facts [] [] us e = refl
as_many facts [] (t ∷ ts) us e = absurd cc
as_many facts (n ∷ ns) [] us e = absurd cc
as_many facts (n ∷ ns) (t ∷ ts) [] e = absurd cc
as_many facts (n ∷ ns) (t ∷ ts) (u ∷ us) e =
    ap suc (as_many facts ns ts us (and_parts _ (say_equal facts ns ts us) e).1)

module _ (sorts : Sorts) (most : ℕ) (small : most ≤ 200) where
  -- a line that is no bad one
  line_few : (facts : List BranchFact) (line : CertificateLine) (ways : List (List BranchFact)) →
      ways_with sorts facts (adds sorts facts line) line ≡ Some ways → EachNamed (Lean most) line → length (facts_named line) ≤ 200
  line_few facts (cert.Both n) ways e lean = omega arith
  line_few facts (cert.Either n) ways e lean = omega arith
  line_few facts (cert.Cases t u) ways e lean = omega arith
  line_few facts (cert.Order n) ways e lean = omega arith
  line_few facts (cert.Refl t) ways e lean = omega arith
  line_few facts (cert.Sym n) ways e lean = omega arith
  line_few facts (cert.Trans m n) ways e lean = omega arith
  line_few facts (cert.Subst m n) ways e lean = omega arith
  line_few facts (cert.Cong t u ns) ways e lean =
      let few = arguments_few most 200 small (omega arith) t lean.0 in
      by (is_inhabited_list ns && (same_head t u && say_equal facts ns (arguments_of t) (arguments_of u))) refl e few
    where
      by : (b : Bool) → (is_inhabited_list ns && (same_head t u && say_equal facts ns (arguments_of t) (arguments_of u))) ≡ b →
          adding (or_other (formula_if b (Eq (tree_sort sorts t) t u)) None) ≡ Some ways → length (arguments_of t) ≤ 200 → length ns ≤ 200
      by true h f few =
          let inner = (and_parts (is_inhabited_list ns) (same_head t u && say_equal facts ns (arguments_of t) (arguments_of u)) h).1 in
          let same = as_many facts ns (arguments_of t) (arguments_of u)
          (and_parts (same_head t u) (say_equal facts ns (arguments_of t) (arguments_of u)) inner).1 in
          omega (arith, same, few)
      by false h f few = absurd cc
  line_few facts (cert.Same t u) ways e lean = omega arith
  line_few facts (cert.Apart t u) ways e lean = omega arith
  line_few facts (cert.Hit t n) ways e lean = omega arith
  line_few facts (cert.Miss t u n) ways e lean = omega arith
  line_few facts (cert.Lin n) ways e lean = omega arith
  line_few facts (cert.Elim m n t) ways e lean = omega arith
  line_few facts (cert.Tight n) ways e lean = omega arith
  line_few facts (cert.Exact n) ways e lean = omega arith
  line_few facts (cert.Close n) ways e lean = omega arith
  line_few facts (cert.Clash m n) ways e lean = omega arith

  -- all lines of a certificate with no bad line
  lines_short : (c : Certificate) (facts : List BranchFact) (n : ℕ) → first_bad (adds sorts) sorts facts n c ≡ None →
      EachTerm (Lean most) c → NamesShort c → IsShort c
  lines_short (Next line c) facts n e lean short =
      let back = one_way (ways_with sorts facts (adds sorts facts line) line) n
      (λ (way : List BranchFact). first_bad (adds sorts) sorts (facts ++ way) (suc n) c) e in (
        (line_few facts line (back.0 ∷ []) back.1 lean.0, short.0),
        lines_short c (facts ++ back.0) (suc n) back.2 lean.1 short.1,
      )
  lines_short (Closed line) facts n e lean short =
      (line_few facts line [] (no_way (ways_with sorts facts (adds sorts facts line) line) n e) lean, short)
  lines_short (Split line c d) facts n e lean short =
      let back = two_ways (ways_with sorts facts (adds sorts facts line) line) n
      (λ (way other : List BranchFact). or_other (first_bad (adds sorts) sorts (facts ++ way) (suc n) c)
      (first_bad (adds sorts) sorts (facts ++ other) (suc n + lines_in c) d)) e in
      let both = parts_none (first_bad (adds sorts) sorts (facts ++ back.0) (suc n) c)
      (first_bad (adds sorts) sorts (facts ++ back.1) (suc n + lines_in c) d) back.3 in (
        (line_few facts line (back.0 ∷ back.1 ∷ []) back.2 lean.0, short.0),
        lines_short c (facts ++ back.0) (suc n) both.0 lean.1 short.1,
        lines_short d (facts ++ back.1) (suc n + lines_in c) both.1 lean.2 short.2,
      )

  no_bad : (facts : List BranchFact) (c : Certificate) → refused (adds sorts) sorts facts c ≡ None →
      first_bad (adds sorts) sorts facts 0 c ≡ None
  no_bad facts c e = by (nat_lt 1000 (splits_above c)) (first_bad (adds sorts) sorts facts 0 c) e
    where
      by : (b : Bool) (o : Option ℕ) → (if b then Some TooManySplits else bad_line o) ≡ None → o ≡ None
      by true o f = absurd cc
      by false None f = refl
      by false (Some n) f = absurd cc

  goals_short : (all : List State) → Each (IsLeanState most) all → (goals : List Goal) (cs : List Certificate) →
      AreShown sorts all goals cs → AllNameShort cs → AreShort cs
  goals_short all lean [] [] shown short = tt
  goals_short all lean [] (c ∷ cs) shown short = absurd shown
  goals_short all lean (g ∷ goals) [] shown short = absurd shown
  goals_short all lean (g ∷ goals) (c ∷ cs) shown short =
      let states = states_until all g.node in
      let closed = lean_closed sorts most states (each_take (IsLeanState most) (suc g.node) all lean) in (
        lines_short c g.branch 0 (no_bad g.branch c shown.0)
            (term_more (Nameable sorts states) (Lean most) (λ (t : Tree) (n : Nameable sorts states t). n (is_lean most) closed) c shown.1)
            short.0,
        goals_short all lean goals cs shown.2 short.1,
      )

not_over : (limit n : ℕ) (r : Refusal) → over limit n r ≡ None → n ≤ limit
not_over limit n r e = by (nat_lt limit n) refl e
  where
    by : (b : Bool) → nat_lt limit n ≡ b → (if b then Some r else None) ≡ None → n ≤ limit
    by true h f = absurd cc
    by false h f = grind (arith, nat_tests)

-- where none of some refusals comes, that at a place doesn't
none_at : (rs : List (Option Refusal)) (n : ℕ) (r : Option Refusal) → first_of_all rs ≡ None → slice_get rs n ≡ Some r → r ≡ None
none_at [] n r e at = absurd cc
none_at (o ∷ rs) zero r e at = subst (λ (x : Option Refusal). x ≡ None) (same_Some o r at) (neither_refuses o (first_of_all rs) e).0
none_at (o ∷ rs) (suc n) r e at = none_at rs n r (neither_refuses o (first_of_all rs) e).1 at

program_few : (declared : List (ℕ × Sort)) (outputs : List ℕ) (code : Code) → program_fault declared outputs code ≡ None →
    length declared ≤ 200
unfolding program_fault
program_few declared outputs code e =
    let refusals =
    double_name declared
    ∷ first_output_fault (sort_of declared) [] outputs
    ∷ first_sort_fault (sort_of declared) (names_used code)
    ∷ over 200 (length declared) TooMany
    ∷ size_fault (code_nodes code) (code_depth code)
    ∷ [] in
    not_over 200 (length declared) TooMany (none_at refusals 3 (over 200 (length declared) TooMany) e refl)

formed_few : (t : Parts) → ill_formed t ≡ None → length t.declared ≤ 200
unfolding ill_formed
formed_few t e =
    let of = λ (c : Copy). program_fault t.declared t.outputs (fill (t.fillings c) t.shared) in
    program_few t.declared t.outputs (fill (t.fillings O) t.shared) (none_at (of O ∷ of A ∷ of B ∷ of M ∷ []) 0 (of O) e refl)

few_names : (t : Parts) → first_refusal t ≡ None → length t.declared ≤ 200
unfolding first_refusal
few_names t e =
    let refusals =
    double_hole t ∷ hole_in_filling t ∷ unknown_hole t ∷ missing_filling t ∷ ill_formed t ∷ ill_assumed t.declared t.assumed ∷ [] in
    formed_few t (none_at refusals 4 (ill_formed t) e refl)

-- it can be searched
pub valid_searchable : ValidIsSearchable
valid_searchable t e = (valid_no_hole t e, few_names t e)

pub certified_short : CertifiedAreShort
certified_short t choice ds cs few numbered sorted e certified short =
    let sorts = sort_of t.declared in
    let p = plan_of t choice in
    let simple = product_simple t choice numbered sorted in
    let all = plan_states 0 (start_state (task_of t)) p in
    goals_short sorts (length t.declared) few all (states_lean t.declared numbered (task_of t) p sorted simple)
    (all_goals ds) cs (shown_goals t p ds cs sorted simple e certified) short
