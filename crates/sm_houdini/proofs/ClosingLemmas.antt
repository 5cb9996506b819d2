-- Goals that close, over a table that widens, and what a node's goals do to marks.
use Rattle.sm_houdini.proofs.Imports.{◌≡◌, ℕ, zero, suc, ◌+◌, ◌<◌, ◌≤◌, ◌==◌, Bool, true, false, not, ◌&&◌, ◌||◌, List, [], ◌∷◌, ◌++◌, length, take, get_or, option_map, refl, sym, ap, ◌∙◌, subst, arith, eq-eqb, eqb-true, length-take-le, take_more, map-set, get_or-map, Vec, IfOk, AllocError, Global, Sorts, numbered, assertion_in, Formula, TableValue, trees_in, sorts_in, ExtendsTable, Tree, AreFormsReady, forms_in, due_in, Choice, Reach, closing, closes_at, stays_at, owner_in, all_marked, still_marked, rows, Marked, is_site, closes_if}
use Rattle.std.proofs.Common.{Option, Some, None, slice_get}
use Rattle.std.proofs.Math.ListN.{set}
use Rattle.std.specs.Prelude.{Result, Ok, Err}
use Rattle.sm_plan.specs.Plans as plain
use Rattle.sm_plan.proofs.TablesWiden as widened
use Rattle.sm_expand.specs.declared.due.Due.{Due}
use Rattle.sm_houdini.proofs.MarkedLemmas.{still_more, still_both, marked_same, all_same}
use Rattle.sm_houdini.proofs.NodeLemmas.{with_true}

-- the goal at a place
goal_at : (sorts : Sorts) (trees : List Tree) (fs : List Formula) (i : ℕ) (o : Option Formula) → slice_get fs i ≡ o →
    slice_get (forms_in sorts trees fs) i ≡ option_map (λ (f : Formula). assertion_in sorts trees (numbered f)) o
goal_at sorts trees [] i o e = ap (option_map (λ (f : Formula). assertion_in sorts trees (numbered f))) e
goal_at sorts trees (f ∷ fs) zero o e = ap (option_map (λ (f : Formula). assertion_in sorts trees (numbered f))) e
goal_at sorts trees (f ∷ fs) (suc i) o e = goal_at sorts trees fs i o e

pub some_stays : (sorts : Sorts) (trees : List Tree) (reach : Reach) (d : Due) (i : ℕ) (f : Formula) (b : Bool) →
    slice_get d.targets.list.items i ≡ Some f →
    b ≡ closing sorts reach (forms_in sorts trees d.facts.list.items) (assertion_in sorts trees (numbered f)) →
    b ≡ closes_at sorts reach (due_in sorts trees d) i
some_stays sorts trees reach d i f b e h =
    h ∙ ap (closes_if (closing sorts reach (forms_in sorts trees d.facts.list.items)))
    (sym (goal_at sorts trees d.targets.list.items i (Some f) e))

pub none_stays : (sorts : Sorts) (trees : List Tree) (reach : Reach) (d : Due) (i : ℕ) →
    slice_get d.targets.list.items i ≡ None → true ≡ closes_at sorts reach (due_in sorts trees d) i
none_stays sorts trees reach d i e =
    ap (closes_if (closing sorts reach (forms_in sorts trees d.facts.list.items)))
    (sym (goal_at sorts trees d.targets.list.items i None e))

-- what a node asks, over a wider table
pub due_stays : (v w : TableValue) → ExtendsTable v w → (d : Due) → AreFormsReady (sorts_in v) (trees_in v) d.facts.list.items →
    AreFormsReady (sorts_in v) (trees_in v) d.targets.list.items →
    due_in (sorts_in w) (trees_in w) d ≡ due_in (sorts_in v) (trees_in v) d
due_stays v w wider d known asks =
    let facts = widened.forms_stay v w wider d.facts.list.items known in
    let goals = widened.forms_stay v w wider d.targets.list.items asks in
    λ k. record { node = d.node; facts = facts k; goals = goals k; is_final = d.last }

pub closes_stays : (v w : TableValue) (wider : ExtendsTable v w) (reach : Reach) (d : Due) (i : ℕ) →
    AreFormsReady (sorts_in v) (trees_in v) d.facts.list.items → AreFormsReady (sorts_in v) (trees_in v) d.targets.list.items →
    closes_at (sorts_in w) reach (due_in (sorts_in w) (trees_in w) d) i
    ≡ closes_at (sorts_in v) reach (due_in (sorts_in v) (trees_in v) d) i
closes_stays v w wider reach d i known asks =
    let due = due_stays v w wider d known asks in
    λ k. closes_at (wider.sorts k) reach (due k) i

-- one more mark of a site
pub still_put : (passes : ℕ → Bool) (first : ℕ) (new old ms : List Marked) (i : ℕ) (d : Marked) (b : Bool) →
    new ≡ old ++ record { number = (get_or ms i d).number; holds = b } ∷ [] → b ≡ ((get_or ms i d).holds && passes (first + i)) → i < length ms →
    old ≡ still_marked passes first (take i ms) → new ≡ still_marked passes first (take (i + 1) ms)
still_put passes first new old ms i d b is holds h before =
    let m = get_or ms i d in
    let least : i ≤ length ms = omega (arith, h) in
    let long : length (take i ms) ≡ i = length-take-le i ms least in
    let count : first + length (take i ms) ≡ first + i = ap (λ (n : ℕ). first + n) long in
    is ∙ (λ k. before k ++ record { number = m.number; holds = (holds ∙ ap (λ (j : ℕ). m.holds && passes j) (sym count)) k } ∷ [])
    ∙ sym (still_more passes first (take i ms) m) ∙ ap (still_marked passes first) (sym (take_more ms i d h))

-- a site whose marks were judged
other_site : (s r : ℕ) → suc s ≤ r → (s == r) ≡ false
other_site s r h = by (s == r) refl
  where
    by : (b : Bool) → (s == r) ≡ b → (s == r) ≡ false
    by true e = let same : s ≡ r = eqb-true s r e in absurd (let no : suc s ≤ s = subst (λ (n : ℕ). suc s ≤ n) (sym same) h in omega (arith, no))
    by false e = e

pub site_judged : (passes : ℕ → ℕ → Bool) (others : ℕ → Bool) (site s : ℕ) (choice : Choice) (row : List Marked) → site < length choice →
    row ≡ still_marked others 0 (get_or (all_marked passes s choice) site []) →
    set (all_marked passes s choice) site row
    ≡ all_marked (λ (r i : ℕ). passes r i && (not (s + site == r) || others i)) s choice
site_judged passes others site s [] row h e = absurd (let no : site < 0 = h in omega arith)
site_judged passes others zero s (ns ∷ choice) row h e =
    let here : s + 0 ≡ s = omega arith in
    let met : (s + 0 == s) ≡ true = eq-eqb (s + 0) s here in
    let first = e ∙ still_both (passes s) others 0 ns
    ∙ marked_same (λ (j : ℕ). passes s j && others j) (λ (j : ℕ). passes s j && (not (s + 0 == s) || others j)) 0 ns
    (λ (j : ℕ). ap (λ (b : Bool). passes s j && (not b || others j)) (sym met)) in
    let rest = all_same passes (λ (r i : ℕ). passes r i && (not (s + 0 == r) || others i)) (suc s) choice
    (λ (r i : ℕ) (l : suc s ≤ r).
    let apart : (s + 0 == r) ≡ false = ap (λ (n : ℕ). n == r) here ∙ other_site s r l in
    with_true (passes r i) ∙ ap (λ (b : Bool). passes r i && (not b || others i)) (sym apart)) in
    λ k. first k ∷ rest k
site_judged passes others (suc site) s (ns ∷ choice) row h e =
    let fewer : site < length choice = omega (arith, h) in
    let place : suc s + site ≡ s + suc site = omega arith in
    let here : (s + suc site == s) ≡ false = later s site in
    let first = marked_same (passes s) (λ (j : ℕ). passes s j && (not (s + suc site == s) || others j)) 0 ns
    (λ (j : ℕ). with_true (passes s j) ∙ ap (λ (b : Bool). passes s j && (not b || others j)) (sym here)) in
    let rest = site_judged passes others site (suc s) choice row fewer e
    ∙ ap (λ (n : ℕ). all_marked (λ (r i : ℕ). passes r i && (not (n == r) || others i)) (suc s) choice) place in
    λ k. first k ∷ rest k
  where
    later : (s site : ℕ) → (s + suc site == s) ≡ false
    later s site = by (s + suc site == s) refl
      where
        by : (b : Bool) → (s + suc site == s) ≡ b → (s + suc site == s) ≡ false
        by true e = let same : s + suc site ≡ s = eqb-true (s + suc site) s e in absurd (let no : s + suc site ≤ s = omega (arith, same) in omega (arith, no))
        by false e = e

-- no site is judged
pub none_judged : (passes : ℕ → ℕ → Bool) (stays : ℕ → ℕ → Bool) (choice : Choice) → ((r i : ℕ) → r < length choice → stays r i ≡ true) →
    all_marked passes 0 choice ≡ all_marked (λ (r i : ℕ). passes r i && stays r i) 0 choice
none_judged passes stays choice h = go 0 choice (λ (r i : ℕ) (l : 0 ≤ r) (m : r < 0 + length choice). let n : r < length choice = omega (arith, m) in h r i n)
  where
    go : (s : ℕ) (rest : Choice) → ((r i : ℕ) → s ≤ r → r < s + length rest → stays r i ≡ true) →
        all_marked passes s rest ≡ all_marked (λ (r i : ℕ). passes r i && stays r i) s rest
    go s [] g = refl
    go s (ns ∷ rest) g =
        let low : s ≤ s = omega arith in
        let high : s < s + length (ns ∷ rest) = omega arith in
        let first = marked_same (passes s) (λ (j : ℕ). passes s j && stays s j) 0 ns
        (λ (j : ℕ). with_true (passes s j) ∙ ap (λ (b : Bool). passes s j && b) (sym (g s j low high))) in
        let more = go (suc s) rest (λ (r i : ℕ) (l : suc s ≤ r) (m : r < suc s + length rest).
        let a : s ≤ r = omega (arith, l) in let b : r < s + length (ns ∷ rest) = omega (arith, m) in g r i a b) in
        λ k. first k ∷ more k

-- marks after one more goal, over a table that widened
pub judged_step : (v w : TableValue) → ExtendsTable v w → (reach : Reach) (due : Due) →
    AreFormsReady (sorts_in v) (trees_in v) due.facts.list.items → AreFormsReady (sorts_in v) (trees_in v) due.targets.list.items →
    (first : ℕ) (new old ms : List Marked) (i : ℕ) (d : Marked) (at : ℕ) (b : Bool) →
    new ≡ old ++ record { number = (get_or ms i d).number; holds = b } ∷ [] →
    b ≡ ((get_or ms i d).holds && closes_at (sorts_in w) reach (due_in (sorts_in w) (trees_in w) due) at) → at ≡ first + i → i < length ms →
    old ≡ still_marked (closes_at (sorts_in v) reach (due_in (sorts_in v) (trees_in v) due)) first (take i ms) →
    new ≡ still_marked (closes_at (sorts_in v) reach (due_in (sorts_in v) (trees_in v) due)) first (take (i + 1) ms)
judged_step v w wider reach due known asks first new old ms i d at b is holds place h before =
    let passes = closes_at (sorts_in v) reach (due_in (sorts_in v) (trees_in v) due) in
    let same : b ≡ ((get_or ms i d).holds && passes (first + i)) =
    holds ∙ ap (λ (x : Bool). (get_or ms i d).holds && x) (closes_stays v w wider reach due at known asks)
    ∙ ap (λ (j : ℕ). (get_or ms i d).holds && passes j) place in
    still_put passes first new old ms i d b is same h before

-- what is told of what went well
pub ok_map : {X E : Type 0} (r : Result X E) (P Q : X → Type 0) → ((x : X) → P x → Q x) → IfOk r P → IfOk r Q
ok_map (Ok x) P Q f h = f x h
ok_map (Err e) P Q f h = h

-- marks that were judged over a wider table
pub judged_over : (v w : TableValue) → ExtendsTable v w → (reach : Reach) (due : Due) →
    AreFormsReady (sorts_in v) (trees_in v) due.facts.list.items → AreFormsReady (sorts_in v) (trees_in v) due.targets.list.items →
    (first : ℕ) (ms : List Marked) (r : Result (Vec Marked Global) AllocError) →
    IfOk r (λ x. x.items ≡ still_marked (closes_at (sorts_in w) reach (due_in (sorts_in w) (trees_in w) due)) first ms) →
    IfOk r (λ x. x.items ≡ still_marked (closes_at (sorts_in v) reach (due_in (sorts_in v) (trees_in v) due)) first ms)
judged_over v w wider reach due known asks first ms r h =
    let same = due_stays v w wider due known asks in
    ok_map r (λ (x : Vec Marked Global). x.items ≡ still_marked (closes_at (sorts_in w) reach (due_in (sorts_in w) (trees_in w) due)) first ms)
    (λ (x : Vec Marked Global). x.items ≡ still_marked (closes_at (sorts_in v) reach (due_in (sorts_in v) (trees_in v) due)) first ms)
    (λ x is. is ∙ (λ k. still_marked (closes_at (wider.sorts k) reach (same k)) first ms)) h

-- sites and their marks
pub marked_length : (passes : ℕ → ℕ → Bool) (s : ℕ) (choice : Choice) → length (all_marked passes s choice) ≡ length choice
marked_length passes s [] = refl
marked_length passes s (ns ∷ choice) = ap suc (marked_length passes (suc s) choice)

pub rows_length : {X : Type 0} (vs : List (Vec X Global)) → length (rows vs) ≡ length vs
rows_length [] = refl
rows_length (v ∷ vs) = ap suc (rows_length vs)

pub past_judged : (sorts : Sorts) (reach : Reach) (passes : ℕ → ℕ → Bool) (owners : List (Option ℕ)) (d : plain.Due) (site : ℕ)
    (choice : Choice) (vs : List (Vec Marked Global)) → owner_in owners d ≡ Some site → length vs ≤ site →
    rows vs ≡ all_marked passes 0 choice →
    rows vs ≡ all_marked (λ (s i : ℕ). passes s i && stays_at sorts reach (owner_in owners) d s i) 0 choice
past_judged sorts reach passes owners d site choice vs owned h e =
    let count : length vs ≡ length choice = sym (rows_length vs) ∙ ap (λ (l : List (List Marked)). length l) e ∙ marked_length passes 0 choice in
    e ∙ none_judged passes (stays_at sorts reach (owner_in owners) d) choice
    (λ (r i : ℕ) (l : r < length choice).
    let past : suc r ≤ site = omega (arith, count, h, l) in
    ap (λ (o : Option ℕ). not (is_site o r) || closes_at sorts reach d i) owned
    ∙ ap (λ (b : Bool). not b || closes_at sorts reach d i) (before_site r site past))
  where
    before_site : (r site : ℕ) → suc r ≤ site → (site == r) ≡ false
    before_site r site l = by (site == r) refl
      where
        by : (b : Bool) → (site == r) ≡ b → (site == r) ≡ false
        by true f = let same : site ≡ r = eqb-true site r f in absurd (let no : suc r ≤ r = omega (arith, l, same) in omega (arith, no))
        by false f = f

pub there_judged : (sorts : Sorts) (reach : Reach) (passes : ℕ → ℕ → Bool) (owners : List (Option ℕ)) (d : plain.Due) (site : ℕ)
    (choice : Choice) (vs : List (Vec Marked Global)) (x row : Vec Marked Global) (ms : List Marked) → owner_in owners d ≡ Some site →
    site < length vs → x ≡ get_or vs site x → ms ≡ x.items → row.items ≡ still_marked (closes_at sorts reach d) 0 ms →
    rows vs ≡ all_marked passes 0 choice →
    rows (set vs site row) ≡ all_marked (λ (s i : ℕ). passes s i && stays_at sorts reach (owner_in owners) d s i) 0 choice
there_judged sorts reach passes owners d site choice vs x row ms owned h found same judged e =
    let items = λ (v : Vec Marked Global). v.items in
    let count : length vs ≡ length choice = sym (rows_length vs) ∙ ap (λ (l : List (List Marked)). length l) e ∙ marked_length passes 0 choice in
    let inside : site < length choice = omega (arith, count, h) in
    let old : ms ≡ get_or (all_marked passes 0 choice) site [] =
    same ∙ ap items found ∙ sym (get_or-map items vs site x [] h) ∙ ap (λ (l : List (List Marked)). get_or l site []) e in
    map-set items vs site row ∙ ap (λ (l : List (List Marked)). set l site row.items) e
    ∙ site_judged passes (closes_at sorts reach d) site 0 choice row.items inside
    (judged ∙ ap (still_marked (closes_at sorts reach d) 0) old)
    ∙ all_same _ _ 0 choice (λ (r i : ℕ) (l : 0 ≤ r).
    let zero : 0 + site ≡ site = omega arith in
    ap (λ (n : ℕ). passes r i && (not (n == r) || closes_at sorts reach d i)) zero
    ∙ ap (λ (o : Option ℕ). passes r i && (not (is_site o r) || closes_at sorts reach d i)) (sym owned))
