-- What runs of a node's goals come to, one after another, over the one table.
use Rattle.sm_houdini.proofs.Imports.{◌≡◌, ℕ, zero, suc, ◌+◌, ◌-◌, ◌*◌, ◌/◌, ◌%◌, ◌<◌, ◌≤◌, pos, true, false, List, [], ◌∷◌, ◌++◌, length, take, drop, get_or, refl, sym, ap, ◌∙◌, subst, zero-add, zero-mul, suc-mul, mul_comm, mul-le-mul_right, arith, take-add, map-append, append_assoc, append-nil, drop-drop, drop-map, take-map, take_all, drop_all, take-append-drop, take-append-le, drop_more, length-append, length-drop, length-take-le, get_or-take, get_or-drop, take_at, slice_get_within, get_or_from_slice_get, range_with_len, is_some, MatchOption, Vec, IfOk, Global, AllocError, Sorts, StandInOrder, Assertion, numbered, assertion_in, Formula, TableValue, trees_in, sorts_in, tree_at, ExtendsTable, Tree, Lit, certificate_in, lines_of, AreLinesWithin, CertTree, AreFormsReady, forms_in, due_in, Verdict, AreTermsOf, Walked, walk, Reach, AreTreesWithin, AreShort, front_stays, AreCertified, AreCollected, goals_with, stop_in, RunStops, RunCloses, GoalsStop, GoalsClose, dealt, placed, PlanEndsValue, IsRunEnd, AreRunEnds, ArePlanEnds, IsPartEnd, TellsEnd, goals_from, size_of, Outcome, goal_outcome, goals_outcome, Stop, RunEnd, range_more, forms_long}
use Rattle.std.proofs.Common.{map}
use Rattle.std.proofs.lemmas.Grind.{div_ceil_times}
use Rattle.std.proofs.lemmas.Nat.{div-mul-add, mod-mul-add}
use Rattle.std.specs.Prelude.{Option, Some, None, Result, slice_get}
use Rattle.sm_term.specs.declared.term.TermId.{TermId}
use Rattle.sm_term.specs.Tails.{row_trees, AreRowsSound, trees_numbered}
use Rattle.sm_expand.specs.declared.due.Due as program
use Rattle.sm_terms.specs.Listing.{trees_at, numbers_of, AreBelow}
use Rattle.sm_houdini.proofs.ClosingLemmas.{ok_map}
use Rattle.sm_houdini.proofs.DealtNodes.{placed_inside, dealt_placed}
use Rattle.sm_houdini.proofs.EndLemmas.{collected_stays, within_append, short_append, Ended}
use Rattle.sm_houdini.proofs.LoopLemmas.{taken}
use Rattle.sm_houdini.proofs.SimpleWritable.{certified_append}
use Rattle.sm_terms.proofs.ListingLemmas.{below-append}
use Rattle.sm_houdini.proofs.TotalsLemmas.{different}

-- the terms with the numbers from one on
range_trees : (trees : List Tree) (a n : ℕ) → a + n ≤ length trees → trees_at trees (range_with_len a n) ≡ take n (drop a trees)
range_trees trees a zero h = refl
range_trees trees a (suc n) h =
    let inside : a < length trees = omega (arith, h) in
    let more : (a + 1) + n ≤ length trees = omega (arith, h) in
    (λ k. tree_at trees a ∷ range_trees trees (a + 1) n more k) ∙ ap (take (suc n)) (sym (drop_more trees a (Lit (pos 0)) inside))

range_below : (a n m : ℕ) → a + n ≤ m → AreBelow m (range_with_len a n)
range_below a zero m h = tt
range_below a (suc n) m h = (omega (arith, h), range_below (a + 1) n m (omega (arith, h)))

-- what a term's number has
some_is : (a b : Option Tree) (x : Tree) → a ≡ b → b ≡ Some x → a ≡ Some x
some_is a b x e f = e ∙ f

-- numbers of trees that are there
made_trees : (trees : List Tree) (ids : List TermId) (made : List Tree) → trees_numbered trees ids ≡ map Some made →
    trees_at trees (numbers_of ids) ≡ made
made_trees trees [] [] e = refl
made_trees trees [] (t ∷ made) e = let no : length (trees_numbered trees []) ≡ length (map Some (t ∷ made)) = ap length e in absurd cc
made_trees trees (i ∷ ids) [] e = let no : length (trees_numbered trees (i ∷ ids)) ≡ length (map (λ
    (x : Tree). Some x) []) = ap length e in absurd cc
made_trees trees (i ∷ ids) (t ∷ made) e =
    let here : slice_get trees i.0 ≡ Some t = ap (λ (l : List (Option Tree)). get_or l 0 (Some t)) e in
    let rest : trees_numbered trees ids ≡ map Some made = ap (drop 1) e in
    λ k. get_or_from_slice_get trees i.0 t (Lit (pos 0)) here k ∷ made_trees trees ids made rest k

made_below : (trees : List Tree) (ids : List TermId) (made : List Tree) → trees_numbered trees ids ≡ map Some made →
    AreBelow (length trees) (numbers_of ids)
made_below trees [] made e = tt
made_below trees (i ∷ ids) [] e = let no : length (trees_numbered trees (i ∷ ids)) ≡ length (map (λ
    (x : Tree). Some x) []) = ap length e in absurd cc
made_below trees (i ∷ ids) (t ∷ made) e =
    let here : slice_get trees i.0 ≡ Some t = ap (λ (l : List (Option Tree)). get_or l 0 (Some t)) e in
    let rest : trees_numbered trees ids ≡ map Some made = ap (drop 1) e in
    (slice_get_within trees i.0 t here, made_below trees ids made rest)

pub number_more : (ts new : List TermId) (t : TermId) (n : ℕ) → numbers_of ts ≡ range_with_len 0 n → t.0 ≡ n → new ≡ ts ++ t ∷ [] →
    numbers_of new ≡ range_with_len 0 (n + 1)
number_more ts new t n before is made =
    let last : t.0 ≡ 0 + n = omega (arith, is) in
    let count : suc n ≡ n + 1 = omega arith in
    ap numbers_of made ∙ map-append (λ (t : TermId). t.0) ts (t ∷ [])
    ∙ ap (λ (ns : List ℕ). ns ++ t.0 ∷ []) before
    ∙ ap (λ (k : ℕ). range_with_len 0 n ++ k ∷ []) last
    ∙ sym (range_more 0 n) ∙ ap (range_with_len 0) count

pub numbers_put : (first new more : List TermId) (n from : ℕ) → numbers_of first ≡ range_with_len 0 n → n ≡ from → new ≡ first ++ more →
    numbers_of new ≡ range_with_len 0 from ++ numbers_of more
numbers_put first new more n from before all made =
    ap numbers_of made ∙ map-append (λ (t : TermId). t.0) first more
    ∙ (λ k. (before ∙ ap (range_with_len 0) all) k ++ numbers_of more)

-- rows that were put into a table, behind its first terms
pub terms_adopted : (v w : TableValue) → ExtendsTable v w → (from : ℕ) → from ≤ length (trees_in v) → (made : List Tree) (ids all : List TermId) →
    trees_numbered (trees_in w) ids ≡ map Some made → numbers_of all ≡ range_with_len 0 from ++ numbers_of ids →
    AreTermsOf (trees_in w) all (take from (trees_in v) ++ made)
terms_adopted v w wider from behind made ids all stored is =
    let old = trees_in v in
    let new = trees_in w in
    let more = wider.trees.0 in
    let long : length new ≡ length old + length more = ap length wider.trees.1 ∙ length-append old more in
    let there : 0 + from ≤ length new = omega (arith, long, behind) in
    let first : trees_at new (range_with_len 0 from) ≡ take from old =
    range_trees new 0 from there ∙ ap (take from) wider.trees.1 ∙ take-append-le from old more behind in
    record {
      trees_are = ap (trees_at new) is ∙ map-append (tree_at new) (range_with_len 0 from) (numbers_of ids)
          ∙ (λ k. first k ++ made_trees new ids made stored k);
      below = subst (AreBelow (length new)) (sym is)
          (below-append (length new) (range_with_len 0 from) (numbers_of ids) (range_below 0 from (length new) there)
          (made_below new ids made stored));
    }

-- one certificate more under other numbers
within_at : (n : ℕ) (cs : List CertTree) (i : ℕ) (c : CertTree) → AreTreesWithin n cs → i < length cs →
    AreLinesWithin n (lines_of (get_or cs i c))
within_at n [] i c all h = absurd (let no : i < 0 = h in omega arith)
within_at n (d ∷ cs) zero c all h = all.0
within_at n (d ∷ cs) (suc i) c all h = let fewer : i < length cs = omega (arith, h) in within_at n cs i c all.1 fewer

pub tree_within : (n : ℕ) (cs : List CertTree) (i : ℕ) (c : CertTree) → AreTreesWithin n cs → i < length cs → c ≡ get_or cs i c →
    AreLinesWithin n (lines_of c)
tree_within n cs i c all h is = subst (λ (d : CertTree). AreLinesWithin n (lines_of d)) (sym is) (within_at n cs i c all h)

pub tree_more : (trees others : List Tree) (cs old new : List CertTree) (i : ℕ) (c d : CertTree) → i < length cs → c ≡ get_or cs i c →
    new ≡ old ++ d ∷ [] → certificate_in others d ≡ certificate_in trees c →
    map (certificate_in others) old ≡ map (certificate_in trees) (take i cs) →
    map (certificate_in others) new ≡ map (certificate_in trees) (take (i + 1) cs)
tree_more trees others cs old new i c d h is put same before =
    ap (map (certificate_in others)) put ∙ map-append (certificate_in others) old (d ∷ [])
    ∙ (λ k. before k ++ same k ∷ [])
    ∙ sym (map-append (certificate_in trees) (take i cs) (c ∷ []))
    ∙ ap (map (certificate_in trees)) (sym (taken cs i c h is))

pub within_more : (n : ℕ) (old new : List CertTree) (d : CertTree) → new ≡ old ++ d ∷ [] → AreTreesWithin n old →
    AreLinesWithin n (lines_of d) →
    AreTreesWithin n new
within_more n old new d put before one = subst (AreTreesWithin n) (sym put) (within_append n old (d ∷ []) before (one, tt))

-- certificates of goals behind those of others
collected_join : (v : TableValue) (goals more : List (List Assertion × Assertion)) (xs ys : List CertTree) → AreCollected v goals xs →
    AreCollected v more ys → AreCollected v (goals ++ more) (xs ++ ys)
collected_join v goals more xs ys a b =
    let both = sym (map-append (certificate_in (trees_in v)) xs ys) in
    record {
      within = within_append (length (trees_in v)) xs ys a.within b.within;
      certified = subst (AreCertified (sorts_in v) (goals ++ more)) both (certified_append
          (sorts_in v) goals more _ _ a.certified b.certified);
      short = subst AreShort both (short_append _ _ a.short b.short);
    }

-- those of a run, over the one table
pub run_taken : (v w copy : TableValue) → ExtendsTable v w → (all : List Tree) (numbers named : List TermId) → named ≡ numbers →
    AreTermsOf (trees_in w) numbers all → sorts_in copy ≡ sorts_in v → trees_in copy ≡ all →
    (goals more : List (List Assertion × Assertion)) (old certs given made new : List CertTree) → given ≡ certs → new ≡ old ++ made →
    ((trees others : List Tree) → AreTermsOf others named trees → AreTreesWithin (length trees) given →
    map (certificate_in others) made ≡ map (certificate_in trees) given) →
    ((trees others : List Tree) → AreTermsOf others named trees → AreTreesWithin (length trees) given →
    AreTreesWithin (length others) made) →
    AreCollected v goals old → AreCollected copy more certs → AreCollected w (goals ++ more) new
run_taken v w copy wider all numbers named numbers_are terms sorts trees goals more old certs given made new certs_are is same within
    before run =
    let here : AreTermsOf (trees_in w) named (trees_in copy) =
    subst (λ (ids : List TermId). AreTermsOf (trees_in w) ids (trees_in copy)) (sym numbers_are)
    (subst (AreTermsOf (trees_in w) numbers) (sym trees) terms) in
    let there : AreTreesWithin (length (trees_in copy)) given = subst (AreTreesWithin (length (trees_in copy)))
    (sym certs_are) run.within in
    let equal : map (certificate_in (trees_in copy)) certs ≡ map (certificate_in (trees_in w)) made =
    ap (map (certificate_in (trees_in copy))) (sym certs_are) ∙ sym (same (trees_in copy) (trees_in w) here there) in
    let taken : AreCollected w more made = record {
      within = within (trees_in copy) (trees_in w) here there;
      certified = subst (λ (s : Sorts). AreCertified s more (map (certificate_in (trees_in w)) made)) (sorts ∙ sym wider.sorts)
          (subst (AreCertified (sorts_in copy) more) equal run.certified);
      short = subst AreShort equal run.short;
    } in
    subst (AreCollected w (goals ++ more)) (sym is)
    (collected_join w goals more old made (collected_stays v w wider goals old before) taken)

-- the goals of a run, and those behind it
outcome_split : (W : Assertion → Walked) (node size first : ℕ) (gs : List Assertion) (later : Outcome (ℕ × Verdict)) →
    goals_outcome W node first gs later
    ≡ goals_outcome W node first (take size gs) (goals_outcome W node (first + size) (drop size gs) later)
outcome_split W node zero first gs later =
    let same : first ≡ first + 0 = omega arith in ap (λ (n : ℕ). goals_outcome W node n gs later) same
outcome_split W node (suc size) first [] later = refl
outcome_split W node (suc size) first (g ∷ gs) later =
    let same : suc first + size ≡ first + suc size = omega arith in
    ap (goal_outcome node first (W g))
    (outcome_split W node size (suc first) gs later
    ∙ ap (λ (n : ℕ). goals_outcome W node (suc first) (take size gs) (goals_outcome W node n (drop size gs) later)) same)

run_forms : (sorts : Sorts) (trees : List Tree) (size first : ℕ) (asks : List Formula) →
    forms_in sorts trees (goals_from size first asks) ≡ take size (drop first (forms_in sorts trees asks))
run_forms sorts trees size first asks =
    let F = λ (f : Formula). assertion_in sorts trees (numbered f) in
    sym (ap (take size) (drop-map F first asks) ∙ take-map F size (drop first asks))

one_more : (k size : ℕ) → (k + 1) * size ≡ k * size + size
one_more k size = let next = suc-mul k size in let same : (k + 1) * size ≡ suc k * size = ap (λ (n : ℕ). n * size)
    (let e : k + 1 ≡ suc k = omega arith in e) in
    omega (arith, next, same)

-- one run more closes
pub run_left : (sorts : Sorts) (trees : List Tree) (reach : Reach) (d : program.Due) (asks : List Formula) (k size : ℕ) →
    RunCloses (walk sorts reach) (due_in sorts trees d) (k * size) (forms_in sorts trees (goals_from size (k * size) asks)) →
    (later : Outcome (ℕ × Verdict)) →
    goals_outcome (walk sorts reach (due_in sorts trees d).facts) d.node (k * size) (drop (k * size) (forms_in sorts trees asks)) later
    ≡ goals_outcome (walk sorts reach (due_in sorts trees d).facts) d.node ((k + 1) * size) (drop ((k + 1) * size)
    (forms_in sorts trees asks)) later
run_left sorts trees reach d asks k size closes later =
    let W = walk sorts reach (due_in sorts trees d).facts in
    let all = forms_in sorts trees asks in
    let first = k * size in
    let rest = drop size (drop first all) in
    let past : first + size ≡ (k + 1) * size = sym (one_more k size) in
    outcome_split W d.node size first (drop first all) later
    ∙ ap (λ (l : List Assertion). goals_outcome W d.node first l (goals_outcome W d.node (first + size) rest later)) (sym
    (run_forms sorts trees size first asks))
    ∙ closes (goals_outcome W d.node (first + size) rest later)
    ∙ ap (λ (l : List Assertion). goals_outcome W d.node (first + size) l later) (drop-drop size first all)
    ∙ ap (λ (n : ℕ). goals_outcome W d.node n (drop n all) later) past

-- one run more stops the search
run_stops : (sorts : Sorts) (trees : List Tree) (reach : Reach) (d : program.Due) (asks : List Formula) (k size : ℕ) (s : Stop) →
    RunStops (walk sorts reach) (due_in sorts trees d) (k * size) (forms_in sorts trees (goals_from size (k * size) asks)) s →
    (later : Outcome (ℕ × Verdict)) →
    goals_outcome (walk sorts reach (due_in sorts trees d).facts) d.node (k * size) (drop (k * size)
    (forms_in sorts trees asks)) later ≡ stop_in s
run_stops sorts trees reach d asks k size s stops later =
    let W = walk sorts reach (due_in sorts trees d).facts in
    let all = forms_in sorts trees asks in
    let first = k * size in
    let rest = goals_outcome W d.node (first + size) (drop size (drop first all)) later in
    outcome_split W d.node size first (drop first all) later
    ∙ ap (λ (l : List Assertion). goals_outcome W d.node first l rest) (sym (run_forms sorts trees size first asks))
    ∙ stops rest

-- the goals so far and those of a run
pub goals_more : (sorts : Sorts) (trees : List Tree) (facts : List Assertion) (asks : List Formula) (k size : ℕ) (goals : List
    (List Assertion × Assertion)) →
    (goals ++ goals_with facts (take (k * size) (forms_in sorts trees asks))) ++ goals_with facts (forms_in sorts trees
    (goals_from size (k * size) asks))
    ≡ goals ++ goals_with facts (take ((k + 1) * size) (forms_in sorts trees asks))
goals_more sorts trees facts asks k size goals =
    let all = forms_in sorts trees asks in
    let first = k * size in
    append_assoc goals (goals_with facts (take first all)) (goals_with facts (forms_in sorts trees (goals_from size first asks)))
    ∙ ap (λ (l : List (List Assertion × Assertion)). goals ++ l)
    (ap (λ (l : List Assertion). goals_with facts (take first all) ++ goals_with facts l) (run_forms sorts trees size first asks)
    ∙ sym (map-append (λ (g : Assertion). (facts, g)) (take first all) (take size (drop first all)))
    ∙ ap (goals_with facts) (sym (take-add first size all) ∙ ap (λ (n : ℕ). take n all) (sym (one_more k size))))

-- what a run comes to, by whether a goal of it stops the search
closed_at : {C : Type 0} (S : Stop → Type 0) (o : Option Stop) → is_some o ≡ false → MatchOption o C S → C
closed_at S None is h = h
closed_at S (Some s) is h = different is

run_at : (v : TableValue) (reach : Reach) (d : program.Due) (asks : List Formula) (runs : List RunEnd)
    (ends : AreRunEnds v reach d asks runs) (i : ℕ)
    (run : RunEnd) → i < length runs → run ≡ get_or runs i run →
    IsRunEnd v reach d (i * ends.size) (goals_from ends.size (i * ends.size) asks) run
run_at v reach d asks runs ends i run h is =
    subst (IsRunEnd v reach d (i * ends.size) (goals_from ends.size (i * ends.size) asks)) (sym is) (ends.each i run h)

stops_by : (C : Type 0) (sorts : Sorts) (trees : List Tree) (w : TableValue) (reach : Reach) (d : program.Due) (asks : List Formula)
    (i size : ℕ) →
    ((later : Outcome (ℕ × Verdict)) →
    goals_outcome (walk sorts reach (due_in sorts trees d).facts) d.node 0 (forms_in sorts trees asks) later
    ≡ goals_outcome (walk sorts reach (due_in sorts trees d).facts) d.node (i * size) (drop (i * size) (forms_in sorts trees asks)) later) →
    (goals : List (List Assertion × Assertion)) (new : List CertTree) (o : Option Stop) → is_some o ≡ true →
    MatchOption o C (RunStops (walk sorts reach) (due_in sorts trees d) (i * size) (forms_in sorts trees (goals_from size
    (i * size) asks))) →
    MatchOption o
    (RunCloses (walk sorts reach) (due_in sorts trees d) 0 (forms_in sorts trees asks)
    × AreCollected w (goals ++ goals_with (due_in sorts trees d).facts (forms_in sorts trees asks)) new)
    (RunStops (walk sorts reach) (due_in sorts trees d) 0 (forms_in sorts trees asks))
stops_by C sorts trees w reach d asks i size closes goals new None none stops = different (sym none)
stops_by C sorts trees w reach d asks i size closes goals new (Some s) some stops =
    λ (later : Outcome (ℕ × Verdict)). closes later ∙ run_stops sorts trees reach d asks i size s stops later

pub runs_stop : (v w : TableValue) (reach : Reach) (d : program.Due) (asks : List Formula) (runs : List RunEnd)
    (ends : AreRunEnds v reach d asks runs) (i : ℕ)
    (run : RunEnd) → i < length runs → run ≡ get_or runs i run →
    ((later : Outcome (ℕ × Verdict)) →
    goals_outcome (walk (sorts_in v) reach (due_in (sorts_in v) (trees_in v) d).facts) d.node 0 (forms_in (sorts_in v)
    (trees_in v) asks) later
    ≡ goals_outcome (walk (sorts_in v) reach (due_in (sorts_in v) (trees_in v) d).facts) d.node (i * ends.size)
    (drop (i * ends.size) (forms_in (sorts_in v) (trees_in v) asks)) later) →
    is_some run.stop ≡ true → (goals : List (List Assertion × Assertion)) (new : List CertTree) →
    MatchOption run.stop
    (RunCloses (walk (sorts_in v) reach) (due_in (sorts_in v) (trees_in v) d) 0 (forms_in (sorts_in v) (trees_in v) asks)
    × AreCollected w (goals ++ goals_with (due_in (sorts_in v) (trees_in v) d).facts (forms_in (sorts_in v) (trees_in v) asks)) new)
    (RunStops (walk (sorts_in v) reach) (due_in (sorts_in v) (trees_in v) d) 0 (forms_in (sorts_in v) (trees_in v) asks))
runs_stop v w reach d asks runs ends i run h is closes some goals new =
    stops_by _ (sorts_in v) (trees_in v) w reach d asks i ends.size closes goals new run.stop some
    (run_at v reach d asks runs ends i run h is).ends

-- the first terms of a table are those that it had
pub first_stays : (v w : TableValue) → ExtendsTable v w → (from : ℕ) → from ≡ length (trees_in v) → take from (trees_in w) ≡ trees_in v
first_stays v w wider from is = ap (take from) wider.trees.1 ∙ take_at (trees_in v) wider.trees.0 from (sym is)

pub rows_sound : (v w : TableValue) → ExtendsTable v w → (from : ℕ) → from ≤ length (trees_in v) → (runs : List RunEnd) (i : ℕ) (run : RunEnd) →
    run ≡ get_or runs i run → AreRowsSound (sorts_in v) (take from (trees_in v)) (get_or runs i run).rows →
    AreRowsSound (sorts_in w) (take from (trees_in w)) run.rows
rows_sound v w wider from within runs i run same sound =
    subst (λ (s : Sorts). AreRowsSound s (take from (trees_in w)) run.rows) (sym wider.sorts)
    (subst (λ (l : List Tree). AreRowsSound (sorts_in v) l run.rows) (sym (front_stays v w wider from within))
    (subst (λ (r : RunEnd). AreRowsSound (sorts_in v) (take from (trees_in v)) r.rows) (sym same) sound))

-- one run more, whose goals all close
pub runs_more : (v u w : TableValue) → ExtendsTable v u → (from : ℕ) → from ≡ length (trees_in v) →
    (reach : Reach) (d : program.Due) (asks : List Formula)
    (runs : List RunEnd) (ends : AreRunEnds v reach d asks runs) (i : ℕ) (run : RunEnd) → i < length runs → run ≡ get_or runs i run →
    is_some run.stop ≡ false → (goals : List (List Assertion × Assertion)) (old new : List CertTree) →
    ((copy : TableValue) (before more : List (List Assertion × Assertion)) → sorts_in copy ≡ sorts_in u →
    trees_in copy ≡ take from (trees_in u) ++ row_trees (take from (trees_in u)) run.rows →
    AreCollected u before old → AreCollected copy more run.trees.items → AreCollected w (before ++ more) new) →
    AreCollected u (goals ++ goals_with (due_in (sorts_in v) (trees_in v) d).facts (take (i * ends.size) (forms_in (sorts_in v)
    (trees_in v) asks))) old →
    AreCollected w (goals ++ goals_with (due_in (sorts_in v) (trees_in v) d).facts (take ((i + 1) * ends.size) (forms_in (sorts_in v)
    (trees_in v) asks))) new
runs_more v u w wider from is reach d asks runs ends i run h same none goals old new take_run before =
    let e = run_at v reach d asks runs ends i run h same in
    let both = closed_at _ run.stop none e.ends in
    let due = due_in (sorts_in v) (trees_in v) d in
    let first = sym (first_stays v u wider from is) in
    let behind : trees_in e.copy ≡ take from (trees_in u) ++ row_trees (take from (trees_in u)) run.rows =
    e.trees ∙ ap (λ (l : List Tree). l ++ row_trees l run.rows) first in
    subst (λ (l : List (List Assertion × Assertion)). AreCollected w l new) (goals_more (sorts_in v)
    (trees_in v) due.facts asks i ends.size goals)
    (take_run e.copy (goals ++ goals_with due.facts (take (i * ends.size) (forms_in (sorts_in v) (trees_in v) asks)))
    (goals_with due.facts (forms_in (sorts_in v) (trees_in v) (goals_from ends.size (i * ends.size) asks))) (e.sorts
    ∙ sym wider.sorts) behind before both.1)

pub runs_left : (v : TableValue) (reach : Reach) (d : program.Due) (asks : List Formula) (runs : List RunEnd)
    (ends : AreRunEnds v reach d asks runs) (i : ℕ)
    (run : RunEnd) → i < length runs → run ≡ get_or runs i run → is_some run.stop ≡ false → (later : Outcome (ℕ × Verdict)) →
    goals_outcome (walk (sorts_in v) reach (due_in (sorts_in v) (trees_in v) d).facts) d.node (i * ends.size)
    (drop (i * ends.size) (forms_in (sorts_in v) (trees_in v) asks)) later
    ≡ goals_outcome (walk (sorts_in v) reach (due_in (sorts_in v) (trees_in v) d).facts) d.node ((i + 1) * ends.size)
    (drop ((i + 1) * ends.size) (forms_in (sorts_in v) (trees_in v) asks)) later
runs_left v reach d asks runs ends i run h same none later =
    let both = closed_at _ run.stop none (run_at v reach d asks runs ends i run h same).ends in
    run_left (sorts_in v) (trees_in v) reach d asks i ends.size both.0 later

-- no run yet
pub runs_none : (v : TableValue) (reach : Reach) (size : ℕ) (d : program.Due) (asks : List Formula) (later : Outcome (ℕ × Verdict)) →
    goals_outcome (walk (sorts_in v) reach (due_in (sorts_in v) (trees_in v) d).facts) d.node 0 (forms_in (sorts_in v)
    (trees_in v) asks) later
    ≡ goals_outcome (walk (sorts_in v) reach (due_in (sorts_in v) (trees_in v) d).facts) d.node (0 * size)
    (drop (0 * size) (forms_in (sorts_in v) (trees_in v) asks)) later
runs_none v reach size d asks later =
    ap (λ (n : ℕ). goals_outcome (walk (sorts_in v) reach (due_in (sorts_in v) (trees_in v) d).facts) d.node n
    (drop n (forms_in (sorts_in v) (trees_in v) asks)) later) (sym (zero-mul size))

pub collected_none : (v : TableValue) (facts : List Assertion) (size : ℕ) (asks : List Assertion) (goals : List
    (List Assertion × Assertion)) (trees : List CertTree) →
    AreCollected v goals trees → AreCollected v (goals ++ goals_with facts (take (0 * size) asks)) trees
collected_none v facts size asks goals trees c =
    subst (λ (l : List (List Assertion × Assertion)). AreCollected v l trees)
    (sym (append-nil goals) ∙ ap (λ (n : ℕ). goals ++ goals_with facts (take n asks)) (sym (zero-mul size))) c

-- all runs
pub runs_done : (v w : TableValue) (reach : Reach) (d : program.Due) (asks : List Formula) (runs : List RunEnd)
    (ends : AreRunEnds v reach d asks runs) (i : ℕ) →
    length runs ≤ i → (goals : List (List Assertion × Assertion)) (new : List CertTree) →
    AreCollected w (goals ++ goals_with (due_in (sorts_in v) (trees_in v) d).facts (take (i * ends.size) (forms_in (sorts_in v)
    (trees_in v) asks))) new →
    ((later : Outcome (ℕ × Verdict)) →
    goals_outcome (walk (sorts_in v) reach (due_in (sorts_in v) (trees_in v) d).facts) d.node 0 (forms_in (sorts_in v)
    (trees_in v) asks) later
    ≡ goals_outcome (walk (sorts_in v) reach (due_in (sorts_in v) (trees_in v) d).facts) d.node (i * ends.size)
    (drop (i * ends.size) (forms_in (sorts_in v) (trees_in v) asks)) later) →
    RunCloses (walk (sorts_in v) reach) (due_in (sorts_in v) (trees_in v) d) 0 (forms_in (sorts_in v) (trees_in v) asks)
    × AreCollected w (goals ++ goals_with (due_in (sorts_in v) (trees_in v) d).facts (forms_in (sorts_in v) (trees_in v) asks)) new
runs_done v w reach d asks runs ends i over goals new collected closes =
    let W = walk (sorts_in v) reach (due_in (sorts_in v) (trees_in v) d).facts in
    let all = forms_in (sorts_in v) (trees_in v) asks in
    let count = forms_long (sorts_in v) (trees_in v) asks in
    let more : length runs * ends.size ≤ i * ends.size = mul-le-mul_right ends.size over in
    let covers = ends.covers in
    let past : length all ≤ i * ends.size = omega (arith, count, more, covers) in (
      (λ (later : Outcome (ℕ × Verdict)).
          closes later ∙ ap (λ (l : List Assertion). goals_outcome W d.node (i * ends.size) l later) (drop_all (i * ends.size) all past)),
      subst (λ (l : List Assertion). AreCollected w (goals ++ goals_with (due_in (sorts_in v) (trees_in v) d).facts l) new)
          (take_all (i * ends.size) all past) collected,
    )

-- what the jobs tell, each of its run
pub plan_told : (v : PlanEndsValue) → 0 < v.each → v.count ≡ length v.dues * v.each → (runs : List RunEnd) →
    StandInOrder (TellsEnd v) 0 v.count runs → ArePlanEnds v.table v.reach v.dues v.each runs
plan_told v some all runs tell = record {
  count = tell.all ∙ all;
  at = λ (i k : ℕ) (due : program.Due) (e : RunEnd) (h : i < length v.dues) (l : k < v.each).
      let n = length v.dues in
      let at = placed n i in
      let place = at * v.each + k in
      let least : suc at ≤ n = omega (arith, placed_inside n i h) in
      let more : suc at * v.each ≤ n * v.each = mul-le-mul_right v.each least in
      let one = suc-mul at v.each in
      let inside : place < v.count = omega (arith, all, more, one, l) in
      let node : dealt n (place / v.each) ≡ i = ap (dealt n) (div-mul-add at v.each k l) ∙ dealt_placed n i h in
      let told = subst (λ (j : ℕ). TellsEnd v j (get_or runs place e)) (zero-add place) (tell.each place e inside) in
      subst (λ (j : ℕ). IsPartEnd v.table v.reach (get_or v.dues i due) v.each j (get_or runs place e)) (mod-mul-add at v.each k l)
      (subst (λ (j : ℕ). IsPartEnd v.table v.reach (get_or v.dues j due) v.each (place % v.each) (get_or runs place e))
      node (told due));
}

-- the runs of one node
pub node_ends : (v : TableValue) (reach : Reach) (dues : List program.Due) (each : ℕ) (runs : List RunEnd) → 0 < each →
    ArePlanEnds v reach dues each runs → (i : ℕ) (due : program.Due) → i < length dues → due ≡ get_or dues i due → (part : List RunEnd) →
    part ≡ take each (drop (placed (length dues) i * each) runs) → AreRunEnds v reach due due.targets.list.items part
node_ends v reach dues each runs some ends i due h is part part_is =
    let goals = due.targets.list.items in
    let size = size_of (length goals) each in
    let at = placed (length dues) i in
    let least : suc at ≤ length dues = omega (arith, placed_inside (length dues) i h) in
    let more : suc at * each ≤ length dues * each = mul-le-mul_right each least in
    let one = suc-mul at each in
    let count = ends.count in
    let left : length (drop (at * each) runs) ≡ length runs - at * each = length-drop (at * each) runs in
    let enough : each ≤ length (drop (at * each) runs) = omega (arith, left, more, one, count) in
    let long : length part ≡ each = ap (λ (l : List RunEnd). length l) part_is ∙ length-take-le each (drop (at * each) runs) enough in
    let ceil = (div_ceil_times (length goals) each some).0 in
    let turned : size * each ≡ length part * size = mul_comm size each ∙ ap (λ (n : ℕ). n * size) (sym long) in
    record {
      size = size;
      covers = omega (arith, ceil, turned);
      each = λ (k : ℕ) (e : RunEnd) (l : k < length part).
          let inside : k < each = omega (arith, l, long) in
          let place : get_or part k e ≡ get_or runs (at * each + k) e =
          ap (λ (p : List RunEnd). get_or p k e) part_is ∙ get_or-take each (drop (at * each) runs) k e inside
          ∙ get_or-drop (at * each) runs k e in
          let told = ends.at i k due e h inside in
          subst (IsRunEnd v reach due (k * size) (goals_from size (k * size) goals)) (sym place)
          (subst (λ (d : program.Due). IsPartEnd v reach d each k (get_or runs (at * each + k) e)) (sym is) told);
    }

-- the end of a run over a table with the same terms
abbrev EndsOver : (sorts : Sorts) (trees : List Tree) (w : TableValue) (reach : Reach) (first : ℕ) (d : program.Due) (part : List Formula) →
    RunEnd → Type 0
EndsOver sorts trees w reach first d part e =
    MatchOption e.stop
    (RunCloses (walk sorts reach) (due_in sorts trees d) first (forms_in sorts trees part)
    × AreCollected w (goals_with (due_in sorts trees d).facts (forms_in sorts trees part)) e.trees.items)
    (RunStops (walk sorts reach) (due_in sorts trees d) first (forms_in sorts trees part))

pub run_ended : (v t w : TableValue) → sorts_in t ≡ sorts_in v → trees_in t ≡ trees_in v → ExtendsTable t w →
    (reach : Reach) (first from : ℕ) (due : program.Due) (part : List Formula) (e : RunEnd) → from ≡ length (trees_in t) →
    row_trees (take from (trees_in w)) e.rows ≡ drop from (trees_in w) → AreRowsSound (sorts_in w) (take from (trees_in w)) e.rows →
    MatchOption e.stop
    (RunCloses (walk (sorts_in t) reach) (due_in (sorts_in t) (trees_in t) due) first (forms_in (sorts_in t) (trees_in t) part)
    × AreCollected w ([] ++ goals_with (due_in (sorts_in t) (trees_in t) due).facts (forms_in (sorts_in t)
    (trees_in t) part)) e.trees.items)
    (RunStops (walk (sorts_in t) reach) (due_in (sorts_in t) (trees_in t) due) first (forms_in (sorts_in t) (trees_in t) part)) →
    IsRunEnd v reach due first part e
run_ended v t w sorts trees wider reach first from due part e all behind sound ends =
    let front : take from (trees_in w) ≡ trees_in v = first_stays t w wider from all ∙ trees in
    record {
      sound = subst (λ (s : Sorts). AreRowsSound s (trees_in v) e.rows) (wider.sorts ∙ sorts)
          (subst (λ (l : List Tree). AreRowsSound (sorts_in w) l e.rows) front sound);
      copy = w;
      sorts = wider.sorts ∙ sorts;
      trees = sym (take-append-drop from (trees_in w)) ∙ ap (λ (l : List Tree). take from (trees_in w) ++ l) (sym behind)
          ∙ ap (λ (l : List Tree). l ++ row_trees l e.rows) front;
      ends = subst (λ (s : Sorts). EndsOver s (trees_in v) w reach first due part e) sorts
          (subst (λ (l : List Tree). EndsOver (sorts_in t) l w reach first due part e) trees ends);
    }

-- a run as a part of the goals
pub part_ended : (v : TableValue) (reach : Reach) (due : program.Due) (each number size first : ℕ) (goals part : List Formula)
    (e : RunEnd) →
    goals ≡ due.targets.list.items → size ≡ size_of (length goals) each → first ≡ number * size → part ≡ take size (drop first goals) →
    IsRunEnd v reach due first part e → IsPartEnd v reach due each number e
part_ended v reach due each number size first goals part e same sized place is end =
    let all = due.targets.list.items in
    let big : size ≡ size_of (length all) each = sized ∙ ap (λ (l : List Formula). size_of (length l) each) same in
    let from : first ≡ number * size_of (length all) each = place ∙ ap (λ (n : ℕ). number * n) big in
    let run : part ≡ goals_from (size_of (length all) each) (number * size_of (length all) each) all =
    is ∙ (λ k. take (big k) (drop (from k) (same k))) in
    subst (λ (n : ℕ). IsRunEnd v reach due n (goals_from (size_of (length all) each) (number * size_of (length all) each) all) e) from
    (subst (λ (p : List Formula). IsRunEnd v reach due first p e) run end)

-- the numbers that come of an adoption
pub numbers_adopted : (v w : TableValue) → ExtendsTable v w → (from : ℕ) → from ≤ length (trees_in v) →
    (made : List Tree) (ids others : List TermId) →
    others ≡ ids → (r : Result (Vec TermId Global) AllocError) → trees_numbered (trees_in w) ids ≡ map Some made →
    IfOk r (λ all. numbers_of all.items ≡ range_with_len 0 from ++ numbers_of others) →
    IfOk r (λ all. AreTermsOf (trees_in w) all.items (take from (trees_in v) ++ made))
numbers_adopted v w wider from behind made ids others same r stored =
    ok_map r (λ (all : Vec TermId Global). numbers_of all.items ≡ range_with_len 0 from ++ numbers_of others)
    (λ (all : Vec TermId Global). AreTermsOf (trees_in w) all.items (take from (trees_in v) ++ made))
    (λ all is. terms_adopted v w wider from behind made ids all.items stored
    (is ∙ ap (λ (l : List TermId). range_with_len 0 from ++ numbers_of l) same))

-- the rows of each run are sound, over a wider table
pub runs_sound : (v w : TableValue) → ExtendsTable v w → (from : ℕ) → from ≡ length (trees_in v) → (reach : Reach) (d : program.Due)
    (asks : List Formula) (runs : List RunEnd) → AreRunEnds v reach d asks runs → (k : ℕ) (run : RunEnd) → k < length runs →
    AreRowsSound (sorts_in w) (take from (trees_in w)) (get_or runs k run).rows
runs_sound v w wider from is reach d asks runs ends k run h =
    subst (λ (s : Sorts). AreRowsSound s (take from (trees_in w)) (get_or runs k run).rows) (sym wider.sorts)
    (subst (λ (l : List Tree). AreRowsSound (sorts_in v) l (get_or runs k run).rows) (sym (first_stays v w wider from is))
    (ends.each k run h).sound)

-- all goals that a node asks are those of the list
pub due_whole : (v w : TableValue) (reach : Reach) (d : program.Due) (asks : List Formula) → asks ≡ d.targets.list.items →
    (goals : List (List Assertion × Assertion)) (new : List CertTree) (o : Option Stop) →
    MatchOption o
    (RunCloses (walk (sorts_in v) reach) (due_in (sorts_in v) (trees_in v) d) 0 (forms_in (sorts_in v) (trees_in v) asks)
    × AreCollected w (goals ++ goals_with (due_in (sorts_in v) (trees_in v) d).facts (forms_in (sorts_in v) (trees_in v) asks)) new)
    (RunStops (walk (sorts_in v) reach) (due_in (sorts_in v) (trees_in v) d) 0 (forms_in (sorts_in v) (trees_in v) asks)) →
    MatchOption o
    (GoalsClose (walk (sorts_in v) reach) (due_in (sorts_in v) (trees_in v) d)
    × AreCollected w (goals ++ goals_with (due_in (sorts_in v) (trees_in v) d).facts (due_in (sorts_in v) (trees_in v) d).goals) new)
    (GoalsStop (walk (sorts_in v) reach) (due_in (sorts_in v) (trees_in v) d))
due_whole v w reach d asks same goals new o h =
    subst (λ (fs : List Formula). Ended (sorts_in v) reach d.node 0 (forms_in (sorts_in v) (trees_in v) d.facts.list.items)
    (forms_in (sorts_in v) (trees_in v) fs) w goals new o) same h

-- the goals of a run are in the table, as all are
run_ready : (sorts : Sorts) (trees : List Tree) (size first : ℕ) (asks : List Formula) → AreFormsReady sorts trees asks →
    AreFormsReady sorts trees (take size (drop first asks))
run_ready sorts trees size zero asks h = front size asks h
  where
    front : (n : ℕ) (fs : List Formula) → AreFormsReady sorts trees fs → AreFormsReady sorts trees (take n fs)
    front zero fs h = tt
    front (suc n) [] h = tt
    front (suc n) (f ∷ fs) h = (h.0, front n fs h.1)
run_ready sorts trees size (suc first) [] h = none size
  where
    none : (n : ℕ) → AreFormsReady sorts trees (take n [])
    none zero = tt
    none (suc n) = tt
run_ready sorts trees size (suc first) (f ∷ asks) h = run_ready sorts trees size first asks h.1

pub part_ready : (v t : TableValue) → sorts_in t ≡ sorts_in v → trees_in t ≡ trees_in v → (size first : ℕ) (asks : List Formula) →
    AreFormsReady (sorts_in v) (trees_in v) asks → AreFormsReady (sorts_in t) (trees_in t) (take size (drop first asks))
part_ready v t sorts trees size first asks h =
    let part = take size (drop first asks) in
    subst (λ (s : Sorts). AreFormsReady s (trees_in t) part) (sym sorts)
    (subst (λ (l : List Tree). AreFormsReady (sorts_in v) l part) (sym trees) (run_ready (sorts_in v) (trees_in v) size first asks h))

pub facts_over : (v t : TableValue) → sorts_in t ≡ sorts_in v → trees_in t ≡ trees_in v → (fs : List Formula) →
    AreFormsReady (sorts_in v) (trees_in v) fs → AreFormsReady (sorts_in t) (trees_in t) fs
facts_over v t sorts trees fs h =
    subst (λ (s : Sorts). AreFormsReady s (trees_in t) fs) (sym sorts)
    (subst (λ (l : List Tree). AreFormsReady (sorts_in v) l fs) (sym trees) h)

pub goals_part : (v t : TableValue) → sorts_in t ≡ sorts_in v → trees_in t ≡ trees_in v → (size first : ℕ) (all goals part : List Formula) →
    goals ≡ all → part ≡ take size (drop first goals) → AreFormsReady (sorts_in v) (trees_in v) all →
    AreFormsReady (sorts_in t) (trees_in t) part
goals_part v t sorts trees size first all goals part same is h =
    subst (AreFormsReady (sorts_in t) (trees_in t)) (sym (is ∙ ap (λ (l : List Formula). take size (drop first l)) same))
    (part_ready v t sorts trees size first all h)
