-- Goals that close or stop a search, and certificates that are collected.
use Rattle.sm_houdini.proofs.Imports.{◌≡◌, ℕ, zero, suc, ◌+◌, ◌<◌, ◌≤◌, Bool, true, false, if◌then◌else◌, List, [], ◌∷◌, ◌++◌, length, take, drop, get_or, refl, sym, ap, ◌∙◌, subst, arith, is_some, MatchOption, IfOk, AllocError, map-append, append_assoc, drop_more, drop-map, take-map, take_all, drop_all, Sorts, Assertion, negate, numbered, assertion_in, Formula, TableValue, trees_in, sorts_in, ExtendsTable, Tree, as_facts, Certificate, EachTerm, certificate_in, lines_of, AreLinesWithin, CertTree, AreFormsReady, forms_in, due_in, AreDuesReady, Tells, Certifies, NamesOnly, terms_walked, all_numbered, assertions_in, walk, Reach, Verdict, IsOneOf, Walked, AreTreesWithin, IsShort, AreShort, asked, IsCertified, AreCertified, AreCollected, goals_with, stop_in, GoalStops, GoalCloses, RunStops, RunCloses, GoalsStop, GoalsClose, FinalStops, FinalCloses, AreInsideClosed, Outcome, Accepted, Conflict, Open, Coefficient, goal_outcome, goals_outcome, final_outcome, Stop, forms_same, facts_at, forms_long, ready_at}
use Rattle.std.proofs.Common.{None, map}
use Rattle.std.specs.Prelude.{Option, Some, Result}
use Rattle.sm_cert.specs.Certificates.{Closes}
use Rattle.sm_plan.specs.Plans.{Due}
use Rattle.sm_plan.proofs.TablesWiden as widened
use Rattle.sm_expand.specs.declared.due.Due as program
use Rattle.sm_expand.specs.Views.{dues_in}
use Rattle.sm_solve.specs.declared.solving.Answer.{Answer}
use Rattle.sm_solve.specs.declared.solving.Answer.TheVariants as answers
use Rattle.sm_write.proofs.TreesStay.{trees_stay, trees_wider}
use Rattle.sm_houdini.specs.Outcomes.{Steps, TooMany}
use Rattle.sm_houdini.proofs.LoopLemmas.{taken}
use Rattle.sm_houdini.proofs.ClosingLemmas.{due_stays}
use Rattle.sm_houdini.proofs.SimpleWritable.{certified_append}
use Rattle.sm_houdini.proofs.TotalsLemmas.{different}

pub within_append : (n : ℕ) (xs ys : List CertTree) → AreTreesWithin n xs → AreTreesWithin n ys → AreTreesWithin n (xs ++ ys)
within_append n [] ys a b = b
within_append n (x ∷ xs) ys a b = (a.0, within_append n xs ys a.1 b)

pub short_append : (cs es : List Certificate) → AreShort cs → AreShort es → AreShort (cs ++ es)
short_append [] es a b = b
short_append (c ∷ cs) es a b = (a.0, short_append cs es a.1 b)

-- what is collected stays while the table widens
pub collected_stays : (v w : TableValue) → ExtendsTable v w → (goals : List (List Assertion × Assertion)) (trees : List CertTree) →
    AreCollected v goals trees → AreCollected w goals trees
collected_stays v w wider goals trees c =
    let same = sym (trees_stay v w wider trees c.within) in
    record {
      within = trees_wider v w wider trees c.within;
      certified = subst (λ (s : Sorts). AreCertified s goals (map (certificate_in (trees_in w)) trees)) (sym wider.sorts)
          (subst (AreCertified (sorts_in v) goals) same c.certified);
      short = subst AreShort same c.short;
    }

-- one certificate more
pub collected_more : (v w : TableValue) → ExtendsTable v w → (goals : List (List Assertion × Assertion)) (trees new : List CertTree)
    (facts : List Assertion) (goal : Assertion) (tree : CertTree) → new ≡ trees ++ tree ∷ [] → AreCollected v goals trees →
    AreLinesWithin (length (trees_in w)) (lines_of tree) →
    Closes (sorts_in v) (as_facts (facts ++ negate goal ∷ [])) (certificate_in (trees_in w) tree) →
    EachTerm (IsOneOf (terms_walked facts goal)) (certificate_in (trees_in w) tree) →
    IsShort (certificate_in (trees_in w) tree) → AreCollected w (goals ++ (facts, goal) ∷ []) new
collected_more v w wider goals trees new facts goal tree is before within closes names short =
    let c = collected_stays v w wider goals trees before in
    let certified : IsCertified (sorts_in w) facts goal (certificate_in (trees_in w) tree) = (
      subst (λ (s : Sorts). Closes s (as_facts (facts ++ negate goal ∷ [])) (certificate_in (trees_in w) tree))
          (sym wider.sorts) closes,
      names,
    ) in
    let both : map (certificate_in (trees_in w)) (trees ++ tree ∷ [])
    ≡ map (certificate_in (trees_in w)) trees ++ certificate_in (trees_in w) tree ∷ [] = map-append (certificate_in (trees_in w)) trees
    (tree ∷ []) in
    subst (AreCollected w (goals ++ (facts, goal) ∷ [])) (sym is) (record {
      within = within_append (length (trees_in w)) trees (tree ∷ []) c.within (within, tt);
      certified = subst (AreCertified (sorts_in w) (goals ++ (facts, goal) ∷ [])) (sym both)
          (certified_append (sorts_in w) goals ((facts, goal) ∷ []) _ _ c.certified (certified, tt));
      short = subst AreShort (sym both) (short_append _ _ c.short (short, tt));
    })

-- formulas over a table
map_count : {X Y : Type 0} (F : X → Y) (xs : List X) → length (map F xs) ≡ length xs
map_count F [] = refl
map_count F (x ∷ xs) = ap suc (map_count F xs)

-- lists over a table, one item further
pub further : {X Y : Type 0} (F : X → Y) (xs : List X) (i : ℕ) (x : X) → i < length xs → x ≡ get_or xs i x →
    drop i (map F xs) ≡ F x ∷ drop (i + 1) (map F xs)
further {X} {Y} F xs i x h e =
    drop-map F i xs ∙ ap (map F) (drop_more xs i x h ∙ ap (λ (y : X). y ∷ drop (i + 1) xs) (sym e))
    ∙ ap (λ (l : List Y). F x ∷ l) (sym (drop-map F (i + 1) xs))

pub longer : {X Y : Type 0} (F : X → Y) (xs : List X) (i : ℕ) (x : X) → i < length xs → x ≡ get_or xs i x →
    take (i + 1) (map F xs) ≡ take i (map F xs) ++ F x ∷ []
longer {X} {Y} F xs i x h e =
    take-map F (i + 1) xs ∙ ap (map F) (taken xs i x h e) ∙ map-append F (take i xs) (x ∷ [])
    ∙ ap (λ (l : List Y). l ++ F x ∷ []) (sym (take-map F i xs))

-- a goal that closes, with its certificate behind the others
pub goal_ends : (v w : TableValue) → ExtendsTable v w → (reach : Reach) (node at : ℕ) (facts : List Formula) (goal : Formula)
    (a : Answer) (tree : CertTree) (given : List Formula) → given ≡ facts → AreFormsReady (sorts_in v) (trees_in v) facts →
    Tells (sorts_in v) (trees_in w) a
    (walk (sorts_in v) reach (assertions_in (sorts_in v) (trees_in v) (all_numbered given)) (assertion_in (sorts_in v) (trees_in v)
    (numbered goal))) →
    Certifies (sorts_in v) (trees_in w) (assertions_in (sorts_in v) (trees_in v) (all_numbered given))
    (assertion_in (sorts_in v) (trees_in v) (numbered goal)) a →
    NamesOnly (terms_walked (assertions_in (sorts_in v) (trees_in v) (all_numbered given)) (assertion_in (sorts_in v) (trees_in v)
    (numbered goal)))
    (trees_in w) a →
    a ≡ answers.Closed tree → IsShort (certificate_in (trees_in w) tree) →
    (goals : List (List Assertion × Assertion)) (old new : List CertTree) → new ≡ old ++ tree ∷ [] → AreCollected v goals old →
    GoalCloses node at (walk (sorts_in v) reach (forms_in (sorts_in v) (trees_in v) facts) (assertion_in (sorts_in v) (trees_in v)
    (numbered goal)))
    × AreCollected w (goals ++ (forms_in (sorts_in v) (trees_in v) facts, assertion_in (sorts_in v) (trees_in v) (numbered goal)) ∷ []) new
goal_ends v w wider reach node at facts goal a tree given same ready tells certifies names closed short goals old new is before =
    let sorts = sorts_in v in let ts = trees_in v in
    let fs = forms_in sorts ts facts in
    let g = assertion_in sorts ts (numbered goal) in
    let as_forms : assertions_in sorts ts (all_numbered given) ≡ fs = ap (λ (l : List Formula). assertions_in sorts ts
    (all_numbered l)) same ∙ forms_same sorts ts facts in
    let told = subst (λ (b : Answer). Tells sorts (trees_in w) b (walk sorts reach fs g)) closed
    (subst (λ (l : List Assertion). Tells sorts (trees_in w) a (walk sorts reach l g)) as_forms tells) in
    let shows = subst (λ (b : Answer). Certifies sorts (trees_in w) fs g b) closed
    (subst (λ (l : List Assertion). Certifies sorts (trees_in w) l g a) as_forms certifies) in
    let named = subst (λ (b : Answer). NamesOnly (terms_walked fs g) (trees_in w) b) closed
    (subst (λ (l : List Assertion). NamesOnly (terms_walked l g) (trees_in w) a) as_forms names) in (
      (λ (later : Outcome (ℕ × Verdict)). ap (λ (x : Walked). goal_outcome node at x later) told.1),
      collected_more v w wider goals old new fs g tree is before shows.0 shows.1 named short,
    )

-- a goal that stops the search
pub goal_stopped : (v w : TableValue) (reach : Reach) (node at : ℕ) (facts : List Formula) (goal : Formula) (a : Answer) (s : Stop)
    (given : List Formula) → given ≡ facts →
    Tells (sorts_in v) (trees_in w) a
    (walk (sorts_in v) reach (assertions_in (sorts_in v) (trees_in v) (all_numbered given)) (assertion_in (sorts_in v) (trees_in v)
    (numbered goal))) →
    ((sorts : Sorts) (trees : List Tree) (x : Walked) → Tells sorts trees a x → GoalStops node at x s) →
    GoalStops node at (walk (sorts_in v) reach (forms_in (sorts_in v) (trees_in v) facts) (assertion_in (sorts_in v) (trees_in v)
    (numbered goal))) s
goal_stopped v w reach node at facts goal a s given same tells stops =
    let sorts = sorts_in v in let ts = trees_in v in
    let g = assertion_in sorts ts (numbered goal) in
    let as_forms : assertions_in sorts ts (all_numbered given) ≡ forms_in sorts ts facts =
    ap (λ (l : List Formula). assertions_in sorts ts (all_numbered l)) same ∙ forms_same sorts ts facts in
    stops sorts (trees_in w) (walk sorts reach (forms_in sorts ts facts) g)
    (subst (λ (l : List Assertion). Tells sorts (trees_in w) a (walk sorts reach l g)) as_forms tells)

-- a goal of what a node asks, over a wider table
goal_stays : (v u : TableValue) → ExtendsTable v u → (fs : List Formula) (i : ℕ) (f : Formula) → AreFormsReady (sorts_in v) (trees_in v) fs →
    i < length fs → f ≡ get_or fs i f →
    assertion_in (sorts_in u) (trees_in u) (numbered f) ≡ assertion_in (sorts_in v) (trees_in v) (numbered f)
goal_stays v u wider fs i f ready h e = widened.assertion_stays v u wider (numbered f) (ready_at (sorts_in v)
    (trees_in v) fs i f ready h e).0

-- the goals so far and one more, which closes
pub goal_next : (v u w : TableValue) → ExtendsTable v u → (reach : Reach) (first i at : ℕ) (d : program.Due) (asks : List Formula) (f : Formula) →
    AreFormsReady (sorts_in v) (trees_in v) d.facts.list.items → AreFormsReady (sorts_in v) (trees_in v) asks →
    i < length asks → f ≡ get_or asks i f → at ≡ first + i →
    (goals : List (List Assertion × Assertion)) (new : List CertTree) →
    (GoalCloses d.node at (walk (sorts_in u) reach (forms_in (sorts_in u) (trees_in u) d.facts.list.items) (assertion_in (sorts_in u)
    (trees_in u) (numbered f)))
    × AreCollected w ((goals ++ goals_with (due_in (sorts_in v) (trees_in v) d).facts (take i (forms_in (sorts_in v) (trees_in v) asks)))
    ++ (forms_in (sorts_in u) (trees_in u) d.facts.list.items, assertion_in (sorts_in u) (trees_in u) (numbered f)) ∷ []) new) →
    GoalCloses d.node (first + i) (walk (sorts_in v) reach (forms_in (sorts_in v) (trees_in v) d.facts.list.items) (assertion_in
    (sorts_in v) (trees_in v) (numbered f)))
    × AreCollected w (goals ++ goals_with (due_in (sorts_in v) (trees_in v) d).facts (take (i + 1) (forms_in (sorts_in v)
    (trees_in v) asks))) new
goal_next v u w wider reach first i at d asks f known ready h e same goals new both =
    let facts = widened.forms_stay v u wider d.facts.list.items known in
    let goal = goal_stays v u wider asks i f ready h e in
    let fs = forms_in (sorts_in v) (trees_in v) d.facts.list.items in
    let gs = forms_in (sorts_in v) (trees_in v) asks in
    let g = assertion_in (sorts_in v) (trees_in v) (numbered f) in
    let front = longer (λ (x : Formula). assertion_in (sorts_in v) (trees_in v) (numbered x)) asks i f h e in
    let moved : (goals ++ goals_with fs (take i gs)) ++ (
      forms_in (sorts_in u) (trees_in u) d.facts.list.items,
      assertion_in
          (sorts_in u) (trees_in u) (numbered f),
    ) ∷ []
    ≡ goals ++ goals_with fs (take (i + 1) gs) =
    (λ k. (goals ++ goals_with fs (take i gs)) ++ (facts k, goal k) ∷ [])
    ∙ append_assoc goals (goals_with fs (take i gs)) ((fs, g) ∷ [])
    ∙ ap (λ (l : List (List Assertion × Assertion)). goals ++ l)
    (sym (map-append (λ (x : Assertion). (fs, x)) (take i gs) (g ∷ [])) ∙ ap (goals_with fs) (sym front)) in (
      (λ (later : Outcome (ℕ × Verdict)).
          sym (λ k. goal_outcome d.node (same k) (walk (wider.sorts k) reach (facts k) (goal k)) later) ∙ both.0 later),
      subst (λ (l : List (List Assertion × Assertion)). AreCollected w l new) moved both.1,
    )

pub goal_left : (sorts : Sorts) (trees : List Tree) (reach : Reach) (first i : ℕ) (d : program.Due) (asks : List Formula) (f : Formula) →
    i < length asks → f ≡ get_or asks i f →
    GoalCloses d.node (first + i) (walk sorts reach (forms_in sorts trees d.facts.list.items) (assertion_in sorts trees (numbered f))) →
    (later : Outcome (ℕ × Verdict)) →
    goals_outcome (walk sorts reach (due_in sorts trees d).facts) d.node (first + i) (drop i (forms_in sorts trees asks)) later
    ≡ goals_outcome (walk sorts reach (due_in sorts trees d).facts) d.node (first + (i + 1)) (drop (i + 1)
    (forms_in sorts trees asks)) later
goal_left sorts trees reach first i d asks f h e closes later =
    let W = walk sorts reach (due_in sorts trees d).facts in
    let gs = forms_in sorts trees asks in
    let more : suc (first + i) ≡ first + (i + 1) = omega arith in
    ap (λ (l : List Assertion). goals_outcome W d.node (first + i) l later)
    (further (λ (x : Formula). assertion_in sorts trees (numbered x)) asks i f h e)
    ∙ closes (goals_outcome W d.node (suc (first + i)) (drop (i + 1) gs) later)
    ∙ ap (λ (n : ℕ). goals_outcome W d.node n (drop (i + 1) gs) later) more

-- a goal that a node asks stops the search where its walk over a wider table does
pub goal_stops : (v u : TableValue) → ExtendsTable v u → (reach : Reach) (first i at : ℕ) (d : program.Due) (asks : List Formula)
    (f : Formula) (s : Stop) →
    AreFormsReady (sorts_in v) (trees_in v) d.facts.list.items → AreFormsReady (sorts_in v) (trees_in v) asks →
    i < length asks → f ≡ get_or asks i f → at ≡ first + i →
    GoalStops d.node at (walk (sorts_in u) reach (forms_in (sorts_in u) (trees_in u) d.facts.list.items) (assertion_in (sorts_in u)
    (trees_in u) (numbered f))) s →
    (later : Outcome (ℕ × Verdict)) →
    goals_outcome (walk (sorts_in v) reach (due_in (sorts_in v) (trees_in v) d).facts) d.node (first + i) (drop i (forms_in
    (sorts_in v) (trees_in v) asks)) later
    ≡ stop_in s
goal_stops v u wider reach first i at d asks f s known ready h e same stops later =
    let facts = widened.forms_stay v u wider d.facts.list.items known in
    let goal = goal_stays v u wider asks i f ready h e in
    let W = walk (sorts_in v) reach (due_in (sorts_in v) (trees_in v) d).facts in
    let gs = forms_in (sorts_in v) (trees_in v) asks in
    let next = goals_outcome W d.node (suc (first + i)) (drop (i + 1) gs) later in
    ap (λ (l : List Assertion). goals_outcome W d.node (first + i) l later)
    (further (λ (x : Formula). assertion_in (sorts_in v) (trees_in v) (numbered x)) asks i f h e)
    ∙ sym (λ k. goal_outcome d.node (same k) (walk (wider.sorts k) reach (facts k) (goal k)) next) ∙ stops next

pub goal_passed : (v u w : TableValue) → ExtendsTable v u → (reach : Reach) (first i at : ℕ) (d : program.Due) (asks : List Formula)
    (f : Formula) →
    AreFormsReady (sorts_in v) (trees_in v) d.facts.list.items → AreFormsReady (sorts_in v) (trees_in v) asks →
    i < length asks → f ≡ get_or asks i f → at ≡ first + i →
    (goals : List (List Assertion × Assertion)) (new : List CertTree) (o : Option Stop) → is_some o ≡ false →
    MatchOption o
    (GoalCloses d.node at (walk (sorts_in u) reach (forms_in (sorts_in u) (trees_in u) d.facts.list.items) (assertion_in (sorts_in u)
    (trees_in u) (numbered f)))
    × AreCollected w ((goals ++ goals_with (due_in (sorts_in v) (trees_in v) d).facts (take i (forms_in (sorts_in v) (trees_in v) asks)))
    ++ (forms_in (sorts_in u) (trees_in u) d.facts.list.items, assertion_in (sorts_in u) (trees_in u) (numbered f)) ∷ []) new)
    (GoalStops d.node at (walk (sorts_in u) reach (forms_in (sorts_in u) (trees_in u) d.facts.list.items) (assertion_in (sorts_in u)
    (trees_in u) (numbered f)))) →
    GoalCloses d.node (first + i) (walk (sorts_in v) reach (forms_in (sorts_in v) (trees_in v) d.facts.list.items) (assertion_in
    (sorts_in v) (trees_in v) (numbered f)))
    × AreCollected w (goals ++ goals_with (due_in (sorts_in v) (trees_in v) d).facts (take (i + 1) (forms_in (sorts_in v)
    (trees_in v) asks))) new
goal_passed v u w wider reach first i at d asks f known ready h e same goals new None is both =
    goal_next v u w wider reach first i at d asks f known ready h e same goals new both
goal_passed v u w wider reach first i at d asks f known ready h e same goals new (Some s) is both = different is

pub goal_ended : (v u w : TableValue) → ExtendsTable v u → (reach : Reach) (first i at : ℕ) (d : program.Due) (asks : List Formula)
    (f : Formula) →
    AreFormsReady (sorts_in v) (trees_in v) d.facts.list.items → AreFormsReady (sorts_in v) (trees_in v) asks →
    i < length asks → f ≡ get_or asks i f → at ≡ first + i →
    (before goals : List (List Assertion × Assertion)) (new : List CertTree) →
    ((later : Outcome (ℕ × Verdict)) →
    goals_outcome (walk (sorts_in v) reach (due_in (sorts_in v) (trees_in v) d).facts) d.node first (forms_in (sorts_in v)
    (trees_in v) asks) later
    ≡ goals_outcome (walk (sorts_in v) reach (due_in (sorts_in v) (trees_in v) d).facts) d.node (first + i)
    (drop i (forms_in (sorts_in v) (trees_in v) asks)) later) →
    (o : Option Stop) → is_some o ≡ true →
    MatchOption o
    (GoalCloses d.node at (walk (sorts_in u) reach (forms_in (sorts_in u) (trees_in u) d.facts.list.items) (assertion_in (sorts_in u)
    (trees_in u) (numbered f)))
    × AreCollected w (before ++ (
      forms_in (sorts_in u) (trees_in u) d.facts.list.items,
      assertion_in (sorts_in u) (trees_in u)
          (numbered f),
    ) ∷ []) new)
    (GoalStops d.node at (walk (sorts_in u) reach (forms_in (sorts_in u) (trees_in u) d.facts.list.items) (assertion_in (sorts_in u)
    (trees_in u) (numbered f)))) →
    MatchOption o
    (RunCloses (walk (sorts_in v) reach) (due_in (sorts_in v) (trees_in v) d) first (forms_in (sorts_in v) (trees_in v) asks)
    × AreCollected w (goals ++ goals_with (due_in (sorts_in v) (trees_in v) d).facts (forms_in (sorts_in v) (trees_in v) asks)) new)
    (RunStops (walk (sorts_in v) reach) (due_in (sorts_in v) (trees_in v) d) first (forms_in (sorts_in v) (trees_in v) asks))
goal_ended v u w wider reach first i at d asks f known ready h e same before goals new closes None is both = different (sym is)
goal_ended v u w wider reach first i at d asks f known ready h e same before goals new closes (Some s) is stops =
    λ (later : Outcome (ℕ × Verdict)). closes later ∙ goal_stops v u wider reach first i at d asks f s known ready h e same stops later

-- all goals of the run
pub goals_done : (v w : TableValue) (reach : Reach) (first i : ℕ) (d : program.Due) (asks : List Formula) → length asks ≤ i →
    (goals : List (List Assertion × Assertion)) (new : List CertTree) →
    AreCollected w (goals ++ goals_with (due_in (sorts_in v) (trees_in v) d).facts (take i (forms_in (sorts_in v) (trees_in v) asks))) new →
    ((later : Outcome (ℕ × Verdict)) →
    goals_outcome (walk (sorts_in v) reach (due_in (sorts_in v) (trees_in v) d).facts) d.node first (forms_in (sorts_in v)
    (trees_in v) asks) later
    ≡ goals_outcome (walk (sorts_in v) reach (due_in (sorts_in v) (trees_in v) d).facts) d.node (first + i)
    (drop i (forms_in (sorts_in v) (trees_in v) asks)) later) →
    RunCloses (walk (sorts_in v) reach) (due_in (sorts_in v) (trees_in v) d) first (forms_in (sorts_in v) (trees_in v) asks)
    × AreCollected w (goals ++ goals_with (due_in (sorts_in v) (trees_in v) d).facts (forms_in (sorts_in v) (trees_in v) asks)) new
goals_done v w reach first i d asks h goals new collected closes =
    let W = walk (sorts_in v) reach (due_in (sorts_in v) (trees_in v) d).facts in
    let gs = forms_in (sorts_in v) (trees_in v) asks in
    let count = forms_long (sorts_in v) (trees_in v) asks in
    let past : length gs ≤ i = omega (arith, count, h) in (
      (λ (later : Outcome (ℕ × Verdict)).
          closes later ∙ ap (λ (l : List Assertion). goals_outcome W d.node (first + i) l later) (drop_all i gs past)),
      subst (λ (l : List Assertion). AreCollected w (goals ++ goals_with (due_in (sorts_in v) (trees_in v) d).facts l) new)
          (take_all i gs past) collected,
    )

-- an outcome is none that both follow
none_both : (o : Outcome (ℕ × Verdict)) → Accepted ≡ o → TooMany ≡ o → ⊥
none_both o first second = apart (first ∙ sym second)
  where
    is_accepted : Outcome (ℕ × Verdict) → Bool
    is_accepted Accepted = true
    is_accepted (Conflict v) = false
    is_accepted (Open node goal) = false
    is_accepted (Steps node goal) = false
    is_accepted (Coefficient node goal op y z) = false
    is_accepted TooMany = false

    apart : (let accepted : Outcome (ℕ × Verdict) = Accepted in accepted ≡ TooMany) → ⊥
    apart e = let same : true ≡ false = ap is_accepted e in absurd cc

-- goals at which a search stops are final where the others close
stops_final : (walk : List Assertion → Assertion → Walked) (d : Due) (s : Stop) → (d.is_final ≡ false → GoalsClose walk d) →
    GoalsStop walk d s → d.is_final ≡ true
stops_final walk d s inside stops = by d.is_final refl
  where
    by : (b : Bool) → d.is_final ≡ b → d.is_final ≡ true
    by true e = e
    by false e = absurd (none_both (stop_in s) (sym (inside e Accepted) ∙ stops Accepted) (sym (inside e TooMany) ∙ stops TooMany))

inside_at : (walk : List Assertion → Assertion → Walked) (ds rest : List Due) (i : ℕ) (d : Due) → AreInsideClosed walk ds →
    drop i ds ≡ d ∷ rest → d.is_final ≡ false → GoalsClose walk d
inside_at walk [] rest i d all e = absurd (no i e)
  where
    no : (i : ℕ) → drop i [] ≡ d ∷ rest → ⊥
    no zero e = absurd cc
    no (suc i) e = absurd cc
inside_at walk (x ∷ xs) rest zero d all e =
    subst (λ (y : Due). y.is_final ≡ false → GoalsClose walk y) (λ k. get_or (e k) 0 d) all.0
inside_at walk (x ∷ xs) rest (suc i) d all e = inside_at walk xs rest i d all.1 e

-- the goals of one more due
pub asked_more : (ds : List Due) (d : Due) → asked (ds ++ d ∷ []) ≡ asked ds ++ goals_with d.facts d.goals
asked_more [] d = none (goals_with d.facts d.goals)
  where
    none : (xs : List (List Assertion × Assertion)) → xs ++ [] ≡ xs
    none [] = refl
    none (x ∷ xs) = ap (λ (l : List (List Assertion × Assertion)). x ∷ l) (none xs)
asked_more (e ∷ ds) d =
    ap (λ (l : List (List Assertion × Assertion)). goals_with e.facts e.goals ++ l) (asked_more ds d)
    ∙ sym (append_assoc (goals_with e.facts e.goals) (asked ds) (goals_with d.facts d.goals))

-- what nodes ask, one more
passed_due : (b : Bool) (x later : Outcome (ℕ × Verdict)) → x ≡ later → (if b then x else later) ≡ later
passed_due true x later e = e
passed_due false x later e = refl

pub due_left : (v u : TableValue) → ExtendsTable v u → (reach : Reach) (i : ℕ) (ds : List program.Due) (d : program.Due) →
    AreDuesReady (sorts_in v) (trees_in v) ds → i < length ds → d ≡ get_or ds i d →
    GoalsClose (walk (sorts_in u) reach) (due_in (sorts_in u) (trees_in u) d) →
    (let whole : Outcome (ℕ × Verdict) = final_outcome (walk (sorts_in v) reach) (drop i (dues_in (sorts_in v) (trees_in v) ds)) in whole)
    ≡ final_outcome (walk (sorts_in v) reach) (drop (i + 1) (dues_in (sorts_in v) (trees_in v) ds))
due_left v u wider reach i ds d ready h e closes =
    let W = walk (sorts_in v) reach in
    let due = due_in (sorts_in v) (trees_in v) d in
    let parts = facts_at (sorts_in v) (trees_in v) ds i d ready h e in
    let same = due_stays v u wider d parts.0 parts.1 in
    let rest = drop (i + 1) (dues_in (sorts_in v) (trees_in v) ds) in
    let later = final_outcome W rest in
    ap (final_outcome W) (further (due_in (sorts_in v) (trees_in v)) ds i d h e)
    ∙ passed_due due.is_final (goals_outcome (W due.facts) due.node 0 due.goals later) later
    (sym (λ k. goals_outcome (walk (wider.sorts k) reach (same k).facts) (same k).node 0 (same k).goals later) ∙ closes later)

pub due_asked : (v u w : TableValue) → ExtendsTable v u → (i : ℕ) (ds : List program.Due) (d : program.Due) (new : List CertTree) →
    AreDuesReady (sorts_in v) (trees_in v) ds → i < length ds → d ≡ get_or ds i d →
    AreCollected w (asked (take i (dues_in (sorts_in v) (trees_in v) ds))
    ++ goals_with (due_in (sorts_in u) (trees_in u) d).facts (due_in (sorts_in u) (trees_in u) d).goals) new →
    AreCollected w (asked (take (i + 1) (dues_in (sorts_in v) (trees_in v) ds))) new
due_asked v u w wider i ds d new ready h e collected =
    let due = due_in (sorts_in v) (trees_in v) d in
    let parts = facts_at (sorts_in v) (trees_in v) ds i d ready h e in
    let same = due_stays v u wider d parts.0 parts.1 in
    let before = take i (dues_in (sorts_in v) (trees_in v) ds) in
    subst (λ (l : List (List Assertion × Assertion)). AreCollected w l new)
    ((λ k. asked before ++ goals_with (same k).facts (same k).goals)
    ∙ sym (asked_more before due) ∙ ap asked (sym (longer (due_in (sorts_in v) (trees_in v)) ds i d h e))) collected

pub due_stops : (v u : TableValue) → ExtendsTable v u → (reach : Reach) (i : ℕ) (ds : List program.Due) (d : program.Due) (s : Stop) →
    AreDuesReady (sorts_in v) (trees_in v) ds → i < length ds → d ≡ get_or ds i d →
    AreInsideClosed (walk (sorts_in v) reach) (dues_in (sorts_in v) (trees_in v) ds) →
    GoalsStop (walk (sorts_in u) reach) (due_in (sorts_in u) (trees_in u) d) s →
    final_outcome (walk (sorts_in v) reach) (drop i (dues_in (sorts_in v) (trees_in v) ds)) ≡ stop_in s
due_stops v u wider reach i ds d s ready h e all stops =
    let W = walk (sorts_in v) reach in
    let due = due_in (sorts_in v) (trees_in v) d in
    let parts = facts_at (sorts_in v) (trees_in v) ds i d ready h e in
    let same = due_stays v u wider d parts.0 parts.1 in
    let rest = drop (i + 1) (dues_in (sorts_in v) (trees_in v) ds) in
    let split = further (due_in (sorts_in v) (trees_in v)) ds i d h e in
    let here : GoalsStop W due s =
    λ (later : Outcome (ℕ × Verdict)).
    sym (λ k. goals_outcome (walk (wider.sorts k) reach (same k).facts) (same k).node 0 (same k).goals later) ∙ stops later in
    let final = stops_final W due s (inside_at W (dues_in (sorts_in v) (trees_in v) ds) rest i due all split) here in
    ap (final_outcome W) split
    ∙ ap (λ (b : Bool). if b then goals_outcome (W due.facts) due.node 0 due.goals (final_outcome W rest) else final_outcome W rest) final
    ∙ here (final_outcome W rest)

-- by what the node's goals came to
pub due_passed : (v u w : TableValue) → ExtendsTable v u → (reach : Reach) (i : ℕ) (ds : List program.Due) (d : program.Due) →
    AreDuesReady (sorts_in v) (trees_in v) ds → i < length ds → d ≡ get_or ds i d → (new : List CertTree) (o : Option Stop) →
    is_some o ≡ false →
    MatchOption o
    (GoalsClose (walk (sorts_in u) reach) (due_in (sorts_in u) (trees_in u) d)
    × AreCollected w (asked (take i (dues_in (sorts_in v) (trees_in v) ds))
    ++ goals_with (due_in (sorts_in u) (trees_in u) d).facts (due_in (sorts_in u) (trees_in u) d).goals) new)
    (GoalsStop (walk (sorts_in u) reach) (due_in (sorts_in u) (trees_in u) d)) →
    AreCollected w (asked (take (i + 1) (dues_in (sorts_in v) (trees_in v) ds))) new
    × (let whole : Outcome (ℕ × Verdict) = final_outcome (walk (sorts_in v) reach) (drop i (dues_in (sorts_in v) (trees_in v) ds)) in
    whole ≡ final_outcome (walk (sorts_in v) reach) (drop (i + 1) (dues_in (sorts_in v) (trees_in v) ds)))
due_passed v u w wider reach i ds d ready h e new None is both =
    (due_asked v u w wider i ds d new ready h e both.1, due_left v u wider reach i ds d ready h e both.0)
due_passed v u w wider reach i ds d ready h e new (Some s) is both = different is

pub due_ended : (v u w : TableValue) → ExtendsTable v u → (reach : Reach) (i : ℕ) (ds : List program.Due) (d : program.Due) →
    AreDuesReady (sorts_in v) (trees_in v) ds → i < length ds → d ≡ get_or ds i d →
    AreInsideClosed (walk (sorts_in v) reach) (dues_in (sorts_in v) (trees_in v) ds) →
    (before : List (List Assertion × Assertion)) (new : List CertTree) →
    (let whole : Outcome (ℕ × Verdict) = final_outcome (walk (sorts_in v) reach) (dues_in (sorts_in v) (trees_in v) ds) in
    whole ≡ final_outcome (walk (sorts_in v) reach) (drop i (dues_in (sorts_in v) (trees_in v) ds))) →
    (o : Option Stop) → is_some o ≡ true →
    MatchOption o
    (GoalsClose (walk (sorts_in u) reach) (due_in (sorts_in u) (trees_in u) d)
    × AreCollected w (before ++ goals_with (due_in (sorts_in u) (trees_in u) d).facts (due_in (sorts_in u) (trees_in u) d).goals) new)
    (GoalsStop (walk (sorts_in u) reach) (due_in (sorts_in u) (trees_in u) d)) →
    MatchOption o
    (FinalCloses (walk (sorts_in v) reach) (dues_in (sorts_in v) (trees_in v) ds)
    × AreCollected w (asked (dues_in (sorts_in v) (trees_in v) ds)) new)
    (FinalStops (walk (sorts_in v) reach) (dues_in (sorts_in v) (trees_in v) ds))
due_ended v u w wider reach i ds d ready h e inside before new closes None is both = different (sym is)
due_ended v u w wider reach i ds d ready h e inside before new closes (Some s) is stops =
    closes ∙ due_stops v u wider reach i ds d s ready h e inside stops

-- the end of a run of goals, over a wider table
abbrev pub Ended : (sorts : Sorts) (reach : Reach) (node first : ℕ) (facts run : List Assertion) → TableValue →
    List (List Assertion × Assertion) → List CertTree →
    Option Stop → Type 0
Ended sorts reach node first facts run x goals new o =
    MatchOption o
    (((later : Outcome (ℕ × Verdict)) → goals_outcome (walk sorts reach facts) node first run later ≡ later)
    × AreCollected x (goals ++ goals_with facts run) new)
    (λ (s : Stop). (later : Outcome (ℕ × Verdict)) → goals_outcome (walk sorts reach facts) node first run later ≡ stop_in s)

pub run_over : (v w x : TableValue) → ExtendsTable v w → (reach : Reach) (first : ℕ) (d : program.Due) (asks : List Formula) →
    AreFormsReady (sorts_in v) (trees_in v) d.facts.list.items → AreFormsReady (sorts_in v) (trees_in v) asks →
    (goals : List (List Assertion × Assertion)) (old new : List CertTree) (r : Result (Option Stop) AllocError) →
    (AreCollected w goals old → IfOk r (λ o. MatchOption o
    (RunCloses (walk (sorts_in w) reach) (due_in (sorts_in w) (trees_in w) d) first (forms_in (sorts_in w) (trees_in w) asks)
    × AreCollected x (goals ++ goals_with (due_in (sorts_in w) (trees_in w) d).facts (forms_in (sorts_in w) (trees_in w) asks)) new)
    (RunStops (walk (sorts_in w) reach) (due_in (sorts_in w) (trees_in w) d) first (forms_in (sorts_in w) (trees_in w) asks)))) →
    AreCollected v goals old → IfOk r (λ o. MatchOption o
    (RunCloses (walk (sorts_in v) reach) (due_in (sorts_in v) (trees_in v) d) first (forms_in (sorts_in v) (trees_in v) asks)
    × AreCollected x (goals ++ goals_with (due_in (sorts_in v) (trees_in v) d).facts (forms_in (sorts_in v) (trees_in v) asks)) new)
    (RunStops (walk (sorts_in v) reach) (due_in (sorts_in v) (trees_in v) d) first (forms_in (sorts_in v) (trees_in v) asks)))
run_over v w x wider reach first d asks known ready goals old new r h before =
    let facts = widened.forms_stay v w wider d.facts.list.items known in
    let run = widened.forms_stay v w wider asks ready in
    let fs = forms_in (sorts_in v) (trees_in v) d.facts.list.items in
    let gs = forms_in (sorts_in v) (trees_in v) asks in
    subst (λ (s : Sorts). IfOk r (Ended s reach d.node first fs gs x goals new)) wider.sorts
    (subst (λ (l : List Assertion). IfOk r (Ended (sorts_in w) reach d.node first l gs x goals new)) facts
    (subst (λ (l : List Assertion).
    IfOk r (Ended (sorts_in w) reach d.node first (forms_in (sorts_in w) (trees_in w) d.facts.list.items) l x goals new)) run
    (h (collected_stays v w wider goals old before))))
