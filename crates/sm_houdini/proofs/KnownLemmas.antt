-- What a round tells of the goals that the next one asks.
use Rattle.sm_houdini.proofs.Imports.{◌≡◌, ℕ, zero, suc, ◌+◌, ◌==◌, ◌<◌, ◌≤◌, Bool, true, false, not, ◌&&◌, ◌||◌, ◌⊎◌, inl, inr, option_map, List, [], ◌∷◌, ◌++◌, length, get_or, refl, sym, ap, ◌∙◌, subst, arith, list_all, Vec, IfSome, Global, length-map, and_parts, or_right, nat_tests, Sorts, Assertion, NumberedFormula, numbered, assertion_in, Formula, TableValue, trees_in, sorts_in, ExtendsTable, Tree, AreFormsReady, forms_in, due_in, AreDuesReady, dues_stay, dues_ready, Choice, all_numbered, Reach, Asked, closing, closes_at, stays_at, owner_in, IsAsked, IsAskedBefore, AreKnown, ClosesAll, is_flagged, marked, all_marked, is_there, has_mark, rows, Marked, is_site, closes_if, holds_at, itself}
use Rattle.std.proofs.Common.{Option, Some, None, map, slice_get}
use Rattle.sm_plan.specs.Plans as plain
use Rattle.sm_expand.specs.Views.{dues_in}
use Rattle.sm_expand.specs.declared.due.Due.{Due}
use Rattle.sm_houdini.proofs.ClosingLemmas.{closes_stays}
use Rattle.sm_houdini.proofs.LoopLemmas.{get_any}
use Rattle.sm_houdini.proofs.MarkedLemmas.{all_same}

-- a mark that is there passes
there_passes : (p : ℕ → Bool) (j : ℕ) (ns : List ℕ) (i : ℕ) → is_there (slice_get (marked p j ns) i) ≡ true → p (j + i) ≡ true
there_passes p j [] i e = absurd cc
there_passes p j (n ∷ ns) zero e = let same : j ≡ j + 0 = omega arith in sym (ap p same) ∙ e
there_passes p j (n ∷ ns) (suc i) e =
    let same : suc j + i ≡ j + suc i = omega arith in sym (ap p same) ∙ there_passes p (suc j) ns i e

has_passes : (p : ℕ → ℕ → Bool) (r : ℕ) (c : Choice) (s i : ℕ) → has_mark (all_marked p r c) s i ≡ true → p (r + s) i ≡ true
has_passes p r [] s i e = absurd cc
has_passes p r (ns ∷ c) zero i e =
    let same : r ≡ r + 0 = omega arith in
    let none : 0 + i ≡ i = omega arith in
    sym (ap (λ (k : ℕ). p k i) same) ∙ sym (ap (p r) none) ∙ there_passes (p r) 0 ns i e
has_passes p r (ns ∷ c) (suc s) i e =
    let same : suc r + s ≡ r + suc s = omega arith in sym (ap (λ (k : ℕ). p k i) same) ∙ has_passes p (suc r) c s i e

-- what a round asked, where its marks are those of the templates whose goals all close
pub round_asked : (v : TableValue) (reach : Reach) (owners : List (Option ℕ)) (a : Asked) (choice : Choice) →
    AreDuesReady (sorts_in v) (trees_in v) a.dues.items →
    rows a.marks.sites.items ≡ all_marked (holds_at (closing (sorts_in v) reach) (owner_in owners)
    (dues_in (sorts_in v) (trees_in v) a.dues.items)) 0 choice → IsAsked v reach owners a
round_asked v reach owners a choice ready e = record {
  ready = ready;
  closed = λ s i there.
      let passes = holds_at (closing (sorts_in v) reach) (owner_in owners) (dues_in (sorts_in v) (trees_in v) a.dues.items) in
      let none : 0 + s ≡ s = omega arith in
      sym (ap (λ (k : ℕ). passes k i) none)
      ∙ has_passes passes 0 choice s i (sym (ap (λ (rs : List (List Marked)). has_mark rs s i) e) ∙ there);
}

-- so it is over a wider table
pub asked_stays : (v w : TableValue) → ExtendsTable v w → (reach : Reach) (owners : List (Option ℕ)) (o : Option Asked) →
    IsAskedBefore v reach owners o → IsAskedBefore w reach owners o
asked_stays v w wider reach owners None h = h
asked_stays v w wider reach owners (Some a) h =
    let same = dues_stay v w wider a.dues.items h.ready in
    record {
      ready = dues_ready v w wider a.dues.items h.ready;
      closed = λ s i there.
          (λ k. holds_at (closing (wider.sorts k) reach) (owner_in owners) (same k) s i) ∙ h.closed s i there;
    }

-- what one of the nodes asked closes where its owner is a site with the mark
all_at : {X : Type 0} (p : X → Bool) (xs : List X) (k : ℕ) (d : X) → list_all p xs ≡ true → k < length xs → p (get_or xs k d) ≡ true
all_at {X} p [] k d e h = absurd (let no : k < 0 = h in omega arith)
all_at {X} p (x ∷ xs) zero d e h = (and_parts (p x) (list_all p xs) e).0
all_at {X} p (x ∷ xs) (suc k) d e h =
    let less : k < length xs = omega (arith, h) in all_at p xs k d (and_parts (p x) (list_all p xs) e).1 less

owned_closes : (sorts : Sorts) (reach : Reach) (owner : plain.Due → Option ℕ) (d : plain.Due) (s i : ℕ) → owner d ≡ Some s →
    (not (is_site (owner d) s) || closes_if (closing sorts reach d.facts) (slice_get d.goals i)) ≡ true →
    closes_at sorts reach d i ≡ true
owned_closes sorts reach owner d s i owned e =
    let here : is_site (owner d) s ≡ true = ap (λ (o : Option ℕ). is_site o s) owned ∙ itself s in
    sym (ap (λ (b : Bool). not b || closes_at sorts reach d i) here) ∙ e

get_dues : (sorts : Sorts) (trees : List Tree) (ds : List Due) (k : ℕ) (d : Due) (x : plain.Due) → k < length ds →
    get_or (dues_in sorts trees ds) k x ≡ due_in sorts trees (get_or ds k d)
get_dues sorts trees [] k d x h = absurd (let no : k < 0 = h in omega arith)
get_dues sorts trees (e ∷ ds) zero d x h = refl
get_dues sorts trees (e ∷ ds) (suc k) d x h = let less : k < length ds = omega (arith, h) in get_dues sorts trees ds k d x less

dues_length : (sorts : Sorts) (trees : List Tree) (ds : List Due) → length (dues_in sorts trees ds) ≡ length ds
dues_length sorts trees [] = refl
dues_length sorts trees (d ∷ ds) = ap suc (dues_length sorts trees ds)

found_at : {X : Type 0} (xs : List X) (k : ℕ) (x : X) → slice_get xs k ≡ Some x → (k < length xs) × (get_or xs k x ≡ x)
found_at {X} [] k x e = absurd cc
found_at {X} (y ∷ xs) zero x e = (omega arith, some_same y x e)
  where
    some_same : (y x : X) → slice_get (y ∷ xs) 0 ≡ Some x → y ≡ x
    some_same y x e = ap (λ (o : Option X). get_some y o) e
      where
        get_some : X → Option X → X
        get_some d None = d
        get_some d (Some z) = z
found_at {X} (y ∷ xs) (suc k) x e =
    let rest = found_at xs k x e in let less = rest.0 in (omega (arith, less), rest.1)

mark_row : (vs : List (Vec Marked Global)) (s i : ℕ) (m : Vec Marked Global) → slice_get vs s ≡ Some m →
    has_mark (rows vs) s i ≡ is_there (slice_get m.items i)
mark_row [] s i m e = absurd cc
mark_row (v ∷ vs) zero i m e = ap (λ (o : Option (Vec Marked Global)). is_there (slice_get (items_in v o).items i)) e
  where
    items_in : Vec Marked Global → Option (Vec Marked Global) → Vec Marked Global
    items_in d None = d
    items_in d (Some w) = w
mark_row (v ∷ vs) (suc s) i m e = mark_row vs s i m e

-- a goal that a round asked of a node closes, where the mark of its template stayed
pub asked_closes : (v : TableValue) (reach : Reach) (owners : List (Option ℕ)) (a : Asked) (k : ℕ) (old : Due) (site : ℕ)
    (m : Vec Marked Global) → IsAsked v reach owners a → slice_get a.dues.items k ≡ Some old →
    owner_in owners (due_in (sorts_in v) (trees_in v) old) ≡ Some site → slice_get a.marks.sites.items site ≡ Some m →
    (j : ℕ) → is_there (slice_get m.items j) ≡ true → closes_at (sorts_in v) reach (due_in (sorts_in v) (trees_in v) old) j ≡ true
asked_closes v reach owners a k old site m asked there owned row j marked =
    let sorts = sorts_in v in
    let trees = trees_in v in
    let found = found_at a.dues.items k old there in
    let x = due_in sorts trees old in
    let less = found.0 in
    let count = dues_length sorts trees a.dues.items in
    let inside : k < length (dues_in sorts trees a.dues.items) = omega (arith, less, count) in
    let same : get_or (dues_in sorts trees a.dues.items) k x ≡ x =
    get_dues sorts trees a.dues.items k old x less ∙ ap (due_in sorts trees) found.1 in
    let all = asked.closed site j (mark_row a.marks.sites.items site j m row ∙ marked) in
    let p = λ (d : plain.Due). not (is_site (owner_in owners d) site) || closes_if (closing sorts reach d.facts) (slice_get d.goals j) in
    owned_closes sorts reach (owner_in owners) x site j owned
    (sym (ap p same) ∙ all_at p (dues_in sorts trees a.dues.items) k x all inside)

and_held : (a b : Bool) → b ≡ true → a ≡ (a && b)
and_held true b e = sym e
and_held false b e = refl

pub known_judged : (sorts : Sorts) (reach : Reach) (passes : ℕ → ℕ → Bool) (owners : List (Option ℕ)) (d : plain.Due)
    (choice : Choice) (rs : List (List Marked)) → ((i : ℕ) → closes_at sorts reach d i ≡ true) → rs ≡ all_marked passes 0 choice →
    rs ≡ all_marked (λ (s i : ℕ). passes s i && stays_at sorts reach (owner_in owners) d s i) 0 choice
known_judged sorts reach passes owners d choice rs known e =
    e ∙ all_same passes (λ (s i : ℕ). passes s i && stays_at sorts reach (owner_in owners) d s i) 0 choice
    (λ (s i : ℕ) (l : 0 ≤ s).
    and_held (passes s i) (stays_at sorts reach (owner_in owners) d s i)
    (or_right (not (is_site (owner_in owners d) s)) (closes_at sorts reach d i) (known i)))

-- goals that are the same over the same facts
forms_are : (sorts : Sorts) (trees : List Tree) (fs : List Formula) →
    forms_in sorts trees fs ≡ map (assertion_in sorts trees) (all_numbered fs)
forms_are sorts trees [] = refl
forms_are sorts trees (f ∷ fs) = ap (λ (l : List Assertion). assertion_in sorts trees (numbered f) ∷ l) (forms_are sorts trees fs)

get_map : {X : Type 0} (f : X → Assertion) (xs : List X) (i : ℕ) (p : Assertion → Bool) →
    ((x : X) → slice_get xs i ≡ Some x → p (f x) ≡ true) → closes_if p (slice_get (map f xs) i) ≡ true
get_map {X} f [] i p h = refl
get_map {X} f (x ∷ xs) zero p h = h x refl
get_map {X} f (x ∷ xs) (suc i) p h = get_map f xs i p h

get_back : {X : Type 0} (f : X → Assertion) (xs : List X) (i : ℕ) (p : Assertion → Bool) (x : X) → slice_get xs i ≡ Some x →
    closes_if p (slice_get (map f xs) i) ≡ true → p (f x) ≡ true
get_back {X} f [] i p x e h = absurd cc
get_back {X} f (y ∷ xs) zero p x e h = sym (ap (λ (o : Option X). closes_if p (option_map f o)) e) ∙ h
get_back {X} f (y ∷ xs) (suc i) p x e h = get_back f xs i p x e h

-- a node asks again what it asked before, of the same facts
pub asked_again : (sorts : Sorts) (trees : List Tree) (reach : Reach) (new old : Due) (marks : List Marked) →
    all_numbered new.facts.list.items ≡ all_numbered old.facts.list.items →
    ((closes : NumberedFormula → Bool) →
    ((j : ℕ) (g : NumberedFormula) → is_there (slice_get marks j) ≡ true → slice_get (all_numbered old.targets.list.items) j ≡ Some g →
    closes g ≡ true) →
    (i : ℕ) (g : NumberedFormula) → slice_get (all_numbered new.targets.list.items) i ≡ Some g → closes g ≡ true) →
    ((j : ℕ) → is_there (slice_get marks j) ≡ true → closes_at sorts reach (due_in sorts trees old) j ≡ true) →
    (i : ℕ) → closes_at sorts reach (due_in sorts trees new) i ≡ true
asked_again sorts trees reach new old marks facts among before i =
    let given = forms_in sorts trees new.facts.list.items in
    let same : given ≡ forms_in sorts trees old.facts.list.items =
    forms_are sorts trees new.facts.list.items ∙ ap (map (assertion_in sorts trees)) facts ∙ sym (forms_are sorts trees old.facts.list.items) in
    let closes = λ (g : NumberedFormula). closing sorts reach given (assertion_in sorts trees g) in
    ap (λ (gs : List Assertion). closes_if (closing sorts reach given) (slice_get gs i)) (forms_are sorts trees new.targets.list.items)
    ∙ get_map (assertion_in sorts trees) (all_numbered new.targets.list.items) i (closing sorts reach given)
    (λ (g : NumberedFormula) (there : slice_get (all_numbered new.targets.list.items) i ≡ Some g).
    among closes
    (λ (j : ℕ) (h : NumberedFormula) (marked : is_there (slice_get marks j) ≡ true)
    (at : slice_get (all_numbered old.targets.list.items) j ≡ Some h).
    get_back (assertion_in sorts trees) (all_numbered old.targets.list.items) j (closing sorts reach given) h at
    (sym (ap (λ (gs : List Assertion). closes_if (closing sorts reach given) (slice_get gs j)) (forms_are sorts trees old.targets.list.items))
    ∙ ap (λ (fs : List Assertion). closes_if (closing sorts reach fs) (slice_get (forms_in sorts trees old.targets.list.items) j)) same
    ∙ before j marked))
    i g there)

-- the formula that is found next
pub found_next : (list others : List Formula) (found at : ℕ) (closes : NumberedFormula → Bool) (marks : List Marked) →
    found < length list → is_there (slice_get marks at) ≡ true →
    slice_get (all_numbered list) found ≡ slice_get (all_numbered others) at →
    ((j : ℕ) (g : NumberedFormula) → is_there (slice_get marks j) ≡ true → slice_get (all_numbered others) j ≡ Some g → closes g ≡ true) →
    ((i : ℕ) (g : NumberedFormula) → i < found → slice_get (all_numbered list) i ≡ Some g → closes g ≡ true) →
    (i : ℕ) (g : NumberedFormula) → i < found + 1 → slice_get (all_numbered list) i ≡ Some g → closes g ≡ true
found_next list others found at closes marks inside marked same all before i g h e = by (i == found) refl
  where
    by : (b : Bool) → (i == found) ≡ b → closes g ≡ true
    by true f =
        let here : i ≡ found = grind (arith, nat_tests, f) in
        all at g marked (sym same ∙ ap (λ (k : ℕ). slice_get (all_numbered list) k) (sym here) ∙ e)
    by false f = let less : i < found = grind (arith, nat_tests, f, h) in before i g less e

-- what is found at a place is before the end
pub found_inside : (list : List Formula) (i : ℕ) (g : NumberedFormula) → slice_get (all_numbered list) i ≡ Some g → i < length list
found_inside list i g e =
    let count = length-map list numbered in
    let inside = (found_at (all_numbered list) i g e).0 in omega (arith, inside, count)

pub flags_put : (v : TableValue) (reach : Reach) (ds : List Due) (new old : List Bool) (at : ℕ) (b : Bool) (d : Due) →
    new ≡ old ++ b ∷ [] → length old ≡ at → d ≡ get_or ds at d →
    (b ≡ true → ClosesAll v reach d) → AreKnown v reach ds old → AreKnown v reach ds new
flags_put v reach ds new old at b d is count here known before = record {
  closes = λ k x h flag. by k x h (flag_at old k b (sym (ap (λ (l : List Bool). is_flagged l k) is) ∙ flag));
}
  where
    flag_at : (l : List Bool) (k : ℕ) (b : Bool) → is_flagged (l ++ b ∷ []) k ≡ true →
        (is_flagged l k ≡ true) ⊎ ((k ≡ length l) × (b ≡ true))
    flag_at [] zero b e = inr (refl, e)
    flag_at [] (suc k) b e = absurd cc
    flag_at (a ∷ l) zero b e = inl e
    flag_at (a ∷ l) (suc k) b e = more (flag_at l k b e)
      where
        more : (is_flagged l k ≡ true) ⊎ ((k ≡ length l) × (b ≡ true)) →
            (is_flagged l k ≡ true) ⊎ ((suc k ≡ suc (length l)) × (b ≡ true))
        more (inl f) = inl f
        more (inr p) = inr (ap suc p.0, p.1)

    by : (k : ℕ) (x : Due) → k < length ds → (is_flagged old k ≡ true) ⊎ ((k ≡ length old) × (b ≡ true)) →
        ClosesAll v reach (get_or ds k x)
    by k x h (inl f) = before.closes k x h f
    by k x h (inr p) =
        let place : at ≡ k = sym count ∙ sym p.0 in
        let same : get_or ds k x ≡ d = get_any ds k x d h ∙ ap (λ (n : ℕ). get_or ds n d) (sym place) ∙ sym here in
        subst (ClosesAll v reach) (sym same) (known p.1)

-- no flag is there
pub none_known : (v : TableValue) (reach : Reach) (ds : List Due) (flags : List Bool) → flags ≡ [] → AreKnown v reach ds flags
none_known v reach ds flags none = record {
  closes = λ k d h flag. absurd (different (sym (ap (λ (l : List Bool). is_flagged l k) none) ∙ flag));
}
  where
    different : false ≡ true → ⊥
    different e = absurd cc

-- all goals of a node close over a wider table, too
pub closes_over : (v w : TableValue) → ExtendsTable v w → (reach : Reach) (d : Due) →
    AreFormsReady (sorts_in v) (trees_in v) d.facts.list.items → AreFormsReady (sorts_in v) (trees_in v) d.targets.list.items →
    ClosesAll v reach d → ClosesAll w reach d
closes_over v w wider reach d facts goals all = record { each = λ i. closes_stays v w wider reach d i facts goals ∙ all.each i }

-- what a round asked, where it is left for the next
pub left_asked : (v : TableValue) (reach : Reach) (owners : List (Option ℕ)) (a : Asked) (o : Option Asked) →
    IfSome o (λ b. b.dues ≡ a.dues) → IfSome o (λ b. b.marks ≡ a.marks) → IsAsked v reach owners a → IsAskedBefore v reach owners o
left_asked v reach owners a None dues marks h = tt
left_asked v reach owners a (Some b) dues marks h =
    let same : a ≡ b = λ k. record { dues = sym dues k; marks = sym marks k } in subst (IsAsked v reach owners) same h
