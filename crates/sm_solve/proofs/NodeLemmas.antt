-- The facts of a node with the contrary of a goal at its place: behind them stand their parts as they
-- stood, or those of the contrary alone, and the terms of the goal go behind those of the facts.
use Rattle.sm_solve.proofs.Imports.{◌≡◌, ℕ, zero, suc, ◌+◌, max, Bool, true, false, Option, None, List, [], ◌∷◌, ◌++◌, map, length, slice_get, slice_set, take, refl, sym, ap, ◌∙◌, subst, arith, append-nil, append_assoc, length-append, length-set, map-set, same_Some, set-append_seam, take-append_seam, Sorts, Tree, arguments_of, Assertion, numbered, assertion_in, IsFormulaWithin, Formula, GivenFact, put, with_term, with_formula, with_formulas, is_among, AreAllGiven, greatest_of, writes_on, parts_of, parts_of_all, depth_of, taken_apart, with_parts, put_if, read_before, with_reads, with_all_reads, terms_of, given_from, all_numbered, assertions_in, AreFormulasWithin, with_those_before, room_for_goal, FormulaAmong, FormulasAmong, formulas_among, given_from-cons, flat_parts, shallow_below, with_parts-next, queue_from, queue_last, AllOf, by_arguments, with_terms, with_term_is, put_there, put_new, closed_none, closed_with_formulas, with_formulas-append, same_with_formulas, no_items}
use Rattle.std.proofs.Common.{Some}
use Rattle.sm_term.specs.declared.formula.Formula.TheVariants as tree
use Rattle.sm_term.specs.Assertions.{Yes, No, Eq, Ne, Le, Lt, And, Or}

-- what is no conjunction has no parts
no_parts : (n : Assertion) → depth_of n ≡ 0 → parts_of n ≡ []
no_parts (And p q) h = absurd (omega (arith, h))
no_parts (Or p q) h = refl
no_parts Yes h = refl
no_parts No h = refl
no_parts (Eq sort t u) h = refl
no_parts (Ne sort t u) h = refl
no_parts (Le t u) h = refl
no_parts (Lt t u) h = refl

-- so it adds none behind others
parts_last : (fs : List Assertion) (n : Assertion) → depth_of n ≡ 0 → parts_of_all (fs ++ n ∷ []) ≡ parts_of_all fs
parts_last [] n h = ap (λ (gs : List Assertion). gs ++ []) (no_parts n h)
parts_last (f ∷ fs) n h = ap (λ (gs : List Assertion). parts_of f ++ gs) (parts_last fs n h)

deepest_last : (fs : List Assertion) (n : Assertion) → depth_of n ≡ 0 →
    greatest_of (map depth_of (fs ++ n ∷ [])) ≡ greatest_of (map depth_of fs)
deepest_last [] n h = omega (arith, h)
deepest_last (f ∷ fs) n h = ap (max (depth_of f)) (deepest_last fs n h)

-- the parts that so many rounds put behind formulas
abbrev parts_behind : ℕ → List Assertion → List Assertion
parts_behind zero fs = []
parts_behind (suc k) fs = taken_apart k (parts_of_all fs)

apart_behind : (k : ℕ) (fs : List Assertion) → taken_apart k fs ≡ fs ++ parts_behind k fs
apart_behind zero fs = sym (append-nil fs)
apart_behind (suc k) fs = refl

apart_last : (k : ℕ) (fs : List Assertion) (n : Assertion) → depth_of n ≡ 0 → taken_apart k (fs ++ n ∷ []) ≡ fs ++ n ∷ parts_behind k fs
apart_last zero fs n h = refl
apart_last (suc k) fs n h =
    ap (λ (gs : List Assertion). (fs ++ n ∷ []) ++ taken_apart k gs) (parts_last fs n h)
    ∙ append_assoc fs (n ∷ []) (taken_apart k (parts_of_all fs))

-- the parts of facts, behind them and a last formula that has none
abbrev pub parts_after : List Assertion → List Assertion
parts_after given = parts_behind (greatest_of (map depth_of given)) given

pub parts_are : (given : List Assertion) (n : Assertion) → depth_of n ≡ 0 → with_parts (given ++ n ∷ []) ≡ given ++ n ∷ parts_after given
parts_are given n h =
    ap (λ (k : ℕ). taken_apart k (given ++ n ∷ [])) (deepest_last given n h) ∙ apart_last (greatest_of (map depth_of given)) given n h

-- the contrary of a goal stands at its place, all else as in the room for it
pub room_with : (given : List Assertion) (n : Assertion) → depth_of n ≡ 0 →
    with_parts (given ++ n ∷ []) ≡ slice_set (room_for_goal given) (length given) n
room_with given n h =
    let rest = parts_after given in
    parts_are given n h ∙ sym (set-append_seam given Yes rest n)
    ∙ ap (λ (fs : List Assertion). slice_set fs (length given) n) (sym (parts_are given Yes refl))

-- where nothing stands but what always holds
pub room_there : (given : List Assertion) → slice_get (room_for_goal given) (length given) ≡ Some Yes
room_there given = ap (λ (fs : List Assertion). slice_get fs (length given)) (parts_are given Yes refl) ∙ seam given (parts_after given)
  where
    seam : (fs rest : List Assertion) → slice_get (fs ++ Yes ∷ rest) (length fs) ≡ Some Yes
    seam [] rest = refl
    seam (f ∷ fs) rest = seam fs rest

none_first : {A : Type 0} (xs ys : List A) → xs ++ ys ≡ [] → xs ≡ []
none_first [] ys h = refl
none_first (x ∷ xs) ys h = absurd cc

none_second : {A : Type 0} (xs ys : List A) → xs ++ ys ≡ [] → ys ≡ []
none_second [] ys h = h
none_second (x ∷ xs) ys h = absurd cc

-- where the place of a goal is the last of the room, no fact has parts
none_behind : (given : List Assertion) → length (room_for_goal given) ≡ length given + 1 → parts_after given ≡ []
none_behind given h =
    let rest = parts_after given in
    let long = ap length (parts_are given Yes refl) ∙ length-append given (Yes ∷ rest) in
    no_items rest (omega (arith, long, h))

no_parts_given : (given : List Assertion) → parts_after given ≡ [] → parts_of_all given ≡ []
no_parts_given given none = by (greatest_of (map depth_of given)) refl
  where
    by : (k : ℕ) → greatest_of (map depth_of given) ≡ k → parts_of_all given ≡ []
    by zero e = flat_parts given (shallow_below 0 given (omega (arith, e)))
    by (suc k) e =
        let parts = parts_of_all given in
        let all : parts ++ parts_behind k parts ≡ [] = sym (apart_behind k parts) ∙ ap (λ (m : ℕ). parts_behind m given) (sym e) ∙ none in
        none_first parts (parts_behind k parts) all

-- so only the parts of the contrary stand behind it
alone : (given : List Assertion) (n : Assertion) → parts_of_all given ≡ [] → with_parts (given ++ n ∷ []) ≡ given ++ with_parts (n ∷ [])
alone [] n h = refl
alone (f ∷ fs) n h =
    let others = fs ++ n ∷ [] in
    let one = none_first (parts_of f) (parts_of_all fs) h in
    let rest = none_second (parts_of f) (parts_of_all fs) h in
    with_parts-next f others
    ∙ ap (λ (gs : List Assertion). f ∷ with_parts (others ++ gs)) one
    ∙ ap (λ (gs : List Assertion). f ∷ with_parts gs) (append-nil others)
    ∙ ap (λ (gs : List Assertion). f ∷ gs) (alone fs n rest)

-- the facts with the contrary at the last place, behind which its parts are put
room_end : (given all : List Assertion) (n : Assertion) → length (room_for_goal given) ≡ length given + 1 →
    all ≡ queue_from (length given) (slice_set (room_for_goal given) (length given) n) → all ≡ with_parts (given ++ n ∷ [])
room_end given all n last are =
    let none = none_behind given last in
    let room : slice_set (room_for_goal given) (length given) n ≡ given ++ n ∷ [] =
    ap (λ (fs : List Assertion). slice_set fs (length given) n) (parts_are given Yes refl)
    ∙ ap (λ (fs : List Assertion). slice_set (given ++ Yes ∷ fs) (length given) n) none ∙ set-append_seam given Yes [] n in
    are ∙ ap (queue_from (length given)) room ∙ queue_last given n ∙ sym (alone given n (no_parts_given given none))

-- the parts of conjunctions name no other terms
parts_among : (seen : List Tree) (f : Assertion) → FormulaAmong seen f → FormulasAmong seen (parts_of f)
parts_among seen (And p q) h = (h.0, (h.1, tt))
parts_among seen (Or p q) h = tt
parts_among seen Yes h = tt
parts_among seen No h = tt
parts_among seen (Eq sort t u) h = tt
parts_among seen (Ne sort t u) h = tt
parts_among seen (Le t u) h = tt
parts_among seen (Lt t u) h = tt

among_both : (seen : List Tree) (fs gs : List Assertion) → FormulasAmong seen fs → FormulasAmong seen gs → FormulasAmong seen (fs ++ gs)
among_both seen [] gs h k = k
among_both seen (f ∷ fs) gs h k = (h.0, among_both seen fs gs h.1 k)

all_parts_among : (seen : List Tree) (fs : List Assertion) → FormulasAmong seen fs → FormulasAmong seen (parts_of_all fs)
all_parts_among seen [] h = tt
all_parts_among seen (f ∷ fs) h = among_both seen (parts_of f) (parts_of_all fs) (parts_among seen f h.0) (all_parts_among seen fs h.1)

pub apart_among : (k : ℕ) (seen : List Tree) (fs : List Assertion) → FormulasAmong seen fs → FormulasAmong seen (taken_apart k fs)
apart_among zero seen fs h = h
apart_among (suc k) seen fs h =
    among_both seen fs (taken_apart k (parts_of_all fs)) h (apart_among k seen (parts_of_all fs) (all_parts_among seen fs h))

behind_among : (k : ℕ) (seen : List Tree) (fs : List Assertion) → FormulasAmong seen fs → FormulasAmong seen (parts_behind k fs)
behind_among zero seen fs h = tt
behind_among (suc k) seen fs h = apart_among k seen (parts_of_all fs) (all_parts_among seen fs h)

-- the parts of formulas name no terms but theirs
behind_same : (fs : List Assertion) → with_formulas (parts_after fs) (with_formulas fs []) ≡ with_formulas fs []
behind_same fs =
    let seen = with_formulas fs [] in
    same_with_formulas (parts_after fs) seen (closed_with_formulas fs [] closed_none)
    (behind_among (greatest_of (map depth_of fs)) seen fs (formulas_among fs []))

parts_name : (fs : List Assertion) → with_formulas (with_parts fs) [] ≡ with_formulas fs []
parts_name fs =
    ap (λ (gs : List Assertion). with_formulas gs []) (apart_behind (greatest_of (map depth_of fs)) fs)
    ∙ with_formulas-append fs (parts_after fs) [] ∙ behind_same fs

-- the terms of the room are those of the facts
pub room_terms : (given : List Assertion) → with_formulas (room_for_goal given) [] ≡ with_formulas given []
room_terms given = parts_name (given ++ Yes ∷ []) ∙ with_formulas-append given (Yes ∷ []) []

-- those of a goal go behind them
pub named_there : (given : List Assertion) (n : Assertion) →
    with_formulas (with_parts (given ++ n ∷ [])) [] ≡ with_formula n (with_formulas (room_for_goal given) [])
named_there given n =
    parts_name (given ++ n ∷ []) ∙ with_formulas-append given (n ∷ []) [] ∙ ap (with_formula n) (sym (room_terms given))

pub terms_there : (given : List Assertion) (n : Assertion) →
    terms_of (with_parts (given ++ n ∷ [])) ≡ with_those_before (with_formula n (with_formulas (room_for_goal given) []))
terms_there given n = ap with_those_before (named_there given n)

-- terms with others behind them
abbrev pub Behind : List Tree → List Tree → Type 0
Behind seen new = (more : List Tree) × (new ≡ seen ++ more)

behind_none : (seen : List Tree) → Behind seen seen
behind_none seen = ([], sym (append-nil seen))

behind_both : (seen new later : List Tree) → Behind seen new → Behind new later → Behind seen later
behind_both seen new later h k =
    (h.0 ++ k.0, k.1 ∙ ap (λ (ts : List Tree). ts ++ k.0) h.1 ∙ append_assoc seen h.0 k.0)

behind_put : (t : Tree) (seen : List Tree) → Behind seen (put t seen)
behind_put t seen = by (is_among seen t) refl
  where
    by : (b : Bool) → is_among seen t ≡ b → Behind seen (put t seen)
    by true e = ([], put_there t seen e ∙ sym (append-nil seen))
    by false e = (t ∷ [], put_new t seen e)

behind_term : (t : Tree) (seen : List Tree) → Behind seen (with_term t seen)
behind_term = by_arguments (λ (t : Tree). (seen : List Tree) → Behind seen (with_term t seen)) step
  where
    all : (ts : List Tree) → AllOf (λ (t : Tree). (seen : List Tree) → Behind seen (with_term t seen)) ts →
        (seen : List Tree) → Behind seen (with_terms ts seen)
    all [] h seen = behind_none seen
    all (t ∷ ts) h seen = behind_both seen (with_term t seen) (with_terms ts (with_term t seen)) (h.0 seen) (all ts h.1 (with_term t seen))

    step : (t : Tree) → AllOf (λ (t : Tree). (seen : List Tree) → Behind seen (with_term t seen)) (arguments_of t) →
        (seen : List Tree) → Behind seen (with_term t seen)
    step t h seen =
        let args = with_terms (arguments_of t) seen in
        subst (Behind seen) (sym (with_term_is t seen))
        (behind_both seen args (put t args) (all (arguments_of t) h seen) (behind_put t args))

behind_two : (t u : Tree) (seen : List Tree) → Behind seen (with_term u (with_term t seen))
behind_two t u seen =
    behind_both seen (with_term t seen) (with_term u (with_term t seen)) (behind_term t seen) (behind_term u (with_term t seen))

pub behind_formula : (f : Assertion) (seen : List Tree) → Behind seen (with_formula f seen)
behind_formula Yes seen = behind_none seen
behind_formula No seen = behind_none seen
behind_formula (Eq sort t u) seen = behind_two t u seen
behind_formula (Ne sort t u) seen = behind_two t u seen
behind_formula (Le t u) seen = behind_two t u seen
behind_formula (Lt t u) seen = behind_two t u seen
behind_formula (And p q) seen =
    let first = with_formula p seen in behind_both seen first (with_formula q first) (behind_formula p seen) (behind_formula q first)
behind_formula (Or p q) seen =
    let first = with_formula p seen in behind_both seen first (with_formula q first) (behind_formula p seen) (behind_formula q first)

behind_put_if : (o : Option Tree) (seen : List Tree) → Behind seen (put_if o seen)
behind_put_if None seen = behind_none seen
behind_put_if (Some t) seen = behind_put t seen

behind_reads : (ts seen : List Tree) → Behind seen (with_reads ts seen)
behind_reads [] seen = behind_none seen
behind_reads (t ∷ ts) seen =
    let new = put_if (read_before t) seen in
    behind_both seen new (with_reads ts new) (behind_put_if (read_before t) seen) (behind_reads ts new)

pub behind_all_reads : (k : ℕ) (seen : List Tree) → Behind seen (with_all_reads k seen)
behind_all_reads zero seen = behind_none seen
behind_all_reads (suc k) seen =
    let new = with_reads seen seen in behind_both seen new (with_all_reads k new) (behind_reads seen seen) (behind_all_reads k new)

pub those_behind : (seen : List Tree) → Behind seen (with_those_before seen)
those_behind seen = behind_all_reads (greatest_of (map writes_on seen)) seen

-- the terms of a goal and what its elements were before go behind the others
pub added_behind : (n : Assertion) (seen : List Tree) → (more : List Tree) × (with_those_before (with_formula n seen) ≡ seen ++ more)
added_behind n seen =
    let new = with_formula n seen in behind_both seen new (with_those_before new) (behind_formula n seen) (those_behind new)

-- where as many terms stand there with what elements were before as without it, none was put
no_more : (seen new : List Tree) → Behind seen new → length new ≡ length seen → new ≡ seen
no_more seen new h same =
    h.1 ∙ ap (λ (ts : List Tree). seen ++ ts) (empty h.0 (omega (arith, both, ap length h.1))) ∙ append-nil seen
  where
    both : length (seen ++ h.0) ≡ length seen + length h.0
    both = length-append seen h.0

    empty : (ts : List Tree) → length ts ≡ 0 → ts ≡ []
    empty [] k = refl
    empty (t ∷ ts) k = absurd (omega arith)

pub unread : (all : List Assertion) → length (terms_of all) ≡ length (with_formulas all []) → terms_of all ≡ with_formulas all []
unread all same = let seen = with_formulas all [] in no_more seen (terms_of all) (those_behind seen) same

-- what is given of others behind some
given_more : (gs hs : List GivenFact) → AreAllGiven hs (gs ++ hs)
given_more gs hs = λ n g is. by gs n g is
  where
    by : (gs : List GivenFact) (n : ℕ) (g : GivenFact) → slice_get hs n ≡ Some g → (m : ℕ) × (slice_get (gs ++ hs) m ≡ Some g)
    by [] n g is = (n, is)
    by (f ∷ gs) n g is = let rest = by gs n g is in (suc rest.0, rest.1)

given_behind : (gs hs others : List GivenFact) → AreAllGiven hs others → AreAllGiven (gs ++ hs) (gs ++ others)
given_behind [] hs others h = h
given_behind (f ∷ gs) hs others h = by (given_behind gs hs others h)
  where
    by : AreAllGiven (gs ++ hs) (gs ++ others) → (n : ℕ) (g : GivenFact) → slice_get (f ∷ gs ++ hs) n ≡ Some g →
        (m : ℕ) × (slice_get (f ∷ gs ++ others) m ≡ Some g)
    by more zero g is = (0, is)
    by more (suc n) g is = let rest = more n g is in (suc rest.0, rest.1)

-- where a formula comes in place of what always holds, all is still given
pub given_still : (k : ℕ) (fs : List Formula) (place : ℕ) (f : Formula) → slice_get fs place ≡ Some tree.Yes →
    AreAllGiven (given_from k fs) (given_from k (slice_set fs place f))
given_still k [] place f there = absurd cc
given_still k (h ∷ fs) zero f there =
    let gone : given_from k (h ∷ fs) ≡ given_from (suc k) fs = ap (λ (g : Formula). given_from k (g ∷ fs)) (same_Some h tree.Yes there) in
    subst (λ (gs : List GivenFact). AreAllGiven gs (given_from k (f ∷ fs))) (sym gone)
    (subst (AreAllGiven (given_from (suc k) fs)) (sym (given_from-cons k f fs))
    (given_more (given_from k (f ∷ [])) (given_from (suc k) fs)))
given_still k (h ∷ fs) (suc place) f there =
    let first = given_from k (h ∷ []) in
    let old = given_from (suc k) fs in
    let new = given_from (suc k) (slice_set fs place f) in
    subst (λ (gs : List GivenFact). AreAllGiven gs (given_from k (h ∷ slice_set fs place f))) (sym (given_from-cons k h fs))
    (subst (AreAllGiven (first ++ old)) (sym (given_from-cons k h (slice_set fs place f)))
    (given_behind first old new (given_still (suc k) fs place f there)))

-- what is given of formulas is given where others stand behind them
pub given_first : (k : ℕ) (fs more : List Formula) → AreAllGiven (given_from k fs) (given_from k (fs ++ more))
given_first k [] more = λ n g is. absurd cc
given_first k (f ∷ fs) more =
    let first = given_from k (f ∷ []) in
    let old = given_from (suc k) fs in
    let new = given_from (suc k) (fs ++ more) in
    subst (λ (gs : List GivenFact). AreAllGiven gs (given_from k (f ∷ fs ++ more))) (sym (given_from-cons k f fs))
    (subst (AreAllGiven (first ++ old)) (sym (given_from-cons k f (fs ++ more)))
    (given_behind first old new (given_first (suc k) fs more)))

-- the program's formulas where one comes in place of another
replaced_says : (sorts : Sorts) (trees : List Tree) (fs : List Formula) (place : ℕ) (f : Formula) →
    assertions_in sorts trees (all_numbered (slice_set fs place f))
    ≡ slice_set (assertions_in sorts trees (all_numbered fs)) place (assertion_in sorts trees (numbered f))
replaced_says sorts trees fs place f =
    ap (assertions_in sorts trees) (map-set numbered fs place f)
    ∙ map-set (assertion_in sorts trees) (all_numbered fs) place (numbered f)

pub replaced_within : (count : ℕ) (fs : List Formula) (place : ℕ) (f : Formula) → AreFormulasWithin count (all_numbered fs) →
    IsFormulaWithin count (numbered f) → AreFormulasWithin count (all_numbered (slice_set fs place f))
replaced_within count [] place f h k = h
replaced_within count (g ∷ fs) zero f h k = (k, h.1)
replaced_within count (g ∷ fs) (suc place) f h k = (h.0, replaced_within count fs place f h.1 k)

-- the facts with the contrary of a goal at its place
pub replaced_is : (sorts : Sorts) (trees : List Tree) (given : List Assertion) (facts : List Formula) (f : Formula) →
    depth_of (assertion_in sorts trees (numbered f)) ≡ 0 → assertions_in sorts trees (all_numbered facts) ≡ room_for_goal given →
    assertions_in sorts trees (all_numbered (slice_set facts (length given) f))
    ≡ with_parts (given ++ assertion_in sorts trees (numbered f) ∷ [])
replaced_is sorts trees given facts f flat are =
    let n = assertion_in sorts trees (numbered f) in
    replaced_says sorts trees facts (length given) f
    ∙ ap (λ (fs : List Assertion). slice_set fs (length given) n) are ∙ sym (room_with given n flat)

-- the facts with the contrary of a goal at the last place, and its parts put behind it
pub replaced_last : (sorts : Sorts) (trees : List Tree) (given : List Assertion) (facts all : List Formula) (f : Formula) →
    assertions_in sorts trees (all_numbered facts) ≡ room_for_goal given → length (room_for_goal given) ≡ length given + 1 →
    assertions_in sorts trees (all_numbered all)
    ≡ queue_from (length given) (assertions_in sorts trees (all_numbered (slice_set facts (length given) f))) →
    assertions_in sorts trees (all_numbered all) ≡ with_parts (given ++ assertion_in sorts trees (numbered f) ∷ [])
replaced_last sorts trees given facts all f are last added =
    let n = assertion_in sorts trees (numbered f) in
    let room = replaced_says sorts trees facts (length given) f ∙ ap (λ (fs : List Assertion). slice_set fs (length given) n) are in
    room_end given (assertions_in sorts trees (all_numbered all)) n last (added ∙ ap (queue_from (length given)) room)

-- what always holds stands at the place where a formula says so
always : (sorts : Sorts) (trees : List Tree) (f : Formula) → assertion_in sorts trees (numbered f) ≡ Yes → f ≡ tree.Yes
always sorts trees tree.Yes h = refl
always sorts trees tree.No h = absurd cc
always sorts trees (tree.Eq t u) h = absurd cc
always sorts trees (tree.Ne t u) h = absurd cc
always sorts trees (tree.Le t u) h = absurd cc
always sorts trees (tree.Lt t u) h = absurd cc
always sorts trees (tree.And' a p b q) h = absurd cc
always sorts trees (tree.Or' a p b q) h = absurd cc

always_at : (sorts : Sorts) (trees : List Tree) (fs : List Formula) (place : ℕ) →
    slice_get (assertions_in sorts trees (all_numbered fs)) place ≡ Some Yes → slice_get fs place ≡ Some tree.Yes
always_at sorts trees [] place h = absurd cc
always_at sorts trees (f ∷ fs) zero h = ap Some (always sorts trees f (same_Some (assertion_in sorts trees (numbered f)) Yes h))
always_at sorts trees (f ∷ fs) (suc place) h = always_at sorts trees fs place h

pub always_there : (sorts : Sorts) (trees : List Tree) (given : List Assertion) (facts : List Formula) →
    assertions_in sorts trees (all_numbered facts) ≡ room_for_goal given → slice_get facts (length given) ≡ Some tree.Yes
always_there sorts trees given facts are =
    always_at sorts trees facts (length given) (ap (λ (fs : List Assertion). slice_get fs (length given)) are ∙ room_there given)

-- what stood at a place is put back
pub put_back : (fs : List Formula) (place : ℕ) (f g : Formula) → slice_get fs place ≡ Some g → slice_set (slice_set fs place f) place g ≡ fs
put_back [] place f g h = absurd cc
put_back (x ∷ fs) zero f g h = ap (λ (y : Formula). y ∷ fs) (sym (same_Some x g h))
put_back (x ∷ fs) (suc place) f g h = ap (λ (ys : List Formula). x ∷ ys) (put_back fs place f g h)

-- the facts are put back where one was replaced and more stands behind them
pub cut_back : (fs more : List Formula) (place : ℕ) (f g : Formula) → slice_get fs place ≡ Some g →
    slice_set (take (length fs) (slice_set fs place f ++ more)) place g ≡ fs
cut_back fs more place f g there =
    let first = slice_set fs place f in
    ap (λ (k : ℕ). slice_set (take k (first ++ more)) place g) (sym (length-set fs place f))
    ∙ ap (λ (gs : List Formula). slice_set gs place g) (take-append_seam first more) ∙ put_back fs place f g there
