-- What is needed before statements and lists of statements, one step at a time.
use Rattle.sm_deps.proofs.Imports.{◌≡◌, ◌+◌, ◌-◌, ◌<◌, ◌≤◌, ℕ, Bool, true, false, cond, not, ◌==◌, ◌||◌, ◌&&◌, List, [], ◌∷◌, ◌++◌, length, map, drop, get_or, nat_eq, refl, sym, ap, subst, ⊎_elim, ◌∙◌, length-append, arith, cases_Bool, eqb-true, or_left, or_cases, nat_tests, fun_ext, list_any-append, IsDistinct-from_sorted, IsDistinct-push, is_at, BTreeSet, contains, contains_by, IsOrdered, UpdatesBy, nat_eq_equiv, IsDistinct, list_any, nat_cmp, eq_by_cmp, Expr, Name, is_in, Code, End, Skip, Write, If, While, Hole, append, expression_of, condition_of, sequence, statement_of, code_of, Stmt, Block, Cond, statement_is, sequence-drop, statement_of-Skip, statement_of-Assign, statement_of-Store, statement_of-If, statement_of-While, statement_of-Hole, grown, needed, inputs, Below, mentions, tests, code_names, Picked, same_tests, or_assoc, or_false}
use Rattle.std.proofs.lemmas.Map.Made.{length-le_from_is_member}
use Rattle.sm_syntax.specs.declared.tree.Stmt.TheVariants as tree
use Rattle.sm_syntax.specs.claim.Syntax.{Assign}
use Rattle.sm_deps.specs.Members.{members, only, either}
use Rattle.sm_deps.proofs.InputsExact.{needed_sound, needed_complete, inputs_listed, inputs_exact}
use Rattle.sm_deps.proofs.MembersLemmas.{at_number, listed-members, list_is}

-- before one code after another, what the first needs for what the second needs
pub needed-append : (c r : Code) (wanted : ℕ → Bool) → needed (append c r) wanted ≡ needed c (needed r wanted)
needed-append End r wanted = refl
needed-append (Skip k) r wanted = needed-append k r wanted
needed-append (Assign y e k) r wanted =
    ap {B = ℕ → Bool} (λ (s : ℕ → Bool) (x : ℕ). (s x && not (x == y)) || (s y && mentions e x)) (needed-append k r wanted)
needed-append (Write a i e k) r wanted =
    ap {B = ℕ → Bool} (λ (s : ℕ → Bool) (x : ℕ). s x || (s a && (mentions i x || mentions e x))) (needed-append k r wanted)
needed-append (If b c d k) r wanted =
    ap {B = ℕ → Bool} (λ (s : ℕ → Bool) (x : ℕ). needed c s x || (needed d s x || tests b x)) (needed-append k r wanted)
needed-append (While b c k) r wanted =
    ap {B = ℕ → Bool} (λ (s : ℕ → Bool). grown (length (code_names c)) (needed c) (λ (y : ℕ). s y || tests b y)) (needed-append k r wanted)
needed-append (Hole h k) r wanted = needed-append k r wanted

-- a set without a name
unfoldable pub without : (ℕ → Bool) → ℕ → ℕ → Bool
without set y x = set x && not (x == y)

-- a statement that assigns nothing
pub needed-Skip : (wanted : ℕ → Bool) → needed (statement_of tree.Skip End) wanted ≡ wanted
needed-Skip wanted = ap (λ (c : Code). needed c wanted) (statement_of-Skip End)

pub needed-Hole : (h : ℕ) (wanted : ℕ → Bool) → needed (statement_of (tree.Hole h) End) wanted ≡ wanted
needed-Hole h wanted = ap (λ (c : Code). needed c wanted) (statement_of-Hole h End)

-- an assignment to a wanted name, and to another
taken : (set : ℕ → Bool) (y x : ℕ) (m : Bool) → set y ≡ true → ((set x && not (x == y)) || (set y && m)) ≡ ((set x && not (x == y)) || m)
taken set y x m wanted = ap (λ (c : Bool). (set x && not (x == y)) || (c && m)) wanted

passed : (set : ℕ → Bool) (y x : ℕ) (m : Bool) → set y ≡ false → ((set x && not (x == y)) || (set y && m)) ≡ set x
passed set y x m lacked =
    ap (λ (c : Bool). (set x && not (x == y)) || (c && m)) lacked ∙ or_false (set x && not (x == y)) ∙ go (x == y) refl where
      kept : (b : Bool) → (b && true) ≡ b
      kept true = refl
      kept false = refl

      lost : (b : Bool) → (b && false) ≡ false
      lost true = refl
      lost false = refl

      go : (b : Bool) → (x == y) ≡ b → (set x && not b) ≡ set x
      go true same = lost (set x) ∙ sym (ap set (eqb-true x y same) ∙ lacked)
      go false other = kept (set x)

pub needed-Assign : (x : Name) (e : Expr) (wanted : ℕ → Bool) → wanted x.0 ≡ true →
    needed (statement_of (tree.Assign x e) End) wanted ≡ either (without wanted x.0) (mentions (expression_of e))
unfolding either without
needed-Assign x e wanted here =
    ap (λ (c : Code). needed c wanted) (statement_of-Assign x e End) ∙
    fun_ext (λ (q : ℕ). taken wanted x.0 q (mentions (expression_of e) q) here)

pub needed-Assign-other : (x : Name) (e : Expr) (wanted : ℕ → Bool) → wanted x.0 ≡ false
    → needed (statement_of (tree.Assign x e) End) wanted ≡ wanted
needed-Assign-other x e wanted lacked =
    ap (λ (c : Code). needed c wanted) (statement_of-Assign x e End) ∙
    fun_ext (λ (q : ℕ). passed wanted x.0 q (mentions (expression_of e) q) lacked)

-- a write to a wanted array, and to another
pub needed-Store : (a : Name) (i e : Expr) (wanted : ℕ → Bool) → wanted a.0 ≡ true →
    needed (statement_of (tree.Store a i e) End) wanted ≡ either (either wanted (mentions (expression_of i))) (mentions (expression_of e))
unfolding either
needed-Store a i e wanted here =
    ap (λ (c : Code). needed c wanted) (statement_of-Store a i e End) ∙
    fun_ext (λ (q : ℕ).
    ap (λ (b : Bool). wanted q || (b && (mentions (expression_of i) q || mentions (expression_of e) q))) here ∙
    sym (or_assoc (wanted q) (mentions (expression_of i) q) (mentions (expression_of e) q)))

pub needed-Store-other : (a : Name) (i e : Expr) (wanted : ℕ → Bool) → wanted a.0 ≡ false
    → needed (statement_of (tree.Store a i e) End) wanted ≡ wanted
needed-Store-other a i e wanted lacked =
    ap (λ (c : Code). needed c wanted) (statement_of-Store a i e End) ∙
    fun_ext (λ (q : ℕ). ap (λ (b : Bool). wanted q || (b && (mentions (expression_of i) q || mentions (expression_of e) q))) lacked ∙
    or_false (wanted q))

-- a choice
pub needed-If : (b : Cond) (c d : Block) (wanted : ℕ → Bool) →
    needed (statement_of (tree.If b c d) End) wanted ≡ either (either (needed (code_of c) wanted) (needed (code_of d) wanted))
    (tests (condition_of b))
unfolding either
needed-If b c d wanted =
    ap (λ (k : Code). needed k wanted) (statement_of-If b c d End) ∙
    fun_ext (λ (q : ℕ). sym (or_assoc (needed (code_of c) wanted q) (needed (code_of d) wanted q) (tests (condition_of b) q)))

-- a loop
pub needed-While : (b : Cond) (c : Block) (wanted : ℕ → Bool) →
    needed (statement_of (tree.While b c) End) wanted ≡ grown (length (code_names (code_of c))) (needed (code_of c))
    (either wanted (tests (condition_of b)))
unfolding either
needed-While b c wanted = ap (λ (k : Code). needed k wanted) (statement_of-While b c End)

-- a set that lost a name
less : (b c : Bool) → cond b false c ≡ (c && not b)
less true true = refl
less true false = refl
less false true = refl
less false false = refl

pub members-remove : (old new : BTreeSet ℕ) (x : ℕ) → UpdatesBy nat_cmp (nat_cmp x) old new false → members new ≡ without (members old) x
unfolding members without
members-remove old new x h =
    fun_ext (λ (q : ℕ). h.0 q ∙ less (is_at (nat_cmp x) q) (contains nat_cmp old q) ∙
    ap (λ (b : Bool). contains nat_cmp old q && not b) (at_number x q))

-- a set with the same list
pub members-same : (old new : BTreeSet ℕ) → new.keys ≡ old.keys → members new ≡ members old
unfolding members
members-same old new same = fun_ext (λ (q : ℕ). ap (list_any (is_at (nat_cmp q))) same)

-- whether a set has a name, as its methods say
pub members-contains : (set : BTreeSet ℕ) (x : ℕ) → contains_by (nat_cmp x) set ≡ members set x
unfolding members
members-contains set x = refl

-- where more is wanted, more is needed
pub needed_grows : (c : Code) (few more : ℕ → Bool) → Below few more → Below (needed c few) (needed c more)
needed_grows c few more h x m =
    needed_complete c more (Picked more) (λ (y : ℕ) (p : more y ≡ true). p) x (needed_sound c few (Picked more) h x m)

-- a set's list has no name twice
distinct : (set : BTreeSet ℕ) → IsOrdered nat_cmp set → IsDistinct nat_eq set.keys
distinct set ordered =
    subst (λ (e : ℕ → ℕ → Bool). IsDistinct e set.keys) (fun_ext (λ (x : ℕ). fun_ext (λ (y : ℕ). same x y)))
    (IsDistinct-from_sorted nat_cmp set.keys ordered) where
      same : (x y : ℕ) → eq_by_cmp nat_cmp x y ≡ nat_eq x y
      same x y = grind (arith, nat_tests)

-- a set that has all names of another is at least as large
pub at_least : (old new : BTreeSet ℕ) → IsOrdered nat_cmp old → Below (members old) (members new) → length old.keys ≤ length new.keys
at_least old new ordered h =
    length-le_from_is_member nat_eq_equiv old.keys new.keys (distinct old ordered)
    (λ (q : ℕ) (m : is_in old.keys q ≡ true). listed-members new q ∙ h q (sym (listed-members old q) ∙ m))

-- where it is no larger, it has no other name
pub no_more : (old new : BTreeSet ℕ) → IsOrdered nat_cmp old → Below (members old) (members new) → length new.keys ≤ length old.keys
    → Below (members new) (members old)
no_more old new ordered h small q m =
    ⊎_elim (λ (had : members old q ≡ true). had)
    (λ (lacked : members old q ≡ false).
    let more : length (old.keys ++ q ∷ []) ≤ length new.keys =
    length-le_from_is_member nat_eq_equiv (old.keys ++ q ∷ []) new.keys
    (IsDistinct-push nat_eq_equiv old.keys q (distinct old ordered) (listed-members old q ∙ lacked))
    (λ (z : ℕ) (n : is_in (old.keys ++ q ∷ []) z ≡ true).
    listed-members new z ∙
    ⊎_elim
    (λ (older : is_in old.keys z ≡ true). h z (sym (listed-members old z) ∙ older))
    (λ (one : is_in (q ∷ []) z ≡ true). ap (members new) (eqb-true z q (sym (or_false (z == q)) ∙ one)) ∙ m)
    (or_cases (is_in old.keys z) (is_in (q ∷ []) z) (sym (list_any-append (λ (y : ℕ). z == y) old.keys (q ∷ [])) ∙ n))) in
    let long = length-append old.keys (q ∷ []) in
    absurd (omega (arith, more, long, small)))
    (cases_Bool (members old q))

-- a list's statements from j - 1 on, where s is the one before the j-th
pub sequence-before : (l : List Stmt) (j : ℕ) (s : Stmt) → 0 < j → j ≤ length l → s ≡ get_or l (j - 1) s →
    append (statement_of s End) (sequence (map statement_of (drop j l)) End) ≡ sequence (map statement_of (drop (j - 1) l)) End
sequence-before l j s some within item =
    let next : (j - 1) + 1 ≡ j = omega arith in
    let k = sequence (map statement_of (drop ((j - 1) + 1) l)) End in
    sym (sequence-drop l (j - 1) s End (omega (arith, some, within)) ∙ statement_is (get_or l (j - 1) s) k ∙
    ap (λ (t : Stmt). append (statement_of t End) k) (sym item)
    ∙ ap (λ (m : ℕ). append (statement_of s End) (sequence (map statement_of (drop m l)) End)) next)

-- a set with the names of another is no smaller
pub turn_grows : (old new : BTreeSet ℕ) (more : ℕ → Bool) → IsOrdered nat_cmp old → members new ≡ either (members old) more
    → length old.keys ≤ length new.keys
unfolding either
turn_grows old new more ordered is =
    at_least old new ordered
    (λ (x : ℕ) (h : members old x ≡ true). subst (λ (s : ℕ → Bool). s x ≡ true) (sym is) (or_left (members old x) (more x) h))

-- the list of a set that has exactly what is needed is the list of inputs
pub list_is_inputs : (c : Code) (w : ℕ) (set : BTreeSet ℕ) → IsOrdered nat_cmp set → members set ≡ needed c (only w) → set.keys ≡ inputs c w
unfolding only
list_is_inputs c w set ordered all =
    list_is set (inputs c w) ordered (inputs_exact c w).0
    (λ (x : ℕ). same_tests (is_in (inputs c w) x) (members set x)
    (λ (m : is_in (inputs c w) x ≡ true). ap (λ (s : ℕ → Bool). s x) all ∙ (inputs_listed c w x).0 m)
    (λ (m : members set x ≡ true). (inputs_listed c w x).1 (sym (ap (λ (s : ℕ → Bool). s x) all) ∙ m)))
