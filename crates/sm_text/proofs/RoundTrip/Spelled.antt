-- Trees whose names and numbers a text may have.
use Rattle.sm_text.proofs.Imports.{◌≡◌, ℕ, ◌<◌, ◌≤◌, Bool, true, false, nat_lt, Option, Some, None, List, [], ◌∷◌, ◌++◌, length, refl, ap, subst, arith, nat_tests, AllByRecursion, slice_get, Symbol, Sort, Expression, Lit, Var, Read, Neg, Plus, Minus, Times, Condition, Yes, No, Compare, Not, And, Or, Code, End, Skip, Assign, Write, If, While, Hole, Fillings, Copy, O, A, B, M, Parts, IsNamedIn, IsTestedIn, IsUsedIn, AreDeclaredIn, AreOutputsIn, IsAssumedIn, AreFilledIn}
use Rattle.std.proofs.Common.{unwrap_or}
use Rattle.std.proofs.lemmas.Option.{slice_get_past}
use Rattle.sm_text.proofs.RoundTrip.TextTokens.{IsNameText, IsSpelled}
use Rattle.sm_text.proofs.RoundTrip.Apart.{IsWritten, IsTested}
use Rattle.sm_text.proofs.RoundTrip.CodeApart.{IsCode}
use Rattle.sm_text.proofs.RoundTrip.TaskApart.{AreTexts, AreDeclaredTexts, IsAssumedText, AreFillingTexts, IsTaskText}
use Rattle.sm_text.proofs.RoundTrip.Content.{content_of, content_tested, content_used, content_listed, content_declared, content_assumed, content_filled, content_of_lists, content_of_task}

-- each of two lists
pub all_left : {T : Type 0} (P : T → Type 0) (xs ys : List T) → AllByRecursion P (xs ++ ys) → AllByRecursion P xs
all_left P [] ys h = tt
all_left P (x ∷ xs) ys h = (h.0, all_left P xs ys h.1)

pub all_right : {T : Type 0} (P : T → Type 0) (xs ys : List T) → AllByRecursion P (xs ++ ys) → AllByRecursion P ys
all_right P [] ys h = h
all_right P (x ∷ xs) ys h = all_right P xs ys h.1

-- the symbols may stand in a text
abbrev pub AllSpelled : List (List ℕ) → List Symbol → Type 0
AllSpelled names ss = AllByRecursion (IsSpelled names) ss

pub left : (names : List (List ℕ)) (xs ys : List Symbol) → AllSpelled names (xs ++ ys) → AllSpelled names xs
left names xs ys h = all_left (IsSpelled names) xs ys h

pub right : (names : List (List ℕ)) (xs ys : List Symbol) → AllSpelled names (xs ++ ys) → AllSpelled names ys
right names xs ys h = all_right (IsSpelled names) xs ys h

pub expression_written : (names : List (List ℕ)) (e : Expression) → AllSpelled names (content_of e) → IsWritten names e
expression_written names (Lit z) h = h.0
expression_written names (Var x) h = h.0
expression_written names (Read a i) h = (h.0, expression_written names i h.1)
expression_written names (Neg e) h = expression_written names e h
expression_written names (Plus d e) h = (
  expression_written names d (left names (content_of d) (content_of e) h),
  expression_written names e (right names (content_of d) (content_of e) h),
)
expression_written names (Minus d e) h = (
  expression_written names d (left names (content_of d) (content_of e) h),
  expression_written names e (right names (content_of d) (content_of e) h),
)
expression_written names (Times d e) h = (
  expression_written names d (left names (content_of d) (content_of e) h),
  expression_written names e (right names (content_of d) (content_of e) h),
)

pub condition_written : (names : List (List ℕ)) (b : Condition) → AllSpelled names (content_tested b) → IsTested names b
condition_written names Yes h = tt
condition_written names No h = tt
condition_written names (Compare op d e) h = (
  expression_written names d (left names (content_of d) (content_of e) h),
  expression_written names e (right names (content_of d) (content_of e) h),
)
condition_written names (Not b) h = condition_written names b h
condition_written names (And b c) h = (
  condition_written names b (left names (content_tested b) (content_tested c) h),
  condition_written names c (right names (content_tested b) (content_tested c) h),
)
condition_written names (Or b c) h = (
  condition_written names b (left names (content_tested b) (content_tested c) h),
  condition_written names c (right names (content_tested b) (content_tested c) h),
)

pub code_written : (names : List (List ℕ)) (c : Code) → AllSpelled names (content_used c) → IsCode names c
code_written names End h = tt
code_written names (Skip k) h = code_written names k h
code_written names (Assign x e k) h = (
  h.0,
  expression_written names e (left names (content_of e) (content_used k) h.1),
  code_written names k (right names (content_of e) (content_used k) h.1),
)
code_written names (Write a i e k) h =
    let rest = right names (content_of i) (content_of e ++ content_used k) h.1 in (
      h.0,
      expression_written names i (left names (content_of i) (content_of e ++ content_used k) h.1),
      expression_written names e (left names (content_of e) (content_used k) rest),
      code_written names k (right names (content_of e) (content_used k) rest),
    )
code_written names (If b c e k) h =
    let blocks = right names (content_tested b) (content_used c ++ (content_used e ++ content_used k)) h in
    let rest = right names (content_used c) (content_used e ++ content_used k) blocks in (
      condition_written names b (left names (content_tested b) (content_used c ++ (content_used e ++ content_used k)) h),
      code_written names c (left names (content_used c) (content_used e ++ content_used k) blocks),
      code_written names e (left names (content_used e) (content_used k) rest),
      code_written names k (right names (content_used e) (content_used k) rest),
    )
code_written names (While b c k) h =
    let rest = right names (content_tested b) (content_used c ++ content_used k) h in (
      condition_written names b (left names (content_tested b) (content_used c ++ content_used k) h),
      code_written names c (left names (content_used c) (content_used k) rest),
      code_written names k (right names (content_used c) (content_used k) rest),
    )
code_written names (Hole h k) good = (good.0, code_written names k good.1)

pub listed_written : (names : List (List ℕ)) (xs : List ℕ) → AllSpelled names (content_listed xs) → AreTexts names xs
listed_written names [] h = tt
listed_written names (x ∷ xs) h = (h.0, listed_written names xs h.1)

pub declared_written : (names : List (List ℕ)) (ds : List (ℕ × Sort)) → AllSpelled names (content_declared ds) → AreDeclaredTexts names ds
declared_written names [] h = tt
declared_written names (d ∷ ds) h = (h.0, declared_written names ds h.1)

pub assumed_written : (names : List (List ℕ)) (o : Option Condition) → AllSpelled names (content_assumed o) → IsAssumedText names o
assumed_written names None h = tt
assumed_written names (Some b) h = condition_written names b h

filled_written : (names : List (List ℕ)) (fs : Fillings) → AllSpelled names (content_filled fs) → AreFillingTexts names fs
filled_written names [] h = tt
filled_written names (f ∷ fs) h = (
  h.0,
  code_written names f.1 (left names (content_used f.1) (content_filled fs) h.1),
  filled_written names fs (right names (content_used f.1) (content_filled fs) h.1),
)

lists_written : (names : List (List ℕ)) (fs : Copy → Fillings) → AllSpelled names (content_of_lists fs) → (c : Copy) →
    AreFillingTexts names (fs c)
lists_written names fs h = by
  where
    o : List Symbol
    o = content_filled (fs O)

    a : List Symbol
    a = content_filled (fs A)

    b : List Symbol
    b = content_filled (fs B)

    m : List Symbol
    m = content_filled (fs M)

    by : (c : Copy) → AreFillingTexts names (fs c)
    by O = filled_written names (fs O) (left names o (a ++ (b ++ m)) h)
    by A = filled_written names (fs A) (left names a (b ++ m) (right names o (a ++ (b ++ m)) h))
    by B = filled_written names (fs B) (left names b m (right names a (b ++ m) (right names o (a ++ (b ++ m)) h)))
    by M = filled_written names (fs M) (right names b m (right names a (b ++ m) (right names o (a ++ (b ++ m)) h)))

pub task_written : (names : List (List ℕ)) (t : Parts) → AllSpelled names (content_of_task t) → IsTaskText names t
task_written names t h =
    let lists = content_of_lists t.fillings in
    let c = content_used t.shared in
    let v = content_assumed t.assumed in
    let x = content_listed t.outputs in
    let d = content_declared t.declared in
    let outs = right names d (x ++ (v ++ (c ++ lists))) h in
    let assume = right names x (v ++ (c ++ lists)) outs in
    let body = right names v (c ++ lists) assume in
    record {
      declared = declared_written names t.declared (left names d (x ++ (v ++ (c ++ lists))) h);
      outputs = listed_written names t.outputs (left names x (v ++ (c ++ lists)) outs);
      assumed = assumed_written names t.assumed (left names v (c ++ lists) assume);
      shared = code_written names t.shared (left names c lists body);
      fillings = lists_written names t.fillings (right names c lists body);
    }

-- a name that has a text is one of the names
no_text : IsNameText [] → ⊥
no_text good = let no = good.start in cc

text_within : (names : List (List ℕ)) (x : ℕ) → IsNameText (unwrap_or (slice_get names x) []) → x < length names
text_within names x good = by (nat_lt x (length names)) refl
  where
    by : (b : Bool) → nat_lt x (length names) ≡ b → x < length names
    by true p = grind (arith, nat_tests)
    by false p =
        let past : length names ≤ x = grind (arith, nat_tests) in
        let N : List ℕ → Type 0 = λ l. IsNameText l in
        absurd (no_text (subst N (ap (λ (o : Option (List ℕ)). unwrap_or o []) (slice_get_past names x past)) good))

pub expression_named : (names : List (List ℕ)) (e : Expression) → IsWritten names e → IsNamedIn (length names) e
expression_named names (Lit z) h = tt
expression_named names (Var x) h = text_within names x h
expression_named names (Read a i) h = (text_within names a h.0, expression_named names i h.1)
expression_named names (Neg e) h = expression_named names e h
expression_named names (Plus d e) h = (expression_named names d h.0, expression_named names e h.1)
expression_named names (Minus d e) h = (expression_named names d h.0, expression_named names e h.1)
expression_named names (Times d e) h = (expression_named names d h.0, expression_named names e h.1)

pub condition_named : (names : List (List ℕ)) (b : Condition) → IsTested names b → IsTestedIn (length names) b
condition_named names Yes h = tt
condition_named names No h = tt
condition_named names (Compare op d e) h = (expression_named names d h.0, expression_named names e h.1)
condition_named names (Not b) h = condition_named names b h
condition_named names (And b c) h = (condition_named names b h.0, condition_named names c h.1)
condition_named names (Or b c) h = (condition_named names b h.0, condition_named names c h.1)

pub code_named : (names : List (List ℕ)) (c : Code) → IsCode names c → IsUsedIn (length names) c
code_named names End h = tt
code_named names (Skip k) h = code_named names k h
code_named names (Assign x e k) h = (text_within names x h.0, expression_named names e h.1, code_named names k h.2)
code_named names (Write a i e k) h =
    (text_within names a h.0, expression_named names i h.1, expression_named names e h.2, code_named names k h.3)
code_named names (If b c e k) h = (condition_named names b h.0, code_named names c h.1, code_named names e h.2, code_named names k h.3)
code_named names (While b c k) h = (condition_named names b h.0, code_named names c h.1, code_named names k h.2)
code_named names (Hole h k) good = code_named names k good.1

pub declared_named : (names : List (List ℕ)) (ds : List (ℕ × Sort)) → AreDeclaredTexts names ds → AreDeclaredIn (length names) ds
declared_named names [] h = tt
declared_named names (d ∷ ds) h = (text_within names d.0 h.0, declared_named names ds h.1)

pub outputs_named : (names : List (List ℕ)) (xs : List ℕ) → AreTexts names xs → AreOutputsIn (length names) xs
outputs_named names [] h = tt
outputs_named names (x ∷ xs) h = (text_within names x h.0, outputs_named names xs h.1)

pub assumed_named : (names : List (List ℕ)) (o : Option Condition) → IsAssumedText names o → IsAssumedIn (length names) o
assumed_named names None h = tt
assumed_named names (Some b) h = condition_named names b h

filled_named : (names : List (List ℕ)) (fs : Fillings) → AreFillingTexts names fs → AreFilledIn (length names) fs
filled_named names [] h = tt
filled_named names (f ∷ fs) h = (code_named names f.1 h.1, filled_named names fs h.2)

-- each name of a task has a text
pub record IsNamed (t : Parts) : Type 0 where
  pub declared : AreDeclaredIn (length t.names) t.declared
  pub outputs : AreOutputsIn (length t.names) t.outputs
  pub assumed : IsAssumedIn (length t.names) t.assumed
  pub shared : IsUsedIn (length t.names) t.shared
  pub fillings : (c : Copy) → AreFilledIn (length t.names) (t.fillings c)

pub task_named : (t : Parts) → IsTaskText t.names t → IsNamed t
task_named t good = record {
  declared = declared_named t.names t.declared good.declared;
  outputs = outputs_named t.names t.outputs good.outputs;
  assumed = assumed_named t.names t.assumed good.assumed;
  shared = code_named t.names t.shared good.shared;
  fillings = λ (c : Copy). filled_named t.names (t.fillings c) (good.fillings c);
}
