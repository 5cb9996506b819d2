-- A task that a text spells nests nowhere too deep in its canonical text.
use Rattle.sm_text.proofs.Imports.{◌≡◌, ℕ, ◌≤◌, ◌==◌, Bool, true, false, not, ◌||◌, Option, Some, None, List, [], ◌∷◌, ◌++◌, length, map, nat_lt, refl, sym, ap, ◌∙◌, subst, arith, eq-eqb, nat_tests, list_any-append, AllByRecursion, option_or, Sort, Condition, Code, End, Skip, Assign, Write, If, While, Hole, Refusal, DoubleHole, UnknownHole, TooMany, TooDeep, is_in, first_repeated, first_outside, first_of_all, first_of_lists, Shared, ListOf, at_hole, holes_of, filled_holes, hole_in_filling, missing_filling, double_name, first_output_fault, first_sort_fault, over, condition_depth, code_depth, condition_nodes, code_nodes, names_tested, names_used, Fillings, filling, fill, Copy, O, A, B, M, Parts, sort_of, Marked, plain, Symbol, Mark, IsAssumption, IsShared, AreNames, AreOutputs, AreFillings, IsList, IsTask}
use Rattle.std.proofs.Common.{if◌then◌else◌}
use Rattle.std.specs.Prelude.{option_map}
use Rattle.sm_syntax.specs.declared.symbol.Mark.TheVariants as mark
use Rattle.sm_syntax.specs.text.Conditions.{double_hole}
use Rattle.sm_syntax.specs.text.Conditions.{unknown_hole, size_fault, program_fault, ill_formed, ill_assumed, first_refusal}
use Rattle.sm_syntax.specs.text.MarkedSymbols as g
use Rattle.sm_syntax.specs.text.TaskGrammar as task
use Rattle.sm_text.proofs.RoundTrip.CodeSpelled.{IsPrintable}
use Rattle.sm_text.proofs.RoundTrip.TaskSpelled.{FitsAssumption, ArePrintable, HasOutput, IsPrintableTask}
use Rattle.sm_text.proofs.RoundTrip.Fitting.{IsClean, clean_left, clean_right, clean_plain, condition_reads, block_fits, depth-append, depth-fill}

-- neither of two refusals
none_left : {T : Type 0} (a b : Option T) → option_or a b ≡ None → a ≡ None
none_left None b h = refl
none_left (Some x) b h = cc

none_right : {T : Type 0} (a b : Option T) → option_or a b ≡ None → b ≡ None
none_right None b h = h
none_right (Some x) b h = cc

none_map : (f : ℕ → Refusal) (o : Option ℕ) → option_map f o ≡ None → o ≡ None
none_map f None h = refl
none_map f (Some x) h = cc

-- none of these refusals
none_of : (rs : List (Option Refusal)) → first_of_all rs ≡ None → AllByRecursion (λ (r : Option Refusal). r ≡ None) rs
none_of [] h = tt
none_of (r ∷ rs) h = (none_left r (first_of_all rs) h, none_of rs (none_right r (first_of_all rs) h))

if_none : {T : Type 0} (b : Bool) (x : T) → (if b then Some x else None) ≡ None → b ≡ false
if_none true x h = cc
if_none false x h = refl

-- a number that is not over its limit
within : (limit n : ℕ) (r : Refusal) → over limit n r ≡ None → n ≤ limit
within limit n r h = let no = if_none (nat_lt limit n) r h in grind (arith, nat_tests)

or_then : {T : Type 0} (a b : Bool) → (a || b) ≡ true → (a ≡ true → T) → (b ≡ true → T) → T
or_then true b h at_left at_right = at_left refl
or_then false b h at_left at_right = at_right h

-- a number among two lists
in_then : {T : Type 0} (h : ℕ) (xs ys : List ℕ) → is_in (xs ++ ys) h ≡ true → (is_in xs h ≡ true → T) → (is_in ys h ≡ true → T) → T
in_then h xs ys p at_left at_right =
    let split : (is_in xs h || is_in ys h) ≡ true = sym (list_any-append (λ (y : ℕ). h == y) xs ys) ∙ p in
    or_then (is_in xs h) (is_in ys h) split at_left at_right

-- a hole's code is no deeper than code that has the hole, filled
pub depth-filling : (fs : Fillings) (c : Code) (h : ℕ) → is_in (holes_of c) h ≡ true → code_depth (filling fs h) ≤ code_depth (fill fs c)
depth-filling fs End h in_ = cc
depth-filling fs (Skip k) h in_ = omega (arith, depth-filling fs k h in_)
depth-filling fs (Assign x e k) h in_ = omega (arith, depth-filling fs k h in_)
depth-filling fs (Write a i e k) h in_ = omega (arith, depth-filling fs k h in_)
depth-filling fs (If b c e k) h in_ =
    in_then h (holes_of c ++ holes_of e) (holes_of k) in_
    (λ p. in_then h (holes_of c) (holes_of e) p (λ q. omega (arith, depth-filling fs c h q)) (λ q. omega (arith, depth-filling fs e h q)))
    (λ p. omega (arith, depth-filling fs k h p))
depth-filling fs (While b c k) h in_ =
    in_then h (holes_of c) (holes_of k) in_ (λ p. omega (arith, depth-filling fs c h p)) (λ p. omega (arith, depth-filling fs k h p))
depth-filling fs (Hole j k) h in_ =
    let both = depth-append (filling fs j) (fill fs k) in
    or_then (h == j) (is_in (holes_of k) h) in_
    (λ p. let same : h ≡ j = grind (arith, nat_tests) in let D : ℕ →
    Type 0 = λ n. code_depth (filling fs n) ≤ code_depth (fill fs (Hole j k)) in subst D (sym same) (omega (arith, both)))
    (λ p. omega (arith, both, depth-filling fs k h p))

-- each filling is no deeper than a program may be
abbrev pub AreShallow : Fillings → Type 0
AreShallow [] = Unit {0}
AreShallow (f ∷ fs) = (code_depth f.1 ≤ 64) × AreShallow fs

not_false : (b : Bool) → not b ≡ false → b ≡ true
not_false true h = refl
not_false false h = cc

either_false : (a b : Bool) → (a || b) ≡ false → (a ≡ false) × (b ≡ false)
either_false true b h = cc
either_false false b h = (refl, h)

first_here : (f : ℕ × Code) (fs : Fillings) → filling (f ∷ fs) f.0 ≡ f.1
first_here f fs = ap (λ (t : Bool). if t then f.1 else filling fs f.0) (eq-eqb f.0 f.0 refl)

first_there : (f : ℕ × Code) (fs : Fillings) (h : ℕ) → (h == f.0) ≡ false → filling (f ∷ fs) h ≡ filling fs h
first_there f fs h apart =
    let other : (f.0 == h) ≡ false = grind (arith, nat_tests) in
    ap (λ (t : Bool). if t then f.1 else filling fs h) other

-- where each hole that is filled is filled once, and stands in a program that is no deeper
shallow : (all fs : Fillings) (seen holes : List ℕ) → first_repeated seen (filled_holes fs) ≡ None →
    first_outside holes (filled_holes fs) ≡ None →
    ((h : ℕ) → is_in seen h ≡ false → filling all h ≡ filling fs h) → ((h : ℕ) → is_in holes h ≡ true → code_depth (filling all h) ≤ 64) →
    AreShallow fs
shallow all [] seen holes once known same deep = tt
shallow all (f ∷ fs) seen holes once known same deep =
    let new : is_in seen f.0 ≡ false = if_first (is_in seen f.0) f.0 (first_repeated (f.0 ∷ seen) (filled_holes fs)) once in
    let more : first_repeated (f.0 ∷ seen) (filled_holes fs) ≡ None =
    if_rest (is_in seen f.0) f.0 (first_repeated (f.0 ∷ seen) (filled_holes fs)) once in
    let here : not (is_in holes f.0) ≡ false = if_first (not (is_in holes f.0)) f.0 (first_outside holes (filled_holes fs)) known in
    let rest : first_outside holes (filled_holes fs) ≡ None =
    if_rest (not (is_in holes f.0)) f.0 (first_outside holes (filled_holes fs)) known in
    let D : Code → Type 0 = λ c. code_depth c ≤ 64 in (
      subst D (same f.0 new ∙ first_here f fs) (deep f.0 (not_false (is_in holes f.0) here)),
      shallow all fs (f.0 ∷ seen) holes more rest
          (λ (h : ℕ) (out : is_in (f.0 ∷ seen) h ≡ false). let apart = either_false (h == f.0) (is_in seen h) out in same h apart.1
          ∙ first_there f fs h apart.0)
          deep,
    )
  where
    if_first : (b : Bool) (x : ℕ) (o : Option ℕ) → (if b then Some x else o) ≡ None → b ≡ false
    if_first true x o h = cc
    if_first false x o h = refl

    if_rest : (b : Bool) (x : ℕ) (o : Option ℕ) → (if b then Some x else o) ≡ None → o ≡ None
    if_rest true x o h = cc
    if_rest false x o h = h

-- the question of each list
each_list : (f : Copy → Option Refusal) → first_of_lists f ≡ None → (c : Copy) → f c ≡ None
each_list f h O = (none_of (f O ∷ f A ∷ f B ∷ f M ∷ []) h).0
each_list f h A = (none_of (f O ∷ f A ∷ f B ∷ f M ∷ []) h).1.0
each_list f h B = (none_of (f O ∷ f A ∷ f B ∷ f M ∷ []) h).1.1.0
each_list f h M = (none_of (f O ∷ f A ∷ f B ∷ f M ∷ []) h).1.1.1.0

-- a size without fault
size_within : (nodes depth : ℕ) → size_fault nodes depth ≡ None → depth ≤ 64
unfolding size_fault
size_within nodes depth h = within 64 depth TooDeep (none_of (over 20000 nodes TooMany ∷ over 64 depth TooDeep ∷ []) h).1.0

program_within : (ds : List (ℕ × Sort)) (os : List ℕ) (c : Code) → program_fault ds os c ≡ None → code_depth c ≤ 64
unfolding program_fault
program_within ds os c h =
    size_within (code_nodes c) (code_depth c)
    (none_of (double_name ds ∷ first_output_fault (sort_of ds) [] os ∷ first_sort_fault (sort_of ds) (names_used c) ∷ over 200
    (length ds) TooMany ∷ size_fault (code_nodes c) (code_depth c) ∷ []) h).1.1.1.1.0

assumption_within : (ds : List (ℕ × Sort)) (b : Condition) → ill_assumed ds (Some b) ≡ None → condition_depth b ≤ 64
unfolding ill_assumed
assumption_within ds b h =
    size_within (condition_nodes b) (condition_depth b)
    (none_of (first_sort_fault (sort_of ds) (names_tested b) ∷ size_fault (condition_nodes b) (condition_depth b) ∷ []) h).1.0

-- what is used here of a task that no condition refuses
record Passes (t : Parts) : Type 0 where
  filled_once : (c : Copy) → first_repeated [] (filled_holes (t.fillings c)) ≡ None
  known : (c : Copy) → first_outside (holes_of t.shared) (filled_holes (t.fillings c)) ≡ None
  programs : (c : Copy) → code_depth (fill (t.fillings c) t.shared) ≤ 64
  assumed : ill_assumed t.declared t.assumed ≡ None

once : (t : Parts) → double_hole t ≡ None → (c : Copy) → first_repeated [] (filled_holes (t.fillings c)) ≡ None
unfolding double_hole
once t h c =
    let of_list : Copy → Option Refusal = λ c. at_hole DoubleHole (ListOf c) (first_repeated [] (filled_holes (t.fillings c))) in
    none_map (DoubleHole (ListOf c)) (first_repeated [] (filled_holes (t.fillings c)))
    (each_list of_list (none_right (at_hole DoubleHole Shared (first_repeated [] (holes_of t.shared))) (first_of_lists of_list) h) c)

known_in : (t : Parts) → unknown_hole t ≡ None → (c : Copy) → first_outside (holes_of t.shared) (filled_holes (t.fillings c)) ≡ None
unfolding unknown_hole
known_in t h c =
    none_map (UnknownHole (ListOf c)) (first_outside (holes_of t.shared) (filled_holes (t.fillings c)))
    (each_list (λ c. at_hole UnknownHole (ListOf c) (first_outside (holes_of t.shared) (filled_holes (t.fillings c)))) h c)

depths : (t : Parts) → ill_formed t ≡ None → (c : Copy) → code_depth (fill (t.fillings c) t.shared) ≤ 64
unfolding ill_formed
depths t h c =
    program_within t.declared t.outputs (fill (t.fillings c) t.shared)
    (each_list (λ c. program_fault t.declared t.outputs (fill (t.fillings c) t.shared)) h c)

passes : (t : Parts) → first_refusal t ≡ None → Passes t
unfolding first_refusal
passes t valid =
    let all = none_of (double_hole t ∷ hole_in_filling t ∷ unknown_hole t ∷ missing_filling t ∷ ill_formed t ∷ ill_assumed t.declared
    t.assumed ∷ []) valid in
    record { filled_once = once t all.0; known = known_in t all.1.1.0; programs = depths t all.1.1.1.1.0; assumed = all.1.1.1.1.1.0 }

fillings_shallow : (t : Parts) → Passes t → (c : Copy) → AreShallow (t.fillings c)
fillings_shallow t p c =
    let fs = t.fillings c in
    shallow fs fs [] (holes_of t.shared) (p.filled_once c) (p.known c) (λ h out. refl)
    (λ (h : ℕ) (in_ : is_in (holes_of t.shared) h ≡ true). omega (arith, depth-filling fs t.shared h in_, p.programs c))

-- the parts of a task
some_names : {ts : List Marked} {xs : List ℕ} → AreNames ts xs → HasOutput xs
some_names (task.last x) = tt
some_names (AreNames.more x rest) = tt

pub some_outputs : {ts : List Marked} {xs : List ℕ} → AreOutputs ts xs → HasOutput xs
some_outputs (task.outputs names) = some_names names

assumption_fits : {ts : List Marked} {o : Option Condition} (ds : List (ℕ × Sort)) → IsAssumption ts o → IsClean ts →
    ill_assumed ds o ≡ None → FitsAssumption o
assumption_fits ds IsAssumption.none clean h = tt
assumption_fits ds (task.assumes {ts = ts} {b = b} test) clean h =
    record {
      depth = omega (arith, assumption_within ds b h);
      reads = condition_reads test (clean_left ts (g.word mark.Semicolon ∷ []) clean.1) (omega arith);
    }

pub shared_fits : {ts : List Marked} {c : Code} → IsShared ts c → IsClean ts → code_depth c ≤ 65 → IsPrintable 1 c
shared_fits (task.shared inner) clean deep = block_fits inner clean.1 (omega (arith, deep))

fillings_fit : {ts : List Marked} {fs : Fillings} → AreFillings ts fs → IsClean ts → AreShallow fs → ArePrintable fs
fillings_fit AreFillings.none clean deep = tt
fillings_fit (AreFillings.more {ts = ts} {us = us} h fits inner rest) clean deep =
    (fits, block_fits inner (clean_left ts us clean.1.1) (omega (arith, deep.0)), fillings_fit rest (clean_right ts us clean.1.1) deep.1)

list_fits : {m : Mark} {ts : List Marked} {fs : Fillings} → IsList m ts fs → IsClean ts → AreShallow fs → ArePrintable fs
list_fits (task.list {ts = ts} m inner) clean deep = fillings_fit inner (clean_left ts (g.word mark.CloseCurly ∷ []) clean.1.1) deep

-- a valid task of clean symbols
task_fits : {ms : List Marked} {t : Parts} → IsTask ms t → IsClean ms → Passes t → IsPrintableTask t
task_fits (task.task {ts = ts} {us = us} {vs = vs} {ws = ws} {o = o} {a = a} {b = b} {m = m} t decls outs assume body first second third
    fourth) clean p =
    let behind = clean_right ts (us ++ (vs ++ (ws ++ (o ++ (a ++ (b ++ m)))))) clean in
    let rest = clean_right us (vs ++ (ws ++ (o ++ (a ++ (b ++ m))))) behind in
    let more = clean_right vs (ws ++ (o ++ (a ++ (b ++ m)))) rest in
    let lists = clean_right ws (o ++ (a ++ (b ++ m))) more in
    let others = clean_right o (a ++ (b ++ m)) lists in
    let last = clean_right a (b ++ m) others in
    let depth = p.programs O in
    let of_copy = by_copies t p (list_fits first (clean_left o (a ++ (b ++ m)) lists)) (list_fits second (clean_left a (b ++ m) others))
    (list_fits third (clean_left b m last)) (list_fits fourth (clean_right b m last)) in
    record {
      outputs = some_outputs outs;
      assumed = assumption_fits t.declared assume (clean_left vs (ws ++ (o ++ (a ++ (b ++ m)))) rest) p.assumed;
      shared = shared_fits body (clean_left ws (o ++ (a ++ (b ++ m))) more) (omega (arith, depth, depth-fill (t.fillings O) t.shared));
      fillings = of_copy;
    }
  where
    by_copies : (t : Parts) → Passes t → (AreShallow (t.fillings O) → ArePrintable (t.fillings O)) →
        (AreShallow (t.fillings A) → ArePrintable (t.fillings A)) → (AreShallow (t.fillings B) → ArePrintable (t.fillings B))
        → (AreShallow (t.fillings M) → ArePrintable (t.fillings M)) → (c : Copy) → ArePrintable (t.fillings c)
    by_copies t p first second third fourth O = first (fillings_shallow t p O)
    by_copies t p first second third fourth A = second (fillings_shallow t p A)
    by_copies t p first second third fourth B = third (fillings_shallow t p B)
    by_copies t p first second third fourth M = fourth (fillings_shallow t p M)

pub task_printable : (ss : List Symbol) (t : Parts) → IsTask (map plain ss) t → first_refusal t ≡ None → IsPrintableTask t
task_printable ss t it valid = task_fits it (clean_plain ss) (passes t valid)
