-- Each task that the grammar spells is read, or refused at the first symbol that nests too deep.
use Rattle.sm_text.proofs.Imports.{◌≡◌, ℕ, pos, refl, sym, ap, ◌∙◌, subst, Bool, true, false, Option, Some, Result, Ok, Err, List, [], ◌∷◌, ◌++◌, map, append_assoc, fun_ext, Sort, Num, Arr, Condition, Code, Fillings, Copy, Marked, plain, word, Symbol, Mark, declares, with_sort, AreNames, AreDeclarations, AreOutputs, IsAssumption, IsShared, AreFillings, IsList, IsTask, Parts, by_copy, IsInGrammar, names_of, symbols_of, first, Parser, go_on, ◌>>=◌, ◌>>◌, pure, stands, unmarked, OneParse, HeadParts}
use Rattle.std.proofs.lemmas.List.{append-nil}
use Rattle.sm_syntax.specs.declared.symbol.Mark.TheVariants as mark
use Rattle.sm_syntax.specs.declared.symbol.Symbol.TheVariants as s
use Rattle.sm_syntax.specs.declared.tree.Name.{Name}
use Rattle.sm_syntax.specs.claim.ConflictFree as claim
use Rattle.sm_syntax.specs.text.StatementGrammar as stmt
use Rattle.sm_syntax.specs.text.TaskGrammar as task
use Rattle.sm_text.specs.rules.Parsers.{expect, Fault}
use Rattle.sm_text.specs.rules.Reading as r
use Rattle.sm_text.proofs.Sound.Loops.{next_name-shorter, more_names-end, declaration-shorter, more_declarations-end, filling-shorter, more_fillings-end}
use Rattle.sm_text.proofs.Complete.Parsers.{reach, ended, bind-then, reads-then, go_on-go_on, go_on-pure, expect-then, gather-step, unmarked-plain, reach-plain}
use Rattle.sm_text.proofs.Complete.Conditions.{condition_read}
use Rattle.sm_text.proofs.Complete.Statements.{hole_number_found, block_read}

name_step : (before : List ℕ) (ts : List Symbol) → stands mark.Comma (first ts) ≡ true →
    r.more_names before ts ≡ go_on (r.next_name ts) (λ (x : Name). r.more_names (r.with_name before x))
unfolding r.more_names
name_step before ts b = gather-step (stands mark.Comma) r.next_name r.with_name next_name-shorter before ts b

name_found : (x : Name) (ts : List Symbol) → r.name (s.Name x ∷ ts) ≡ Ok (x, ts)
unfolding r.name
name_found x ts = refl

next_name_is : (ts : List Symbol) → r.next_name (s.Mark mark.Comma ∷ ts) ≡ r.name ts
unfolding r.next_name expect
next_name_is ts = refl

names_from : {ts : List Marked} {xs : List ℕ} → AreNames ts xs → (before : List ℕ) (z : List Symbol) → stands mark.Comma (first z) ≡ false →
    go_on (r.name (unmarked ts ++ z)) (λ (x : Name). r.more_names (r.with_name before x)) ≡ reach ts z (Ok (before ++ xs, z))
names_from (task.last x) before z end =
    ap (λ (a : Result (Name × List Symbol) Fault). go_on a (λ (y : Name). r.more_names (r.with_name before y))) (name_found x z)
    ∙ more_names-end (r.with_name before x) z end
names_from (task.more {ts = ts} {xs = xs} x p) before z end =
    ap (λ (a : Result (Name × List Symbol) Fault). go_on a (λ (y : Name). r.more_names (r.with_name before y)))
    (name_found x (s.Mark mark.Comma ∷ (unmarked ts ++ z)))
    ∙ name_step (r.with_name before x) (s.Mark mark.Comma ∷ (unmarked ts ++ z)) refl
    ∙ ap (λ (a : Result (Name × List Symbol) Fault). go_on a (λ (y : Name). r.more_names (r.with_name (r.with_name before x) y)))
    (next_name_is (unmarked ts ++ z))
    ∙ names_from p (r.with_name before x) z end
    ∙ ap (λ (l : List ℕ). reach ts z (Ok (l, z))) (append_assoc before (x.0 ∷ []) xs)

-- names are read
names_read : {ts : List Marked} {xs : List ℕ} → AreNames ts xs → (z : List Symbol) → stands mark.Comma (first z) ≡ false →
    r.names (unmarked ts ++ z) ≡ reach ts z (Ok (xs, z))
unfolding r.names
names_read p z end = names_from p [] z end

-- names up to a semicolon, and what goes on after it
names_to_end-then : {U : Type 0} {ts : List Marked} (us : List Marked) {xs : List ℕ} → AreNames ts xs →
    (z : List Symbol) (more : List ℕ → Parser U) (a : Result (U × List Symbol) Fault) → more xs (unmarked us ++ z) ≡ reach us z a →
    go_on (r.names_to_end (unmarked (ts ++ word mark.Semicolon ∷ us) ++ z)) more ≡ reach (ts ++ word mark.Semicolon ∷ us) z a
unfolding r.names_to_end
names_to_end-then {ts = ts} us {xs = xs} p z more a e =
    ended r.names mark.Semicolon (λ (l : List ℕ). l) ts us xs z more a (λ y. names_read p (s.Mark mark.Semicolon ∷ y) refl) e

declaration_step : (before : List (ℕ × Sort)) (ts : List Symbol) → r.begins_declaration (first ts) ≡ true →
    r.more_declarations before ts ≡ go_on (r.declaration ts) (λ (x : List (ℕ × Sort)). r.more_declarations (before ++ x))
unfolding r.more_declarations
declaration_step before ts b = gather-step r.begins_declaration r.declaration ◌++◌ declaration-shorter before ts b

declares_begins : (sort : Sort) → r.begins_declaration (Some (s.Mark (declares sort))) ≡ true
declares_begins Num = refl
declares_begins Arr = refl

declaration_is : (sort : Sort) (ts : List Symbol) → r.declaration (s.Mark (declares sort) ∷ ts) ≡ r.declared sort ts
unfolding r.declaration
declaration_is Num ts = refl
declaration_is Arr ts = refl

declared-then : {U : Type 0} (sort : Sort) {ts : List Marked} (us : List Marked) {xs : List ℕ} → AreNames ts xs →
    (z : List Symbol) (more : List (ℕ × Sort) → Parser U) (a : Result (U × List Symbol) Fault) →
    more (with_sort sort xs) (unmarked us ++ z) ≡ reach us z a →
    go_on (r.declared sort (unmarked (ts ++ word mark.Semicolon ∷ us) ++ z)) more ≡ reach (ts ++ word mark.Semicolon ∷ us) z a
unfolding r.declared
declared-then sort {ts = ts} us p z more a e =
    go_on-go_on (r.names_to_end (unmarked (ts ++ word mark.Semicolon ∷ us) ++ z)) (λ (l : List ℕ). pure (with_sort sort l)) more
    ∙ names_to_end-then us p z (λ (l : List ℕ). more (with_sort sort l)) a e

declarations_from : {ts : List Marked} {ds : List (ℕ × Sort)} → AreDeclarations ts ds → (before : List (ℕ × Sort)) (z : List Symbol) →
    r.begins_declaration (first z) ≡ false → r.more_declarations before (unmarked ts ++ z) ≡ reach ts z (Ok (before ++ ds, z))
declarations_from task.none before z end =
    more_declarations-end before z end ∙ ap (λ (l : List (ℕ × Sort)). Ok (l, z)) (sym (append-nil before))
declarations_from (task.more {ts = ts} {us = us} {xs = xs} {ds = ds} sort p q) before z end =
    declaration_step before (s.Mark (declares sort) ∷ (unmarked (ts ++ word mark.Semicolon ∷ us) ++ z)) (declares_begins sort)
    ∙ ap (λ (a : Result (List (ℕ × Sort) × List Symbol) Fault). go_on a (λ (x : List (ℕ × Sort)). r.more_declarations (before ++ x)))
    (declaration_is sort (unmarked (ts ++ word mark.Semicolon ∷ us) ++ z))
    ∙ declared-then sort us p z (λ (x : List (ℕ × Sort)). r.more_declarations (before ++ x)) (Ok (before ++ (with_sort sort xs ++ ds), z))
    (declarations_from q (before ++ with_sort sort xs) z end
    ∙ ap (λ (l : List (ℕ × Sort)). reach us z (Ok (l, z))) (append_assoc before (with_sort sort xs) ds))

-- declarations are read
pub declarations_read : {ts : List Marked} {ds : List (ℕ × Sort)} → AreDeclarations ts ds → (z : List Symbol) →
    r.begins_declaration (first z) ≡ false → r.declarations (unmarked ts ++ z) ≡ reach ts z (Ok (ds, z))
unfolding r.declarations
declarations_read p z end = declarations_from p [] z end

-- the outputs are read
pub outputs_read : {ts : List Marked} {xs : List ℕ} → AreOutputs ts xs → (z : List Symbol) →
    r.outputs (unmarked ts ++ z) ≡ reach ts z (Ok (xs, z))
unfolding r.outputs expect
outputs_read (task.outputs {ts = ts} {xs = xs} p) z =
    sym (go_on-pure (r.names_to_end (unmarked (ts ++ word mark.Semicolon ∷ []) ++ z))) ∙ names_to_end-then [] p z pure (Ok (xs, z)) refl

pub outputs_begin : {ts : List Marked} {xs : List ℕ} → AreOutputs ts xs → (us : List Marked) (z : List Symbol) →
    r.begins_declaration (first (unmarked (ts ++ us) ++ z)) ≡ false
outputs_begin (task.outputs p) us z = refl

-- what is assumed is read
assumption_read : {ts : List Marked} {b : Option Condition} → IsAssumption ts b → (z : List Symbol) → stands mark.Assume (first z) ≡ false →
    r.assumed (unmarked ts ++ z) ≡ reach ts z (Ok (b, z))
unfolding r.assumed r.assumption_line r.group_limit
assumption_read task.none z end = ap (λ (b : Bool). r.assumed_by b z) end
assumption_read (task.assumes {ts = ts} {b = b} p) z end =
    sym (go_on-pure (r.assumption_line (unmarked (ts ++ word mark.Semicolon ∷ []) ++ z)))
    ∙ ended (r.condition 64) mark.Semicolon (λ (c : Condition). Some c) ts [] b z pure (Ok (Some b, z))
    (λ y. condition_read p 64 refl (s.Mark mark.Semicolon ∷ y)
    (record { value = record { square = refl; product = refl; sum = refl }; conjunction = refl; disjunction = refl })) refl

-- the shared block is read
pub shared_read : {ts : List Marked} {c : Code} → IsShared ts c → (z : List Symbol) → r.shared (unmarked ts ++ z) ≡ reach ts z (Ok (c, z))
unfolding r.shared r.group_limit expect
shared_read (task.shared p) z = block_read p 64 refl z

shared_begins : {ts : List Marked} {c : Code} → IsShared ts c → (us : List Marked) (z : List Symbol) →
    stands mark.Assume (first (unmarked (ts ++ us) ++ z)) ≡ false
shared_begins (task.shared p) us z = refl

filling_step : (before : Fillings) (ts : List Symbol) → stands mark.Question (first ts) ≡ true →
    r.more_fillings before ts ≡ go_on (r.hole_filling ts) (λ (f : ℕ × Code). r.more_fillings (r.with_filling before f))
unfolding r.more_fillings
filling_step before ts b = gather-step (stands mark.Question) r.hole_filling r.with_filling filling-shorter before ts b

filling_is : (h : ℕ) → stmt.IsHoleNumber h → (ts : List Symbol) →
    r.hole_filling (s.Mark mark.Question ∷ s.Number (pos h) ∷ ts) ≡ go_on (r.block 63 ts) (λ (c : Code). pure (h, c))
unfolding r.hole_filling r.list_limit expect
filling_is h inside ts =
    ap (λ (a : Result (ℕ × List Symbol) Fault). go_on a (λ (n : ℕ). r.block 63 >>= λ (c : Code). pure (n, c)))
    (hole_number_found h inside ts)

fillings_from : {ts : List Marked} {fs : Fillings} → AreFillings ts fs → (before : Fillings) (z : List Symbol) →
    stands mark.Question (first z) ≡ false → r.more_fillings before (unmarked ts ++ z) ≡ reach ts z (Ok (before ++ fs, z))
fillings_from task.none before z end = more_fillings-end before z end ∙ ap (λ (l : Fillings). Ok (l, z)) (sym (append-nil before))
fillings_from (task.more {ts = ts} {us = us} {c = c} {fs = fs} h inside p q) before z end =
    filling_step before (s.Mark mark.Question ∷ s.Number (pos h) ∷ (unmarked (ts ++ us) ++ z)) refl
    ∙ ap (λ (a : Result ((ℕ × Code) × List Symbol) Fault). go_on a (λ (f : ℕ × Code). r.more_fillings (r.with_filling before f)))
    (filling_is h inside (unmarked (ts ++ us) ++ z))
    ∙ bind-then (r.block 63) ts us z c (λ (x : Code). pure (h, x)) (λ (f : ℕ × Code). r.more_fillings (r.with_filling before f))
    (Ok (before ++ (h, c) ∷ fs, z)) (block_read p 63 refl (unmarked us ++ z))
    (fillings_from q (before ++ (h, c) ∷ []) z end ∙ ap (λ (l : Fillings). reach us z (Ok (l, z))) (append_assoc before ((h, c) ∷ []) fs))

-- fillings are read
fillings_read : {ts : List Marked} {fs : Fillings} → AreFillings ts fs → (z : List Symbol) → stands mark.Question (first z) ≡ false →
    r.fillings (unmarked ts ++ z) ≡ reach ts z (Ok (fs, z))
unfolding r.fillings
fillings_read p z end = fillings_from p [] z end

-- the list of a copy is read
list_read : {m : Mark} {ts : List Marked} {fs : Fillings} → IsList m ts fs → (z : List Symbol) →
    r.list m (unmarked ts ++ z) ≡ reach ts z (Ok (fs, z))
unfolding r.list
list_read (task.list {ts = ts} {fs = fs} m p) z =
    expect-then m (s.Mark mark.OpenCurly ∷ (unmarked (ts ++ word mark.CloseCurly ∷ []) ++ z))
    (λ (u : Unit {0}). expect mark.OpenCurly >> inner)
    ∙ expect-then mark.OpenCurly (unmarked (ts ++ word mark.CloseCurly ∷ []) ++ z) (λ (u : Unit {0}). inner)
    ∙ sym (go_on-pure (inner (unmarked (ts ++ word mark.CloseCurly ∷ []) ++ z)))
    ∙ ended r.fillings mark.CloseCurly (λ (l : Fillings). l) ts [] fs z pure (Ok (fs, z))
    (λ y. fillings_read p (s.Mark mark.CloseCurly ∷ y) refl) refl
  where
    inner : Parser Fillings
    inner = r.fillings >>= λ (l : Fillings). expect mark.CloseCurly >> pure l

-- the head of a task that has these parts
abbrev front_of : Parts → HeadParts
front_of t = record {
  program = record { names = t.names; declared = t.declared; outputs = t.outputs; body = t.shared };
  assumed = t.assumed;
}

-- the fillings of a task, copy by copy
abbrev listed : Parts → Copy → Fillings
listed t = by_copy (t.fillings claim.O) (t.fillings claim.A) (t.fillings claim.B) (t.fillings claim.M)

pub head-then : {U : Type 0} (h : HeadParts) {ts us vs ws : List Marked} (others : List Marked) → AreDeclarations ts h.program.declared →
    AreOutputs us h.program.outputs → IsAssumption vs h.assumed → IsShared ws h.program.body →
    (z : List Symbol) (more : HeadParts → Parser U) (a : Result (U × List Symbol) Fault) →
    more h (unmarked others ++ z) ≡ reach others z a → go_on (r.head h.program.names (unmarked (ts ++ (us ++ (vs ++ (ws ++ others)))) ++ z))
    more ≡ reach (ts ++ (us ++ (vs ++ (ws ++ others)))) z a
unfolding r.head
head-then h {ts = ts} {us = us} {vs = vs} {ws = ws} others declared named assumed code z more a e =
    bind-then r.declarations ts (us ++ (vs ++ (ws ++ others))) z ds with_outputs more a
    (declarations_read declared (unmarked (us ++ (vs ++ (ws ++ others))) ++ z) (outputs_begin named (vs ++ (ws ++ others)) z))
    (bind-then r.outputs us (vs ++ (ws ++ others)) z xs (with_assumed ds) more a (outputs_read named (unmarked (vs ++ (ws ++ others)) ++ z))
    (bind-then r.assumed vs (ws ++ others) z h.assumed (with_shared ds xs) more a
    (assumption_read assumed (unmarked (ws ++ others) ++ z) (shared_begins code others z))
    (bind-then r.shared ws others z h.program.body (front ds xs h.assumed) more a (shared_read code (unmarked others ++ z)) e)))
  where
    ds : List (ℕ × Sort)
    ds = h.program.declared

    xs : List ℕ
    xs = h.program.outputs

    front : List (ℕ × Sort) → List ℕ → Option Condition → Code → Parser HeadParts
    front ds xs b c = pure (record { program = record { names = h.program.names; declared = ds; outputs = xs; body = c }; assumed = b })

    with_shared : List (ℕ × Sort) → List ℕ → Option Condition → Parser HeadParts
    with_shared ds xs b = r.shared >>= front ds xs b

    with_assumed : List (ℕ × Sort) → List ℕ → Parser HeadParts
    with_assumed ds xs = r.assumed >>= with_shared ds xs

    with_outputs : List (ℕ × Sort) → Parser HeadParts
    with_outputs ds = r.outputs >>= with_assumed ds

lists-then : {U : Type 0} (t : Parts) {os xs ys ms : List Marked} → IsList mark.Base os (t.fillings claim.O) →
    IsList mark.VariantA xs (t.fillings claim.A) → IsList mark.VariantB ys (t.fillings claim.B) →
    IsList mark.Candidate ms (t.fillings claim.M) → (z : List Symbol) (more : (Copy → Fillings) → Parser U) →
    go_on (r.lists (unmarked (os ++ (xs ++ (ys ++ ms))) ++ z)) more ≡ reach (os ++ (xs ++ (ys ++ ms))) z (more (listed t) z)
unfolding r.lists
lists-then t {os = os} {xs = xs} {ys = ys} {ms = ms} base variant_a variant_b candidate z more =
    bind-then (r.list mark.Base) os (xs ++ (ys ++ ms)) z (t.fillings claim.O) with_a more (more (listed t) z)
    (list_read base (unmarked (xs ++ (ys ++ ms)) ++ z))
    (bind-then (r.list mark.VariantA) xs (ys ++ ms) z (t.fillings claim.A) (with_b (t.fillings claim.O)) more (more (listed t) z)
    (list_read variant_a (unmarked (ys ++ ms) ++ z))
    (bind-then (r.list mark.VariantB) ys ms z (t.fillings claim.B) (with_candidate (t.fillings claim.O) (t.fillings claim.A)) more
    (more (listed t) z) (list_read variant_b (unmarked ms ++ z))
    (go_on-go_on (r.list mark.Candidate (unmarked ms ++ z)) (all (t.fillings claim.O) (t.fillings claim.A) (t.fillings claim.B)) more
    ∙ reads-then ms z (Ok (t.fillings claim.M, z))
    (λ (m : Fillings) (l : List Symbol). go_on (all (t.fillings claim.O) (t.fillings claim.A) (t.fillings claim.B) m l) more)
    (list_read candidate z))))
  where
    all : Fillings → Fillings → Fillings → Fillings → Parser (Copy → Fillings)
    all o x y m = pure (by_copy o x y m)

    with_candidate : Fillings → Fillings → Fillings → Parser (Copy → Fillings)
    with_candidate o x y = r.list mark.Candidate >>= all o x y

    with_b : Fillings → Fillings → Parser (Copy → Fillings)
    with_b o x = r.list mark.VariantB >>= with_candidate o x

    with_a : Fillings → Parser (Copy → Fillings)
    with_a o = r.list mark.VariantA >>= with_b o

all_copies : (fs : Copy → Fillings) → by_copy (fs claim.O) (fs claim.A) (fs claim.B) (fs claim.M) ≡ fs
all_copies fs = fun_ext same
  where
    same : (c : Copy) → by_copy (fs claim.O) (fs claim.A) (fs claim.B) (fs claim.M) c ≡ fs c
    same claim.O = refl
    same claim.A = refl
    same claim.B = refl
    same claim.M = refl

-- a task is read
pub task_read : {ts : List Marked} {t : Parts} → IsTask ts t → (z : List Symbol) →
    r.task t.names (unmarked ts ++ z) ≡ reach ts z (Ok (t, z))
unfolding r.task
task_read (task.task {o = os} {a = xs} {b = ys} {m = ms} t declared named assumed code base variant_a variant_b candidate) z =
    head-then (front_of t) (os ++ (xs ++ (ys ++ ms))) declared named assumed code z
    (λ (h : HeadParts). r.lists >>= λ (fs : Copy → Fillings). pure (r.with_lists h fs)) (Ok (t, z))
    (lists-then t base variant_a variant_b candidate z (λ (fs : Copy → Fillings). pure (r.with_lists (front_of t) fs))
    ∙ ap (λ (fs : Copy → Fillings). reach (os ++ (xs ++ (ys ++ ms))) z (Ok (r.with_lists (front_of t) fs, z))) (all_copies t.fillings))

-- the symbols of a task are read to their end, or refused at the first that nests too deep
whole_read : {ts : List Marked} {t : Parts} → IsTask ts t → r.whole t.names (unmarked ts) ≡ r.to_end (reach ts [] (Ok (t, [])))
unfolding r.whole
whole_read {ts} {t} p =
    ap (λ (l : List Symbol). r.to_end (r.task t.names l)) (sym (append-nil (unmarked ts)))
    ∙ ap (λ (a : Result (Parts × List Symbol) Fault). r.to_end a) (task_read p [])

-- symbols of which none nests too deep are read as the task that the grammar spells by them
read_complete : (ts : List Symbol) (t : Parts) → IsTask (map plain ts) t → r.whole t.names ts ≡ Ok t
read_complete ts t p =
    ap (λ (l : List Symbol). r.whole t.names l) (sym (unmarked-plain ts))
    ∙ whole_read p
    ∙ ap (λ (a : Result (Parts × List Symbol) Fault). r.to_end a) (reach-plain ts [] (Ok (t, [])))

-- the symbols of a text that is in the grammar are read as its task
pub spelled_read : (bytes : List ℕ) (t : Parts) (names : List (List ℕ)) (ts : List Symbol) → IsInGrammar bytes t → names ≡ names_of bytes →
    ts ≡ symbols_of bytes → r.whole names ts ≡ Ok t
spelled_read bytes t names ts p n e =
    let G : List Symbol → Type 0 = λ l. IsTask (map plain l) t in
    ap (λ (l : List (List ℕ)). r.whole l ts) (n ∙ sym p.names) ∙ read_complete ts t (subst G (sym e) p.grammar)

ok_same : (x y : Parts) → (let a : Result Parts Fault = Ok x in a) ≡ Ok y → x ≡ y
ok_same x y e = cc

-- what is read of a text is the task that it spells
pub parts_read : (bytes : List ℕ) (t : Parts) (names : List (List ℕ)) (ts : List Symbol) (u : Parts) → IsInGrammar bytes t →
    names ≡ names_of bytes → ts ≡ symbols_of bytes → r.whole names ts ≡ Ok u → u ≡ t
parts_read bytes t names ts u p n e f = ok_same u t (sym f ∙ spelled_read bytes t names ts p n e)

-- a text is in the grammar by at most one task
pub one_parse : OneParse
one_parse bytes t u p q =
    parts_read bytes u (names_of bytes) (symbols_of bytes) t q refl refl
    (spelled_read bytes t (names_of bytes) (symbols_of bytes) p refl refl)

not_ok : (f : Fault) (x : Parts) → (let a : Result Parts Fault = Err f in a) ≡ Ok x → ⊥
not_ok f x e = cc

-- a text that is refused is in the grammar by no task
pub not_refused : (bytes : List ℕ) (t : Parts) (names : List (List ℕ)) (ts : List Symbol) (f : Fault) → IsInGrammar bytes t →
    names ≡ names_of bytes → ts ≡ symbols_of bytes → r.whole names ts ≡ Err f → ⊥
not_refused bytes t names ts f p n e g = not_ok f t (sym g ∙ spelled_read bytes t names ts p n e)
