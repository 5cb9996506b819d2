-- What is read of the sections of a task is what the grammar says.
use Rattle.sm_text.proofs.Imports.{◌≡◌, ℕ, ◌<◌, pos, refl, sym, ap, ◌∙◌, subst, arith, Bool, true, false, Option, Some, None, Ok, List, [], ◌∷◌, ◌++◌, length, map, append_assoc, Condition, Code, Fillings, Copy, Marked, plain, word, Symbol, Mark, IsBlock, AreDeclarations, AreOutputs, IsAssumption, IsShared, AreFillings, IsList, IsTask, Parts, by_copy, rest, pure, stands, IsHead, head, HeadParts}
use Rattle.std.proofs.lemmas.List.{append-nil}
use Rattle.sm_syntax.specs.declared.symbol.Mark.TheVariants as mark
use Rattle.sm_syntax.specs.declared.symbol.Symbol.TheVariants as s
use Rattle.sm_syntax.specs.claim.ConflictFree as claim
use Rattle.sm_syntax.specs.text.TaskGrammar as task
use Rattle.sm_text.specs.rules.Reading as r
use Rattle.sm_text.proofs.Sound.Parsers.{made, all_read, Describes, DescribesAt, Both, Is, IsMark, bind, both, weaken, give}
use Rattle.sm_text.proofs.Sound.Choices.{anywhere, choose_by, after, expect_told, standing}
use Rattle.sm_text.proofs.Sound.Gathered.{Gathers, none, more, gathered}
use Rattle.sm_text.proofs.Sound.Names.{declarations_told, outputs_told, IsHole, hole_number_told}
use Rattle.sm_text.proofs.Sound.Conditions.{IsDisjunction, condition_told}
use Rattle.sm_text.proofs.Sound.Statements.{block_told}

-- a filling, before the others
pub record IsFilling (us : List Marked) (f : ℕ × Code) : Type 0 where
  pub some : 0 < length us
  pub goes : (vs : List Marked) (fs : Fillings) → AreFillings vs fs → AreFillings (us ++ vs) (f ∷ fs)

is_filling : (us : List Marked) (f : ℕ × Code) → Both (IsMark mark.Question) (λ _. Both IsHole (λ h. Both (IsBlock 1) (λ c. Is (h, c)))) us
    f → IsFilling us f
is_filling us f b = subst F (sym line)
    (subst G b.two.two.two.same
    (record { some = omega arith; goes = λ vs fs others. task.more b.two.value b.two.one.inside b.two.two.one others }))
  where
    F : List Marked → Type 0
    F l = IsFilling l f

    G : ℕ × Code → Type 0
    G e = IsFilling (word mark.Question ∷ plain (s.Number (pos b.two.value)) ∷ b.two.two.front) e

    line : us ≡ word mark.Question ∷ plain (s.Number (pos b.two.value)) ∷ b.two.two.front
    line = b.parts ∙ ap (λ (l : List Marked). l ++ b.behind) b.one
        ∙ ap (λ (l : List Marked). word mark.Question ∷ l) (b.two.parts ∙ ap (λ (l : List Marked). l ++ b.two.behind) b.two.one.split
        ∙ ap (λ (l : List Marked). plain (s.Number (pos b.two.value)) ∷ l)
        (b.two.two.parts ∙ ap (λ (l : List Marked). b.two.two.front ++ l) b.two.two.two.none ∙ append-nil b.two.two.front))

pub filling_told : Describes r.hole_filling IsFilling
unfolding r.hole_filling r.list_limit
filling_told = weaken is_filling
    (both (expect_told mark.Question) (bind hole_number_told (λ h. bind (block_told 63 1 refl) (λ c. give (h, c)))))

-- what fillings add to those before
pub record FillingsBehind (before : Fillings) (us : List Marked) (last : Fillings) : Type 0 where
  pub others : Fillings
  pub same : last ≡ before ++ others
  pub fillings : AreFillings us others

fillings_behind : {before last : Fillings} {us : List Marked} → Gathers IsFilling r.with_filling before us last →
    FillingsBehind before us last
fillings_behind (none before) = record { others = []; same = sym (append-nil before); fillings = task.none }
fillings_behind (more {us = us} {vs = vs} {x = f} {before = before} {last = last} p rest) = one_more (fillings_behind rest)
  where
    one_more : FillingsBehind (r.with_filling before f) vs last → FillingsBehind before (us ++ vs) last
    one_more n = record {
      others = f ∷ n.others;
      same = n.same ∙ append_assoc before (f ∷ []) n.others;
      fillings = p.goes vs n.others n.fillings;
    }

are_fillings : (us : List Marked) (fs : Fillings) → Gathers IsFilling r.with_filling [] us fs → AreFillings us fs
are_fillings us fs b =
    let n = fillings_behind b in
    let F : Fillings → Type 0 = λ l. AreFillings us l in
    subst F (sym n.same) n.fillings

pub fillings_told : Describes r.fillings AreFillings
unfolding r.fillings r.more_fillings
fillings_told = weaken are_fillings
    (gathered (stands mark.Question) r.hole_filling r.with_filling IsFilling filling_told (λ us f i. i.some) [])

is_list : (m : Mark) (us : List Marked) (fs : Fillings) →
    Both (IsMark m) (λ _. Both (IsMark mark.OpenCurly) (λ _. Both AreFillings (λ l. Both (IsMark mark.CloseCurly) (λ _. Is l)))) us fs →
    IsList m us fs
is_list m us fs b = subst F (sym line) (subst G b.two.two.two.two.same (task.list m b.two.two.one))
  where
    F : List Marked → Type 0
    F l = IsList m l fs

    G : Fillings → Type 0
    G l = IsList m (word m ∷ word mark.OpenCurly ∷ (b.two.two.front ++ word mark.CloseCurly ∷ [])) l

    line : us ≡ word m ∷ word mark.OpenCurly ∷ (b.two.two.front ++ word mark.CloseCurly ∷ [])
    line = b.parts ∙ ap (λ (l : List Marked). l ++ b.behind) b.one
        ∙ ap (λ (l : List Marked). word m ∷ l) (b.two.parts ∙ ap (λ (l : List Marked). l ++ b.two.behind) b.two.one
        ∙ ap (λ (l : List Marked). word mark.OpenCurly ∷ l)
        (b.two.two.parts ∙ ap (λ (l : List Marked). b.two.two.front ++ l)
        (b.two.two.two.parts ∙ ap (λ (l : List Marked). l ++ b.two.two.two.behind) b.two.two.two.one
        ∙ ap (λ (l : List Marked). word mark.CloseCurly ∷ l) b.two.two.two.two.none)))

pub list_told : (m : Mark) → Describes (r.list m) (IsList m)
unfolding r.list
list_told m = weaken (is_list m)
    (both (expect_told m) (both (expect_told mark.OpenCurly) (bind fillings_told (λ fs. both (expect_told mark.CloseCurly) (give fs)))))

is_no_assumption : (us : List Marked) (b : Option Condition) → Is None us b → IsAssumption us b
is_no_assumption us b i = made IsAssumption [] us None b i.none i.same task.none

is_assumption : (us : List Marked) (b : Option Condition) →
    Both (IsDisjunction 0) (λ c. Both (IsMark mark.Semicolon) (λ _. Is (Some c))) us b → IsAssumption (word mark.Assume ∷ us) b
is_assumption us b p = made (λ l y. IsAssumption (word mark.Assume ∷ l) y) (p.front ++ word mark.Semicolon ∷ []) us (Some p.value) b line
    p.two.two.same (task.assumes p.one.spelled)
  where
    line : us ≡ p.front ++ word mark.Semicolon ∷ []
    line = p.parts ∙ ap (λ (l : List Marked). p.front ++ l) (p.two.parts ∙ ap (λ (l : List Marked). l ++ p.two.behind) p.two.one
        ∙ ap (λ (l : List Marked). word mark.Semicolon ∷ l) p.two.two.none)

assumption_line_told : Describes r.assumption_line (λ us b. IsAssumption (word mark.Assume ∷ us) b)
unfolding r.assumption_line r.group_limit
assumption_line_told = weaken is_assumption (bind (condition_told 64 0 refl) (λ c. both (expect_told mark.Semicolon) (give (Some c))))

pub assumed_told : Describes r.assumed IsAssumption
unfolding r.assumed
assumed_told = choose_by (λ o. r.assumed_by (stands mark.Assume o)) (λ ts. refl) no_assumption.possible
    (λ o. by o (stands mark.Assume o) refl)
  where
    no_assumption : Describes (pure None) IsAssumption
    no_assumption = weaken is_no_assumption (give None)

    by : (o : Option Symbol) (b : Bool) → stands mark.Assume o ≡ b → DescribesAt o (r.assumed_by b) IsAssumption
    by o true e = standing mark.Assume o e (after (s.Mark mark.Assume) (λ us c i. i) assumption_line_told)
    by o false e = anywhere o no_assumption

is_shared : (us : List Marked) (c : Code) → Both (IsMark mark.Shared) (λ _. IsBlock 0) us c → IsShared us c
is_shared us c b =
    let F : List Marked → Type 0 = λ l. IsShared l c in
    subst F (sym (b.parts ∙ ap (λ (l : List Marked). l ++ b.behind) b.one)) (task.shared b.two)

pub shared_told : Describes r.shared IsShared
unfolding r.shared r.group_limit
shared_told = weaken is_shared (both (expect_told mark.Shared) (block_told 64 0 refl))

-- a head, where these are the texts of its names
abbrev pub IsHeadUnder : List (List ℕ) → List Marked → HeadParts → Type 0
IsHeadUnder names us h = IsHead us h × (h.program.names ≡ names)

is_head : (names : List (List ℕ)) (us : List Marked) (h : HeadParts) →
    Both AreDeclarations (λ ds. Both AreOutputs
    (λ xs. Both IsAssumption
    (λ a. Both IsShared (λ c. Is (record { program = record { names = names; declared = ds; outputs = xs; body = c }; assumed = a }))))) us
    h → IsHeadUnder names us h
is_head names us h b = subst F b.two.two.two.two.same (subst G (sym line) (head it b.one b.two.one b.two.two.one b.two.two.two.one), refl)
  where
    it : HeadParts
    it = record {
      program = record { names = names; declared = b.value; outputs = b.two.value; body = b.two.two.two.value };
      assumed = b.two.two.value;
    }

    F : HeadParts → Type 0
    F k = IsHeadUnder names us k

    G : List Marked → Type 0
    G l = IsHead l it

    line : us ≡ b.front ++ (b.two.front ++ (b.two.two.front ++ b.two.two.two.front))
    line = b.parts ∙ ap (λ (l : List Marked). b.front ++ l)
        (b.two.parts ∙ ap (λ (l : List Marked). b.two.front ++ l)
        (b.two.two.parts ∙ ap (λ (l : List Marked). b.two.two.front ++ l)
        (b.two.two.two.parts ∙ ap (λ (l : List Marked). b.two.two.two.front ++ l) b.two.two.two.two.none ∙ append-nil b.two.two.two.front)))

pub head_told : (names : List (List ℕ)) → Describes (r.head names) (IsHeadUnder names)
unfolding r.head
head_told names = weaken (is_head names)
    (bind declarations_told (λ ds. bind outputs_told
    (λ xs. bind assumed_told
    (λ a. bind shared_told (λ c.
    give (record { program = record { names = names; declared = ds; outputs = xs; body = c }; assumed = a }))))))

-- the four lists
pub record AreLists (us : List Marked) (fs : Copy → Fillings) : Type 0 where
  pub os : List Marked
  pub xs : List Marked
  pub ys : List Marked
  pub ms : List Marked
  pub parts : us ≡ os ++ (xs ++ (ys ++ ms))
  pub base : IsList mark.Base os (fs claim.O)
  pub variant_a : IsList mark.VariantA xs (fs claim.A)
  pub variant_b : IsList mark.VariantB ys (fs claim.B)
  pub candidate : IsList mark.Candidate ms (fs claim.M)

are_lists : (us : List Marked) (fs : Copy → Fillings) →
    Both (IsList mark.Base) (λ o. Both (IsList mark.VariantA)
    (λ a. Both (IsList mark.VariantB) (λ b. Both (IsList mark.Candidate) (λ m. Is (by_copy o a b m))))) us fs → AreLists us fs
are_lists us fs b = subst F b.two.two.two.two.same (record {
  os = b.front;
  xs = b.two.front;
  ys = b.two.two.front;
  ms = b.two.two.two.front;
  parts = b.parts ∙ ap (λ (l : List Marked). b.front ++ l)
      (b.two.parts ∙ ap (λ (l : List Marked). b.two.front ++ l)
      (b.two.two.parts ∙ ap (λ (l : List Marked). b.two.two.front ++ l)
      (b.two.two.two.parts ∙ ap (λ (l : List Marked). b.two.two.two.front ++ l) b.two.two.two.two.none ∙ append-nil b.two.two.two.front)));
  base = b.one;
  variant_a = b.two.one;
  variant_b = b.two.two.one;
  candidate = b.two.two.two.one;
})
  where
    F : (Copy → Fillings) → Type 0
    F l = AreLists us l

pub lists_told : Describes r.lists AreLists
unfolding r.lists
lists_told = weaken are_lists
    (bind (list_told mark.Base)
    (λ o. bind (list_told mark.VariantA)
    (λ a. bind (list_told mark.VariantB) (λ b. bind (list_told mark.Candidate) (λ m. give (by_copy o a b m))))))

regrouped : (ds os qs ss rest : List Marked) → (ds ++ (os ++ (qs ++ ss))) ++ rest ≡ ds ++ (os ++ (qs ++ (ss ++ rest)))
regrouped ds os qs ss rest =
    append_assoc ds (os ++ (qs ++ ss)) rest
    ∙ ap (λ (l : List Marked). ds ++ l) (append_assoc os (qs ++ ss) rest ∙ ap (λ (l : List Marked). os ++ l) (append_assoc qs ss rest))

-- a head and the four lists after it are a task
head_and_lists : {front behind : List Marked} {h : HeadParts} {fs : Copy → Fillings} → IsHead front h → AreLists behind fs →
    IsTask (front ++ behind) (r.with_lists h fs)
head_and_lists {behind = behind} {fs = fs} (head {ts = ts} {us = us} {vs = vs} {ws = ws} h declared named assumed code) k =
    let F : List Marked → Type 0 = λ l. IsTask l (r.with_lists h fs) in
    let line = regrouped ts us vs ws behind ∙ ap (λ (l : List Marked). ts ++ (us ++ (vs ++ (ws ++ l)))) k.parts in
    subst F (sym line) (task.task (r.with_lists h fs) declared named assumed code k.base k.variant_a k.variant_b k.candidate)

-- a task, where these are the texts of its names
abbrev pub IsTaskUnder : List (List ℕ) → List Marked → Parts → Type 0
IsTaskUnder names us t = IsTask us t × (t.names ≡ names)

is_task : (names : List (List ℕ)) (us : List Marked) (t : Parts) →
    Both (IsHeadUnder names) (λ h. Both AreLists (λ fs. Is (r.with_lists h fs))) us t → IsTaskUnder names us t
is_task names us t b = subst F b.two.two.same (subst G (sym line) (head_and_lists b.one.0 b.two.one), b.one.1)
  where
    F : Parts → Type 0
    F u = IsTaskUnder names us u

    G : List Marked → Type 0
    G l = IsTask l (r.with_lists b.value b.two.value)

    line : us ≡ b.front ++ b.two.front
    line = b.parts ∙ ap (λ (l : List Marked). b.front ++ l) (b.two.parts ∙ ap (λ (l : List Marked). b.two.front ++ l) b.two.two.none
        ∙ append-nil b.two.front)

pub task_told : (names : List (List ℕ)) → Describes (r.task names) (IsTaskUnder names)
unfolding r.task
task_told names = weaken (is_task names) (bind (head_told names) (λ h. bind lists_told (λ fs. give (r.with_lists h fs))))

-- what is read to the end is a task
pub whole_told : (names : List (List ℕ)) (ts : List Symbol) (t : Parts) → r.whole names ts ≡ Ok t → IsTaskUnder names (map plain ts) t
unfolding r.whole
whole_told names ts t e = all_read (task_told names) ts t e
