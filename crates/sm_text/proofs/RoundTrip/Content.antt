-- The names and numbers of a tree's text, in order: they are the same in each text that the grammar takes for the tree.
use Rattle.sm_text.proofs.Imports.{◌≡◌, ℕ, pos, Option, Some, None, List, [], ◌∷◌, ◌++◌, refl, sym, ap, ap₂, ◌∙◌, Sort, Expression, Lit, Var, Read, Neg, Plus, Minus, Times, Condition, Yes, No, Compare, Not, And, Or, Code, End, Skip, Assign, Write, If, While, Hole, Fillings, Copy, O, A, B, M, Parts, Marked, Symbol, Mark, Level, IsExpression, Rank, IsCondition, AreStatements, IsBlock, AreNames, with_sort, AreDeclarations, AreOutputs, IsAssumption, IsShared, AreFillings, IsList, IsTask}
use Rattle.std.proofs.Common.{append-nil}
use Rattle.sm_syntax.specs.declared.symbol.Mark.TheVariants as mark
use Rattle.sm_syntax.specs.declared.symbol.Symbol.TheVariants as s
use Rattle.sm_syntax.specs.text.MarkedSymbols as g
use Rattle.sm_syntax.specs.text.ExpressionGrammar as exp
use Rattle.sm_syntax.specs.text.ConditionGrammar as cond
use Rattle.sm_syntax.specs.text.StatementGrammar as stmt
use Rattle.sm_syntax.specs.text.TaskGrammar as task

-- a name by its number
abbrev pub named : ℕ → Symbol
named x = s.Name (record { 0 = x })

-- the names and numbers among symbols
abbrev pub content : List Marked → List Symbol
content [] = []
content ((s.Mark m, b) ∷ ts) = content ts
content ((s.Number z, b) ∷ ts) = s.Number z ∷ content ts
content ((s.Name x, b) ∷ ts) = s.Name x ∷ content ts

pub content-append : (ts us : List Marked) → content (ts ++ us) ≡ content ts ++ content us
content-append [] us = refl
content-append ((s.Mark m, b) ∷ ts) us = content-append ts us
content-append ((s.Number z, b) ∷ ts) us = ap (λ (l : List Symbol). s.Number z ∷ l) (content-append ts us)
content-append ((s.Name x, b) ∷ ts) us = ap (λ (l : List Symbol). s.Name x ∷ l) (content-append ts us)

-- a list of symbols before others
pub both : (ts us : List Marked) (l r : List Symbol) → content ts ≡ l → content us ≡ r → content (ts ++ us) ≡ l ++ r
both ts us l r p q = content-append ts us ∙ ap₂ (λ (a b : List Symbol). a ++ b) p q

-- symbols before a sign
closed : (ts : List Marked) (m : Mark) (l : List Symbol) → content ts ≡ l → content (ts ++ g.word m ∷ []) ≡ l
closed ts m l p = content-append ts (g.word m ∷ []) ∙ append-nil (content ts) ∙ p

-- the names and numbers of an expression
abbrev pub content_of : Expression → List Symbol
content_of (Lit z) = s.Number z ∷ []
content_of (Var x) = named x ∷ []
content_of (Read a i) = named a ∷ content_of i
content_of (Neg e) = content_of e
content_of (Plus d e) = content_of d ++ content_of e
content_of (Minus d e) = content_of d ++ content_of e
content_of (Times d e) = content_of d ++ content_of e

pub expression_content : {l : Level} {d k : ℕ} {ts : List Marked} {e : Expression} → IsExpression l d k ts e → content ts ≡ content_of e
expression_content (exp.number d z) = refl
expression_content (exp.variable d x) = refl
expression_content (exp.element {ts = ts} {i = i} a inner) =
    ap (λ (l : List Symbol). s.Name a ∷ l) (closed ts mark.CloseSquare (content_of i) (expression_content inner))
expression_content (IsExpression.group {ts = ts} {e = e} inner) = closed ts mark.CloseRound (content_of e) (expression_content inner)
expression_content (exp.negative inner) = expression_content inner
expression_content (exp.as_unary inner) = expression_content inner
expression_content (exp.as_product inner) = expression_content inner
expression_content (exp.times {k = k} {ts = ts} {us = us} {e = e} {f = f} left right) =
    both ts (g.joins mark.Star k ∷ us) (content_of e) (content_of f) (expression_content left) (expression_content right)
expression_content (exp.as_sum inner) = expression_content inner
expression_content (exp.plus {k = k} {ts = ts} {us = us} {e = e} {f = f} left right) =
    both ts (g.joins mark.Plus k ∷ us) (content_of e) (content_of f) (expression_content left) (expression_content right)
expression_content (exp.minus {k = k} {ts = ts} {us = us} {e = e} {f = f} left right) =
    both ts (g.joins mark.Minus k ∷ us) (content_of e) (content_of f) (expression_content left) (expression_content right)

-- the names and numbers of a condition
abbrev pub content_tested : Condition → List Symbol
content_tested Yes = []
content_tested No = []
content_tested (Compare op d e) = content_of d ++ content_of e
content_tested (Not b) = content_tested b
content_tested (And b c) = content_tested b ++ content_tested c
content_tested (Or b c) = content_tested b ++ content_tested c

pub condition_content : {r : Rank} {d k : ℕ} {ts : List Marked} {b : Condition} → IsCondition r d k ts b → content ts ≡ content_tested b
condition_content (cond.always d) = refl
condition_content (cond.never d) = refl
condition_content (cond.compares {ts = ts} {us = us} {e = e} {f = f} op left right) =
    both ts (g.word (cond.comparison op) ∷ us) (content_of e) (content_of f) (expression_content left) (expression_content right)
condition_content (IsCondition.group {ts = ts} {b = b} inner) = closed ts mark.CloseSquare (content_tested b) (condition_content inner)
condition_content (cond.denied inner) = condition_content inner
condition_content (cond.as_literal inner) = condition_content inner
condition_content (cond.as_conjunction inner) = condition_content inner
condition_content (cond.both {k = k} {ts = ts} {us = us} {b = b} {c = c} left right) =
    both ts (g.joins mark.Both k ∷ us) (content_tested b) (content_tested c) (condition_content left) (condition_content right)
condition_content (cond.as_disjunction inner) = condition_content inner
condition_content (cond.either {k = k} {ts = ts} {us = us} {b = b} {c = c} left right) =
    both ts (g.joins mark.Either k ∷ us) (content_tested b) (content_tested c) (condition_content left) (condition_content right)

-- the names and numbers of code
abbrev pub content_used : Code → List Symbol
content_used End = []
content_used (Skip k) = content_used k
content_used (Assign x e k) = named x ∷ (content_of e ++ content_used k)
content_used (Write a i e k) = named a ∷ (content_of i ++ (content_of e ++ content_used k))
content_used (If b c e k) = content_tested b ++ (content_used c ++ (content_used e ++ content_used k))
content_used (While b c k) = content_tested b ++ (content_used c ++ content_used k)
content_used (Hole h k) = s.Number (pos h) ∷ content_used k

mutual
  pub code_content : {d : ℕ} {ts : List Marked} {c : Code} → AreStatements d ts c → content ts ≡ content_used c
  code_content (stmt.none d) = refl
  code_content (stmt.skips more) = code_content more
  code_content (stmt.assigns {ts = ts} {us = us} {e = e} {k = k} x value more) =
      ap (λ (l : List Symbol). s.Name x ∷ l)
      (both ts (g.word mark.Semicolon ∷ us) (content_of e) (content_used k) (expression_content value) (code_content more))
  code_content (stmt.writes {ts = ts} {us = us} {vs = vs} {i = i} {e = e} {k = k} a index value more) =
      ap (λ (l : List Symbol). s.Name a ∷ l)
      (both ts (g.word mark.CloseSquare ∷ g.word mark.Becomes ∷ (us ++ g.word mark.Semicolon ∷ vs)) (content_of i)
      (content_of e ++ content_used k) (expression_content index)
      (both us (g.word mark.Semicolon ∷ vs) (content_of e) (content_used k) (expression_content value) (code_content more)))
  code_content (stmt.branches {ts = ts} {us = us} {vs = vs} {ws = ws} {b = b} {c = c} {e = e} {k = k} test first second more) =
      both ts (g.word mark.CloseRound ∷ (us ++ g.word mark.Else ∷ (vs ++ ws))) (content_tested b)
      (content_used c ++ (content_used e ++ content_used k)) (condition_content test)
      (both us (g.word mark.Else ∷ (vs ++ ws)) (content_used c) (content_used e ++ content_used k) (block_content first)
      (both vs ws (content_used e) (content_used k) (block_content second) (code_content more)))
  code_content (stmt.loops {ts = ts} {us = us} {vs = vs} {b = b} {c = c} {k = k} test body more) =
      both ts (g.word mark.CloseRound ∷ (us ++ vs)) (content_tested b) (content_used c ++ content_used k) (condition_content test)
      (both us vs (content_used c) (content_used k) (block_content body) (code_content more))
  code_content (stmt.holes h fits more) = ap (λ (l : List Symbol). s.Number (pos h) ∷ l) (code_content more)

  pub block_content : {d : ℕ} {ts : List Marked} {c : Code} → IsBlock d ts c → content ts ≡ content_used c
  block_content (stmt.block {ts = ts} {c = c} inner) = closed ts mark.CloseCurly (content_used c) (code_content inner)

-- names
abbrev pub content_listed : List ℕ → List Symbol
content_listed [] = []
content_listed (x ∷ xs) = named x ∷ content_listed xs

names_content : {ts : List Marked} {xs : List ℕ} → AreNames ts xs → content ts ≡ content_listed xs
names_content (task.last x) = refl
names_content (AreNames.more x rest) = ap (λ (l : List Symbol). s.Name x ∷ l) (names_content rest)

-- declarations
abbrev pub content_declared : List (ℕ × Sort) → List Symbol
content_declared [] = []
content_declared (d ∷ ds) = named d.0 ∷ content_declared ds

with_sort-content : (sort : Sort) (xs : List ℕ) (ds : List (ℕ × Sort)) →
    content_declared (with_sort sort xs ++ ds) ≡ content_listed xs ++ content_declared ds
with_sort-content sort [] ds = refl
with_sort-content sort (x ∷ xs) ds = ap (λ (l : List Symbol). named x ∷ l) (with_sort-content sort xs ds)

pub declarations_content : {ts : List Marked} {ds : List (ℕ × Sort)} → AreDeclarations ts ds → content ts ≡ content_declared ds
declarations_content AreDeclarations.none = refl
declarations_content (AreDeclarations.more {ts = ts} {us = us} {xs = xs} {ds = ds} sort names rest) =
    both ts (g.word mark.Semicolon ∷ us) (content_listed xs) (content_declared ds) (names_content names) (declarations_content rest)
    ∙ sym (with_sort-content sort xs ds)

pub outputs_content : {ts : List Marked} {xs : List ℕ} → AreOutputs ts xs → content ts ≡ content_listed xs
outputs_content (task.outputs {ts = ts} {xs = xs} names) = closed ts mark.Semicolon (content_listed xs) (names_content names)

-- the assumption
abbrev pub content_assumed : Option Condition → List Symbol
content_assumed None = []
content_assumed (Some b) = content_tested b

pub assumption_content : {ts : List Marked} {o : Option Condition} → IsAssumption ts o → content ts ≡ content_assumed o
assumption_content IsAssumption.none = refl
assumption_content (task.assumes {ts = ts} {b = b} test) = closed ts mark.Semicolon (content_tested b) (condition_content test)

pub shared_content : {ts : List Marked} {c : Code} → IsShared ts c → content ts ≡ content_used c
shared_content (task.shared inner) = block_content inner

-- fillings
abbrev pub content_filled : Fillings → List Symbol
content_filled [] = []
content_filled (f ∷ fs) = s.Number (pos f.0) ∷ (content_used f.1 ++ content_filled fs)

fillings_content : {ts : List Marked} {fs : Fillings} → AreFillings ts fs → content ts ≡ content_filled fs
fillings_content AreFillings.none = refl
fillings_content (AreFillings.more {ts = ts} {us = us} {c = c} {fs = fs} h fits inner rest) =
    ap (λ (l : List Symbol). s.Number (pos h) ∷ l)
    (both ts us (content_used c) (content_filled fs) (block_content inner) (fillings_content rest))

list_content : {m : Mark} {ts : List Marked} {fs : Fillings} → IsList m ts fs → content ts ≡ content_filled fs
list_content (task.list {ts = ts} {fs = fs} m inner) = closed ts mark.CloseCurly (content_filled fs) (fillings_content inner)

-- the lists of the four copies
abbrev pub content_of_lists : (Copy → Fillings) → List Symbol
content_of_lists fs = content_filled (fs O) ++ (content_filled (fs A) ++ (content_filled (fs B) ++ content_filled (fs M)))

-- a task
abbrev pub content_of_task : Parts → List Symbol
content_of_task t = content_declared
    t.declared ++ (content_listed t.outputs ++ (content_assumed t.assumed ++ (content_used t.shared ++ content_of_lists t.fillings)))

pub task_content : {ts : List Marked} {t : Parts} → IsTask ts t → content ts ≡ content_of_task t
task_content (task.task {ts = ts} {us = us} {vs = vs} {ws = ws} {o = o} {a = a} {b = b} {m = m} t decls outs assume body first second third
    fourth) =
    let fs = t.fillings in
    let lists = content_of_lists fs in
    let c = content_used t.shared in
    let v = content_assumed t.assumed in
    let x = content_listed t.outputs in
    both ts (us ++ (vs ++ (ws ++ (o ++ (a ++ (b ++ m)))))) (content_declared t.declared) (x ++ (v ++ (c ++ lists)))
    (declarations_content decls)
    (both us (vs ++ (ws ++ (o ++ (a ++ (b ++ m))))) x (v ++ (c ++ lists)) (outputs_content outs)
    (both vs (ws ++ (o ++ (a ++ (b ++ m)))) v (c ++ lists) (assumption_content assume)
    (both ws (o ++ (a ++ (b ++ m))) c lists (shared_content body)
    (both o (a ++ (b ++ m)) (content_filled (fs O)) (content_filled (fs A) ++ (content_filled (fs B) ++ content_filled (fs M)))
    (list_content first)
    (both a (b ++ m) (content_filled (fs A)) (content_filled (fs B) ++ content_filled (fs M)) (list_content second)
    (both b m (content_filled (fs B)) (content_filled (fs M)) (list_content third) (list_content fourth)))))))
