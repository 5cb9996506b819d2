-- The grammar of tasks, over symbols. Public clauses cite it.
-- Over each constructor stands the production that it is.
use Rattle.std.specs.Prelude.{ℕ, pos, Option, Some, None, List, [], ◌∷◌, ◌++◌, map}
use Rattle.sm_syntax.specs.declared.symbol.Mark.TheVariants as mark
use Rattle.sm_syntax.specs.declared.symbol.Symbol.TheVariants as s
use Rattle.sm_syntax.specs.declared.tree.Name.{Name}
use Rattle.sm_syntax.specs.declared.tree.Sort.{Sort}
use Rattle.sm_syntax.specs.declared.tree.Sort.TheVariants.{Num, Arr}
use Rattle.sm_syntax.specs.claim.Syntax.{Condition, Code}
use Rattle.sm_syntax.specs.claim.Fill.{Fillings}
use Rattle.sm_syntax.specs.claim.ConflictFree.{O, A, B, M}
use Rattle.sm_syntax.specs.text.Parts.{Parts}
use Rattle.sm_syntax.specs.text.MarkedSymbols.{Marked, plain, word, opens, Mark}
use Rattle.sm_syntax.specs.text.ConditionGrammar.{Disjunction, IsCondition}
use Rattle.sm_syntax.specs.text.StatementGrammar.{IsHoleNumber, IsBlock}

-- the symbols spell names with commas between them
pub data AreNames : List Marked → List ℕ → Type 0 where
  -- names = name
  last : (x : Name) → AreNames (plain (s.Name x) ∷ []) (x.0 ∷ [])
  -- names = name "," names
  more :
      {ts : List Marked} {xs : List ℕ} (x : Name) →
      AreNames ts xs →
      AreNames (plain (s.Name x) ∷ word mark.Comma ∷ ts) (x.0 ∷ xs)

-- the word that declares names of a sort
abbrev pub declares : Sort → Mark
declares Num = mark.Var
declares Arr = mark.Array

-- each name with the sort
abbrev pub with_sort : Sort → List ℕ → List (ℕ × Sort)
with_sort sort xs = map (λ (x : ℕ). (x, sort)) xs

-- the symbols spell declarations
pub data AreDeclarations : List Marked → List (ℕ × Sort) → Type 0 where
  -- declarations = nothing
  none : AreDeclarations [] []
  -- declarations = ("var" | "array") names ";" declarations
  more :
      {ts us : List Marked} {xs : List ℕ} {ds : List (ℕ × Sort)} (sort : Sort) →
      AreNames ts xs →
      AreDeclarations us ds →
      AreDeclarations
      (word (declares sort) ∷ (ts ++ word mark.Semicolon ∷ us))
      (with_sort sort xs ++ ds)

-- the symbols spell the outputs
pub data AreOutputs : List Marked → List ℕ → Type 0 where
  -- outputs = "output" names ";"
  outputs :
      {ts : List Marked} {xs : List ℕ} →
      AreNames ts xs →
      AreOutputs (word mark.Output ∷ (ts ++ word mark.Semicolon ∷ [])) xs

-- the symbols spell the assumption, or there is none
pub data IsAssumption : List Marked → Option Condition → Type 0 where
  -- assumption = nothing
  none : IsAssumption [] None
  -- assumption = "assume" disjunction ";"
  assumes :
      {n : ℕ} {ts : List Marked} {b : Condition} →
      IsCondition Disjunction 0 n ts b →
      IsAssumption (word mark.Assume ∷ (ts ++ word mark.Semicolon ∷ [])) (Some b)

-- the symbols spell the shared block
pub data IsShared : List Marked → Code → Type 0 where
  -- shared = "shared" block
  shared : {ts : List Marked} {c : Code} → IsBlock 0 ts c → IsShared (word mark.Shared ∷ ts) c

-- inside the braces of a list, the symbols spell its fillings
pub data AreFillings : List Marked → Fillings → Type 0 where
  -- fillings = nothing
  none : AreFillings [] []
  -- fillings = "?" number block fillings
  more :
      {ts us : List Marked} {c : Code} {fs : Fillings} (h : ℕ) →
      IsHoleNumber h →
      IsBlock 1 ts c →
      AreFillings us fs →
      AreFillings
      (word mark.Question ∷ plain (s.Number (pos h)) ∷ (ts ++ us))
      ((h, c) ∷ fs)

-- the symbols spell the list of a copy's fillings, which begins with a word of its own
pub data IsList : Mark → List Marked → Fillings → Type 0 where
  -- list = ("base" | "variant_a" | "variant_b" | "candidate") "{" fillings "}"
  list :
      {ts : List Marked} {fs : Fillings} (m : Mark) →
      AreFillings ts fs →
      IsList m (word m ∷ opens mark.OpenCurly 0 ∷ (ts ++ word mark.CloseCurly ∷ [])) fs

-- the symbols spell a task of these parts
pub data IsTask : List Marked → Parts → Type 0 where
  -- task = declarations outputs assumption shared list list list list
  task :
      {ts us vs ws o a b m : List Marked} (t : Parts) →
      AreDeclarations ts t.declared →
      AreOutputs us t.outputs →
      IsAssumption vs t.assumed →
      IsShared ws t.shared →
      IsList mark.Base o (t.fillings O) →
      IsList mark.VariantA a (t.fillings A) →
      IsList mark.VariantB b (t.fillings B) →
      IsList mark.Candidate m (t.fillings M) →
      IsTask (ts ++ (us ++ (vs ++ (ws ++ (o ++ (a ++ (b ++ m))))))) t
