-- Cited by public clauses: lines over another branch, on which facts have other numbers.
use Rattle.std.specs.Prelude.{◌≡◌, ℕ, IsTrue, slice_get, Some, List, map}
use Rattle.std.specs.List.{AllByRecursion}
use Rattle.sm_theory.specs.Facts.{BranchFact}
use Rattle.sm_theory.specs.Lines.{CertificateLine, LineOver, Both, Either, Cases, Order, Refl, Sym, Trans, Subst, Cong, Same, Apart, Hit, Miss, Lin, Elim, Tight, Exact, Close, Clash}
use Rattle.sm_theory.specs.Named.{facts_named, reads_all}

-- a line with other numbers of facts; a number of steps stays
abbrev pub moved_line : {T : Type 0} → (ℕ → ℕ) → LineOver T → LineOver T
moved_line move (Both n) = Both (move n)
moved_line move (Either n) = Either (move n)
moved_line move (Cases t u) = Cases t u
moved_line move (Order n) = Order (move n)
moved_line move (Refl t) = Refl t
moved_line move (Sym n) = Sym (move n)
moved_line move (Trans m n) = Trans (move m) (move n)
moved_line move (Subst m n) = Subst (move m) (move n)
moved_line move (Cong t u ns) = Cong t u (map move ns)
moved_line move (Same t u) = Same t u
moved_line move (Apart t u) = Apart t u
moved_line move (Hit t n) = Hit t (move n)
moved_line move (Miss t u n) = Miss t u (move n)
moved_line move (Lin n) = Lin (move n)
moved_line move (Elim m n t) = Elim (move m) (move n) t
moved_line move (Tight n) = Tight (move n)
moved_line move (Exact n) = Exact n
moved_line move (Close n) = Close (move n)
moved_line move (Clash m n) = Clash (move m) (move n)

-- fact n stands on the other branch, under the number that its own is moved to
abbrev pub StandsMoved : (ℕ → ℕ) → List BranchFact → List BranchFact → ℕ → Type 0
StandsMoved move facts others n =
    (k : BranchFact) → slice_get facts n ≡ Some k → slice_get others (move n) ≡ Some k

-- each fact does
abbrev pub StandAmong : (ℕ → ℕ) → List BranchFact → List BranchFact → Type 0
StandAmong move facts others = (n : ℕ) → StandsMoved move facts others n

-- a line reads the same on the other branch: the facts that it names stand there, and where it reads
-- all facts the branches are the same
abbrev pub ReadsAlike : (ℕ → ℕ) → List BranchFact → List BranchFact → CertificateLine → Type 0
ReadsAlike move facts others line =
    AllByRecursion (StandsMoved move facts others) (facts_named line)
    × (IsTrue (reads_all line) → facts ≡ others)
