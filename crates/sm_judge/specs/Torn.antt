-- Private: equal numbers whose linear forms differ in the constant alone, and how they are found.
use Rattle.std.specs.Prelude.{◌≡◌, ℕ, suc, ℤ, ◌<◌, ◌≤◌, IsTrue, Bool, false, ◌&&◌, not, Option, Some, None, IfSome, List, length, get_or, slice_index}
use Rattle.std.specs.List.{list_any}
use Rattle.std.specs.Ordering.{int_eq}
use Rattle.sm_syntax.specs.text.Sorts.{Sorts}
use Rattle.sm_term.specs.Terms.{Tree}
use Rattle.sm_term.specs.Tables.{tree_at}
use Rattle.sm_term.specs.declared.term.TermId.{TermId}
use Rattle.sm_theory.specs.Arithmetic.{compared_forms}
use Rattle.sm_pairs.specs.Pairs.{Pairs}

-- whether two terms are numbers whose linear forms differ in the constant alone
abbrev pub differ : Sorts → Tree → Tree → Bool
differ sorts t u = compared_forms sorts t u (λ (y z : ℤ). not (int_eq y z))

-- whether two terms are equal and their linear forms differ in the constant alone
abbrev pub torn_by : Sorts → Pairs → Tree → Tree → Bool
torn_by sorts equal t u = equal t u && differ sorts t u

-- whether a term is torn from one of some terms
abbrev pub any_torn : Sorts → Pairs → List Tree → Tree → Bool
any_torn sorts equal terms t = list_any (torn_by sorts equal t) terms

-- two terms that are torn, or none where no two are
abbrev pub IsTornIf : Sorts → List Tree → Pairs → Option (TermId × TermId) → Type 0
IsTornIf sorts trees equal None = list_any (any_torn sorts equal trees) trees ≡ false
IsTornIf sorts trees equal (Some p) =
    (p.0.0 < length trees) × (p.1.0 < length trees)
    × IsTrue (torn_by sorts equal (tree_at trees p.0.0) (tree_at trees p.1.0))

-- the place behind one, or the first place
abbrev pub behind : Option ℕ → ℕ
behind None = 0
behind (Some m) = suc m

-- the last place before n that has a label, or none where no place has it
pub record IsLastWith (labels : List ℕ) (label n : ℕ) (place : Option ℕ) : Type 0 where
  pub below : IfSome place (λ (m : ℕ). m < n)
  pub same : IfSome place (λ (m : ℕ). slice_index labels m ≡ label)
  pub last : (m : ℕ) → behind place ≤ m → m < n → slice_index labels m ≡ label → ⊥

-- for each place the last one before it that has the same label
abbrev pub AreLinked : List ℕ → List (Option ℕ) → Type 0
AreLinked labels before =
    (n : ℕ) → n < length labels →
    IsLastWith labels (slice_index labels n) n (get_or before n None)

-- each of these places is before the one where it stands
abbrev pub GoBack : List (Option ℕ) → Type 0
GoBack before = (n : ℕ) → n < length before → IfSome (get_or before n None) (λ (m : ℕ). m < n)

-- an earlier place with the label of the place n, whose term differs from the one there, or none
-- where there is none
abbrev pub IsPartnerIf : Sorts → List Tree → List ℕ → ℕ → Option TermId → Type 0
IsPartnerIf sorts trees labels n None =
    (m : ℕ) → m < n → slice_index labels m ≡ slice_index labels n →
    differ sorts (tree_at trees n) (tree_at trees m) ≡ false
IsPartnerIf sorts trees labels n (Some u) =
    (u.0 < n) × (slice_index labels u.0 ≡ slice_index labels n)
    × IsTrue (differ sorts (tree_at trees n) (tree_at trees u.0))
