-- Certificates that fit their goals.
use Rattle.sm_audit.proofs.Imports.{◌≡◌, ℕ, Option, List, [], ◌∷◌, ◌++◌, length, map, sym, subst, Box, Global, Sorts, Tree, line_in, CertLine, Certificate, Closed, Split, EachTerm, certificate_in, lines_before, lines_of, CertTree, State, Nameable, Goal, AreShown, AreShort, IsShort, states_until, AreGoalsFit, IsTreeFit, AreLinesFit, IsLineFit, AreSince}
use Rattle.sm_cert.specs.declared.tree.CertEnd.TheVariants as ends
use Rattle.sm_cert.proofs.CheckLemmas.{tree_closed, tree_split, lines_closed, lines_split}
use Rattle.sm_write.specs.TreesWithin.{AreTreesWithin}
use Rattle.sm_audit.proofs.KnownLemmas.{both_fit, lines_short, lines_named, line_named}

-- a certificate that a line closes
pub closed_fit : (since : List (Option ℕ)) (k : ℕ) (t : CertTree) (l : CertLine) → t.last ≡ ends.Close l →
    AreLinesFit since k t.lines.list.items → IsLineFit since k l → IsTreeFit since k t
closed_fit since k t l e own last = record {
  lines =
      subst (AreLinesFit since k) (sym (lines_closed t l e)) (both_fit since k t.lines.list.items (l ∷ []) own (last, tt));
  short = λ (trees : List Tree).
      subst IsShort (sym (tree_closed trees t l e))
      (lines_short since k trees t.lines.list.items (Closed (line_in trees l)) own (last.0 trees));
  named = λ (sorts : Sorts) (states : List State) (trees : List Tree) (all : AreSince sorts states trees since).
      subst (EachTerm (Nameable sorts (states_until states k))) (sym (tree_closed trees t l e))
      (lines_named since k sorts states trees all t.lines.list.items (Closed (line_in trees l)) own
      (line_named since k sorts states trees all l last.1));
}

-- one that a line splits
pub split_fit : (since : List (Option ℕ)) (k : ℕ) (t : CertTree) (l : CertLine) (c d : Box CertTree Global) → t.last ≡ ends.Split l c d →
    AreLinesFit since k t.lines.list.items → IsLineFit since k l → IsTreeFit since k c.value → IsTreeFit since k d.value →
    IsTreeFit since k t
split_fit since k t l c d e own last one other = record {
  lines =
      subst (AreLinesFit since k) (sym (lines_split t l c d e))
      (both_fit since k t.lines.list.items (l ∷ (lines_of c.value ++ lines_of d.value)) own
      (last, both_fit since k (lines_of c.value) (lines_of d.value) one.lines other.lines));
  short = λ (trees : List Tree).
      subst IsShort (sym (tree_split trees t l c d e))
      (lines_short since k trees t.lines.list.items
      (Split (line_in trees l) (certificate_in trees c.value) (certificate_in trees d.value)) own
      (last.0 trees, one.short trees, other.short trees));
  named = λ (sorts : Sorts) (states : List State) (trees : List Tree) (all : AreSince sorts states trees since).
      subst (EachTerm (Nameable sorts (states_until states k))) (sym (tree_split trees t l c d e))
      (lines_named since k sorts states trees all t.lines.list.items
      (Split (line_in trees l) (certificate_in trees c.value) (certificate_in trees d.value)) own (
        line_named since k sorts states trees all l last.1,
        one.named sorts states trees all,
        other.named sorts states trees all,
      ));
}

module _ (sorts : Sorts) (states : List State) (trees : List Tree) where
  -- what fits is shown
  pub goals_shown : (gs : List Goal) (cs : List CertTree) → AreGoalsFit sorts states trees gs cs →
      AreShown sorts states gs (map (certificate_in trees) cs)
  goals_shown [] [] fit = tt
  goals_shown [] (c ∷ cs) fit = absurd fit
  goals_shown (g ∷ gs) [] fit = absurd fit
  goals_shown (g ∷ gs) (c ∷ cs) fit = (fit.0.closes, fit.0.named, goals_shown gs cs fit.1)

  -- in the table
  pub goals_within : (gs : List Goal) (cs : List CertTree) → AreGoalsFit sorts states trees gs cs → AreTreesWithin (length trees) cs
  goals_within [] [] fit = tt
  goals_within [] (c ∷ cs) fit = absurd fit
  goals_within (g ∷ gs) [] fit = absurd fit
  goals_within (g ∷ gs) (c ∷ cs) fit = (fit.0.within, goals_within gs cs fit.1)

  -- the certificates of goals that fit are short
  pub goals_short : (gs : List Goal) (cs : List CertTree) → AreGoalsFit sorts states trees gs cs →
      AreShort (map (certificate_in trees) cs)
  goals_short [] [] fit = tt
  goals_short [] (c ∷ cs) fit = absurd fit
  goals_short (g ∷ gs) [] fit = absurd fit
  goals_short (g ∷ gs) (c ∷ cs) fit = (fit.0.short, goals_short gs cs fit.1)
