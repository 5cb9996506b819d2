-- Private: the labels of places behind those of a base, and of terms by them.
use Rattle.std.specs.Prelude.{◌≡◌, ℕ, ◌+◌, IsTrue, List, length, map}
use Rattle.sm_term.specs.declared.term.TermId.{TermId}
use Rattle.sm_cc.specs.declared.behind.AddedTerms.{AddedTerms}
use Rattle.sm_cc.specs.declared.behind.Scanned.{Scanned}
use Rattle.sm_cc.specs.declared.ground.BaseClasses.{BaseClasses}
use Rattle.sm_cc.specs.declared.log.Equation.{Equation}
use Rattle.sm_cc.specs.declared.row.Row.{Row}
use Rattle.sm_cc.specs.LabelsAt.{label_at}
use Rattle.sm_cc.specs.Scanned.{AreLooked, AreQuiet}
use Rattle.sm_cc.specs.Positions.{place_at, Positions}

-- labels of all places by one look at each behind those of a base, and whether they are exact
pub record ArePlacesLabelled (g : BaseClasses) (more : List Row) (apart : List (ℕ × ℕ)) (b : AddedTerms)
    : Type 0 where
  pub seen : Scanned
  pub looked : AreLooked g more seen
  pub count : length seen.roots.items ≡ length g.closure.rows.items + length more
  pub are : b.labels.items ≡ map (λ (e : Equation). e.right) seen.roots.items
  pub exact :
      IsTrue b.is_exact → IsTrue seen.are_new × AreQuiet g.closure more seen.roots.items apart

-- labels of terms by those of their places
pub record AreTermsLabelled (g : BaseClasses) (p : Positions) (more : List Row) (terms : List TermId)
    (apart : List (TermId × TermId)) (b : AddedTerms) : Type 0 where
  pub places : AddedTerms
  pub labelled :
      ArePlacesLabelled g more
      (map (λ (q : TermId × TermId). (place_at p q.0.0, place_at p q.1.0)) apart) places
  pub are :
      b.labels.items ≡ map (λ (t : TermId). label_at places.labels.items (place_at p t.0)) terms
  pub exact : b.is_exact ≡ places.is_exact
