-- Private: the first places of terms in a list, by the numbers of the terms.
use Rattle.std.specs.Prelude.{◌≡◌, ◌==◌, ℕ, suc, ◌<◌, ◌≤◌, Bool, false, ◌&&◌, if◌then◌else◌, Option, Some, None, option_map, unwrap_or, List, [], ◌∷◌, length, get_or}
use Rattle.std.specs.HashMap.{get}
use Rattle.sm_term.specs.declared.term.Term.TheVariants as row
use Rattle.sm_term.specs.Terms.{Tree, Read}
use Rattle.sm_term.specs.SameTerms.{same_tree}
use Rattle.sm_term.specs.Tables.{tree_at}
use Rattle.sm_term.specs.declared.term.Term.{Term}
use Rattle.sm_theory.specs.Elements.{Written, written_in}
use Rattle.sm_theory.specs.Lines.{followed}
pub use Rattle.sm_cc.specs.declared.positions.Positions.{Positions}
use Rattle.sm_cc.specs.declared.row.Element.{Element}
use Rattle.sm_cc.specs.Standing.{place_of}

-- the first place of a term in a list, none where it isn't there
abbrev pub first_place : List Tree → Tree → Option ℕ
first_place [] t = None
first_place (u ∷ us) t = if same_tree u t then Some 0 else option_map suc (first_place us t)

-- a place that is known, or a new one where a test is passed
abbrev pub first_or : Option ℕ → Bool → ℕ → Option ℕ
first_or (Some p) test place = Some p
first_or None test place = if test then Some place else None

-- whether two pairs of numbers are equal
abbrev pub same_pair : ℕ × ℕ → ℕ × ℕ → Bool
same_pair p q = (p.0 == q.0) && (p.1 == q.1)

-- whether a term reads the element of an array at an index, by their numbers
abbrev pub is_read : Term → ℕ → ℕ → Bool
is_read (row.Read a i) b j = same_pair (a.0, i.0) (b, j)
is_read t b j = false

-- the place of a term by its number
abbrev pub place_at : Positions → ℕ → ℕ
place_at p n = unwrap_or (get_or p.places.items n None) p.count

-- the place of an element that is read, by the numbers of its array and its index
abbrev pub read_at : Positions → ℕ → ℕ → ℕ
read_at p a i = unwrap_or (get same_pair p.reads (a, i)) p.count

-- a map has the first place of each term of a table
abbrev pub HasPlaces : List Tree → List Tree → (ℕ → Option ℕ) → Type 0
HasPlaces trees terms places =
    (n : ℕ) → n < length trees → places n ≡ first_place terms (tree_at trees n)

-- a map has the first place of each element that is read of terms of a table
abbrev pub HasReads : List Tree → List Tree → (ℕ × ℕ → Option ℕ) → Type 0
HasReads trees terms places =
    (a i : ℕ) → a < length trees → i < length trees →
    places (a, i) ≡ first_place terms (Read (tree_at trees a) (tree_at trees i))

-- a map has elements alone that are read of terms below a bound
abbrev pub AreReadsBelow : ℕ → (ℕ × ℕ → Option ℕ) → Type 0
AreReadsBelow bound places =
    (a i place : ℕ) → places (a, i) ≡ Some place → (a < bound) × (i < bound)

-- a tree has a number in a table
abbrev pub HasNumber : List Tree → Tree → Type 0
HasNumber trees t = (n : ℕ) × (n < length trees) × (tree_at trees n ≡ t)

-- the parts of each term in a list that reads an element have numbers
abbrev pub HavePartsIn : List Tree → List Tree → Type 0
HavePartsIn trees terms =
    (a i : Tree) (place : ℕ) → first_place terms (Read a i) ≡ Some place →
    HasNumber trees a × HasNumber trees i

-- what is noted of the places of terms of a table in a list of such, also where it grows
pub record AreNoted
    (trees terms : List Tree) (places : List (Option ℕ)) (reads : ℕ × ℕ → Option ℕ) : Type 0 where
  pub within : length places ≤ length trees
  pub places_noted : HasPlaces trees terms (λ n. get_or places n None)
  pub reads_noted : HasReads trees terms reads
  pub reads_below : AreReadsBelow (length trees) reads
  pub parts : HavePartsIn trees terms

-- positions tell the places of terms of a table in a list of such
pub record ArePositions (trees terms : List Tree) (p : Positions) : Type 0 where
  pub noted : AreNoted trees terms p.places.items (get same_pair p.reads)
  pub count : p.count ≡ length terms
  pub places : (n : ℕ) → n < length trees → place_at p n ≡ place_of terms (tree_at trees n)
  pub reads :
      (a i : ℕ) → a < length trees → i < length trees →
      read_at p a i ≡ place_of terms (Read (tree_at trees a) (tree_at trees i))

-- the element that is read of an array at an index after one was written, by places
abbrev pub written_element : List Tree → Tree → Tree → Option Element
written_element terms a j =
    followed (written_in a) (λ (w : Written). Some (record {
      index = place_of terms w.index;
      written = place_of terms w.element;
      other = place_of terms j;
      before = place_of terms (Read w.before j);
    }))
