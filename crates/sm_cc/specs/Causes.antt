-- Private: which rule makes two places equal, or keeps them apart.
use Rattle.std.specs.Prelude.{◌≡◌, ℕ, ◌==◌, pos, IsTrue, Bool, ◌&&◌, ◌||◌, not, slice_get, length, Some}
use Rattle.std.specs.List.{list_any, range_with_len}
use Rattle.std.specs.Ordering.{int_eq}
use Rattle.sm_cc.specs.declared.row.Shape.{Shape}
use Rattle.sm_cc.specs.declared.witness.Difference.{Difference}
use Rattle.sm_cc.specs.declared.witness.Difference.TheVariants as difference
use Rattle.sm_cc.specs.declared.witness.Witness.{Witness}
use Rattle.sm_cc.specs.declared.cause.Cause.{Cause}
use Rattle.sm_cc.specs.declared.cause.Cause.TheVariants as cause
use Rattle.sm_cc.specs.Classes.{if_there}
use Rattle.sm_cc.specs.Rows.{Board, PlacePairs, one_head, shapes_pass, rows_pass, equal_places, places_apart, places_differ, is_listed, Row, Element}
use Rattle.sm_cc.specs.Log.{Placed, AreIn, IsGivenAs}
use Rattle.sm_cc.specs.Closures.{are_together, Closure, Given}

-- why two places differ
abbrev pub IsDifference : Placed → Difference → ℕ → ℕ → Type 0
IsDifference v (difference.Given fact) p q =
    IsGivenAs v.board.unequal v.unequal_facts fact p q
IsDifference v (difference.Turned fact) p q =
    IsGivenAs v.board.unequal v.unequal_facts fact q p
IsDifference v difference.Forms p q =
    IsTrue (rows_pass v.board.rows p q (λ r s. shapes_pass r s (λ y z. not (int_eq y z))))

-- whether the linear forms of two places differ in the constant alone
abbrev pub differ_in_form : Board → ℕ → ℕ → Bool
differ_in_form b p q =
    rows_pass b.rows p q (λ r s. shapes_pass r s (λ y z. not (int_eq y z)))

-- whether two places differ whose contrary isn't given in this order
abbrev pub differ_otherwise : Board → ℕ → ℕ → Bool
differ_otherwise b p q = is_listed b.unequal q p || differ_in_form b p q

-- whether a place differs from one that equals another
abbrev pub any_differs : Board → PlacePairs → ℕ → ℕ → Bool
any_differs b equal p j =
    list_any (λ q. equal q j && places_differ b p q) (range_with_len 0 (length b.rows))

-- a place differs from one that equals another
pub record IsHalfWitness (v : Placed) (equal : PlacePairs) (w : Witness) (p j : ℕ) : Type 0 where
  pub there : AreIn v.board.rows w.left w.right
  pub left : w.left ≡ p
  pub right : IsTrue (equal w.right j)
  pub differ : IsDifference v w.difference w.left w.right

-- places that differ equal two places
pub record IsWitness (v : Placed) (equal : PlacePairs) (w : Witness) (i j : ℕ) : Type 0 where
  pub there : AreIn v.board.rows w.left w.right
  pub left : IsTrue (equal w.left i)
  pub right : IsTrue (equal w.right j)
  pub differ : IsDifference v w.difference w.left w.right

-- whether a given pair is of the classes of two places, in either order
abbrev pub is_between : PlacePairs → ℕ → ℕ → Given → Bool
is_between equal i j g = (equal g.left i && equal g.right j) || (equal g.right i && equal g.left j)

-- whether a pair of the classes of two places was given to be unequal
abbrev pub are_given_apart : Closure → ℕ → ℕ → Bool
are_given_apart c i j = list_any (is_between (are_together c.roots.items) i j) c.unequal.items

-- whether a row is of a linear form whose constant isn't 0
abbrev pub has_constant : Row → Bool
has_constant r = if_there r.shape (λ (f : Shape). not (int_eq f.constant (pos 0)))

-- whether a place is in one of the classes of two, and its linear form has a constant
abbrev pub is_constant_of : Closure → ℕ → ℕ → ℕ → Bool
is_constant_of c i j p =
    let equal = are_together c.roots.items in
    (equal p i || equal p j) && if_there (slice_get c.rows.items p) has_constant

-- whether a linear form of the classes of two places has a constant
abbrev pub have_constant : Closure → ℕ → ℕ → Bool
have_constant c i j = list_any (is_constant_of c i j) (range_with_len 0 (length c.rows.items))

-- whether two places may be apart at all
abbrev pub may_be_apart : Closure → ℕ → ℕ → Bool
may_be_apart c i j = are_given_apart c i j || have_constant c i j

-- whether an element that is read is the one at a place
abbrev pub element_is : Board → PlacePairs → Element → ℕ → Bool
element_is b equal e j =
    (equal e.index e.other && (j == e.written))
    || (places_apart b equal e.index e.other && (j == e.before))

-- whether a row is of an element that is read and is the one at a place
abbrev pub element_brings : Board → PlacePairs → Row → ℕ → Bool
element_brings b equal r j =
    if_there r.element (λ (e : Element). equal e.index e.other && (j == e.written))
    || if_there r.element (λ (e : Element).
    places_apart b equal e.index e.other && (j == e.before))

-- whether two rows are of places that are equal by their forms or their arguments
abbrev pub rows_pair : PlacePairs → Row → Row → Bool
rows_pair equal r s =
    shapes_pass r s int_eq
    || (one_head r s && equal_places equal r.arguments.items s.arguments.items)

-- whether two rows are of places that are equal by one rule
abbrev pub rows_bring : Board → PlacePairs → Row → Row → ℕ → Bool
rows_bring b equal r s j =
    shapes_pass r s int_eq
    || ((one_head r s && equal_places equal r.arguments.items s.arguments.items)
    || element_brings b equal r j)

-- why an element that is read is the one at a place
abbrev pub IsElementCause : Placed → PlacePairs → Cause → Element → ℕ → Type 0
IsElementCause v equal (cause.Given fact) e j = ⊥
IsElementCause v equal cause.Alike e j = ⊥
IsElementCause v equal cause.Arguments e j = ⊥
IsElementCause v equal (cause.Hit f) e j =
    (f ≡ e) × IsTrue (equal e.index e.other) × (j ≡ e.written)
IsElementCause v equal (cause.Miss f w) e j =
    (f ≡ e) × IsWitness v equal w e.index e.other × (j ≡ e.before)

-- why two rows are of places that are equal
abbrev pub IsCause : Placed → PlacePairs → Cause → Row → Row → ℕ → ℕ → Type 0
IsCause v equal (cause.Given fact) r s i j =
    IsGivenAs v.board.equal v.equal_facts fact i j
IsCause v equal cause.Alike r s i j = IsTrue (shapes_pass r s int_eq)
IsCause v equal cause.Arguments r s i j =
    IsTrue (one_head r s) × IsTrue (equal_places equal r.arguments.items s.arguments.items)
IsCause v equal (cause.Hit e) r s i j =
    (r.element ≡ Some e) × IsTrue (equal e.index e.other) × (j ≡ e.written)
IsCause v equal (cause.Miss e w) r s i j =
    (r.element ≡ Some e) × IsWitness v equal w e.index e.other × (j ≡ e.before)

-- why two places are equal
pub record IsCauseOf (v : Placed) (equal : PlacePairs) (c : Cause) (i j : ℕ) : Type 0 where
  pub first : Row
  pub second : Row
  pub at_first : slice_get v.board.rows i ≡ Some first
  pub at_second : slice_get v.board.rows j ≡ Some second
  pub cause : IsCause v equal c first second i j
