-- Private: what the heads and the linear forms of terms are numbered by, in lists without repeats.
use Rattle.std.specs.Prelude.{◌≡◌, ℕ, ℤ, false, true, slice_get, Option, Some, None, List, [], map, Vec}
use Rattle.std.specs.Global.{Global}
use Rattle.sm_syntax.specs.text.Sorts.{Sorts}
use Rattle.sm_num.specs.Forms.{Linear}
use Rattle.sm_term.specs.declared.term.Term.{Term}
use Rattle.sm_term.specs.declared.term.Term.TheVariants as row
use Rattle.sm_term.specs.Rows.{kind_numbers, names_in_list}
use Rattle.sm_term.specs.RowLaws.{Contents, contents_of}
use Rattle.sm_term.specs.Terms.{Tree}
use Rattle.sm_theory.specs.LinearTerms.{linear_of}
use Rattle.sm_theory.specs.Arithmetic.{is_numeric}
use Rattle.sm_theory.specs.Standing.{IsKeptFor}
use Rattle.sm_cc.specs.declared.row.Shape.{Shape}
use Rattle.sm_cc.specs.declared.heads.Heads.{Heads}
use Rattle.sm_cc.specs.declared.shapes.Shapes.{Shapes}

-- no value stands twice in a list
abbrev pub StandApart : {A : Type 0} → List A → Type 0
StandApart {A} list =
    (i j : ℕ) (x : A) → slice_get list i ≡ Some x → slice_get list j ≡ Some x → i ≡ j

-- what the head of a term holds, which is the term over no arguments, where it has a head
abbrev pub head_of : Term → Option Contents
head_of (row.Lit z) = None
head_of (row.Start x) = None
head_of (row.Havoc k c x) = None
head_of (row.Slot c x) = None
head_of row.Cell = None
head_of (row.Read a i) = Some (kind_numbers 5 0 0 0, [], [])
head_of (row.Write a i e) = Some (kind_numbers 6 0 0 0, [], [])
head_of (row.Neg t) = Some (kind_numbers 7 0 0 0, [], [])
head_of (row.Add t u) = Some (kind_numbers 8 0 0 0, [], [])
head_of (row.Sub t u) = Some (kind_numbers 9 0 0 0, [], [])
head_of (row.Mul t u) = Some (kind_numbers 10 0 0 0, [], [])
head_of (row.Fun body x from args) =
    Some (kind_numbers 11 body.0 x.0 0, names_in_list from.list.items, [])

-- a head has a number in a list of heads, and none has none
abbrev pub IsHeadAt : List Contents → Option Contents → Option ℕ → Type 0
IsHeadAt heads (Some h) (Some n) = slice_get heads n ≡ Some h
IsHeadAt heads (Some h) None = ⊥
IsHeadAt heads None (Some n) = ⊥
IsHeadAt heads None None = Unit {0}

-- the form of a number has its parts in a list of such, and what is no number has none
abbrev pub IsShapeAt :
    Sorts → List Tree → List (List (ℕ × ℤ)) → Tree → Option Shape → Type 0
IsShapeAt sorts trees parts t None = is_numeric sorts t ≡ false
IsShapeAt sorts trees parts t (Some s) =
    (is_numeric sorts t ≡ true)
    × ((f : Linear ℕ) × IsKeptFor trees f (linear_of t) × (slice_get parts s.parts ≡ Some f.parts)
    × (s.constant ≡ f.constant))

-- the heads that were met
abbrev pub heads_met : Heads → List Contents
heads_met heads = map contents_of heads.list

-- the parts that were met
abbrev pub parts_met : Shapes → List (List (ℕ × ℤ))
parts_met shapes = map (λ (v : Vec (ℕ × ℤ) Global). v.items) shapes.parts
