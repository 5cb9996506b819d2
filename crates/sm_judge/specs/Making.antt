-- Private: the forms of a branch one after the other, as the program makes them over the forms of
-- all terms of its table.
use Rattle.std.specs.Prelude.{ℕ, suc, ◌==◌, ◌<◌, pos, negsuc, ◌||◌, not, if◌then◌else◌, ◌≡◌, Result, Ok, Err, Option, Some, None, List, [], ◌∷◌, ◌++◌, map, slice_index_or}
use Rattle.std.specs.List.{All}
use Rattle.sm_syntax.specs.text.Sorts.{Sorts}
use Rattle.sm_num.specs.declared.kind.Kind.TheVariants as kind
use Rattle.sm_num.specs.Errors.{Explains}
use Rattle.sm_num.specs.declared.error.NumError.{NumError}
use Rattle.sm_num.specs.Forms.{Linear}
use Rattle.sm_num.specs.declared.kind.Kind.{Kind}
use Rattle.sm_num.specs.Combining.{Outcome, Fits, then_with, combined}
use Rattle.sm_term.specs.declared.term.TermId.{TermId}
use Rattle.sm_term.specs.Terms.{Tree}
use Rattle.sm_term.specs.Formulas.{NumberedFormula, Yes, No, Eq, Ne, Le, Lt, And, Or, numbered}
use Rattle.sm_term.specs.declared.formula.Formula.{Formula}
use Rattle.sm_theory.specs.LinearTerms.{linear_by}
use Rattle.sm_theory.specs.Arithmetic.{is_numeric, one_more}
use Rattle.sm_pairs.specs.Pairs.{Pairs}
use Rattle.sm_judge.specs.declared.forms.Source.{Source}
use Rattle.sm_judge.specs.declared.forms.Source.TheVariants as source
use Rattle.sm_judge.specs.declared.forms.SourcedForms.{SourcedForms}
use Rattle.sm_judge.specs.Forms.{place_in, is_zero}

-- the form of each term, where the number of a term is its place
abbrev pub linear_forms : List Tree → List (Linear ℕ)
linear_forms trees = map (linear_by (place_in trees)) trees

-- a form that says that 0 is at most 0
abbrev pub no_form : Linear ℕ
no_form = record { parts = []; constant = pos 0; kind = kind.Le }

-- the form at a place
abbrev pub form_at : List (Linear ℕ) → ℕ → Linear ℕ
form_at forms n = slice_index_or forms n no_form

-- the form of a term less another, by their places
abbrev pub difference_at : List (Linear ℕ) → Kind → ℕ → ℕ → Outcome (Linear ℕ)
difference_at forms kind m n = combined (form_at forms m) (pos 1) (form_at forms n) (negsuc 0) kind

-- a form that isn't 0
abbrev pub unless_zero : Linear ℕ → Option (Linear ℕ)
unless_zero f = if is_zero f then None else Some f

-- that two terms are equal, as a form or none
abbrev pub class_form : List (Linear ℕ) → ℕ → ℕ → Outcome (Option (Linear ℕ))
class_form forms m n =
    then_with (difference_at forms kind.Eq m n) (λ (f : Linear ℕ). Fits (unless_zero f))

-- a form that is there
abbrev pub some_form : Linear ℕ → Outcome (Option (Linear ℕ))
some_form f = Fits (Some f)

-- the form of a comparison, by the places of terms, or none
abbrev pub comparison_at : List (Linear ℕ) → NumberedFormula → Outcome (Option (Linear ℕ))
comparison_at forms Yes = Fits None
comparison_at forms No = Fits None
comparison_at forms (Eq t u) = Fits None
comparison_at forms (Ne t u) = Fits None
comparison_at forms (Le t u) = then_with (difference_at forms kind.Le t u) some_form
comparison_at forms (Lt t u) =
    then_with (then_with (difference_at forms kind.Le t u) one_more) some_form
comparison_at forms (And p q) = Fits None
comparison_at forms (Or p q) = Fits None

-- a source with the form that comes from it, if one does
abbrev pub Item : Type 0
Item = Source × Outcome (Option (Linear ℕ))

-- forms with their sources
abbrev pub Made : Type 0
Made = List (Linear ℕ) × List Source

-- forms with one more, if there is one
abbrev pub with_form : Made → Source → Option (Linear ℕ) → Made
with_form made s None = made
with_form made s (Some f) = (made.0 ++ f ∷ [], made.1 ++ s ∷ [])

-- forms with those of items behind them; the first operation that leaves the range is told
abbrev pub collected : List Item → Made → Outcome Made
collected [] made = Fits made
collected (i ∷ items) made =
    then_with i.1 (λ (o : Option (Linear ℕ)). collected items (with_form made i.0 o))

-- two numbers of terms
abbrev pub Two : Type 0
Two = TermId × TermId

-- the items of pairs of equal terms
abbrev pub class_items : List (Linear ℕ) → List Two → List Item
class_items forms pairs =
    map (λ (p : Two). (source.Class p.0 p.1, class_form forms p.0.0 p.1.0)) pairs

-- the items of facts, from a place on
abbrev pub fact_items : List (Linear ℕ) → ℕ → List Formula → List Item
fact_items forms n [] = []
fact_items forms n (f ∷ fs) =
    (source.Fact n, comparison_at forms (numbered f)) ∷ fact_items forms (suc n) fs

-- what the program made
abbrev pub held : SourcedForms → Made
held made = (made.forms.list.items, made.sources.items)

-- a call gives the forms with their sources, or the first operation that leaves the range
abbrev pub GivesMade : Outcome Made → Result SourcedForms NumError → Type 0
GivesMade outcome (Ok made) = outcome ≡ Fits (held made)
GivesMade outcome (Err e) = Explains outcome e

-- the place, from one on, of the first term that is equal to a term
abbrev pub first_place : Pairs → Tree → ℕ → List Tree → Option ℕ
first_place equal t n [] = None
first_place equal t n (u ∷ us) = if equal u t then Some n else first_place equal t (suc n) us

-- the pair of a number with the first term of its class, which is another
abbrev pub pair_with : Sorts → Tree → ℕ → Option ℕ → List (ℕ × ℕ)
pair_with sorts t n None = []
pair_with sorts t n (Some m) =
    if (n == m) || not (is_numeric sorts t) then [] else (n, m) ∷ []

-- the pairs of terms, from a place on, with the first terms of their classes
abbrev pub pairs_of : Sorts → Pairs → List Tree → ℕ → List Tree → List (ℕ × ℕ)
pairs_of sorts equal trees n [] = []
pairs_of sorts equal trees n (t ∷ ts) =
    pair_with sorts t n (first_place equal t 0 trees) ++ pairs_of sorts equal trees (suc n) ts

-- the places of two terms
abbrev pub places_of : List Two → List (ℕ × ℕ)
places_of pairs = map (λ (p : Two). (p.0.0, p.1.0)) pairs

-- both have forms
abbrev pub ArePairsWithin : ℕ → List Two → Type 0
ArePairsWithin count pairs = All (λ (p : Two). (p.0.0 < count) × (p.1.0 < count)) pairs
