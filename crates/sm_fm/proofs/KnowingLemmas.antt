-- What a set knows of forms, and which atoms a sum lacks.
use Rattle.sm_fm.proofs.Imports.{◌≡◌, ◌≢◌, ⊎_elim, ℕ, suc, Bool, true, false, ◌||◌, [], ◌∷◌, ◌++◌, Result, Ok, Err, List, refl, sym, ap, ◌∙◌, arith, list_any, IfOk, cases_eq, same_from_decides, list_any-append, Linear, coefficient, IsKept, same_atom, eliminated, NumError, eliminated_takes_atom, eliminated_adds_no_atom, same_form, Known, Learns, KnowsAll, same_form-Decides, Lacks}
use Rattle.sm_num.specs.Errors.{Returns}

-- a choice of two, the other way round
pub or_turns : (x y b : Bool) → x ≡ y → (x || b) ≡ (b || (y || false))
or_turns true y true e = refl
or_turns true y false e = rw (sym e) refl
or_turns false y true e = refl
or_turns false y false e = rw (sym e) refl

-- two forms are the same either way
pub same_form-sym : (f g : Linear ℕ) → same_form f g ≡ same_form g f
same_form-sym f g =
    same_from_decides (same_form f g) (same_form g f) (same_form-Decides f g)
    (λ e. sym ((same_form-Decides g f).0 e), λ e. (same_form-Decides g f).1 (sym e))

-- with one more form, all are known
pub knows_more : (known all : List Known) (forms : List (Linear ℕ)) (h : Linear ℕ) → KnowsAll known forms → Learns known all h →
    KnowsAll all (forms ++ h ∷ [])
knows_more known all forms h knows_them learns = λ g.
    learns g ∙ ap (λ (b : Bool). same_form h g || b) (knows_them g)
    ∙ or_turns (same_form h g) (same_form g h) (list_any (same_form g) forms) (same_form-sym h g)
    ∙ sym (list_any-append (same_form g) forms (h ∷ []))

-- a sum has neither the atom nor an earlier one
pub sum_lacks : (f g : Linear ℕ) (t : ℕ) (result : Result (Linear ℕ) NumError) → IsKept f → IsKept g → Lacks t f → Lacks t g →
    Returns (eliminated f g t) result → IfOk result (Lacks (suc t))
sum_lacks f g t (Ok h) one other first second e = λ a below.
    ⊎_elim
    (λ (same : a ≡ t). ap (λ (b : ℕ). coefficient same_atom b h.parts) same ∙ eliminated_takes_atom f g h t e)
    (λ (apart : a ≢ t). eliminated_adds_no_atom f g h t a one other e (first a (omega arith)) (second a (omega arith)))
    (cases_eq a t)
sum_lacks f g t (Err e) one other first second fails = tt
