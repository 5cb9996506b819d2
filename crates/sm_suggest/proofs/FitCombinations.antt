-- Each combination of a task that is fit is fit.
use Rattle.sm_suggest.proofs.Imports.{◌≡◌, ◌⊎◌, inl, inr, ℕ, ◌==◌, Bool, true, false, if◌then◌else◌, Option, Some, None, List, [], ◌∷◌, refl, sym, ap, subst, arith, Copy, O, A, B, M, program_of, Fillings, filling, fill, Code, End, Skip, Assign, Write, If, While, Hole, append, Refusal, sort_refusal, holes_of, Parts, sort_of, task_of, Sorts, IsAsDeclared, IsWellSorted, Sort, has_hole, choices, chosen, hole_count, combination, IsFit, CombinationsAreFit, none_of_lists}
use Rattle.std.proofs.lemmas.Bool.Decides.{nat_tests}
use Rattle.std.specs.List.{AllByRecursion}
use Rattle.std.specs.Option.{option_or}
use Rattle.sm_syntax.proofs.EachUse.{well_sorted_is_all}
use Rattle.sm_syntax.specs.text.Conditions.{first_sort_fault}
use Rattle.sm_syntax.specs.declared.tree.Sort.TheVariants.{Num, Arr}
use Rattle.sm_syntax.specs.text.Uses.{names_used, EachUsed}
use Rattle.sm_replay.specs.Sorted.{names_assumed, sort_fault}

-- for each hole a list has what some copy has for it, or nothing
abbrev IsMix : (Copy → Fillings) → Fillings → Type 0
IsMix fillings fs = (h : ℕ) → (filling fs h ≡ End) ⊎ ((c : Copy) × (filling fs h ≡ filling (fillings c) h))

-- fillings that are chosen are a mix
chosen_mix : (fillings : Copy → Fillings) (holes : List ℕ) (copies : List Copy) → IsMix fillings (chosen fillings holes copies)
chosen_mix fillings [] copies h = inl refl
chosen_mix fillings (x ∷ holes) [] h = inl refl
chosen_mix fillings (x ∷ holes) (c ∷ copies) h = at (x == h) refl (chosen_mix fillings holes copies h)
  where
    rest : Code
    rest = filling (chosen fillings holes copies) h

    at : (b : Bool) → (x == h) ≡ b → (rest ≡ End) ⊎ ((d : Copy) × (rest ≡ filling (fillings d) h)) →
        ((if b then filling (fillings c) x else rest) ≡ End)
        ⊎ ((d : Copy) × ((if b then filling (fillings c) x else rest) ≡ filling (fillings d) h))
    at true same later = let e : x ≡ h = grind (arith, nat_tests) in inr (c, ap (filling (fillings c)) e)
    at false other later = later

module _ (P : ℕ → Sort → Type 0) where
  -- what holds of each name of two pieces of code holds of each of one after the other
  joined : (c r : Code) → EachUsed P c → EachUsed P r → EachUsed P (append c r)
  joined End r first second = second
  joined (Skip k) r first second = joined k r first second
  joined (Assign x e k) r first second = (first.0, first.1, joined k r first.2 second)
  joined (Write a i e k) r first second = (first.0, first.1, first.2, joined k r first.3 second)
  joined (If b c d k) r first second = (first.0, first.1, first.2, joined k r first.3 second)
  joined (While b c k) r first second = (first.0, first.1, joined k r first.2 second)
  joined (Hole h k) r first second = joined k r first second

  -- what holds of each name of two pieces of code together holds of each of the first
  front : (c r : Code) → EachUsed P (append c r) → EachUsed P c
  front End r each = tt
  front (Skip k) r each = front k r each
  front (Assign x e k) r each = (each.0, each.1, front k r each.2)
  front (Write a i e k) r each = (each.0, each.1, each.2, front k r each.3)
  front (If b c d k) r each = (each.0, each.1, each.2, front k r each.3)
  front (While b c k) r each = (each.0, each.1, front k r each.2)
  front (Hole h k) r each = front k r each

  -- what holds of each name of two pieces of code together holds of each of the second
  back : (c r : Code) → EachUsed P (append c r) → EachUsed P r
  back End r each = each
  back (Skip k) r each = back k r each
  back (Assign x e k) r each = back k r each.2
  back (Write a i e k) r each = back k r each.3
  back (If b c d k) r each = back k r each.3
  back (While b c k) r each = back k r each.2
  back (Hole h k) r each = back k r each

  -- what holds of each name of each copy's program holds of each of a mix of them
  mixed : (fillings : Copy → Fillings) (fs : Fillings) → IsMix fillings fs → (code : Code)
      → ((c : Copy) → EachUsed P (fill (fillings c) code)) → EachUsed P (fill fs code)
  mixed fillings fs mix End each = tt
  mixed fillings fs mix (Skip k) each = mixed fillings fs mix k each
  mixed fillings fs mix (Assign x e k) each = ((each O).0, (each O).1, mixed fillings fs mix k (λ c. (each c).2))
  mixed fillings fs mix (Write a i e k) each =
      ((each O).0, (each O).1, (each O).2, mixed fillings fs mix k (λ c. (each c).3))
  mixed fillings fs mix (If b then_ else_ k) each = (
    (each O).0,
    mixed fillings fs mix then_ (λ c. (each c).1),
    mixed fillings fs mix else_ (λ c. (each c).2),
    mixed fillings fs mix k (λ c. (each c).3),
  )
  mixed fillings fs mix (While b body k) each =
      ((each O).0, mixed fillings fs mix body (λ c. (each c).1), mixed fillings fs mix k (λ c. (each c).2))
  mixed fillings fs mix (Hole h k) each =
      joined (filling fs h) (fill fs k) (here (mix h))
      (mixed fillings fs mix k (λ c. back (filling (fillings c) h) (fill (fillings c) k) (each c)))
    where
      here : (filling fs h ≡ End) ⊎ ((c : Copy) × (filling fs h ≡ filling (fillings c) h)) → EachUsed P (filling fs h)
      here (inl none) = subst (EachUsed P) (sym none) tt
      here (inr some) =
          subst (EachUsed P) (sym some.1)
          (front (filling (fillings some.0) h) (fill (fillings some.0) k) (each some.0))

-- no hole is in what a mix has for one
mixed_no_hole : (fillings : Copy → Fillings) (fs : Fillings) → IsMix fillings fs
    → ((c : Copy) (h : ℕ) → has_hole (filling (fillings c) h) ≡ false) → (h : ℕ) → has_hole (filling fs h) ≡ false
mixed_no_hole fillings fs mix free h = at (mix h)
  where
    at : (filling fs h ≡ End) ⊎ ((c : Copy) × (filling fs h ≡ filling (fillings c) h)) → has_hole (filling fs h) ≡ false
    at (inl none) = rw none refl
    at (inr some) = rw some.1 (free some.0 h)

-- a name that stands as it is declared isn't refused
not_refused : (sort : Sort) (x : ℕ) → sort_refusal (Some sort) sort x ≡ None
not_refused Num x = refl
not_refused Arr x = refl

-- no name of a list is refused, where each stands as it is declared
none_refused : (sorts : Sorts) (uses : List (ℕ × Sort)) → AllByRecursion (λ (u : ℕ × Sort). IsAsDeclared sorts u.0 u.1) uses
    → first_sort_fault sorts uses ≡ None
unfolding first_sort_fault
none_refused sorts [] all = refl
none_refused sorts (u ∷ uses) all = rw (all.0, not_refused u.1 u.0) (none_refused sorts uses all.1)

-- no name of well sorted code is refused
code_free : (sorts : Sorts) (c : Code) → IsWellSorted sorts c → first_sort_fault sorts (names_used c) ≡ None
code_free sorts c sorted = none_refused sorts (names_used c) ((well_sorted_is_all sorts c).0 sorted)

-- the first of two faults is none
first_none : (a b : Option Refusal) → option_or a b ≡ None → a ≡ None
first_none None b none = refl
first_none (Some r) b none = cc

-- a task whose names stand as they are declared has none in its assumption that doesn't
assumed_free : (t : Parts) → sort_fault t ≡ None → first_sort_fault (sort_of t.declared) (names_assumed t.assumed) ≡ None
unfolding sort_fault
assumed_free t none = first_none (first_sort_fault (sort_of t.declared) (names_assumed t.assumed)) _ none

-- a task may be run whose assumption has no fault and whose programs are well sorted
runs_by_parts : (t : Parts) → first_sort_fault (sort_of t.declared) (names_assumed t.assumed) ≡ None
    → ((c : Copy) → IsWellSorted (sort_of t.declared) (program_of (task_of t) c)) → sort_fault t ≡ None
unfolding sort_fault
runs_by_parts t assumed sorted =
    let names = λ (c : Copy). first_sort_fault (sort_of t.declared) (names_used (program_of (task_of t) c)) in
    let each : (c : Copy) → names c ≡ None =
    λ (c : Copy). code_free (sort_of t.declared) (program_of (task_of t) c) (sorted c) in
    rw (assumed, none_of_lists names each)

-- the programs of a combination are well sorted
programs_sorted : (t : Parts) (k : ℕ) → IsFit t → (c : Copy)
    → IsWellSorted (sort_of t.declared) (program_of (task_of (combination t k)) c)
programs_sorted t k fit O = fit.sorted.programs O
programs_sorted t k fit A = fit.sorted.programs A
programs_sorted t k fit B = fit.sorted.programs B
programs_sorted t k fit M =
    let copies = choices (hole_count t) k in
    mixed (IsAsDeclared (sort_of t.declared)) t.fillings (chosen t.fillings (holes_of t.shared) copies)
    (chosen_mix t.fillings (holes_of t.shared) copies) t.shared fit.sorted.programs

-- its fillings have no hole
fillings_no_hole : (t : Parts) (k : ℕ) → IsFit t → (c : Copy) (h : ℕ) → has_hole (filling ((combination t k).fillings c) h) ≡ false
fillings_no_hole t k fit O h = fit.no_hole O h
fillings_no_hole t k fit A h = fit.no_hole A h
fillings_no_hole t k fit B h = fit.no_hole B h
fillings_no_hole t k fit M h =
    let copies = choices (hole_count t) k in
    mixed_no_hole t.fillings (chosen t.fillings (holes_of t.shared) copies)
    (chosen_mix t.fillings (holes_of t.shared) copies) fit.no_hole h

pub combinations_are_fit : CombinationsAreFit
combinations_are_fit t k fit = record {
  runs = runs_by_parts (combination t k) (assumed_free t fit.runs) (programs_sorted t k fit);
  sorted =
      record {
        programs = programs_sorted t k fit;
        assumed = fit.sorted.assumed;
        outputs = fit.sorted.outputs;
      };
  numbered = fit.numbered;
  no_hole = fillings_no_hole t k fit;
}
