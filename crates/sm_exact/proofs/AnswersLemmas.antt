-- What an answer that tells the decision says of whole numbers, and of a branch.
use Rattle.sm_exact.proofs.Imports.{◌≡◌, ◌<◌, ◌≤◌, ◌==◌, ◌⊎◌, ◌↔◌, inl, inr, ℕ, ℤ, pos, ◌+ℤ◌, ◌*ℤ◌, Bool, true, false, if◌then◌else◌, nat_lt, nat_le, ◌&&◌, Option, Some, None, List, [], ◌∷◌, map, refl, sym, ap, subst, ◌∙◌, arith, IsTrue, eq-eqb, eqb-false, ltb-false, le-leb, Decides-eqb, Linear, HoldsAt, Satisfies, sum_of_parts, Done, Values, Answer, AllHold, AllKept, IsRightFor, No, BranchFact, Formal, followed, formula_if, forms_of_branch, exact_adds, has_no_solution, ExactAnswer, with_atom, with_parts, with_forms, atoms_of, TellsExact}
use Rattle.std.proofs.lemmas.Bool.{eqb-true, ltb-true}
use Rattle.sm_omega.specs.Exact.{exact}
use Rattle.sm_omega.proofs.ExactRight.{exact_right}
use Rattle.sm_omega.proofs.LimitLemmas.{limit_does_not_matter}
use Rattle.sm_exact.specs.declared.answer.ExactAnswer.TheVariants as answer
use Rattle.sm_exact.specs.Answers.{IsIn, AreAbove, AreAscending, IsVariableOf, value_by, IsRight, HasVariables, ClosesBranches}

-- the variables of parts
abbrev variables : List (ℕ × ℤ) → List ℕ
variables ps = map (λ p. p.0) ps

-- parts of two values, which agree on each of their variables, have one sum
sums_alike : (v w : Values) (ps : List (ℕ × ℤ)) → ((a : ℕ) → IsIn a (variables ps) → v a ≡ w a) → sum_of_parts v ps ≡ sum_of_parts w ps
sums_alike v w [] agree = refl
sums_alike v w (p ∷ ps) agree =
    ap (λ (z : ℤ). (p.1 *ℤ z) +ℤ sum_of_parts v ps) (agree p.0 (inl refl))
    ∙ ap (λ (z : ℤ). (p.1 *ℤ w p.0) +ℤ z) (sums_alike v w ps (λ a i. agree a (inr i)))

hold_alike : (v w : Values) (fs : List (Linear ℕ)) → ((a : ℕ) → IsVariableOf a fs → v a ≡ w a) → AllHold v fs → AllHold w fs
hold_alike v w [] agree all = tt
hold_alike v w (f ∷ fs) agree all = (
  subst (λ (z : ℤ). Satisfies f.kind (z +ℤ f.constant)) (sums_alike v w f.parts (λ a i. agree a (inl i))) all.0,
  hold_alike v w fs (λ a i. agree a (inr i)) all.1,
)

-- a value by pairs of variables with their values
value_there : (v : Values) (ns : List ℕ) (b : ℕ) → IsIn b ns → value_by (map (λ a. (a, v a)) ns) b ≡ v b
value_there v [] b is = absurd is
value_there v (a ∷ ns) b is = by (value_there v ns b) (a == b) refl is
  where
    by : (IsIn b ns → value_by (map (λ x. (x, v x)) ns) b ≡ v b) → (c : Bool) → (a == b) ≡ c → IsIn b (a ∷ ns) →
        (if c then v a else value_by (map (λ x. (x, v x)) ns) b) ≡ v b
    by there true e is = ap v (eqb-true a b e)
    by there false e (inl same) = let clash : false ≡ true = sym e ∙ eq-eqb a b (sym same) in cc
    by there false e (inr later) = there later

-- a variable that is put among others is there, and so are the others, and no more
put_there : (a : ℕ) (bs : List ℕ) → IsIn a (with_atom a bs)
put_there a [] = inl refl
put_there a (b ∷ bs) = by (put_there a bs) (nat_lt b a) (b == a) refl
  where
    by : IsIn a (with_atom a bs) → (less same : Bool) → (b == a) ≡ same →
        IsIn a (if less then b ∷ with_atom a bs else if same then b ∷ bs else a ∷ b ∷ bs)
    by there true same e = inr there
    by there false true e = inl (sym (eqb-true b a e))
    by there false false e = inl refl

still_there : (a c : ℕ) (bs : List ℕ) → IsIn c bs → IsIn c (with_atom a bs)
still_there a c [] is = absurd is
still_there a c (b ∷ bs) is = by (still_there a c bs) (nat_lt b a) (b == a) is
  where
    by : (IsIn c bs → IsIn c (with_atom a bs)) → (less same : Bool) → IsIn c (b ∷ bs) →
        IsIn c (if less then b ∷ with_atom a bs else if same then b ∷ bs else a ∷ b ∷ bs)
    by there true same (inl e) = inl e
    by there true same (inr later) = inr (there later)
    by there false true is = is
    by there false false is = inr is

only_put : (a c : ℕ) (bs : List ℕ) → IsIn c (with_atom a bs) → (c ≡ a) ⊎ IsIn c bs
only_put a c [] (inl e) = inl e
only_put a c [] (inr none) = absurd none
only_put a c (b ∷ bs) is = by (only_put a c bs) (nat_lt b a) (b == a) is
  where
    later : (c ≡ a) ⊎ IsIn c bs → (c ≡ a) ⊎ IsIn c (b ∷ bs)
    later (inl e) = inl e
    later (inr i) = inr (inr i)

    by : (IsIn c (with_atom a bs) → (c ≡ a) ⊎ IsIn c bs) → (less same : Bool) →
        IsIn c (if less then b ∷ with_atom a bs else if same then b ∷ bs else a ∷ b ∷ bs) → (c ≡ a) ⊎ IsIn c (b ∷ bs)
    by only true same (inl e) = inr (inl e)
    by only true same (inr i) = later (only i)
    by only false true i = inr i
    by only false false (inl e) = inl e
    by only false false (inr i) = inr i

-- they stay in order
above_put : (low a : ℕ) (bs : List ℕ) → low < a → AreAbove low bs → AreAbove low (with_atom a bs)
above_put low a [] less above = (less, tt)
above_put low a (b ∷ bs) less above = by (above_put low a bs less above.1) (nat_lt b a) (b == a)
  where
    by : AreAbove low (with_atom a bs) → (le same : Bool) → AreAbove low (if le then b ∷ with_atom a bs else if same then b ∷ bs else a ∷ b ∷ bs)
    by rest true same = (above.0, rest)
    by rest false true = above
    by rest false false = (less, above)

lower : (a b : ℕ) (bs : List ℕ) → a < b → AreAbove b bs → AreAbove a bs
lower a b [] less above = tt
lower a b (c ∷ cs) less above = (let one = above.0 in omega arith, lower a b cs less above.1)

ascending_put : (a : ℕ) (bs : List ℕ) → AreAscending bs → AreAscending (with_atom a bs)
ascending_put a [] ordered = (tt, tt)
ascending_put a (b ∷ bs) ordered = by (ascending_put a bs ordered.1) (nat_lt b a) refl (b == a) refl
  where
    by : AreAscending (with_atom a bs) → (less : Bool) → nat_lt b a ≡ less → (same : Bool) → (b == a) ≡ same →
        AreAscending (if less then b ∷ with_atom a bs else if same then b ∷ bs else a ∷ b ∷ bs)
    by rest true e same g = (above_put b a bs (ltb-true b a e) ordered.0, rest)
    by rest false e true g = ordered
    by rest false e false g =
        let before : a < b = beyond e g in
        ((before, lower a b bs before ordered.0), ordered)
      where
        beyond : nat_lt b a ≡ false → (b == a) ≡ false → a < b
        beyond e g = least (nat_lt a b) refl
          where
            least : (c : Bool) → nat_lt a b ≡ c → a < b
            least true h = ltb-true a b h
            least false h = absurd (eqb-false b a g (let low = ltb-false b a e in let high = ltb-false a b h in omega arith))

-- the variables of parts, and of forms, behind others
parts_there : (ps : List (ℕ × ℤ)) (ns : List ℕ) (a : ℕ) → IsIn a ns → IsIn a (with_parts ps ns)
parts_there [] ns a is = is
parts_there (p ∷ ps) ns a is = parts_there ps (with_atom p.0 ns) a (still_there p.0 a ns is)

parts_put : (ps : List (ℕ × ℤ)) (ns : List ℕ) (a : ℕ) → IsIn a (variables ps) → IsIn a (with_parts ps ns)
parts_put [] ns a is = absurd is
parts_put (p ∷ ps) ns a (inl e) = subst (λ (n : ℕ). IsIn n (with_parts ps (with_atom p.0 ns))) (sym e)
    (parts_there ps (with_atom p.0 ns) p.0 (put_there p.0 ns))
parts_put (p ∷ ps) ns a (inr later) = parts_put ps (with_atom p.0 ns) a later

parts_only : (ps : List (ℕ × ℤ)) (ns : List ℕ) (a : ℕ) → IsIn a (with_parts ps ns) → IsIn a (variables ps) ⊎ IsIn a ns
parts_only [] ns a is = inr is
parts_only (p ∷ ps) ns a is = by (parts_only ps (with_atom p.0 ns) a is)
  where
    first : (a ≡ p.0) ⊎ IsIn a ns → IsIn a (variables (p ∷ ps)) ⊎ IsIn a ns
    first (inl e) = inl (inl e)
    first (inr i) = inr i

    by : IsIn a (variables ps) ⊎ IsIn a (with_atom p.0 ns) → IsIn a (variables (p ∷ ps)) ⊎ IsIn a ns
    by (inl i) = inl (inr i)
    by (inr i) = first (only_put p.0 a ns i)

parts_ascending : (ps : List (ℕ × ℤ)) (ns : List ℕ) → AreAscending ns → AreAscending (with_parts ps ns)
parts_ascending [] ns ordered = ordered
parts_ascending (p ∷ ps) ns ordered = parts_ascending ps (with_atom p.0 ns) (ascending_put p.0 ns ordered)

forms_there : (fs : List (Linear ℕ)) (ns : List ℕ) (a : ℕ) → IsIn a ns → IsIn a (with_forms fs ns)
forms_there [] ns a is = is
forms_there (f ∷ fs) ns a is = forms_there fs (with_parts f.parts ns) a (parts_there f.parts ns a is)

forms_put : (fs : List (Linear ℕ)) (ns : List ℕ) (a : ℕ) → IsVariableOf a fs → IsIn a (with_forms fs ns)
forms_put [] ns a is = absurd is
forms_put (f ∷ fs) ns a (inl i) = forms_there fs (with_parts f.parts ns) a (parts_put f.parts ns a i)
forms_put (f ∷ fs) ns a (inr i) = forms_put fs (with_parts f.parts ns) a i

forms_only : (fs : List (Linear ℕ)) (ns : List ℕ) (a : ℕ) → IsIn a (with_forms fs ns) → IsVariableOf a fs ⊎ IsIn a ns
forms_only [] ns a is = inr is
forms_only (f ∷ fs) ns a is = by (forms_only fs (with_parts f.parts ns) a is)
  where
    first : IsIn a (variables f.parts) ⊎ IsIn a ns → IsVariableOf a (f ∷ fs) ⊎ IsIn a ns
    first (inl i) = inl (inl i)
    first (inr i) = inr i

    by : IsVariableOf a fs ⊎ IsIn a (with_parts f.parts ns) → IsVariableOf a (f ∷ fs) ⊎ IsIn a ns
    by (inl i) = inl (inr i)
    by (inr i) = first (parts_only f.parts ns a i)

forms_ascending : (fs : List (Linear ℕ)) (ns : List ℕ) → AreAscending ns → AreAscending (with_forms fs ns)
forms_ascending [] ns ordered = ordered
forms_ascending (f ∷ fs) ns ordered = forms_ascending fs (with_parts f.parts ns) (parts_ascending f.parts ns ordered)

only_variables : (fs : List (Linear ℕ)) (a : ℕ) → IsIn a (atoms_of fs) → IsVariableOf a fs
only_variables fs a is = by (forms_only fs [] a is)
  where
    by : IsVariableOf a fs ⊎ IsIn a [] → IsVariableOf a fs
    by (inl i) = i
    by (inr none) = absurd none

-- the variables of pairs are those that the values were taken at
pairs_at : (v : Values) (ns : List ℕ) → variables (map (λ a. (a, v a)) ns) ≡ ns
pairs_at v [] = refl
pairs_at v (a ∷ ns) = ap (λ (bs : List ℕ). a ∷ bs) (pairs_at v ns)

-- an answer is right
pub tells_right : (fs : List (Linear ℕ)) (steps : ℕ) (a : ExactAnswer) → AllKept fs → TellsExact fs (exact fs steps) a → IsRight fs a
tells_right fs steps (answer.Refuted count) kept tells = subst (IsRightFor fs) tells (exact_right fs steps kept)
tells_right fs steps (answer.Solution pairs) kept tells =
    let v = tells.1 in
    let right : AllHold v fs = subst (IsRightFor fs) tells.2 (exact_right fs steps kept) in
    subst (λ (ps : List (ℕ × ℤ)). AllHold (value_by ps) fs) (sym tells.3)
    (hold_alike v (value_by (map (λ a. (a, v a)) (atoms_of fs))) fs
    (λ a is. sym (value_there v (atoms_of fs) a (forms_put fs [] a is))) right)
tells_right fs steps answer.Steps kept tells = tt
tells_right fs steps (answer.Beyond op y z) kept tells = tt

-- a solution has the variables of the forms
pub tells_variables : (fs : List (Linear ℕ)) (whole : Answer) (a : ExactAnswer) → TellsExact fs whole a → HasVariables fs a
tells_variables fs whole (answer.Refuted count) tells = tt
tells_variables fs whole (answer.Solution pairs) tells =
    let v = tells.1 in
    subst (λ (ps : List (ℕ × ℤ)). let atoms = variables ps in AreAscending atoms × ((a : ℕ) → IsIn a atoms ↔ IsVariableOf a fs))
    (sym tells.3)
    (subst (λ (ns : List ℕ). AreAscending ns × ((a : ℕ) → IsIn a ns ↔ IsVariableOf a fs)) (sym (pairs_at v (atoms_of fs)))
    (forms_ascending fs [] tt, λ a. (only_variables fs a, forms_put fs [] a)))
tells_variables fs whole answer.Steps tells = tt
tells_variables fs whole (answer.Beyond op y z) tells = tt

-- the line with a refutation's count
pub tells_line : (fs : List (Linear ℕ)) (steps : ℕ) (a : ExactAnswer) → TellsExact fs (exact fs steps) a → ClosesBranches fs a
tells_line fs steps (answer.Refuted count) tells = λ facts few forms.
    let again : exact fs count ≡ Done count None = limit_does_not_matter fs steps count count None tells (omega arith) in
    ap (λ (o : Option (List (Linear ℕ))). followed o (λ gs. formula_if (nat_le count 1000000 && has_no_solution (exact gs count)) No)) forms
    ∙ ap (λ (w : Answer). formula_if (nat_le count 1000000 && has_no_solution w) No) again
    ∙ ap (λ (b : Bool). formula_if (b && true) No) (le-leb count 1000000 few)
tells_line fs steps (answer.Solution pairs) tells = tt
tells_line fs steps answer.Steps tells = tt
tells_line fs steps (answer.Beyond op y z) tells = tt
