-- The lines of steps add their facts one after the other.
use Rattle.sm_cc.proofs.Imports.{◌≡◌, ℕ, ◌<◌, ◌+◌, List, [], ◌∷◌, ◌++◌, map, length, slice_get, Option, Some, refl, sym, ap, ◌∙◌, subst, arith, ◌⊎◌, ⊎_elim, append-nil, map-append, slice_get-map, Sorts, Tree, IsSorted, BranchFact, CertificateLine, followed, adds, Step, Placed, IsGiven, IsStated, StepsFollow, step_says, RowsStand, added_by, line_of, known_fact, IsOfTerms, slice_get-longer, get_below, get_in_second, together, get_pushed, one_thing}
use Rattle.std.specs.Option.{option_map}
use Rattle.sm_cc.specs.Log.{Known}
use Rattle.sm_cc.proofs.ExplainingLemmas.{rule_adds}

-- the first behind a list
pub first_behind : {A : Type 0} (xs : List A) (y : A) (ys : List A) → slice_get (xs ++ y ∷ ys) (length xs) ≡ Some y
first_behind [] y ys = refl
first_behind (x ∷ xs) y ys = first_behind xs y ys

module _ (sorts : Sorts) (terms : List Tree) (p : Placed) (stand : RowsStand sorts terms p.board.rows)
    (sorted : (i : ℕ) (t : Tree) → slice_get terms i ≡ Some t → IsSorted sorts t)
    (facts : List BranchFact) (start : ℕ) (long : length facts ≡ start)
    (given_told : (n : ℕ) (k : Known) → IsGiven p n k → (slice_get facts n ≡ Some (known_fact sorts terms k)) × IsOfTerms sorts terms k)
    (steps : List Step) (follow : StepsFollow p start steps) where
  -- the fact of a step
  abbrev fact : Step → BranchFact
  fact s = known_fact sorts terms s.known

  -- its line
  abbrev line : Step → CertificateLine
  line s = line_of terms s.rule s.known

  -- what has a number stands under it
  stated_told : (done rest : List Step) → steps ≡ done ++ rest →
      ((k : ℕ) (s : Step) → slice_get done k ≡ Some s → IsOfTerms sorts terms s.known) →
      (n : ℕ) (k : Known) → IsStated p start steps (length done) n k →
      (slice_get (facts ++ map fact done) n ≡ Some (known_fact sorts terms k)) × IsOfTerms sorts terms k
  stated_told done rest eq fine n k stated =
      ⊎_elim
      (λ (g : IsGiven p n k).
      let told = given_told n k g in
      (slice_get-longer facts (facts ++ map fact done) (map fact done, refl) n (known_fact sorts terms k) told.0, told.1))
      (λ (x : (j : ℕ) × (n ≡ start + j) × (j < length done) × (step_says steps j ≡ Some k)).
      let j = x.0 in
      let found = get_below done j x.2 in
      let there = slice_get-longer done steps (rest, eq) j found.0 found.1 in
      let known = one_thing found.0.known k (sym (ap (option_map (λ (s : Step). s.known)) there) ∙ x.3) in
      let number : n ≡ length facts + j = omega (arith, long, x.1) in (
        ap (slice_get (facts ++ map fact done)) number
            ∙ get_in_second facts (map fact done) j
            ∙ slice_get-map fact done j
            ∙ ap (option_map fact) found.1
            ∙ ap (λ (k : Known). Some (known_fact sorts terms k)) known,
        subst (IsOfTerms sorts terms) known (fine j found.0 found.1),
      ))
      stated

  -- the lines that are left add their facts
  left_add : (rest done : List Step) → steps ≡ done ++ rest →
      ((k : ℕ) (s : Step) → slice_get done k ≡ Some s → IsOfTerms sorts terms s.known) →
      added_by sorts (facts ++ map fact done) (map line rest) ≡ Some (map fact rest)
  left_add [] done eq fine = refl
  left_add (s ∷ rest) done eq fine =
      let branch = facts ++ map fact done in
      let here = ap (λ (l : List Step). slice_get l (length done)) eq ∙ first_behind done s rest in
      let one = rule_adds sorts terms p.board.rows stand sorted branch (IsStated p start steps (length done))
      (stated_told done (s ∷ rest) eq fine) s.rule s.known (follow (length done) s here) in
      let more : (k : ℕ) (x : Step) → slice_get (done ++ s ∷ []) k ≡ Some x → IsOfTerms sorts terms x.known =
      λ (k : ℕ) (x : Step) (e : slice_get (done ++ s ∷ []) k ≡ Some x).
      ⊎_elim (λ (h : slice_get done k ≡ Some x). fine k x h)
      (λ (h : (k ≡ length done) × (s ≡ x)). subst (λ (y : Step). IsOfTerms sorts terms y.known) h.1 one.1)
      (get_pushed done s x k e) in
      let next = left_add rest (done ++ s ∷ []) (eq ∙ sym (together done (s ∷ []) rest)) more in
      let grown : branch ++ fact s ∷ [] ≡ facts ++ map fact (done ++ s ∷ []) =
      together facts (map fact done) (fact s ∷ []) ∙ ap (λ (l : List BranchFact). facts ++ l) (sym (map-append fact done (s ∷ []))) in
      ap (λ (o : Option BranchFact). followed o (λ (k : BranchFact).
      followed (added_by sorts (branch ++ k ∷ []) (map line rest)) (λ (ks : List BranchFact). Some (k ∷ ks)))) one.0
      ∙ ap (λ (b : List BranchFact). followed (added_by sorts b (map line rest)) (λ (ks : List BranchFact). Some (fact s ∷ ks))) grown
      ∙ ap (λ (o : Option (List BranchFact)). followed o (λ (ks : List BranchFact). Some (fact s ∷ ks))) next

  -- all lines add their facts
  pub lines_add : added_by sorts facts (map line steps) ≡ Some (map fact steps)
  lines_add =
      ap (λ (b : List BranchFact). added_by sorts b (map line steps)) (sym (append-nil facts))
      ∙ left_add steps [] refl (λ k s e. absurd cc)
