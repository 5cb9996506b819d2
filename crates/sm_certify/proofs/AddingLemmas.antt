-- Lines that each add a fact, one after the other, and what is bad of a certificate under them.
use Rattle.sm_certify.proofs.Imports.{◌≡◌, ℕ, suc, ◌+◌, List, [], ◌∷◌, ◌++◌, map, length, sym, ap, ◌∙◌, arith, Option, Some, append-nil, Sorts, Tree, BranchFact, CertificateLine, Both, Either, Cases, Order, Refl, Sym, Trans, followed, Subst, Cong, Apart, Hit, Miss, Lin, Elim, Tight, Exact, Close, Clash, adds, Ways, ways_with, goes_on_with, adding, line_in, CertLine, added_by, Certificate, first_bad, in_one_way, lines_before, followed_from, one_thing, together}
use Rattle.sm_theory.specs.Lines.{Same}

module _ (sorts : Sorts) where
  -- a line that adds a fact goes on in one way
  way_of : (facts : List BranchFact) (line : CertificateLine) (k : BranchFact) → adds sorts facts line ≡ Some k →
      ways_with sorts facts (adds sorts facts line) line ≡ goes_on_with (k ∷ [])
  way_of facts (Both n) k e = absurd cc
  way_of facts (Either n) k e = absurd cc
  way_of facts (Cases t u) k e = absurd cc
  way_of facts (Order n) k e = absurd cc
  way_of facts (Close n) k e = absurd cc
  way_of facts (Clash m n) k e = absurd cc
  way_of facts (Refl t) k e = ap adding e
  way_of facts (Sym n) k e = ap adding e
  way_of facts (Trans m n) k e = ap adding e
  way_of facts (Subst m n) k e = ap adding e
  way_of facts (Cong t u ns) k e = ap adding e
  way_of facts (Same t u) k e = ap adding e
  way_of facts (Apart t u) k e = ap adding e
  way_of facts (Hit t n) k e = ap adding e
  way_of facts (Miss t u n) k e = ap adding e
  way_of facts (Lin n) k e = ap adding e
  way_of facts (Elim m n t) k e = ap adding e
  way_of facts (Tight n) k e = ap adding e
  way_of facts (Exact n) k e = ap adding e

  -- what the first line of some adds, and what the others add then
  pub added_first : (facts : List BranchFact) (line : CertificateLine) (lines : List CertificateLine) (more : List BranchFact) →
      added_by sorts facts (line ∷ lines) ≡ Some more →
      (k : BranchFact) × (ks : List BranchFact) × (adds sorts facts line ≡ Some k)
      × (added_by sorts (facts ++ k ∷ []) lines ≡ Some ks) × (more ≡ k ∷ ks)
  added_first facts line lines more e =
      let one = followed_from (adds sorts facts line) _ more e in
      let rest = followed_from (added_by sorts (facts ++ one.0 ∷ []) lines) _ more one.2 in
      (one.0, rest.0, one.1, rest.1, one_thing more (one.0 ∷ rest.0) (sym rest.2))

  -- what a line and others add
  pub added_then : (facts : List BranchFact) (line : CertificateLine) (lines : List CertificateLine) (k : BranchFact)
      (ks : List BranchFact) → adds sorts facts line ≡ Some k → added_by sorts (facts ++ k ∷ []) lines ≡ Some ks →
      added_by sorts facts (line ∷ lines) ≡ Some (k ∷ ks)
  added_then facts line lines k ks one rest =
      ap (λ (o : Option BranchFact). followed o (λ (k : BranchFact).
      followed (added_by sorts (facts ++ k ∷ []) lines) (λ (ks : List BranchFact). Some (k ∷ ks)))) one
      ∙ ap (λ (o : Option (List BranchFact)). followed o (λ (ks : List BranchFact). Some (k ∷ ks))) rest

  -- each line adds one fact
  pub added_count : (facts : List BranchFact) (lines : List CertificateLine) (more : List BranchFact) →
      added_by sorts facts lines ≡ Some more → length more ≡ length lines
  added_count facts [] more e = ap (λ (l : List BranchFact). length l) (sym (one_thing [] more e))
  added_count facts (line ∷ lines) more e =
      let first = added_first facts line lines more e in
      ap (λ (l : List BranchFact). length l) first.4
      ∙ ap (λ (n : ℕ). suc n) (added_count (facts ++ first.0 ∷ []) lines first.1 first.3)

  -- lines and others behind them
  pub added_both : (facts : List BranchFact) (lines others : List CertificateLine) (more next : List BranchFact) →
      added_by sorts facts lines ≡ Some more → added_by sorts (facts ++ more) others ≡ Some next →
      added_by sorts facts (lines ++ others) ≡ Some (more ++ next)
  added_both facts [] others more next e f =
      let none = one_thing [] more e in
      ap (λ (l : List BranchFact). added_by sorts l others) (sym (append-nil facts) ∙ ap (λ (l : List BranchFact). facts ++ l) none)
      ∙ f ∙ ap (λ (l : List BranchFact). Some (l ++ next)) none
  added_both facts (line ∷ lines) others more next e f =
      let first = added_first facts line lines more e in
      let k = first.0 in
      let ks = first.1 in
      let here : (facts ++ k ∷ []) ++ ks ≡ facts ++ more =
      together facts (k ∷ []) ks ∙ ap (λ (l : List BranchFact). facts ++ l) (sym first.4) in
      let rest = added_both (facts ++ k ∷ []) lines others ks next first.3
      (ap (λ (l : List BranchFact). added_by sorts l others) here ∙ f) in
      added_then facts line (lines ++ others) k (ks ++ next) first.2 rest
      ∙ ap (λ (l : List BranchFact). Some (l ++ next)) (sym first.4)

  -- under lines that add facts a certificate is as bad as on all the facts
  pub bad_under : (trees : List Tree) (facts : List BranchFact) (lines : List CertLine) (more : List BranchFact) (n : ℕ)
      (c : Certificate) → added_by sorts facts (map (line_in trees) lines) ≡ Some more →
      first_bad (adds sorts) sorts facts n (lines_before trees lines c)
      ≡ first_bad (adds sorts) sorts (facts ++ more) (n + length lines) c
  bad_under trees facts [] more n c e =
      let same : facts ≡ facts ++ more = sym (append-nil facts) ∙ ap (λ (l : List BranchFact). facts ++ l) (one_thing [] more e) in
      let at : n ≡ n + 0 = omega arith in
      ap (λ (l : List BranchFact). first_bad (adds sorts) sorts l n c) same
      ∙ ap (λ (m : ℕ). first_bad (adds sorts) sorts (facts ++ more) m c) at
  bad_under trees facts (line ∷ lines) more n c e =
      let first = added_first facts (line_in trees line) (map (line_in trees) lines) more e in
      let k = first.0 in
      let ks = first.1 in
      let here : (facts ++ k ∷ []) ++ ks ≡ facts ++ more =
      together facts (k ∷ []) ks ∙ ap (λ (l : List BranchFact). facts ++ l) (sym first.4) in
      let at : suc n + length lines ≡ n + suc (length lines) = omega arith in
      ap (λ (w : Ways). in_one_way w n (λ (way : List BranchFact).
      first_bad (adds sorts) sorts (facts ++ way) (suc n) (lines_before trees lines c)))
      (way_of facts (line_in trees line) k first.2)
      ∙ bad_under trees (facts ++ k ∷ []) lines ks (suc n) c first.3
      ∙ ap (λ (l : List BranchFact). first_bad (adds sorts) sorts l (suc n + length lines) c) here
      ∙ ap (λ (m : ℕ). first_bad (adds sorts) sorts (facts ++ more) m c) at
