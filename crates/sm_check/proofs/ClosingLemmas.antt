-- Lines that close a branch alone close it where more is pending behind it.
use Rattle.sm_check.proofs.Imports.{◌≡◌, ℕ, suc, ◌+◌, Bool, true, false, Option, Some, None, Result, Ok, List, [], ◌∷◌, ◌++◌, length, map, refl, ap, ◌∙◌, subst, arith, append-nil, Copy, Sorts, SymbolicStore, Tree, BranchFact, CertificateLine, Ways, ways, is_shallow, ProofLine, NumberedLine, Cert, found_or, tested_or, and_then, named_line, line_head, Word, BadLine, BadNumber, Deep, First, Pending, Branch, Progress, branches_before, taken_at, Subject, Standing, Underway, reached, reached_after, next_standing, standing_after, splits_above, pending_after, LeadsTo, Closes}
use Rattle.sm_proof.specs.Passing.{Due}
use Rattle.sm_proof.proofs.ExactLines.{stands_there}
use Rattle.sm_check.proofs.CertTaken.{goes, cert_after_is}

-- a branch with these stores
abbrev pub restored : (Copy → SymbolicStore) → Pending → Pending
restored held (Due st above) = Due st above
restored held (Branch stores own splits) = Branch held own splits

-- what a line opens, over other stores and before more
opened_before : (stores held : Copy → SymbolicStore) (own : List BranchFact) (over : ℕ) (to : List (List BranchFact)) (rest more : List Pending) →
    branches_before held own over to (map (restored held) rest ++ more)
    ≡ map (restored held) (branches_before stores own over to rest) ++ more
opened_before stores held own over [] rest more = refl
opened_before stores held own over (w ∷ ws) rest more =
    ap (λ (l : List Pending). Branch held (own ++ w) over ∷ l) (opened_before stores held own over ws rest more)

-- a line looks at no stores, and at nothing that is pending behind its branch
pub pending_after-framed : (sorts : Sorts) (terms : List Tree) (stores held : Copy → SymbolicStore) (own : List BranchFact) (splits : ℕ)
    (rest more : List Pending) (l : NumberedLine) (after : List Pending) →
    pending_after sorts terms stores own splits rest l ≡ Ok after →
    pending_after sorts terms held own splits (map (restored held) rest ++ more) l ≡ Ok (map (restored held) after ++ more)
pending_after-framed sorts terms stores held own splits rest more l after = named (named_line terms (length own) l)
  where
    went : (w : Ways) (v : Word) (over : ℕ) →
        found_or w v (λ (to : List (List BranchFact)). Ok (branches_before stores own over to rest)) ≡ Ok after →
        found_or w v (λ (to : List (List BranchFact)). Ok (branches_before held own over to (map (restored held) rest ++ more)))
        ≡ Ok (map (restored held) after ++ more)
    went None v over e = absurd (cc)
    went (Some to) v over e =
        let is : branches_before stores own over to rest ≡ after = cc in
        ap Ok (opened_before stores held own over to rest more ∙ ap (λ (l : List Pending). map (restored held) l ++ more) is)

    tested : (b : Bool) (w : Ways) (v : Word) (over : ℕ) →
        tested_or b Deep (found_or w v (λ (to : List (List BranchFact)). Ok (branches_before stores own over to rest))) ≡ Ok after →
        tested_or b Deep
        (found_or w v (λ (to : List (List BranchFact)). Ok (branches_before held own over to (map (restored held) rest ++ more))))
        ≡ Ok (map (restored held) after ++ more)
    tested false w v over e = absurd (cc)
    tested true w v over e = went w v over e

    named : (o : Option CertificateLine) →
        found_or o BadNumber
        (λ (c : CertificateLine).
        tested_or (is_shallow (splits_above l splits)) Deep
        (found_or (ways sorts own c) (First (line_head l))
        (λ (to : List (List BranchFact)). Ok (branches_before stores own (splits_above l splits) to rest))))
        ≡ Ok after →
        found_or o BadNumber
        (λ (c : CertificateLine).
        tested_or (is_shallow (splits_above l splits)) Deep
        (found_or (ways sorts own c) (First (line_head l))
        (λ (to : List (List BranchFact)).
        Ok (branches_before held own (splits_above l splits) to (map (restored held) rest ++ more)))))
        ≡ Ok (map (restored held) after ++ more)
    named None e = absurd (cc)
    named (Some c) e = tested (is_shallow (splits_above l splits)) (ways sorts own c) (First (line_head l)) (splits_above l splits) e

-- lines close the same branches with other stores
pub closes_restored : (exact : Bool) (sorts : Sorts) (terms : List Tree) (held : Copy → SymbolicStore) (ps : List Pending)
    (lines : List (List ℕ)) → Closes exact sorts terms ps lines → Closes exact sorts terms (map (restored held) ps) lines
closes_restored exact sorts terms held ps [] closes = ap (map (restored held)) closes
closes_restored exact sorts terms held ps (line ∷ lines) closes =
    (map (restored held) closes.0, leads ps closes.0 closes.1, closes_restored exact sorts terms held closes.0 lines closes.2)
  where
    leads : (ps after : List Pending) → LeadsTo exact sorts terms ps line after →
        LeadsTo exact sorts terms (map (restored held) ps) line (map (restored held) after)
    leads [] after h = absurd h
    leads (Due st above ∷ rest) after h = absurd h
    leads (Branch stores own splits ∷ rest) after h = (
      h.0,
      h.1,
      subst (λ (l : List Pending). pending_after sorts terms held own splits l h.0 ≡ Ok (map (restored held) after))
          (append-nil (map (restored held) rest))
          (pending_after-framed sorts terms stores held own splits rest [] h.0 after h.2
          ∙ ap Ok (append-nil (map (restored held) after))),
    )

-- a line that leads on where its branch is pending first
step_taken : (s : Subject) (exact : Bool) (p : Progress) (held : Copy → SymbolicStore) (ps after rest : List Pending) (line : List ℕ) →
    p.pending ≡ map (restored held) ps ++ rest → LeadsTo exact s.sorts p.terms ps line after →
    standing_after s (Underway exact p) line ≡ Ok (Underway exact (record p { pending = map (restored held) after ++ rest }))
step_taken s exact p held [] after rest line is h = absurd h
step_taken s exact p held (Due st above ∷ ps) after rest line is h = absurd h
step_taken s exact p held (Branch stores own splits ∷ ps) after rest line is h =
    let next : Result Progress Word → Result Standing Word = λ x. and_then x (λ (q : Progress). Ok (Underway exact q)) in
    let framed = pending_after-framed s.sorts p.terms stores held own splits ps rest h.0 after h.2 in
    ap (λ (x : Result ProofLine Word). next_standing s (Underway exact p) x) h.1
    ∙ ap (λ (b : Bool). tested_or b BadLine (next (taken_at s.sorts p p.pending (Cert h.0)))) (stands_there exact line (Cert h.0) h.1).1
    ∙ ap (λ (l : List Pending). next (taken_at s.sorts p l (Cert h.0))) is
    ∙ ap next (cert_after_is s.sorts p held own splits (map (restored held) ps ++ rest) h.0)
    ∙ ap (λ (x : Result (List Pending) Word). next (and_then x (goes p))) framed

-- lines that close what is pending first
pub closes_along : (s : Subject) (n : ℕ) (exact : Bool) (p : Progress) (held : Copy → SymbolicStore) (ps rest : List Pending)
    (lines more : List (List ℕ)) → p.pending ≡ map (restored held) ps ++ rest → Closes exact s.sorts p.terms ps lines →
    reached s n (Underway exact p) (lines ++ more)
    ≡ reached s (n + length lines) (Underway exact (record p { pending = rest })) more
closes_along s n exact p held ps rest [] more is closes =
    let same : n ≡ n + 0 = omega arith in
    ap (λ (l : List Pending). reached s n (Underway exact (record p { pending = l })) more)
    (is ∙ ap (λ (l : List Pending). map (restored held) l ++ rest) closes)
    ∙ ap (λ (k : ℕ). reached s k (Underway exact (record p { pending = rest })) more) same
closes_along s n exact p held ps rest (line ∷ lines) more is closes =
    let q : Progress = record p { pending = map (restored held) closes.0 ++ rest } in
    let same : suc n + length lines ≡ n + suc (length lines) = omega arith in
    ap (λ (x : Result Standing Word). reached_after n x (λ (after : Standing). reached s (suc n) after (lines ++ more)))
    (step_taken s exact p held ps closes.0 rest line is closes.1)
    ∙ closes_along s (suc n) exact q held closes.0 rest lines more refl closes.2
    ∙ ap (λ (k : ℕ). reached s k (Underway exact (record p { pending = rest })) more) same
