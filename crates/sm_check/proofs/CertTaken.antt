-- How a proof on its way goes on with a line of a certificate.
use Rattle.sm_check.proofs.Imports.{◌≡◌, ℕ, suc, ◌+◌, ◌≤◌, ◌<◌, ◌⊎◌, ⊎_elim, min, Bool, true, false, if◌then◌else◌, Option, Some, None, Result, Ok, Err, List, [], ◌∷◌, length, reverse, refl, sym, ap, ◌∙◌, subst, arith, Copy, PerCopy, Sorts, Rc, SymbolicStore, SymStore, TableValue, trees_in, sorts_in, Tree, BranchFact, CertificateLine, Ways, ways, is_split, is_shallow, stores_in, NumberedLine, found_or, tested_or, and_then, named_line, line_head, Word, BadNumber, Deep, First, Pending, Progress, branches_before, after_line, splits_above, pending_after, WalksIn, RowsStand, Misses, AllPending, PendingStands, Tells, WalkValue, Walks, terms_in, is_few}
use Rattle.std.specs.declared.alloc.Global.{Global}
use Rattle.sm_proof.specs.Passing as plain
use Rattle.sm_check.specs.declared.pending.Due.TheVariants as due
use Rattle.sm_check.specs.FormRows.{FormRow}
use Rattle.sm_check.specs.Pending.{Due}
use Rattle.sm_check.specs.Tells.{LineFault, Wrong, Memory}
use Rattle.sm_check.proofs.NodesLemmas.{too_many, tells_word}

-- how many splits stand above, and whether they are too many
pub splits_told : (l : NumberedLine) (splits over : ℕ) →
    ((is_split l ≡ true) × (over ≡ min (splits + 1) 18446744073709551615)) ⊎ ((is_split l ≡ false) × (over ≡ splits)) →
    (over ≤ 1000 → (over ≡ splits_above l splits) × (is_shallow (splits_above l splits) ≡ true))
    × (1000 < over → is_shallow (splits_above l splits) ≡ false)
splits_told l splits over cases =
    ⊎_elim
    (λ (h : (is_split l ≡ true) × (over ≡ min (splits + 1) 18446744073709551615)).
    let e : splits_above l splits ≡ suc splits = ap (λ (b : Bool). if b then suc splits else splits) h.0 in
    let is = h.1 in (
      λ (few : over ≤ 1000).
          let same : over ≡ suc splits = omega arith in
          let low : suc splits ≤ 1000 = omega arith in
          (same ∙ sym e, ap is_shallow e ∙ is_few (suc splits) low),
      λ (many : 1000 < over). let high : 1000 < suc splits = omega arith in ap is_shallow e ∙ too_many (suc splits) high,
    ))
    (λ (h : (is_split l ≡ false) × (over ≡ splits)).
    let e : splits_above l splits ≡ splits = ap (λ (b : Bool). if b then suc splits else splits) h.0 in
    let is = h.1 in (
      λ (few : over ≤ 1000). let low : splits ≤ 1000 = omega arith in (is ∙ sym e, ap is_shallow e ∙ is_few splits low),
      λ (many : 1000 < over). let high : 1000 < splits = omega arith in ap is_shallow e ∙ too_many splits high,
    ))
    cases

-- a line that names what isn't there
pub misses_told : {S T : Type 0} (Q : S → T → Type 0) (e : LineFault) (o : Option CertificateLine) (next : CertificateLine → Result T Word) →
    Misses e o → Tells Q (Err e) (found_or o BadNumber next)
misses_told Q Memory o next h = tt
misses_told {S = S} {T = T} Q (Wrong w) o next h =
    subst (λ (v : Word). Tells Q (Err (Wrong v)) (found_or o BadNumber next)) (sym h.0)
    (tells_word Q BadNumber (found_or o BadNumber next) (ap (λ (x : Option CertificateLine). found_or x BadNumber next) h.1))

-- the line that was named
module _ (sorts : Sorts) (terms : List Tree) (held : Copy → SymbolicStore) (own : List BranchFact) (splits : ℕ) (rest : List Pending) (l : NumberedLine)
    (line : CertificateLine) (there : named_line terms (length own) l ≡ Some line) where
  abbrev next : ℕ → Result (List Pending) Word
  next over = found_or (ways sorts own line) (First (line_head l)) (λ (to : List (List BranchFact)). Ok (branches_before held own over to rest))

  named : pending_after sorts terms held own splits rest l ≡ tested_or (is_shallow (splits_above l splits)) Deep (next (splits_above l splits))
  named =
      ap
      (λ (o : Option CertificateLine).
      found_or o BadNumber
      (λ (c : CertificateLine).
      tested_or (is_shallow (splits_above l splits)) Deep
      (found_or (ways sorts own c) (First (line_head l))
      (λ (to : List (List BranchFact)). Ok (branches_before held own (splits_above l splits) to rest)))))
      there

  pub cert_deep : is_shallow (splits_above l splits) ≡ false → pending_after sorts terms held own splits rest l ≡ Err Deep
  cert_deep deep = named ∙ ap (λ (b : Bool). tested_or b Deep (next (splits_above l splits))) deep

  pub cert_tried : (over : ℕ) → over ≡ splits_above l splits → is_shallow (splits_above l splits) ≡ true →
      pending_after sorts terms held own splits rest l ≡ next over
  cert_tried over is fits = named ∙ ap (λ (b : Bool). tested_or b Deep (next (splits_above l splits))) fits ∙ ap next (sym is)

-- the proof after a line, by what is pending after it
abbrev pub goes : Progress → List Pending → Result Progress Word
goes p ps = Ok (record p { pending = ps })

pub cert_after_is : (sorts : Sorts) (p : Progress) (held : Copy → SymbolicStore) (own : List BranchFact) (splits : ℕ) (rest : List Pending)
    (l : NumberedLine) →
    found_or (named_line p.terms (length own) l) BadNumber (after_line sorts p held own splits rest l)
    ≡ and_then (pending_after sorts p.terms held own splits rest l) (goes p)
cert_after_is sorts p held own splits rest l = go (named_line p.terms (length own) l)
  where
    steps : (b : Bool) (w : Ways) (v : Word) (over : ℕ) →
        tested_or b Deep (found_or w v (λ (to : List (List BranchFact)). Ok (record p { pending = branches_before held own over to rest })))
        ≡ and_then (tested_or b Deep (found_or w v (λ (to : List (List BranchFact)). Ok (branches_before held own over to rest)))) (goes p)
    steps false w v over = refl
    steps true None v over = refl
    steps true (Some to) v over = refl

    go : (o : Option CertificateLine) →
        found_or o BadNumber (after_line sorts p held own splits rest l)
        ≡ and_then
        (found_or o BadNumber
        (λ (c : CertificateLine).
        tested_or (is_shallow (splits_above l splits)) Deep
        (found_or (ways sorts own c) (First (line_head l))
        (λ (to : List (List BranchFact)). Ok (branches_before held own (splits_above l splits) to rest)))))
        (goes p)
    go None = refl
    go (Some c) = steps (is_shallow (splits_above l splits)) (ways sorts own c) (First (line_head l)) (splits_above l splits)

-- what was made goes on
pub tells_then : {S T U V : Type 0} (P : S → T → Type 0) (Q : U → V → Type 0) (s : S) (u : U) (r : Result T Word) (next : T → V) →
    ((t : T) → P s t → Q u (next t)) → Tells P (Ok s) r → Tells Q (Ok u) (and_then r (λ (t : T). Ok (next t)))
tells_then P Q s u (Ok t) next goes h = goes t h
tells_then P Q s u (Err w) next goes h = h

-- the branch that is due is what is pending first
module _ (w : WalkValue) (p : Progress) (walks : Walks w p) where
  abbrev AtBranch : Option Due → PerCopy SymStore → ℕ → Type 0
  AtBranch d stores splits =
      (own : List BranchFact) × (rest : List Pending)
      × (p.pending ≡ plain.Branch (stores_in (trees_in w.table) stores) own splits ∷ rest)
      × WalksIn (record w { due = d }) p own rest

  pub at_branch : (d : Option Due) (stores : Rc (PerCopy SymStore) Global) (splits : ℕ) → w.due ≡ Some (due.Branch stores splits) →
      AtBranch d stores.value splits
  at_branch d stores splits is =
      go p.pending refl
      (subst (λ (o : Option Due). AllPending (sorts_in w.table) (trees_in w.table) walks.pending.facts o (reverse w.waiting) p.pending) is walks.pending.all)
    where
      go : (ps : List Pending) → p.pending ≡ ps →
          AllPending (sorts_in w.table) (trees_in w.table) walks.pending.facts (Some (due.Branch stores splits)) (reverse w.waiting) ps →
          AtBranch d stores.value splits
      go [] e h = absurd h
      go (plain.Due st over ∷ rest) e h = absurd h.0
      go (plain.Branch held own over ∷ rest) e h = (
        walks.pending.facts,
        rest,
        e ∙ ap (λ (s : Copy → SymbolicStore). plain.Branch s own over ∷ rest) (sym h.0.1)
            ∙ ap (λ (ks : List BranchFact). plain.Branch (stores_in (trees_in w.table) stores.value) ks over ∷ rest) h.0.0
            ∙ ap (λ (n : ℕ). plain.Branch (stores_in (trees_in w.table) stores.value) walks.pending.facts n ∷ rest) (sym h.0.2),
        record {
          nodes = walks.nodes;
          terms = walks.terms;
          forms = walks.forms;
          stand = walks.pending.stand;
          sorted = walks.pending.sorted;
          later = h.1;
        },
      )

-- what was pending behind the branch, after the line
pub walks_on : (w x : WalkValue) (p : Progress) (own : List BranchFact) (rest ps : List Pending) → WalksIn w p own rest →
    x.table ≡ w.table → x.nodes ≡ w.nodes → x.terms ≡ w.terms → x.forms ≡ w.forms →
    PendingStands (sorts_in w.table) (trees_in w.table) x.path x.due x.waiting ps → Walks x (record p { pending = ps })
walks_on w x p own rest ps at table nodes terms forms stands = record {
  nodes = nodes ∙ at.nodes;
  terms = ap (λ (t : TableValue). terms_in (trees_in t) x.terms) table ∙ ap (terms_in (trees_in w.table)) terms ∙ at.terms;
  forms =
      subst (λ (t : TableValue). RowsStand (sorts_in t) (trees_in t) x.forms p.forms) (sym table)
      (subst (λ (rows : List FormRow). RowsStand (sorts_in w.table) (trees_in w.table) rows p.forms) (sym forms) at.forms);
  pending = subst (λ (t : TableValue). PendingStands (sorts_in t) (trees_in t) x.path x.due x.waiting ps) (sym table) stands;
}
