-- What jobs over copies of a table come to.
use Rattle.sm_deeper.proofs.Imports.{◌≡◌, ℕ, ◌+◌, ◌<◌, ◌≤◌, List, Ok, Err, length, take, get_or, sym, ap, ◌∙◌, subst, arith, Vec, IfOk, TableValue, trees_in, sorts_in, ExtendsTable, AreRowsSound, front_stays, JobEnd}
use Rattle.std.proofs.lemmas.List.{take_all, take_at}
use Rattle.std.specs.Prelude.{Result}
use Rattle.std.specs.declared.alloc.Global.{Global}
use Rattle.std.specs.declared.alloc.AllocError.{AllocError}
use Rattle.sm_syntax.specs.text.Sorts.{Sorts}
use Rattle.sm_par.specs.Results.{StandInOrder}
use Rattle.sm_term.specs.declared.tails.TermRows.{TermRows}
use Rattle.sm_term.specs.Terms.{Tree}

-- the new rows of a copy are sound behind the terms of the table
pub copy_sound : (v t w : TableValue) → sorts_in t ≡ sorts_in v → trees_in t ≡ trees_in v → ExtendsTable t w → (from : ℕ) →
    from ≡ length (trees_in t) → (rows : TermRows) → AreRowsSound (sorts_in w) (take from (trees_in w)) rows →
    AreRowsSound (sorts_in v) (trees_in v) rows
copy_sound v t w sorts trees wider from is rows sound =
    let front : take from (trees_in w) ≡ trees_in v = ap (take from) wider.trees.1 ∙ take_at (trees_in t) wider.trees.0 from (sym is) ∙ trees in
    subst (λ (s : Sorts). AreRowsSound s (trees_in v) rows) (wider.sorts ∙ sorts)
    (subst (λ (l : List Tree). AreRowsSound (sorts_in w) l rows) front sound)

-- rows behind all terms of a table are behind its first terms, as many as there are
pub all_first : (v : TableValue) (from : ℕ) → from ≡ length (trees_in v) → (rows : TermRows) →
    AreRowsSound (sorts_in v) (trees_in v) rows → AreRowsSound (sorts_in v) (take from (trees_in v)) rows
all_first v from is rows sound =
    let whole : take from (trees_in v) ≡ trees_in v = take_all from (trees_in v) (omega (arith, is)) in
    subst (λ (l : List Tree). AreRowsSound (sorts_in v) l rows) (sym whole) sound

-- the rows of each job stay sound while the table widens
pub job_sound : (v w : TableValue) → ExtendsTable v w → (from : ℕ) → from ≤ length (trees_in v) → (ends : List JobEnd) (i : ℕ) (e : JobEnd) →
    e ≡ get_or ends i e → AreRowsSound (sorts_in v) (take from (trees_in v)) (get_or ends i e).rows →
    AreRowsSound (sorts_in w) (take from (trees_in w)) e.rows
job_sound v w wider from within ends i e same sound =
    subst (λ (s : Sorts). AreRowsSound s (take from (trees_in w)) e.rows) (sym wider.sorts)
    (subst (λ (l : List Tree). AreRowsSound (sorts_in v) l e.rows) (sym (front_stays v w wider from within))
    (subst (λ (x : JobEnd). AreRowsSound (sorts_in v) (take from (trees_in v)) x.rows) (sym same) sound))

-- what holds of the result of each call holds of all results
pub all_hold : {T : Type 0} (P : ℕ → T → Type 0) (Q : T → Type 0) (count : ℕ) (r : Result (Vec T Global) AllocError) →
    ((i : ℕ) (t : T) → P i t → Q t) → IfOk r (λ v. StandInOrder P 0 count v.items) →
    IfOk r (λ v. (k : ℕ) (t : T) → k < length v.items → Q (get_or v.items k t))
all_hold P Q count (Err e) moves stand = tt
all_hold P Q count (Ok v) moves stand = λ k t h.
    moves (0 + k) (get_or v.items k t) (stand.each k t (subst (λ (n : ℕ). k < n) stand.all h))
