-- A line is used, by what its kind asks.
use Rattle.sm_used.proofs.Imports.{◌≡◌, ◌∙◌, ◌++◌, ℕ, Bool, true, false, List, [], ◌∷◌, map, append_assoc, refl, sym, ap, subst, Result, Ok, Err, append-nil, IsTrue, OnOk, is_closing, facts_added, is_split, NumberedLine, ProofLine, Cert, line_of, IsCertUsed, IsUsedBy, is_fact_named, is_one_named, lines_behind, AreUsed, IsLineUsed, line_in, GoesOnce, Know, Counted, Names}
use Rattle.std.proofs.Common.{IfOk}
use Rattle.sm_theory.specs.declared.line.CertLine.{CertLine}
use Rattle.sm_proof.specs.declared.line.Line.TheVariants as lines
use Rattle.sm_proof.specs.declared.line.Line.{Line}
use Rattle.sm_used.proofs.BranchLemmas.{none_known, split_open}

pub closing_used : (facts : ℕ) (l : NumberedLine) (lines : List ProofLine) → is_closing l ≡ true → IsCertUsed facts l lines
closing_used facts l lines closes = subst (λ (b : Bool). IsUsedBy b (is_split l) (facts_added l) facts lines) (sym closes) tt

pub split_used : (facts : ℕ) (l : NumberedLine) (lines : List ProofLine) → is_split l ≡ true →
    IsTrue (is_fact_named lines facts) × IsTrue (is_fact_named (lines_behind 1 lines) facts) → IsCertUsed facts l lines
split_used facts l lines splits named =
    subst (λ (b : Bool). IsUsedBy b (is_split l) (facts_added l) facts lines) (sym (split_open l splits))
    (subst (λ (b : Bool). IsUsedBy false b (facts_added l) facts lines) (sym splits) named)

pub plain_used : (facts k : ℕ) (l : NumberedLine) (lines : List ProofLine) → is_closing l ≡ false → is_split l ≡ false →
    facts_added l ≡ k → IsTrue (is_one_named lines k facts) → IsCertUsed facts l lines
plain_used facts k l lines opens one made named =
    subst (λ (b : Bool). IsUsedBy b (is_split l) (facts_added l) facts lines) (sym opens)
    (subst (λ (b : Bool). IsUsedBy false b (facts_added l) facts lines) (sym one)
    (subst (λ (m : ℕ). IsTrue (is_one_named lines m facts)) (sym made) named))

-- ---- from the last line to the first

-- the last rows are looked at: each of their lines is used, and the names are known of the branches
-- that they close
abbrev pub Looked : List Counted → List Counted → List Names → Type 0
Looked rows left branches =
    (done : List Counted) × (rows ≡ left ++ done) × AreUsed done × Know branches (map line_in done)

-- none yet
pub none_looked : (rows : List Counted) → Looked rows rows []
none_looked rows = ([], sym (append-nil rows), tt, none_known)

-- one more
pub one_looked : (rows old new : List Counted) (row : Counted) (before after : List Names) → old ≡ new ++ row ∷ [] →
    ((lines : List ProofLine) → Know before lines → Know after (line_in row ∷ lines) × IsLineUsed row.facts (line_in row) lines) →
    Looked rows old before → Looked rows new after
one_looked rows old new row before after e put looked =
    let lines = map line_in looked.0 in
    let here = put lines looked.3 in (
      row ∷ looked.0,
      looked.1 ∙ ap (λ (l : List Counted). l ++ looked.0) e ∙ append_assoc new (row ∷ []) looked.0,
      (here.1, looked.2),
      here.0,
    )

-- all of them
pub all_looked : (rows left : List Counted) (branches : List Names) → left ≡ [] → Looked rows left branches → AreUsed rows
all_looked rows left branches none looked =
    subst AreUsed (sym (looked.1 ∙ ap (λ (l : List Counted). l ++ looked.0) none)) looked.2

-- ---- what functions tell

-- what holds where there is an answer, and what is told of the answer
pub both_told : {T E : Type 0} (A : Type 0) {P Q : T → Type 0} (r : Result T E) → OnOk r A → IfOk r P → ((t : T) → P t → Q t) →
    IfOk r (λ (t : T). A × Q t)
both_told A (Ok t) a p f = (a, f t p)
both_told A (Err e) a p f = tt

-- behind a line that goes on once
pub known_behind : {T E : Type 0} (r : Result T E) (branches : List Names) (l : NumberedLine) (lines : List ProofLine) {line : ProofLine} →
    line ≡ Cert l → is_closing l ≡ false → is_split l ≡ false → (GoesOnce line → OnOk r (Know branches (line ∷ lines))) →
    OnOk r (Know branches (Cert l ∷ lines))
known_behind r branches l lines is opens one know =
    subst (λ (k : ProofLine). OnOk r (Know branches (k ∷ lines))) is (know (subst GoesOnce (sym is) (opens, one)))

-- lines that are none of a certificate
pub goes_once : (line : Line) → ((l : CertLine) → ¬ (line ≡ lines.Cert l)) → GoesOnce (line_of line)
goes_once (lines.Header version) none = tt
goes_once (lines.Term t) none = tt
goes_once (lines.Form f) none = tt
goes_once (lines.Node n) none = tt
goes_once (lines.Cert l) none = absurd (none l refl)

pub none_asked : (facts : ℕ) (line : Line) (behind : List ProofLine) → ((l : CertLine) → ¬ (line ≡ lines.Cert l)) →
    IsLineUsed facts (line_of line) behind
none_asked facts (lines.Header version) behind none = tt
none_asked facts (lines.Term t) behind none = tt
none_asked facts (lines.Form f) behind none = tt
none_asked facts (lines.Node n) behind none = tt
none_asked facts (lines.Cert l) behind none = absurd (none l refl)
