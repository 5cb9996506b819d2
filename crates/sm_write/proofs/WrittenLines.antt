-- A line of a certificate as it is written stands for the line, and is read back.
use Rattle.sm_write.proofs.Imports.{◌≡◌, ℕ, ◌<◌, ◌≤◌, ◌^◌, true, Option, Some, slice_get, List, [], ◌∷◌, length, sym, ap, subst, ◌∙◌, arith, get_or_from_slice_get, tree_at, TermId, Tree, CertificateLine, facts_named, reads_all, is_split, line_in, CertLine, facts_with, reads_with, splits_with, with_twice, with_same, each_with, each_more, AreNumbers, numbers_of, Cert, are_there, named_line, IsReadable, AreShortNumbers, IsShortLine, Names, AreNames, number_or, number_at, file_number, IsNumbered, IsNamed, written, IsLineNamed, below_if_got}
use Rattle.sm_theory.specs.declared.line.CertLine.TheVariants as line
use Rattle.sm_proof.specs.Lines.{numbered_line}
use Rattle.sm_proof.proofs.NamedKept.{named_from}
use Rattle.sm_write.proofs.FactsThere.{AreStepsShort}
use Rattle.sm_write.proofs.SpellingLemmas.{short_cert, numbers_few}

-- the number of a term leads to it
pub number_leads : (trees : List Tree) (names : Names) (terms : List Tree) → AreNames trees names terms → (t : TermId) → IsNamed names t →
    slice_get terms (file_number names t) ≡ Some (tree_at trees t.0)
number_leads trees names terms are t h =
    ap (λ (o : Option TermId). slice_get terms (number_or o)) h.1 ∙ (are.right t.0 h.0 h.1).1

-- the number of a term in the file is short
pub number_short : (trees : List Tree) (names : Names) (terms : List Tree) → AreNames trees names terms → (t : TermId) → IsNamed names t →
    file_number names t < 2 ^ 63
number_short trees names terms are t h =
    let below = below_if_got terms (file_number names t) (tree_at trees t.0) (number_leads trees names terms are t h) in
    let few = are.few in
    omega (arith, below, few)

-- the written line stands for the line
pub written_names : (trees : List Tree) (names : Names) (terms : List Tree) → AreNames trees names terms → (count : ℕ) (l : CertLine) →
    IsLineNamed names l → are_there count (facts_named (line_in trees l)) ≡ true →
    named_line terms count (written names l) ≡ Some (line_in trees l)
written_names trees names terms are count l h e =
    let line = numbered_line l in
    let leads : (t : ℕ) → IsNumbered names t → slice_get terms (number_at names t) ≡ Some (tree_at trees t) =
    λ t is. number_leads trees names terms are (record { 0 = t }) is in
    named_from terms count (written names l)
    (each_with (λ (n : ℕ). n < length terms) (number_at names) line
    (each_more (IsNumbered names) (λ (t : ℕ). number_at names t < length terms) line
    (λ (t : ℕ) (is : IsNumbered names t). below_if_got terms (number_at names t) (tree_at trees t) (leads t is)) h))
    (ap (are_there count) (facts_with (number_at names) line ∙ sym (facts_with (tree_at trees) line)) ∙ e)
    ∙ ap (λ (x : CertificateLine). Some x)
    (with_twice (tree_at terms) (number_at names) line
    ∙ with_same (λ (t : ℕ). tree_at terms (number_at names t)) (tree_at trees) line
    (each_more (IsNumbered names) (λ (t : ℕ). tree_at terms (number_at names t) ≡ tree_at trees t) line
    (λ (t : ℕ) (is : IsNumbered names t). get_or_from_slice_get terms (number_at names t) (tree_at trees t) _ (leads t is)) h))

-- it splits where the line does
pub written_splits : (trees : List Tree) (names : Names) (l : CertLine) → is_split (written names l) ≡ is_split (line_in trees l)
written_splits trees names l = splits_with (number_at names) (numbered_line l) ∙ sym (splits_with (tree_at trees) (numbered_line l))

-- it is a line `exact` where the line is one
pub written_exact : (names : Names) (l : CertLine) → reads_all (written names l) ≡ reads_all (numbered_line l)
written_exact names l = reads_with (number_at names) (numbered_line l)

-- short numbers are numbers
short_numbers : (ns : List ℕ) → AreShortNumbers ns → AreNumbers ns
short_numbers [] are = tt
short_numbers (n ∷ ns) are = (omega (arith, are.0), short_numbers ns are.1)

-- the numbers of a line are short
numbers_short : (trees : List Tree) (names : Names) (terms : List Tree) → AreNames trees names terms → (l : CertLine) →
    IsLineNamed names l → AreShortNumbers (facts_named (line_in trees l)) → AreStepsShort (line_in trees l) →
    AreShortNumbers (numbers_of (written names l))
numbers_short trees names terms are (line.Both n) h s few = s
numbers_short trees names terms are (line.Either n) h s few = s
numbers_short trees names terms are (line.Cases t u) h s few =
    (number_short trees names terms are t h.0, (number_short trees names terms are u h.1, tt))
numbers_short trees names terms are (line.Order n) h s few = s
numbers_short trees names terms are (line.Refl t) h s few = (number_short trees names terms are t h, tt)
numbers_short trees names terms are (line.Sym n) h s few = s
numbers_short trees names terms are (line.Trans m n) h s few = s
numbers_short trees names terms are (line.Subst m n) h s few = s
numbers_short trees names terms are (line.Cong t u ns) h s few =
    (number_short trees names terms are t h.0, (number_short trees names terms are u h.1, s))
numbers_short trees names terms are (line.Same t u) h s few =
    (number_short trees names terms are t h.0, (number_short trees names terms are u h.1, tt))
numbers_short trees names terms are (line.Apart t u) h s few =
    (number_short trees names terms are t h.0, (number_short trees names terms are u h.1, tt))
numbers_short trees names terms are (line.Hit t n) h s few = (number_short trees names terms are t h, s)
numbers_short trees names terms are (line.Miss t u n) h s few =
    (number_short trees names terms are t h.0, (number_short trees names terms are u h.1, s))
numbers_short trees names terms are (line.Lin n) h s few = s
numbers_short trees names terms are (line.Elim m n t) h s few = (s.0, (s.1.0, (number_short trees names terms are t h, tt)))
numbers_short trees names terms are (line.Tight n) h s few = s
numbers_short trees names terms are (line.Exact n) h s few = (few, tt)
numbers_short trees names terms are (line.Close n) h s few = s
numbers_short trees names terms are (line.Clash m n) h s few = s

-- a line that is written is read back
pub written_readable : (trees : List Tree) (names : Names) (terms : List Tree) → AreNames trees names terms → (l : CertLine) →
    IsLineNamed names l → IsShortLine (line_in trees l) → AreStepsShort (line_in trees l) → IsReadable (Cert (written names l))
written_readable trees names terms are l h s few =
    let all = numbers_short trees names terms are l h s.1 few in
    let line = numbered_line l in
    let facts : facts_named (line_in trees l) ≡ facts_named (written names l) =
    facts_with (tree_at trees) line ∙ sym (facts_with (number_at names) line) in
    record {
      within = short_numbers (numbers_of (written names l)) all;
      version = tt;
      short = short_cert (written names l) all (numbers_few (written names l) (subst (λ (ns : List ℕ). length ns ≤ 200) facts s.0));
    }
