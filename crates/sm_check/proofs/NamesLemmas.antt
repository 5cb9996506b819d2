-- What lines of certificates name.
use Rattle.sm_check.proofs.Imports.{◌≡◌, ℕ, ◌<◌, true, false, Bool, ◌&&◌, if◌then◌else◌, Option, Some, None, get_or, List, length, refl, sym, ap, ◌∙◌, subst, and_from, and_left, and_right, length-map, slice_get-get_or, get_or_from_slice_get, AreBefore, tree_at, TermId, Tree, part_before, CertificateLine, facts_named, terms_named, with_terms, EachNamed, line_in, IsLineWithin, number_under, CertLine, NumberedLine, numbered_line, are_there, named_line, terms_in}
use Rattle.sm_theory.proofs.LinesOver.{with_twice, with_same, each_with, each_more}
use Rattle.sm_proof.proofs.NamedKept.{there_below}
use Rattle.sm_check.proofs.FormRowsLemmas.{named_there}

module _ (trees : List Tree) (terms : List TermId) (count : ℕ) (l : NumberedLine) where
  abbrev made : List Tree
  made = terms_in trees terms

  abbrev line : CertificateLine
  line = with_terms (tree_at made) l

  -- the tests that are made, by how many trees there are
  there : are_there (length made) (terms_named l) ≡ are_there (length terms) (terms_named l)
  there = ap (λ (n : ℕ). are_there n (terms_named l)) (length-map terms (λ (t : TermId). tree_at trees t.0))

  told : (b : Bool) → (are_there (length made) (terms_named l) && are_there count (facts_named l)) ≡ b →
      named_line made count l ≡ (if b then Some line else None)
  told b e = ap (λ (t : Bool). if t then Some line else None) e

  -- the term that a line made stands at its place
  tree_there : (n : ℕ) → n < length terms → tree_at made n ≡ tree_at trees (number_under terms n)
  tree_there n h =
      get_or_from_slice_get made n (tree_at trees (number_under terms n)) _
      (named_there trees terms n (get_or terms n (record { 0 = n })) (slice_get-get_or terms n (record { 0 = n }) h))

  -- a line of which a term isn't there has none
  pub line_without_term : are_there (length terms) (terms_named l) ≡ false → named_line made count l ≡ None
  line_without_term h = told false (and_left (are_there (length made) (terms_named l)) (are_there count (facts_named l)) (there ∙ h))

  -- nor has one of which a fact isn't there
  pub line_without_fact : are_there count (facts_named l) ≡ false → named_line made count l ≡ None
  line_without_fact h = told false (and_right (are_there (length made) (terms_named l)) (are_there count (facts_named l)) h)

  -- one whose terms and facts are there stands for that with the numbers of its terms
  pub line_made : (new : CertLine) → are_there (length terms) (terms_named l) ≡ true → are_there count (facts_named l) ≡ true →
      numbered_line new ≡ with_terms (number_under terms) l → named_line made count l ≡ Some (line_in trees new)
  line_made new h f is =
      told true (and_from (are_there (length made) (terms_named l)) (are_there count (facts_named l)) (there ∙ h) f)
      ∙ ap (λ (x : CertificateLine). Some x)
      (with_same (tree_at made) (λ (n : ℕ). tree_at trees (number_under terms n)) l
      (each_more (λ (n : ℕ). n < length terms) (λ (n : ℕ). tree_at made n ≡ tree_at trees (number_under terms n)) l tree_there
      (there_below (length terms) (terms_named l) h))
      ∙ sym (with_twice (tree_at trees) (number_under terms) l) ∙ ap (with_terms (tree_at trees)) (sym is))

-- a line that is made of one whose terms are there names terms of the table
pub line_within : (count : ℕ) (terms : List TermId) → AreBefore count terms → (l : NumberedLine) (new : CertLine) →
    are_there (length terms) (terms_named l) ≡ true → numbered_line new ≡ with_terms (number_under terms) l → IsLineWithin count new
line_within count terms all l new h is =
    subst (EachNamed (λ (n : ℕ). n < count)) (sym is)
    (each_with (λ (n : ℕ). n < count) (number_under terms) l
    (each_more (λ (n : ℕ). n < length terms) (λ (n : ℕ). number_under terms n < count) l
    (λ (n : ℕ) (below : n < length terms). part_before count terms n (get_or terms n (record { 0 = n })) all
    (slice_get-get_or terms n (record { 0 = n }) below))
    (there_below (length terms) (terms_named l) h)))
