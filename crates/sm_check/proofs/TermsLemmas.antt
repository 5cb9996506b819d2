-- Terms that lines make.
use Rattle.sm_check.proofs.Imports.{◌≡◌, ℕ, Option, Some, None, Result, Ok, Err, get_or, List, [], ◌∷◌, zero, suc, length, ◌<◌, ◌≤◌, arith, refl, sym, ap, ◌∙◌, Tree, Start, tree_at, TermId, store_in, tree_or_start, IsStoreWithin, SymStore, part_before, Word, BadNumber, with_tree, terms_in, IsTerm}
use Rattle.std.proofs.Common.{slice_get}
use Rattle.sm_check.proofs.FormRowsLemmas.{named_there, named_missing, found_there, found_missing}
use Rattle.sm_euf.proofs.ArgumentsLemmas.{there}

-- a term that a line made
pub with_there : (trees : List Tree) (terms : List TermId) (n : ℕ) (t : TermId) (next : Tree → Result Tree Word) → slice_get terms n ≡ Some t →
    with_tree (terms_in trees terms) n next ≡ next (tree_at trees t.0)
with_there trees terms n t next e = found_there (slice_get (terms_in trees terms) n) BadNumber next (tree_at trees t.0) (named_there trees terms n t e)

pub with_missing : (trees : List Tree) (terms : List TermId) (n : ℕ) (next : Tree → Result Tree Word) → slice_get terms n ≡ None →
    with_tree (terms_in trees terms) n next ≡ Err BadNumber
with_missing trees terms n next e = found_missing (slice_get (terms_in trees terms) n) BadNumber next (named_missing trees terms n e)

-- an element that is there
got : (ts : List TermId) (n : ℕ) (t : TermId) → n < length ts → ((d : TermId) → t ≡ get_or ts n d) → slice_get ts n ≡ Some t
got [] n t h e = absurd (omega arith)
got (u ∷ us) zero t h e = ap (λ (v : TermId). Some v) (sym (e t))
got (u ∷ us) (suc n) t h e = let less : n < length us = omega arith in got us n t less e

-- an element past the end isn't there
pub not_got : (ts : List TermId) (n : ℕ) → length ts ≤ n → slice_get ts n ≡ None
not_got [] n h = refl
not_got (u ∷ us) zero h = absurd (omega arith)
not_got (u ∷ us) (suc n) h = let less : length us ≤ n = omega arith in not_got us n less

module _ (s : SymStore) (x : ℕ) where
  pub listed_before : (n : ℕ) (t : TermId) (list : List TermId) → list ≡ s.list.items → IsStoreWithin n s →
      x < length list → ((d : TermId) → t ≡ get_or list x d) → t.0 < n
  listed_before n t list is within less e =
      part_before n s.list.items x t within (ap (λ (l : List TermId). slice_get l x) (sym is) ∙ got list x t less e)

  pub listed_term : (trees : List Tree) (t : TermId) (list : List TermId) → list ≡ s.list.items → IsStoreWithin (length trees) s →
      x < length list → ((d : TermId) → t ≡ get_or list x d) → IsTerm trees t (store_in trees s x)
  listed_term trees t list is within less e =
      let at : slice_get s.list.items x ≡ Some t = ap (λ (l : List TermId). slice_get l x) (sym is) ∙ got list x t less e in
      there trees t.0 (part_before (length trees) s.list.items x t within at)
      ∙ ap (λ (o : Option TermId). Some (tree_or_start trees x o)) (sym at)

  pub unlisted_term : (trees : List Tree) (list : List TermId) → list ≡ s.list.items → length list ≤ x →
      ◌≡◌ {A = Result Tree Word} (Ok (store_in trees s x)) (Ok (Start x))
  unlisted_term trees list is less =
      ap (λ (o : Option TermId). Ok (tree_or_start trees x o)) (ap (λ (l : List TermId). slice_get l x) (sym is) ∙ not_got list x less)
