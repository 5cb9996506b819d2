-- The one kind that a word may name, and the one that it names.
use Rattle.sm_proof.proofs.Imports.{◌≡◌, ◌≢◌, ℕ, Option, Some, None, List, refl, sym, ap, ◌∙◌, FormKind, TermKind, head_word, term_word, form_word}
use Rattle.sm_proof.specs.declared.kind.FormKind.TheVariants as form
use Rattle.sm_proof.specs.declared.kind.TermKind.TheVariants as term
use Rattle.sm_proof.specs.declared.word.Head.{Head}
use Rattle.sm_proof.specs.declared.word.Head.TheVariants as head
use Rattle.sm_proof.specs.Likely.{likely_head, head_of_one, head_of_three, head_of_four, head_of_five, head_of_c, likely_term, term_of_three, term_of_four, likely_form, form_of_two}

-- a search that goes by the one likely kind finds what is there
module _ {K : Type 0} (word_of : K → List ℕ) (found likely : List ℕ → Option K)
    (found_is : (word : List ℕ) (k : K) → found word ≡ Some k → word_of k ≡ word)
    (is_found : (k : K) → found (word_of k) ≡ Some k)
    (is_likely : (k : K) → likely (word_of k) ≡ Some k) where
  pub none_likely : (word : List ℕ) → None ≡ likely word → None ≡ found word
  none_likely word none = by (found word) refl
    where
      by : (o : Option K) → found word ≡ o → None ≡ o
      by None e = refl
      by (Some k) e = let same : likely word ≡ Some k = ap likely (sym (found_is word k e)) ∙ is_likely k in cc

  pub likely_is : (word : List ℕ) (k : K) → word_of k ≡ word → Some k ≡ found word
  likely_is word k same = sym (is_found k) ∙ ap found same

  pub other_likely : (word : List ℕ) (k : K) → Some k ≡ likely word → word_of k ≢ word → None ≡ found word
  other_likely word k is other = by (found word) refl
    where
      by : (o : Option K) → found word ≡ o → None ≡ o
      by None e = refl
      by (Some j) e =
          let text = found_is word j e in
          let same : likely word ≡ Some j = ap likely (sym text) ∙ is_likely j in
          let k_is_j : k ≡ j = cc in
          absurd (other (ap word_of k_is_j ∙ text))

pub head_likely : (h : Head) → likely_head (head_word h) ≡ Some h
unfolding likely_head head_of_one head_of_three head_of_four head_of_five head_of_c
head_likely head.T = refl
head_likely head.P = refl
head_likely head.Step = refl
head_likely head.Abs = refl
head_likely head.Fork = refl
head_likely head.Loop = refl
head_likely head.Block = refl
head_likely head.Dead = refl
head_likely head.End = refl
head_likely head.Both = refl
head_likely head.Either = refl
head_likely head.Cases = refl
head_likely head.Order = refl
head_likely head.Refl = refl
head_likely head.Sym = refl
head_likely head.Trans = refl
head_likely head.Subst = refl
head_likely head.Cong = refl
head_likely head.Same = refl
head_likely head.Apart = refl
head_likely head.Hit = refl
head_likely head.Miss = refl
head_likely head.Lin = refl
head_likely head.Elim = refl
head_likely head.Tight = refl
head_likely head.Exact = refl
head_likely head.Close = refl
head_likely head.Clash = refl

pub term_likely : (k : TermKind) → likely_term (term_word k) ≡ Some k
unfolding likely_term term_of_three term_of_four
term_likely term.Lit = refl
term_likely term.Start = refl
term_likely term.Cell = refl
term_likely term.Slot = refl
term_likely term.Cur = refl
term_likely term.Of = refl
term_likely term.Arg = refl
term_likely term.Read = refl
term_likely term.Write = refl
term_likely term.Neg = refl
term_likely term.Add = refl
term_likely term.Sub = refl
term_likely term.Mul = refl

pub form_likely : (k : FormKind) → likely_form (form_word k) ≡ Some k
unfolding likely_form form_of_two
form_likely form.Yes = refl
form_likely form.No = refl
form_likely form.Eq = refl
form_likely form.Ne = refl
form_likely form.Le = refl
form_likely form.Lt = refl
form_likely form.And = refl
form_likely form.Or = refl
