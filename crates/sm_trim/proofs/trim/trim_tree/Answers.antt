use Rattle.sm_trim.proofs.Imports.{◌≡◌, ◌≤◌, Contains, Closes, lines_in, certificate_in, lines_of, AreLinesWithin, CertTree, IsUsed, terms_in, EachNamesFew}
use Rattle.sm_trim.proofs.TrimLemmas.{ok_so, closes_so, used_so, stays_so, terms_so, shorter_so, few_so, within_so}
use Rattle.sm_trim.proofs.trim.trim_tree.Goals as goal

pub returns : goal.returns
returns c =
    let r = c.trimmed.result in
    let at = c.args.start in
    let tree = c.args.tree.now in
    let made = c.trimmed.ensures in
    record {
      trimmed = made;
      closes = λ sorts trees facts count closes.
          ok_so r at tree (λ (t : CertTree). Closes sorts facts (certificate_in trees t)) made
          (λ t same. closes_so sorts trees facts at tree t count closes same);
      used = λ trees. ok_so r at tree (λ (t : CertTree). IsUsed at (certificate_in trees t)) made (λ t same. used_so trees at tree t same);
      stays = λ trees used.
          ok_so r at tree (λ (t : CertTree). certificate_in trees t ≡ certificate_in trees tree) made
          (λ t same. stays_so trees at tree t used same);
      terms = λ trees term.
          ok_so r at tree
          (λ (t : CertTree). Contains (terms_in (certificate_in trees t)) term → Contains (terms_in (certificate_in trees tree)) term) made
          (λ t same. terms_so trees term at tree t same);
      shorter = λ trees.
          ok_so r at tree (λ (t : CertTree). lines_in (certificate_in trees t) ≤ lines_in (certificate_in trees tree)) made
          (λ t same. shorter_so trees at tree t same);
      few = λ trees most bound few.
          ok_so r at tree (λ (t : CertTree). EachNamesFew most bound (certificate_in trees t)) made
          (λ t same. few_so trees most bound at tree t few same);
      within = λ count within.
          ok_so r at tree (λ (t : CertTree). AreLinesWithin count (lines_of t)) made (λ t same. within_so count at tree t within same);
    }
