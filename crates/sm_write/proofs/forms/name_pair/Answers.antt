-- The first term keeps its number while the second gets one.
use Rattle.sm_write.proofs.Imports.{◌≡◌, ℕ, Some, slice_get, sym, subst, arith, trees_in, tree_at, value_of, IsNamed}
use Rattle.sm_write.proofs.WalkedLemmas.{kept_twice, set_later}
use Rattle.sm_write.proofs.WriterSteps.{adds_twice}
use Rattle.sm_write.proofs.WrittenLines.{number_leads, number_short}
use Rattle.sm_write.proofs.forms.name_pair.Goals as goal

pub returns : goal.returns
returns c s seen p set first second =
    let v = c.args.table.now in
    let trees = trees_in v in
    let t = c.args.t in
    let u = c.args.u in
    let old = value_of c.args.w.now in
    let mid = value_of c.name_term.new.w in
    let new = value_of c.name_term-2.new.w in
    let one = c.in_ok-name_term.ensures.extends s seen p set first in
    let two = c.in_ok-name_term-2.ensures.extends s seen one.after (set_later s v old mid seen p set one) second in
    let at_mid = c.in_ok-name_term.ensures.named in
    let named_t : IsNamed new.names t = (at_mid.0, two.kept t.0 at_mid.0 at_mid.1) in
    let named_u : IsNamed new.names u = c.in_ok-name_term-2.ensures.named in
    let are = two.stands.names in
    let short_t = number_short trees new.names two.after.terms are t named_t in
    let short_u = number_short trees new.names two.after.terms are u named_u in
    record {
      extends = record {
        after = two.after;
        stands = two.stands;
        adds = adds_twice p one.after two.after one.adds two.adds;
        kept = kept_twice old.names mid.names new.names one.kept two.kept;
      };
      first =
          subst (λ (k : ℕ). slice_get two.after.terms k ≡ Some (tree_at trees t.0)) (sym c.file_number-a.ensures)
          (number_leads trees new.names two.after.terms are t named_t);
      second =
          subst (λ (k : ℕ). slice_get two.after.terms k ≡ Some (tree_at trees u.0)) (sym c.file_number-b.ensures)
          (number_leads trees new.names two.after.terms are u named_u);
      first_low = let e = c.file_number-a.ensures in omega (arith, e, short_t);
      second_low = let e = c.file_number-b.ensures in omega (arith, e, short_u);
    }
