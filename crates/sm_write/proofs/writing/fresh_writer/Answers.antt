-- No line is there.
use Rattle.sm_write.proofs.Imports.{ℕ, nat_eq, List, false, length, refl, sym, ap, subst, lookup, start_progress, Leads}
use Rattle.sm_write.proofs.TextLemmas.{leads_start}
use Rattle.sm_write.proofs.writing.fresh_writer.Goals as goal

pub returns : goal.returns
returns c = λ s. record {
  leads = subst (λ (t : List ℕ). Leads s t false (start_progress s.start)) (sym c.new.ensures.items) (leads_start s);
  names = λ (n : ℕ). ap (lookup (nat_eq n)) c.new-2.ensures.empty;
  terms = ap length c.new-3.ensures.items;
  forms = refl;
  nodes = refl;
}
