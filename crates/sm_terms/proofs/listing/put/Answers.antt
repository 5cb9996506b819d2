-- The number is listed, and so its tree.
use Rattle.sm_terms.proofs.Imports.{ℕ, List, sym, subst, trees_in, Leads}
use Rattle.sm_terms.proofs.ListingLemmas.{put_leads}
use Rattle.sm_terms.proofs.listing.put.Goals as goal

pub returns : goal.returns
returns c = λ steps terms leads.
    let trees = trees_in c.args.table.now in
    subst (λ (ns : List ℕ). Leads trees ns steps terms) (sym c.in_ok-add.ensures.values)
    (put_leads trees c.len-count.ensures.apart c.args.listed.now steps c.args.n terms c.requires leads)
