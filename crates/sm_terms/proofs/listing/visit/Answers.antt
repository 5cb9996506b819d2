-- A term that is listed is passed over, any other waits for its arguments.
use Rattle.sm_terms.proofs.Imports.{◌≡◌, ◌<◌, ◌+◌, ◌++◌, ◌∷◌, [], List, true, length, nat_eq, sym, ap, subst, ◌∙◌, arith, list_any, trees_in, sorts_in, codes_in, arguments_of, argument_numbers, Step, Visit, Put, Leads, visits, cost_of_step, cost_of_steps}
use Rattle.sm_euf.proofs.ArgumentsLemmas.{arguments_are, parts_before}
use Rattle.sm_terms.proofs.ListingLemmas.{skip_leads, skip_less, open_leads, open_less}
use Rattle.sm_terms.proofs.listing.visit.Goals as goal

pub returns-then-contains-clause-leads : goal.returns-then-contains-clause-leads
returns-then-contains-clause-leads c = λ terms leads.
    let there : list_any (nat_eq c.args.n) c.args.listed.now ≡ true = sym c.contains.ensures ∙ c.if-contains.true in
    skip_leads (trees_in c.args.table.now) c.len-count.ensures.apart c.args.listed.now c.args.steps.now.items c.args.n terms c.requires there
    leads

pub returns-then-contains-clause-less : goal.returns-then-contains-clause-less
returns-then-contains-clause-less c = skip_less (trees_in c.args.table.now) c.args.steps.now.items c.args.n

pub returns-clause-leads : goal.returns-clause-leads
returns-clause-leads c = λ terms leads.
    let table = c.args.table.now in
    let trees = trees_in table in
    let n = c.args.n in
    let term = c.get.result.now in
    let args = argument_numbers term in
    let old = c.args.steps.now.items in
    let are = ap arguments_of (sym c.get.ensures.tree) ∙ arguments_are (sorts_in table) (codes_in table) trees term c.get.ensures.fits in
    let before = parts_before (sorts_in table) (length (codes_in table)) n (length trees) (omega arith) term c.get.ensures.before in
    let all = open_leads trees c.args.listed.now old n terms c.requires args before are leads in
    let made : c.push_arguments.new.steps.items ≡ (old ++ Put n ∷ []) ++ visits args =
    c.in_ok-push_arguments.ensures ∙ ap (λ (ss : List Step). ss ++ visits args) c.in_ok-push.ensures.items in
    subst (λ (ss : List Step). Leads trees c.args.listed.now ss terms) (sym made) all

pub returns-clause-less : goal.returns-clause-less
returns-clause-less c =
    let table = c.args.table.now in
    let trees = trees_in table in
    let n = c.args.n in
    let term = c.get.result.now in
    let args = argument_numbers term in
    let old = c.args.steps.now.items in
    let are = ap arguments_of (sym c.get.ensures.tree) ∙ arguments_are (sorts_in table) (codes_in table) trees term c.get.ensures.fits in
    let made : c.push_arguments.new.steps.items ≡ (old ++ Put n ∷ []) ++ visits args =
    c.in_ok-push_arguments.ensures ∙ ap (λ (ss : List Step). ss ++ visits args) c.in_ok-push.ensures.items in
    subst (λ (ss : List Step). cost_of_steps trees ss < cost_of_steps trees old + cost_of_step trees (Visit n)) (sym made)
    (open_less trees old n args are)
