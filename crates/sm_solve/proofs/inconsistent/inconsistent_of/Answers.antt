use Rattle.sm_solve.proofs.Imports.{length, rules, sym, ap, ◌∙◌, trees_in, sorts_in, facts_count}
use Rattle.sm_solve.proofs.inconsistent.inconsistent_of.Goals as goal

pub returns-in-Some-clause-inconsistent : goal.returns-in-Some-clause-inconsistent
returns-in-Some-clause-inconsistent c = λ given are. record {
  some = search rules;
  by = search rules;
  many = sym (facts_count (sorts_in c.args.table.now) (trees_in c.args.table.now) c.args.facts.now) ∙ ap length are;
  counted = search rules;
  closes = search rules;
  named = search rules;
}
