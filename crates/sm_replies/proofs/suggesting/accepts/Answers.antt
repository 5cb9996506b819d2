use Rattle.sm_replies.proofs.Imports.{◌≡◌, false, refl, rules, sym, outcome_in, reach_of, is_accepted}
use Rattle.sm_houdini.specs.Outcomes as plain
use Rattle.sm_houdini.specs.declared.outcome.Outcome.TheVariants as outcome
use Rattle.sm_proof.proofs.PassSound.{pass_free}
use Rattle.sm_task.specs.Tasks.{parts_of}
use Rattle.sm_replies.proofs.SpelledLemmas.{outcome_so}
use Rattle.sm_replies.proofs.suggesting.accepts.Goals as goal

pub returns-in-None : goal.returns-in-None
returns-in-None g c = record {
  outcome = outcome_in c.in_ok-outcome.outcome;
  found = c.in_ok-outcome.ensures.outcome;
  is = let none : is_accepted (outcome_in c.in_ok-outcome.outcome) ≡ false = search rules in sym none;
  free = λ e. cc;
}

pub returns-in_ok-_text-in-Some : goal.returns-in_ok-_text-in-Some
returns-in_ok-_text-in-Some g c =
    let t = parts_of c.args.task.now in
    let same : c.in_ok-outcome.outcome ≡ outcome.Accepted c.in-Some.proof = search rules in
    record {
      outcome = plain.Accepted;
      found =
          outcome_so t (reach_of c.args.effort) c.args.effort.turns c.in_ok-outcome.outcome (outcome.Accepted c.in-Some.proof) same
          c.in_ok-outcome.ensures.outcome;
      is = refl;
      free = λ e. pass_free t c.in_ok-_text-in-Some._text.items c.requires.fit.sorted c.in_ok-_text-in-Some.ensures.passes;
    }
