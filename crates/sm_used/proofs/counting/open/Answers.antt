-- A version line that is taken leads to the start.
use Rattle.sm_used.proofs.Imports.{◌∷◌, List, ℕ, subst, Header, ProofLine, line_of, AreRead, Unopened, lines_in}
use Rattle.sm_used.proofs.CountedLemmas.{leads_in, read_first}
use Rattle.sm_used.proofs.counting.open.Goals as goal

pub returns : goal.returns
returns c = λ s at.
    let line = line_of c.in_ok-first.first in
    let led = leads_in s line c.line.new.self c.in_ok-_state._state (c.in_ok-_state.ensures.ok s Unopened at) in
    let bytes = c.args.bytes.now in (
      led.0,
      led.2,
      λ lines are.
          subst (λ (l : ProofLine). AreRead (lines_in bytes).ended (l ∷ lines)) led.1
          (read_first bytes line c.in_ok-first.size lines c.in_ok-first.ensures.ok c.in_ok-first.ensures.length
          (subst (λ (left : List ℕ). AreRead (lines_in left).ended lines) c.behind.ensures are)),
      led.3,
    )
