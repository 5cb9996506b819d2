-- What the bytes are read as is the line.
use Rattle.sm_check.proofs.Imports.{◌≡◌, ℕ, Bool, List, Result, sym, ap, subst, ◌∙◌, OnOk, IfErr, Word, ProofLine, next_standing, reads_exact, read_with, RefusesAt, Takes}
use Rattle.sm_check.proofs.taken_lines.TakenLines.check.Goals as goal

-- what the checker reads where the proof stands
read_here : (exact here : Bool) (bytes : List ℕ) (r : Result ProofLine Word) → exact ≡ here → read_with exact bytes ≡ r →
    read_with here bytes ≡ r
read_here exact here bytes r same is = ap (λ (b : Bool). read_with b bytes) (sym same) ∙ is

pub returns-in-Ok-clause-ok : goal.returns-in-Ok-clause-ok
returns-in-Ok-clause-ok c = λ s at stands.
    subst
    (λ (x : Result ProofLine Word). OnOk c.check_line.result (Takes c.check_line.new.self s (next_standing s at x)))
    (sym (read_here c.reads_exact.result (reads_exact at) c.args.line.now _ (c.reads_exact.ensures s at stands.is_at) c.in-Ok.ensures.ok))
    (c.check_line.ensures.ok s at stands)

pub returns-in-Ok-clause-err : goal.returns-in-Ok-clause-err
returns-in-Ok-clause-err c = λ s at stands.
    subst
    (λ (x : Result ProofLine Word). IfErr c.check_line.result (RefusesAt c.args.self.now.number (next_standing s at x)))
    (sym (read_here c.reads_exact.result (reads_exact at) c.args.line.now _ (c.reads_exact.ensures s at stands.is_at) c.in-Ok.ensures.ok))
    (c.check_line.ensures.err s at stands)
