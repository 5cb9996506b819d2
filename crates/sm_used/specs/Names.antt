-- Private: the facts that lines name, branch by branch.
use Rattle.std.specs.Prelude.{◌≡◌, ℕ, zero, suc, Bool, false, ◌||◌, nat_eq, List, [], ◌∷◌, reverse}
use Rattle.std.specs.List.{list_any}
use Rattle.sm_theory.specs.Named.{is_closing, is_split}
use Rattle.sm_proof.specs.Lines.{ProofLine, Header, Term, Form, Node, Cert}
use Rattle.sm_prune.specs.UsedLines.{is_fact_named, lines_behind}
use Rattle.sm_used.specs.declared.names.Names.{Names}

-- whether a number is among names
abbrev pub is_in : Names → ℕ → Bool
is_in names n = names.all || list_any (nat_eq n) names.facts.keys

-- the numbers that pass a test are among the names too
abbrev pub NamesMore : (ℕ → Bool) → Names → Names → Type 0
NamesMore more before after = (n : ℕ) → is_in after n ≡ (more n || is_in before n)

-- whether a number is among the names of branch j: behind the last branch nothing is named
abbrev pub known : List Names → ℕ → ℕ → Bool
known [] j n = false
known (names ∷ branches) zero n = is_in names n
known (names ∷ branches) (suc j) n = known branches j n

-- branches, the last of them the first that is closed, have the facts that lines name which close them
abbrev pub Know : List Names → List ProofLine → Type 0
Know branches lines =
    (j n : ℕ) → known (reverse branches) j n ≡ is_fact_named (lines_behind j lines) n

-- a branch goes on behind a line as one
abbrev pub GoesOnce : ProofLine → Type 0
GoesOnce (Header version) = Unit {0}
GoesOnce (Term t) = Unit {0}
GoesOnce (Form f) = Unit {0}
GoesOnce (Node n) = Unit {0}
GoesOnce (Cert l) = (is_closing l ≡ false) × (is_split l ≡ false)
