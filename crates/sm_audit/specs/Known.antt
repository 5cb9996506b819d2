-- Private: formulas, nodes and lines of certificates of whose terms each is known by a node.
use Rattle.std.specs.Prelude.{ℕ, suc, Option, List, [], ◌∷◌}
use Rattle.sm_term.specs.Formulas.{NumberedFormula, Yes, No, Eq, Ne, Le, Lt, And, Or, numbered}
use Rattle.sm_term.specs.Terms.{Tree}
use Rattle.sm_theory.specs.Named.{EachNamed}
use Rattle.sm_theory.specs.Views.{line_in, numbered_line}
use Rattle.sm_theory.specs.declared.line.CertLine.{CertLine}
use Rattle.sm_plan.specs.declared.node.NodeRow.{NodeRow}
use Rattle.sm_plan.specs.declared.node.NodeRow.TheVariants as node
use Rattle.sm_write.specs.Writable.{IsShortLine}
use Rattle.sm_audit.specs.Since.{IsKnownBy}

-- each term that a formula compares is known
abbrev pub IsFormKnown : List (Option ℕ) → ℕ → NumberedFormula → Type 0
IsFormKnown since n Yes = Unit {0}
IsFormKnown since n No = Unit {0}
IsFormKnown since n (Eq t u) = IsKnownBy since n t × IsKnownBy since n u
IsFormKnown since n (Ne t u) = IsKnownBy since n t × IsKnownBy since n u
IsFormKnown since n (Le t u) = IsKnownBy since n t × IsKnownBy since n u
IsFormKnown since n (Lt t u) = IsKnownBy since n t × IsKnownBy since n u
IsFormKnown since n (And p q) = IsFormKnown since n p × IsFormKnown since n q
IsFormKnown since n (Or p q) = IsFormKnown since n p × IsFormKnown since n q

-- each term that a node's kept formula compares is known
abbrev pub IsRowKnown : List (Option ℕ) → ℕ → NodeRow → Type 0
IsRowKnown since n (node.Step c) = Unit {0}
IsRowKnown since n (node.Abs c count) = Unit {0}
IsRowKnown since n (node.Fork c) = Unit {0}
IsRowKnown since n (node.Loop set keep) = IsFormKnown since n (numbered keep.now)
IsRowKnown since n (node.Block counts keep) = IsFormKnown since n (numbered keep.now)
IsRowKnown since n node.Dead = Unit {0}
IsRowKnown since n node.End = Unit {0}

-- each term that nodes' kept formulas compare is known, by the nodes' own numbers, from n on
abbrev pub AreRowsKnown : List (Option ℕ) → ℕ → List NodeRow → Type 0
AreRowsKnown since n [] = Unit {0}
AreRowsKnown since n (r ∷ rows) = IsRowKnown since n r × AreRowsKnown since (suc n) rows

-- each term that a line names is known
abbrev pub IsLineKnown : List (Option ℕ) → ℕ → CertLine → Type 0
IsLineKnown since k l = EachNamed (IsKnownBy since k) (numbered_line l)

-- a line is short, and each term that it names is known
abbrev pub IsLineFit : List (Option ℕ) → ℕ → CertLine → Type 0
IsLineFit since k l =
    ((trees : List Tree) → IsShortLine (line_in trees l)) × IsLineKnown since k l

-- each of some lines is short, and each term that it names is known
abbrev pub AreLinesFit : List (Option ℕ) → ℕ → List CertLine → Type 0
AreLinesFit since k [] = Unit {0}
AreLinesFit since k (l ∷ ls) = IsLineFit since k l × AreLinesFit since k ls
