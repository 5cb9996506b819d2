-- Cited by public clauses: why a branch is closed at once.
use Rattle.std.specs.Prelude.{◌≡◌, ◌<◌, IsTrue, Option, Some, None, slice_get, length}
use Rattle.sm_term.specs.Tables.{tree_at}
use Rattle.sm_term.specs.Assertions.{Assertion}
use Rattle.sm_judge.specs.declared.closing.Closing.{Closing}
use Rattle.sm_judge.specs.declared.closing.Closing.TheVariants as why
use Rattle.sm_judge.specs.Holding.{Seen, is_refuted, are_torn}

-- why a branch is closed at once: a fact that can't hold by the classes, or two terms of one class
-- whose linear forms differ in the constant alone
abbrev pub IsClosing : Seen → Closing → Type 0
IsClosing b (why.Refuted n) =
    (f : Assertion) × (slice_get b.facts n ≡ Some f) × IsTrue (is_refuted b f)
IsClosing b (why.Torn t u) =
    (t.0 < length b.terms) × (u.0 < length b.terms)
    × IsTrue (are_torn b (tree_at b.terms t.0) (tree_at b.terms u.0))

-- a reason, where there is one, is why a branch is closed at once
abbrev pub IfClosing : Seen → Option Closing → Type 0
IfClosing b None = Unit {0}
IfClosing b (Some why) = IsClosing b why
