-- Private: forms as they are looked up, and what a set of them knows.
use Rattle.std.specs.Prelude.{◌≡◌, ℕ, Bool, ◌||◌, List, ◌++◌}
use Rattle.std.specs.List.{list_any}
use Rattle.std.specs.Hash as fed
use Rattle.sm_num.specs.Forms.{Linear}
use Rattle.sm_fm.specs.declared.known.Known.{Known}
use Rattle.sm_fm.specs.Elimination.{same_form}

-- whether two are the same
abbrev pub same_known : Known → Known → Bool
same_known x y = same_form x.form y.form

-- what is hashed of a form
unfoldable pub hashed : Known → List (List ℕ)
hashed x =
    fed.slice (λ p. fed.u64 p.0 ++ fed.i128 p.1) x.form.parts ++ fed.i128 x.form.constant

-- whether a form is known
abbrev pub knows : List Known → Linear ℕ → Bool
knows known h = list_any (λ k. same_form h k.form) known

-- a form is known, too
abbrev pub Learns : List Known → List Known → Linear ℕ → Type 0
Learns old new f = (h : Linear ℕ) → knows new h ≡ (same_form f h || knows old h)

-- exactly the forms of a list are known
abbrev pub KnowsAll : List Known → List (Linear ℕ) → Type 0
KnowsAll known forms = (h : Linear ℕ) → knows known h ≡ list_any (same_form h) forms
