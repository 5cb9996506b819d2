-- Cited by public clauses: the classes, computed.
use Rattle.std.specs.Prelude.{ℕ, zero, suc, ◌*◌, Bool, ◌&&◌, ◌||◌, List, [], ◌∷◌, ◌++◌, map, length}
use Rattle.std.specs.List.{filter, list_any}
use Rattle.sm_term.specs.Terms.{Tree}
use Rattle.sm_term.specs.SameTerms.{same_tree}
use Rattle.sm_pairs.specs.Pairs.{Pairs}
use Rattle.sm_cc.specs.Classes.{Setting, brings}

-- each term of one list with each of another
abbrev pub pairs_of : List Tree → List Tree → List (Tree × Tree)
pairs_of [] us = []
pairs_of (t ∷ ts) us = map (λ u. (t, u)) us ++ pairs_of ts us

-- whether a pair is in a list
abbrev pub is_listed : List (Tree × Tree) → Pairs
is_listed pairs t u = list_any (λ p. same_tree p.0 t && same_tree p.1 u) pairs

-- whether terms are equal already, or by what equality is, or by a rule
abbrev pub follows : Setting → Pairs → Pairs
follows s equal t u =
    equal t u
    || (same_tree t u
    || (equal u t || (list_any (λ w. equal t w && equal w u) s.terms || brings s equal t u)))

-- the pairs that follow from pairs
abbrev pub next_pairs : Setting → List (Tree × Tree) → List (Tree × Tree)
next_pairs s pairs =
    filter (λ p. follows s (is_listed pairs) p.0 p.1) (pairs_of s.terms s.terms)

-- the pairs that come from pairs in so many rounds
abbrev pub pairs_after : ℕ → Setting → List (Tree × Tree) → List (Tree × Tree)
pairs_after zero s pairs = pairs
pairs_after (suc n) s pairs = pairs_after n s (next_pairs s pairs)

-- whether two terms of the list are in one class: there are no more rounds that bring something than
-- there are pairs
unfoldable pub are_equal : Setting → Pairs
are_equal s = is_listed (pairs_after (length s.terms * length s.terms) s [])
