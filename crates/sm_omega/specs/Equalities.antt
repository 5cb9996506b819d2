-- Cited by public clauses: the rule of equalities of the Omega test. An equation gives the value of
-- a variable whose coefficient there has size 1; where it has none, a modular step puts a new
-- variable in, so that the coefficients fall.
use Rattle.std.specs.Prelude.{ℕ, suc, ◌==◌, nat_lt, ℤ, pos, negsuc, neg_ℤ, nat_abs, ◌&&◌, not, if◌then◌else◌, Option, Some, None, List, [], ◌∷◌, map}
use Rattle.sm_num.specs.Forms.{Linear}
use Rattle.sm_num.specs.declared.kind.Kind.TheVariants.{Eq}
use Rattle.sm_num.specs.Combining.{Outcome, Fits, then_with, with_part, combined}
use Rattle.sm_num.specs.Eliminating.{is_equation, is_negative, floor_of, eliminated}
use Rattle.sm_num.specs.Tightening.{has_no_part}
use Rattle.sm_omega.specs.Counting.{Item, Stay, Count}
use Rattle.sm_omega.specs.Solving.{Values, at, has, rest_of, value_from}
use Rattle.sm_omega.specs.Rules.{Answer, Solver, solved, giving}

-- a form that is found with the forms beside it, of which one more stands in front
abbrev pub beside :
    Linear ℕ → Option (Linear ℕ × List (Linear ℕ)) → Option (Linear ℕ × List (Linear ℕ))
beside f None = None
beside f (Some found) = Some (found.0, f ∷ found.1)

-- the first equation with parts of a list, and the forms beside it
abbrev pub first_equation : List (Linear ℕ) → Option (Linear ℕ × List (Linear ℕ))
first_equation [] = None
first_equation (f ∷ fs) =
    if is_equation f.kind && not (has_no_part f.parts) then Some (f, fs)
    else beside f (first_equation fs)

-- of a part and others the first whose coefficient has the least size
abbrev pub least_part_of : ℕ × ℤ → List (ℕ × ℤ) → ℕ × ℤ
least_part_of p [] = p
least_part_of p (q ∷ qs) =
    least_part_of (if nat_lt (nat_abs q.1) (nat_abs p.1) then q else p) qs

-- of parts the first whose coefficient has the least size
abbrev pub least_part : List (ℕ × ℤ) → ℕ × ℤ
least_part [] = (0, pos 0)
least_part (p ∷ ps) = least_part_of p ps

-- a form with t loses t by an equation
abbrev pub eliminated_item : Linear ℕ → ℕ → Linear ℕ → Item
eliminated_item e t f = if has t f then Count (eliminated f e t) else Stay f

-- c divided by a, rounded down
abbrev pub quotient : ℤ → ℤ → ℤ
quotient c a = floor_of (if is_negative a then neg_ℤ c else c) (nat_abs a)

-- the parts of the modular step: -1 at t, at each other variable the quotient by a turned round,
-- and a new variable s
abbrev pub modular_parts : ℕ → ℤ → ℕ → List (ℕ × ℤ) → List (ℕ × ℤ)
modular_parts t a s [] = (s, pos 1) ∷ []
modular_parts t a s (p ∷ ps) =
    if p.0 == t then (t, negsuc 0) ∷ modular_parts t a s ps
    else with_part p.0 (neg_ℤ (quotient p.1 a)) (modular_parts t a s ps)

-- the equation of the modular step: s stands for what is left of e's other parts by a, and t
abbrev pub modular : ℕ → ℤ → ℕ → Linear ℕ → Linear ℕ
modular t a s e = record {
  parts = modular_parts t a s e.parts;
  constant = neg_ℤ (quotient e.constant a);
  kind = Eq;
}

-- a form with t loses t by the equation of a modular step
abbrev pub modular_item : Linear ℕ → ℕ → Linear ℕ → Item
modular_item d t f = if has t f then Count (combined f (pos 1) d (at t f) f.kind) else Stay f

-- the value of t with which an equation holds, whose coefficient at t is 1 or -1
abbrev pub value_by : ℕ → Linear ℕ → Values → Outcome ℤ
value_by t e v = then_with (rest_of t v e) (λ (z : ℤ). Fits (value_from (at t e) z))

-- decides by an equation e of a list fs, of which the forms gs are the others, and by its part at t
abbrev pub by_equation :
    ℕ → Solver → ℕ → List (Linear ℕ) → ℕ → Linear ℕ → List (Linear ℕ) → ℕ × ℤ → Answer
by_equation limit solve s fs c e gs part =
    let t = part.0 in
    let a = part.1 in
    let d = modular t a s e in
    if nat_abs a == 1 then
    giving t (value_by t e) (solved limit (solve s) (map (eliminated_item e t) gs) c)
    else giving t (value_by t d) (solved limit (solve (suc s)) (map (modular_item d t) fs) c)
