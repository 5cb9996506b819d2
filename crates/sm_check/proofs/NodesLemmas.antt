-- A node's line taken, step by step.
use Rattle.sm_check.proofs.Imports.{◌≡◌, ℕ, suc, ◌+◌, ◌<◌, ◌≤◌, nat_le, Bool, true, false, if◌then◌else◌, length, Option, Some, None, Result, Ok, Err, List, [], refl, sym, ap, ◌∙◌, subst, arith, ◌⊎◌, ⊎_elim, min, nat_tests, same_Some, slice_get_past, by_copy, Assertion, followed, set_of, above_opened, opened_by, NodeLine, found_or, tested_or, named_node, node_head, Word, BadNumber, Deep, First, keep_of, IsThere, IsKeptForm, node_with, opened_or, Tells, is_few, get_below}
use Rattle.std.proofs.Common.{slice_get}
use Rattle.sm_term.specs.Assertions as plain
use Rattle.sm_plan.specs.Limits.{is_shallow}
use Rattle.sm_plan.specs.Nodes as plan
use Rattle.sm_plan.specs.States.{State}
use Rattle.sm_proof.specs.declared.line.NodeLine.TheVariants as node
use Rattle.sm_check.specs.declared.forms.FormRow.{FormRow}
use Rattle.sm_check.specs.Tells.{LineFault, Wrong}
use Rattle.sm_check.proofs.FormRowsLemmas.{there_too}

-- whether a line branches, by its kind alone
pub loop_branches : (f : Assertion) (set keep : ℕ) → plan.is_branching (node_with f (node.Loop set keep)) ≡ true
loop_branches f set keep = either (nat_le set 15)
  where
    either : (b : Bool) → plan.is_branching (if b then plan.Loop (set_of set) f else plan.Unfit 4) ≡ true
    either true = refl
    either false = refl

-- the formula that a line keeps
pub kept_there : (rows : List FormRow) (forms : List Assertion) (n : Option ℕ) → length rows ≡ length forms → IsThere (length rows) n →
    (f : Assertion) × IsKeptForm forms n f
kept_there rows forms None same there = (plain.Yes, refl)
kept_there rows forms (Some n) same there =
    let row = get_below rows n there in
    there_too rows forms n row.0 same row.1

-- the node of a line
pub named_kept : (forms : List Assertion) (f : Assertion) (line : NodeLine) → IsKeptForm forms (keep_of line) f →
    named_node forms line ≡ Some (node_with f line)
named_kept forms f (node.Step c) kept = refl
named_kept forms f (node.Abs c n) kept = refl
named_kept forms f (node.Fork c) kept = refl
named_kept forms f (node.Loop set keep) kept =
    ap
    (λ (o : Option Assertion). followed o (λ (g : Assertion). Some (if nat_le set 15 then plan.Loop (set_of set) g else plan.Unfit 4)))
    kept
named_kept forms f (node.Block k0 k1 k2 k3 keep) kept =
    ap (λ (o : Option Assertion). followed o (λ (g : Assertion). Some (plan.Block (by_copy k0 k1 k2 k3) g))) kept
named_kept forms f node.Dead kept = refl
named_kept forms f node.End kept = refl

-- a line whose formula isn't there
pub named_missing : (forms : List Assertion) (line : NodeLine) (n : ℕ) → keep_of line ≡ Some n → length forms ≤ n → named_node forms line ≡ None
named_missing forms (node.Step c) n e h = absurd cc
named_missing forms (node.Abs c m) n e h = absurd cc
named_missing forms (node.Fork c) n e h = absurd cc
named_missing forms (node.Loop set keep) n e h =
    let same = same_Some keep n e in
    let far : length forms ≤ keep = omega arith in
    ap
    (λ (o : Option Assertion). followed o (λ (g : Assertion). Some (if nat_le set 15 then plan.Loop (set_of set) g else plan.Unfit 4)))
    (slice_get_past forms keep far)
named_missing forms (node.Block k0 k1 k2 k3 keep) n e h =
    let same = same_Some keep n e in
    let far : length forms ≤ keep = omega arith in
    ap (λ (o : Option Assertion). followed o (λ (g : Assertion). Some (plan.Block (by_copy k0 k1 k2 k3) g))) (slice_get_past forms keep far)
named_missing forms node.Dead n e h = absurd cc
named_missing forms node.End n e h = absurd cc

-- what a line opens, or the word by which it is refused
module _ (forms : List Assertion) (k : ℕ) (st : State) (above : ℕ) (line : NodeLine) where
  next : plan.Node → Result (plan.Opened × ℕ) Word
  next n =
      tested_or (is_shallow (above_opened n above)) Deep
      (found_or (opened_by k st n) (First (node_head line)) (λ (q : plan.Opened). Ok (q, above_opened n above)))

  pub number_told : named_node forms line ≡ None → opened_or forms k st above line ≡ Err BadNumber
  unfolding next
  number_told e = ap (λ (o : Option plan.Node). found_or o BadNumber next) e

  module _ (n : plan.Node) (named : named_node forms line ≡ Some n) where
    at_node : opened_or forms k st above line ≡ next n
    unfolding next
    at_node = ap (λ (o : Option plan.Node). found_or o BadNumber next) named

    pub deep_told : is_shallow (above_opened n above) ≡ false → opened_or forms k st above line ≡ Err Deep
    unfolding next
    deep_told e =
        at_node
        ∙ ap
        (λ (b : Bool). tested_or b Deep (found_or (opened_by k st n) (First (node_head line)) (λ (q : plan.Opened). Ok (q, above_opened n above))))
        e

    shallow : is_shallow (above_opened n above) ≡ true → opened_or forms k st above line
        ≡ found_or (opened_by k st n) (First (node_head line)) (λ (q : plan.Opened). Ok (q, above_opened n above))
    unfolding next
    shallow e =
        at_node
        ∙ ap
        (λ (b : Bool). tested_or b Deep (found_or (opened_by k st n) (First (node_head line)) (λ (q : plan.Opened). Ok (q, above_opened n above))))
        e

    pub unfit_told : is_shallow (above_opened n above) ≡ true → opened_by k st n ≡ None → opened_or forms k st above line ≡ Err (First (node_head line))
    unfit_told e h =
        shallow e ∙ ap (λ (o : Option plan.Opened). found_or o (First (node_head line)) (λ (q : plan.Opened). Ok (q, above_opened n above))) h

    pub opened_told : (q : plan.Opened) → is_shallow (above_opened n above) ≡ true → opened_by k st n ≡ Some q →
        opened_or forms k st above line ≡ Ok (q, above_opened n above)
    opened_told q e h =
        shallow e ∙ ap (λ (o : Option plan.Opened). found_or o (First (node_head line)) (λ (r : plan.Opened). Ok (r, above_opened n above))) h

-- a word that is told
pub tells_word : {S T : Type 0} (P : S → T → Type 0) (w : Word) (r : Result T Word) → r ≡ Err w → Tells P (Err (Wrong w)) r
tells_word P w r e = subst (Tells P (Err (Wrong w))) (sym e) refl

pub too_many : (m : ℕ) → 1000 < m → is_shallow m ≡ false
unfolding is_shallow
too_many m h = grind (arith, nat_tests)

pub above_told : (n : plan.Node) (above over : ℕ) →
    ((plan.is_branching n ≡ true) × (over ≡ min (above + 1) 18446744073709551615)) ⊎ ((plan.is_branching n ≡ false) × (over ≡ above)) →
    (over ≤ 1000 → (over ≡ above_opened n above) × (is_shallow (above_opened n above) ≡ true))
    × (1000 < over → is_shallow (above_opened n above) ≡ false)
above_told n above over cases =
    ⊎_elim
    (λ (h : (plan.is_branching n ≡ true) × (over ≡ min (above + 1) 18446744073709551615)).
    let e : above_opened n above ≡ suc above = ap (λ (b : Bool). if b then suc above else above) h.0 in
    let is = h.1 in (
      λ (few : over ≤ 1000).
          let same : over ≡ suc above = omega arith in
          let low : suc above ≤ 1000 = omega arith in
          (same ∙ sym e, ap is_shallow e ∙ is_few (suc above) low),
      λ (many : 1000 < over). let high : 1000 < suc above = omega arith in ap is_shallow e ∙ too_many (suc above) high,
    ))
    (λ (h : (plan.is_branching n ≡ false) × (over ≡ above)).
    let e : above_opened n above ≡ above = ap (λ (b : Bool). if b then suc above else above) h.0 in
    let is = h.1 in (
      λ (few : over ≤ 1000). let low : above ≤ 1000 = omega arith in (is ∙ sym e, ap is_shallow e ∙ is_few above low),
      λ (many : 1000 < over). let high : 1000 < above = omega arith in ap is_shallow e ∙ too_many above high,
    ))
    cases

-- a fault that is a word tells of an answer with this word
pub tells_fault : {S T : Type 0} (P : S → T → Type 0) (w : Word) (e : LineFault) (r : Result T Word) → e ≡ Wrong w → r ≡ Err w → Tells P (Err e) r
tells_fault P w e r is told = subst (λ (x : LineFault). Tells P (Err x) r) (sym is) (tells_word P w r told)
