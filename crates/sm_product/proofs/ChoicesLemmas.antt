-- What a site keeps under a choice: the parts of its formula are the chosen templates, all of them where all are chosen.
use Rattle.sm_product.proofs.Imports.{◌≡◌, ℕ, zero, suc, ◌+◌, ◌-◌, ◌/◌, ◌≤◌, ℤ, Option, Some, List, [], ◌∷◌, ◌++◌, take, drop, length, slice_get, refl, ap, sym, ◌∙◌, subst, arith, option_to_list, unwrap_or, range_with_len, length-append, length-take, length-drop, take-append-drop, Sort, Expression, Code, Cmp, Copy, Parts, Assertion, conj, term_of, Tree, Copies, Each, slots, weaker, HoldsOfTemplates, of_block_templates, of_loop_templates, each_take, each_drop, Choice, chosen_at, picked, halved, conjoined, kept_by, all_chosen, SketchNode, site_at, sites_of, each_picked, sketch_of}
use Rattle.std.proofs.lemmas.List.{append_assoc}
use Rattle.std.proofs.lemmas.Option.{same_Some}
use Rattle.sm_syntax.specs.declared.tree.Cmp.TheVariants as cmp
use Rattle.sm_product.proofs.NodesLemmas.{HoldsOfNodes, sketch_nodes, each_site}
use Rattle.sm_lemmas.proofs.Numbers.{half_less}

-- a formula that is no conjunction
abbrev pub IsSingle : Assertion → Type 0
IsSingle f = conj f ≡ f ∷ []

-- the parts of a conjunction by halves are the formulas
pub conj_halved : (n : ℕ) (fs : List Assertion) → length fs ≤ n → Each IsSingle fs → conj (halved n fs) ≡ fs
conj_halved zero [] few single = refl
conj_halved zero (f ∷ fs) few single = absurd (omega (arith, few))
conj_halved (suc n) [] few single = refl
conj_halved (suc n) (f ∷ []) few single = single.0
conj_halved (suc n) (f ∷ g ∷ rest) few single =
    let fs = f ∷ g ∷ rest in
    let half = length fs / 2 in
    let small = half_less (length rest) n few in
    let front = conj_halved n (take half fs) (subst (λ (m : ℕ). m ≤ n) (sym (length-take half fs)) (omega (arith, small.0)))
    (each_take IsSingle half fs single) in
    let back = conj_halved n (drop half fs) (subst (λ (m : ℕ). m ≤ n) (sym (length-drop half fs)) small.1)
    (each_drop IsSingle half fs single) in
    (λ i. front i ++ back i) ∙ take-append-drop half fs

pub conj_conjoined : (fs : List Assertion) → Each IsSingle fs → conj (conjoined fs) ≡ fs
conj_conjoined fs single = conj_halved (length fs) fs (omega arith) single

-- all numbers from one on pick what is there
picked_from : (before fs : List Assertion) (n : ℕ) → n ≡ length before → picked (before ++ fs) (range_with_len n (length fs)) ≡ fs
picked_from before [] n e = refl
picked_from before (f ∷ fs) n e =
    (λ i. option_to_list (found before n e i) ++ picked (regrouped i) (range_with_len (n + 1) (length fs)))
    ∙ ap (λ (gs : List Assertion). f ∷ gs)
    (picked_from (before ++ f ∷ []) fs (n + 1) (ap (λ (m : ℕ). m + 1) e ∙ sym (length-append before (f ∷ []))))
  where
    found : (xs : List Assertion) (k : ℕ) → k ≡ length xs → slice_get (xs ++ f ∷ fs) k ≡ Some f
    found [] k h = ap (slice_get (f ∷ fs)) h
    found (x ∷ xs) zero h = absurd (omega (arith, h))
    found (x ∷ xs) (suc k) h = found xs k (omega (arith, h))

    regrouped : before ++ f ∷ fs ≡ (before ++ f ∷ []) ++ fs
    regrouped = sym (append_assoc before (f ∷ []) fs)

-- all templates are picked by all numbers
pub all_picked : (fs : List Assertion) → picked fs (range_with_len 0 (length fs)) ≡ fs
all_picked fs = picked_from [] fs 0 refl

-- where all are chosen, a site keeps all
chosen_all : (sites : List (List Assertion)) (s : ℕ) (fs : List Assertion) → slice_get sites s ≡ Some fs →
    chosen_at (all_chosen sites) s ≡ range_with_len 0 (length fs)
chosen_all [] s fs e = absurd cc
chosen_all (ts ∷ sites) zero fs e = ap (λ (o : Option (List Assertion)). range_with_len 0 (length (unwrap_or o []))) e
chosen_all (ts ∷ sites) (suc s) fs e = chosen_all sites s fs e

pub all_kept : (sites : List (List Assertion)) (s : ℕ) (fs : List Assertion) → slice_get sites s ≡ Some fs →
    kept_by (all_chosen sites) s fs ≡ conjoined fs
all_kept sites s fs e = ap conjoined (ap (picked fs) (chosen_all sites s fs e) ∙ all_picked fs)

-- no template is a conjunction
weaker_single : (op : Cmp) (t u : Tree) → Each IsSingle (weaker op t u)
weaker_single cmp.Eq t u = tt
weaker_single cmp.Ne t u = tt
weaker_single cmp.Lt t u = (refl, tt)
weaker_single cmp.Le t u = (refl, tt)
weaker_single cmp.Gt t u = (refl, tt)
weaker_single cmp.Ge t u = (refl, tt)

templates_single : HoldsOfTemplates IsSingle
templates_single = record {
  of_equal = λ (sort : Sort) (x : ℕ) (c d : Copy). refl;
  of_cells = λ (x : ℕ) (c d : Copy). refl;
  of_goals = λ (name : ℕ × Sort). (refl, (refl, (refl, tt)));
  of_start = λ (sort : Sort) (x : ℕ) (c : Copy). refl;
  of_start_cell = λ (x : ℕ) (c : Copy). refl;
  of_shift = λ (x : ℕ) (c d : Copy) (v : ℤ). refl;
  of_guard = λ (op : Cmp) (d e : Expression) (c : Copy). weaker_single op (term_of d (slots c)) (term_of e (slots c));
}

single_nodes : (t : Parts) → HoldsOfNodes t (λ (node : SketchNode). Each (Each IsSingle) (site_at node))
single_nodes t = record {
  of_step = λ (c : Copy). tt;
  of_summary = λ (c : Copy). tt;
  of_fork = λ (c : Copy). tt;
  of_end = tt;
  of_loops = λ (set : Copies) (code : Copy → Code). (of_loop_templates IsSingle templates_single t set code, tt);
  of_block = λ (counts : Copy → ℕ) (code : Copy → Code). (of_block_templates IsSingle templates_single t code, tt);
}

each_site_at : (sites : List (List Assertion)) (s : ℕ) (ts : List Assertion) → Each (Each IsSingle) sites → slice_get sites s ≡ Some ts →
    Each IsSingle ts
each_site_at [] s ts h e = absurd cc
each_site_at (us ∷ sites) zero ts h e = subst (Each IsSingle) (same_Some us ts e) h.0
each_site_at (us ∷ sites) (suc s) ts h e = each_site_at sites s ts h.1 e

-- the parts of what a site keeps are the templates that are chosen there
pub kept_parts_chosen : (t : Parts) (choice : Choice) (s : ℕ) (ts : List Assertion) → slice_get (sites_of (sketch_of t)) s ≡ Some ts →
    conj (kept_by choice s ts) ≡ picked ts (chosen_at choice s)
kept_parts_chosen t choice s ts e =
    conj_conjoined (picked ts (chosen_at choice s))
    (each_picked IsSingle ts (chosen_at choice s)
    (each_site_at (sites_of (sketch_of t)) s ts
    (each_site (Each IsSingle) (sketch_of t)
    (sketch_nodes t (λ (node : SketchNode). Each (Each IsSingle) (site_at node)) (single_nodes t))) e))
