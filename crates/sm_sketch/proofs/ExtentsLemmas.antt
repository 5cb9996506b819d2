-- The extent of several sketches, one after the other.
use Rattle.sm_sketch.proofs.Imports.{◌≡◌, Result, Err, ℕ, zero, suc, ◌+◌, ◌<◌, ◌≤◌, max, List, [], ◌∷◌, ◌++◌, length, map, take, get_or, inl, inr, sym, ap, ◌∙◌, subst, arith, map_more, TellsExtent, added, greatest, total_nodes, most_branches}
use Rattle.std.proofs.Common.{IfErr}
use Rattle.sm_sketch.specs.declared.error.ProductError.{ProductError}
use Rattle.sm_sketch.specs.declared.error.ProductError.TheVariants as error
use Rattle.sm_sketch.specs.declared.sketch.Sketch.{Sketch}

-- an answer that is an error
pub err_extent : {T : Type 0} (r : Result T ProductError) (e : ProductError) (n b : ℕ) → r ≡ Err e → TellsExtent e n b →
    IfErr r (λ (x : ProductError). TellsExtent x n b)
err_extent {T} r e n b is h = subst (λ (q : Result T ProductError). IfErr q (λ (x : ProductError). TellsExtent x n b)) (sym is) h

-- more nodes, or deeper
pub tells_more : (e : ProductError) (n b m c : ℕ) → n ≤ m → b ≤ c → TellsExtent e n b → TellsExtent e m c
tells_more error.TooMany n b m c nodes branches (inl h) = inl (omega (arith, nodes, h))
tells_more error.TooMany n b m c nodes branches (inr h) = inr (omega (arith, branches, h))
tells_more error.Memory n b m c nodes branches h = tt

added_more : (ns : List ℕ) (n : ℕ) → added (ns ++ n ∷ []) ≡ added ns + n
added_more [] n = omega arith
added_more (m ∷ ns) n =
    let rest = added_more ns n in
    let e : m + (added ns + n) ≡ (m + added ns) + n = omega arith in
    ap (λ (x : ℕ). m + x) rest ∙ e

greatest_more : (ns : List ℕ) (n : ℕ) → greatest (ns ++ n ∷ []) ≡ max (greatest ns) n
greatest_more [] n = let e : max n 0 ≡ max 0 n = omega arith in e
greatest_more (m ∷ ns) n =
    let rest = greatest_more ns n in
    let e : max m (max (greatest ns) n) ≡ max (max m (greatest ns)) n = omega arith in
    ap (λ (x : ℕ). max m x) rest ∙ e

-- one sketch more
pub next_nodes : (ss : List Sketch) (i : ℕ) (s : Sketch) → i < length ss → s ≡ get_or ss i s →
    total_nodes (take (i + 1) ss) ≡ total_nodes (take i ss) + s.extent.nodes
next_nodes ss i s h e =
    ap added (map_more (λ (x : Sketch). x.extent.nodes) ss i s h)
    ∙ added_more (map (λ (x : Sketch). x.extent.nodes) (take i ss)) (get_or ss i s).extent.nodes
    ∙ ap (λ (x : Sketch). total_nodes (take i ss) + x.extent.nodes) (sym e)

pub next_branches : (ss : List Sketch) (i : ℕ) (s : Sketch) → i < length ss → s ≡ get_or ss i s →
    most_branches (take (i + 1) ss) ≡ max (most_branches (take i ss)) s.extent.branches
next_branches ss i s h e =
    ap greatest (map_more (λ (x : Sketch). x.extent.branches) ss i s h)
    ∙ greatest_more (map (λ (x : Sketch). x.extent.branches) (take i ss)) (get_or ss i s).extent.branches
    ∙ ap (λ (x : Sketch). max (most_branches (take i ss)) x.extent.branches) (sym e)

front_nodes : (i : ℕ) (ss : List Sketch) → total_nodes (take i ss) ≤ total_nodes ss
front_nodes zero ss = omega arith
front_nodes (suc i) [] = omega arith
front_nodes (suc i) (s ∷ ss) = let rest = front_nodes i ss in omega arith

front_branches : (i : ℕ) (ss : List Sketch) → most_branches (take i ss) ≤ most_branches ss
front_branches zero ss = omega arith
front_branches (suc i) [] = omega arith
front_branches (suc i) (s ∷ ss) = let rest = front_branches i ss in omega arith

pub next_all_nodes : (ss : List Sketch) (i n m : ℕ) (s : Sketch) → i < length ss → s ≡ get_or ss i s → n ≡ total_nodes (take i ss) + m →
    n + s.extent.nodes ≡ total_nodes (take (i + 1) ss) + m
next_all_nodes ss i n m s h e is = let next = next_nodes ss i s h e in omega arith

pub next_all_branches : (ss : List Sketch) (i n m : ℕ) (s : Sketch) → i < length ss → s ≡ get_or ss i s →
    n ≡ max (most_branches (take i ss)) m →
    max n s.extent.branches ≡ max (most_branches (take (i + 1) ss)) m
next_all_branches ss i n m s h e is =
    let next = next_branches ss i s h e in
    let t = most_branches (take i ss) in
    let b = s.extent.branches in
    let swapped : max (max t m) b ≡ max (max t b) m = omega arith in
    ap (λ (x : ℕ). max x b) is ∙ swapped ∙ ap (λ (x : ℕ). max x m) (sym next)

-- too many so far are too many in all
pub tells_all : (x : ProductError) (ss : List Sketch) (i n b m c : ℕ) (s : Sketch) → i < length ss → s ≡ get_or ss i s →
    n ≡ total_nodes (take i ss) + m → b ≡ max (most_branches (take i ss)) c → TellsExtent x (n + s.extent.nodes) (max b s.extent.branches) →
    TellsExtent x (total_nodes ss + m) (max (most_branches ss) c)
tells_all x ss i n b m c s h e nodes branches tells =
    let many = next_all_nodes ss i n m s h e nodes in
    let deep = next_all_branches ss i b c s h e branches in
    let front = front_nodes (i + 1) ss in
    let above = front_branches (i + 1) ss in
    let few : n + s.extent.nodes ≤ total_nodes ss + m = omega arith in
    let flat : max b s.extent.branches ≤ max (most_branches ss) c = omega arith in
    tells_more x (n + s.extent.nodes) (max b s.extent.branches) (total_nodes ss + m) (max (most_branches ss) c) few flat tells
