-- The turns of loops, by ascending masks.
use Rattle.sm_plan.proofs.Imports.{◌≡◌, ℕ, zero, suc, ◌+◌, ◌==◌, ◌≤◌, ◌<◌, bit_and, Bool, true, false, if◌then◌else◌, List, [], ◌∷◌, ◌++◌, map, length, refl, sym, ap, ◌∙◌, subst, arith, filter, range_with_len, filter-append, Code, End, Sorts, IsWellSorted, SymStore, IsDeclaredIn, IsStoreSorted, AreBefore, TermId, Tree, Copies, subsets, set_of, mask_of, IsStoreReady, IsStoreFull, IsSuccessorReady, AreSuccessorsReady, Successor, loop_body, rest_after, range_more}
use Rattle.sm_plan.proofs.MasksExact.{subsets_ascend, mask_exact}
use Rattle.sm_plan.proofs.RenewedStores.{store_alike}
use Rattle.sm_plan.proofs.SortedCode.{body_well, rest_well}

-- stores with the same terms
pub same_store_ready : (sorts : Sorts) (trees : List Tree) (s u : SymStore) → u.list.items ≡ s.list.items → IsStoreReady sorts trees s →
    IsStoreReady sorts trees u
same_store_ready sorts trees s u e ready = (
  subst (AreBefore (length trees)) (sym e) ready.0,
  subst (IsStoreSorted sorts) (sym (store_alike trees u s e)) ready.1,
)

pub same_store_full : (sorts : Sorts) (s u : SymStore) → u.list.items ≡ s.list.items → IsStoreFull sorts s → IsStoreFull sorts u
same_store_full sorts s u e full = subst (λ (l : List TermId). (x : ℕ) → IsDeclaredIn sorts x → x < length l) (sym e) full

-- bodies of loops are well sorted
pub bodies_ready : (sorts : Sorts) (b : Bool) (code : Code) → IsWellSorted sorts code →
    IsWellSorted sorts (if b then loop_body code else End)
bodies_ready sorts true code well = body_well sorts code well
bodies_ready sorts false code well = tt

pub filter_push : (p : ℕ → Bool) (n : ℕ) → filter p (range_with_len 1 (n + 1)) ≡ filter p (range_with_len 1 n)
    ++ (if p (n + 1) then (n + 1) ∷ [] else [])
filter_push p n =
    let more : n + 1 ≡ suc n = omega arith in
    let same : 1 + n ≡ n + 1 = omega arith in
    ap (λ (m : ℕ). filter p (range_with_len 1 m)) more ∙ ap (filter p) (range_more 1 n)
    ∙ filter-append p (range_with_len 1 n) ((1 + n) ∷ [])
    ∙ ap (λ (m : ℕ). filter p (range_with_len 1 n) ++ (if p m then m ∷ [] else [])) same

-- the masks up to 15 are those of their sets
pub masks_are : (n : ℕ) → n ≤ 15 → mask_of (set_of n) ≡ n
masks_are zero h = refl
masks_are (suc zero) h = refl
masks_are (suc (suc zero)) h = refl
masks_are (suc (suc (suc zero))) h = refl
masks_are (suc (suc (suc (suc zero)))) h = refl
masks_are (suc (suc (suc (suc (suc zero))))) h = refl
masks_are (suc (suc (suc (suc (suc (suc zero)))))) h = refl
masks_are (suc (suc (suc (suc (suc (suc (suc zero))))))) h = refl
masks_are (suc (suc (suc (suc (suc (suc (suc (suc zero)))))))) h = refl
masks_are (suc (suc (suc (suc (suc (suc (suc (suc (suc zero))))))))) h = refl
masks_are (suc (suc (suc (suc (suc (suc (suc (suc (suc (suc zero)))))))))) h = refl
masks_are (suc (suc (suc (suc (suc (suc (suc (suc (suc (suc (suc zero))))))))))) h = refl
masks_are (suc (suc (suc (suc (suc (suc (suc (suc (suc (suc (suc (suc zero)))))))))))) h = refl
masks_are (suc (suc (suc (suc (suc (suc (suc (suc (suc (suc (suc (suc (suc zero))))))))))))) h = refl
masks_are (suc (suc (suc (suc (suc (suc (suc (suc (suc (suc (suc (suc (suc (suc zero)))))))))))))) h = refl
masks_are (suc (suc (suc (suc (suc (suc (suc (suc (suc (suc (suc (suc (suc (suc (suc zero))))))))))))))) h = refl
masks_are (suc (suc (suc (suc (suc (suc (suc (suc (suc (suc (suc (suc (suc (suc (suc (suc n)))))))))))))))) h = absurd (omega arith)

-- the masks of the subsets
pub masked : {T : Type 0} (f : Copies → T) (set : ℕ) → set ≤ 15 →
    map (λ (m : ℕ). f (set_of m)) (filter (λ (m : ℕ). bit_and m set == m) (range_with_len 1 15)) ≡ map f (subsets (set_of set))
masked f set h =
    ap (λ (n : ℕ). map (λ (m : ℕ). f (set_of m)) (filter (λ (m : ℕ). bit_and m n == m) (range_with_len 1 15))) (sym (masks_are set h))
    ∙ ap (map (λ (m : ℕ). f (set_of m))) (sym (subsets_ascend (set_of set)))
    ∙ back (subsets (set_of set))
  where
    back : (vs : List Copies) → map (λ (m : ℕ). f (set_of m)) (map mask_of vs) ≡ map f vs
    back [] = refl
    back (v ∷ vs) = λ i. f (mask_exact v i) ∷ back vs i

-- one state more
pub successors_push : (sorts : Sorts) (trees : List Tree) (ns : List Successor) (n : Successor) → AreSuccessorsReady sorts trees ns →
    IsSuccessorReady sorts trees n →
    AreSuccessorsReady sorts trees (ns ++ n ∷ [])
successors_push sorts trees [] n ready new = (new, tt)
successors_push sorts trees (m ∷ ns) n ready new = (ready.0, successors_push sorts trees ns n ready.1 new)

-- what comes after a loop is well sorted
pub passed_ready : (sorts : Sorts) (b : Bool) (code : Code) → IsWellSorted sorts code →
    IsWellSorted sorts (if b then rest_after 1 code else code)
passed_ready sorts true code well = rest_well sorts 1 code well
passed_ready sorts false code well = well
