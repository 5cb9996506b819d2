-- Items that are read as long as one begins: what they stand for, and one turn of the loop that reads them.
use Rattle.sm_text.proofs.Imports.{◌≡◌, ℕ, suc, zero, ◌<◌, refl, sym, ap, ◌∙◌, subst, arith, Bool, true, false, Option, Result, Ok, Err, List, [], ◌++◌, length, map, append_assoc, Marked, plain, Symbol, first, Parser, go_on, gather_in}
use Rattle.std.specs.Prelude.{if◌then◌else◌}
use Rattle.std.proofs.lemmas.List.{append-nil}
use Rattle.sm_text.specs.rules.Parsers.{fault, gather, Fault}
use Rattle.sm_text.proofs.Sound.Parsers.{Takes, Stops, Told, Describes, map-plain-append, begins-alike, shorter}

module _ {T U : Type 0} (begins : Option Symbol → Bool) (one : Parser T) (put : U → T → U)
    (shrinks : (ts : List Symbol) (x : T) (after : List Symbol) → one ts ≡ Ok (x, after) → length after < length ts) where
  same_item : (m n : ℕ) (before : U) (ts : List Symbol) →
      ((x : T) (after : List Symbol) → length after < length ts →
      gather_in begins one put m (put before x) after ≡ gather_in begins one put n (put before x) after) →
      (r : Result (T × List Symbol) Fault) → one ts ≡ r →
      go_on r (λ x. gather_in begins one put m (put before x)) ≡ go_on r (λ x. gather_in begins one put n (put before x))
  same_item m n before ts others (Err f) e = refl
  same_item m n before ts others (Ok r) e = others r.0 r.1 (shrinks ts r.0 r.1 e)

  same_test : (m n : ℕ) (before : U) (ts : List Symbol) →
      ((x : T) (after : List Symbol) → length after < length ts →
      gather_in begins one put m (put before x) after ≡ gather_in begins one put n (put before x) after) → (b : Bool) →
      (if b then go_on (one ts) (λ x. gather_in begins one put m (put before x)) else Ok (before, ts)) ≡ (if b then go_on (one ts)
      (λ x. gather_in begins one put n (put before x)) else Ok (before, ts))
  same_test m n before ts others true = same_item m n before ts others (one ts) refl
  same_test m n before ts others false = refl

  enough : (m n : ℕ) (before : U) (ts : List Symbol) → length ts < m → length ts < n →
      gather_in begins one put m before ts ≡ gather_in begins one put n before ts
  enough zero n before ts h k = absurd (omega (arith, h))
  enough (suc m) zero before ts h k = absurd (omega (arith, k))
  enough (suc m) (suc n) before ts h k =
      same_test m n before ts (λ x after s. enough m n (put before x) after (omega (arith, h, s)) (omega (arith, k, s))) (begins (first ts))

  -- one turn: an item is read, and the others after it
  pub gather-turn : (before : U) (ts : List Symbol) (x : T) (after : List Symbol) → begins (first ts) ≡ true → one ts ≡ Ok (x, after) →
      gather begins one put before ts ≡ gather begins one put (put before x) after
  unfolding gather
  gather-turn before ts x after b e =
      rw (b, e) (enough (length ts) (suc (length after)) (put before x) after (shrinks ts x after e) (omega arith))

-- the end: no item begins
pub gather-end : {T U : Type 0} (begins : Option Symbol → Bool) (one : Parser T) (put : U → T → U) (before : U) (ts : List Symbol) →
    begins (first ts) ≡ false → gather begins one put before ts ≡ Ok (before, ts)
unfolding gather
gather-end begins one put before ts b = rw b refl

-- a fault in an item
pub gather-fault : {T U : Type 0} (begins : Option Symbol → Bool) (one : Parser T) (put : U → T → U) (before : U) (ts : List Symbol)
    (f : Fault) → begins (first ts) ≡ true → one ts ≡ Err f → gather begins one put before ts ≡ Err f
unfolding gather
gather-fault begins one put before ts f b e = rw (b, e) refl

-- items one after the other, each put to what was gathered before
pub data Gathers {T U : Type 0} (P : List Marked → T → Type 0) (put : U → T → U) : U → List Marked → U → Type 0 where
  none : (before : U) → Gathers P put before [] before
  more : {us vs : List Marked} {x : T} {before last : U} → P us x → Gathers P put (put before x) vs last →
      Gathers P put before (us ++ vs) last

module _ {T U : Type 0} (begins : Option Symbol → Bool) (one : Parser T) (put : U → T → U) (P : List Marked → T → Type 0)
    (reads : Describes one P) (some : (us : List Marked) (x : T) → P us x → 0 < length us) where
  abbrev all : U → Parser U
  all before = gather begins one put before

  turn : (before : U) (ts : List Symbol) (x : T) (after : List Symbol) → begins (first ts) ≡ true → one ts ≡ Ok (x, after) →
      all before ts ≡ all (put before x) after
  turn before ts x after b e = gather-turn begins one put (shorter some reads) before ts x after b e

  -- a turn before symbols that begin alike
  turn_again : (before : U) (ts : List Symbol) (x : T) (after used here us : List Symbol) → begins (first ts) ≡ true →
      (t : Takes one P ts x after) → after ≡ used ++ here → first us ≡ first here →
      all before ((t.used ++ used) ++ us) ≡ all (put before x) (used ++ us)
  turn_again before ts x after used here us b t split e =
      let same : first (used ++ us) ≡ first after = begins-alike used us here after split e in
      ap (λ (l : List Symbol). all before l) (append_assoc t.used used us)
      ∙ turn before (t.used ++ (used ++ us)) x (used ++ us) (ap begins (begins-alike t.used (used ++ us) after ts t.split same) ∙ b)
      (t.again (used ++ us) same)

  ended : (before : U) (ts : List Symbol) → begins (first ts) ≡ false → Takes (all before) (Gathers P put before) ts before ts
  ended before ts b = record {
    used = [];
    split = refl;
    fits = none before;
    again = λ us e. gather-end begins one put before us
        (ap begins e ∙ b);
  }

  one_more : (before : U) (ts : List Symbol) (x : T) (after : List Symbol) → begins (first ts) ≡ true → Takes one P ts x after →
      (r : Result (U × List Symbol) Fault) → Told (all (put before x)) (Gathers P put (put before x)) after r →
      Told (all before) (Gathers P put before) ts r
  one_more before ts x after b t (Ok r) told =
      let F : List Marked → Type 0 = λ us. Gathers P put before us r.0 in
      record {
        used = t.used ++ told.used;
        split = t.split ∙ ap (λ (l : List Symbol). t.used ++ l) told.split ∙ sym (append_assoc t.used told.used r.1);
        fits = subst F (sym (map-plain-append t.used told.used)) (more t.fits told.fits);
        again = λ us e. turn_again before ts x after told.used r.1 us b t told.split e ∙ told.again us e;
      }
  one_more before ts x after b t (Err f) told =
      let F : List Marked → Type 0 = λ us. Gathers P put before us told.value in
      record {
        used = t.used ++ told.used;
        here = told.here;
        split = t.split ∙ ap (λ (l : List Symbol). t.used ++ l) told.split ∙ sym (append_assoc t.used told.used told.here);
        place = told.place;
        again = λ us e. turn_again before ts x after told.used told.here us b t told.split e ∙ told.again us e;
        ahead = told.ahead;
        value = told.value;
        goes_on = subst F (sym (ap (λ (l : List Marked). l ++ told.ahead) (map-plain-append t.used told.used)
            ∙ append_assoc (map plain t.used) (map plain told.used) told.ahead)) (more t.fits told.goes_on);
        nested = told.nested;
      }

  cut_off : (before : U) (ts : List Symbol) (f : Fault) → begins (first ts) ≡ true → Stops one P ts f →
      Stops (all before) (Gathers P put before) ts f
  cut_off before ts f b t =
      let F : List Marked → Type 0 = λ us. Gathers P put before us (put before t.value) in
      record {
        used = t.used;
        here = t.here;
        split = t.split;
        place = t.place;
        again = λ us e. gather-fault begins one put before (t.used ++ us) (fault f.kind us)
            (ap begins (begins-alike t.used us t.here ts t.split e) ∙ b) (t.again us e);
        ahead = t.ahead;
        value = put before t.value;
        goes_on = subst F (append-nil (map plain t.used ++ t.ahead)) (more t.goes_on (none (put before t.value)));
        nested = t.nested;
      }

  by_item : (before : U) (ts : List Symbol) →
      ((x : T) (after : List Symbol) → length after < length ts →
      Told (all (put before x)) (Gathers P put (put before x)) after (all (put before x) after)) → begins (first ts) ≡ true →
      (r : Result (T × List Symbol) Fault) → one ts ≡ r → Told one P ts r → Told (all before) (Gathers P put before) ts (all before ts)
  by_item before ts others b (Ok r) e t =
      let F : Result (U × List Symbol) Fault → Type 0 = λ a. Told (all before) (Gathers P put before) ts a in
      subst F (sym (turn before ts r.0 r.1 b e))
      (one_more before ts r.0 r.1 b t (all (put before r.0) r.1) (others r.0 r.1 (shorter some reads ts r.0 r.1 e)))
  by_item before ts others b (Err f) e t =
      let F : Result (U × List Symbol) Fault → Type 0 = λ a. Told (all before) (Gathers P put before) ts a in
      subst F (sym (gather-fault begins one put before ts f b e)) (cut_off before ts f b t)

  by_test : (before : U) (ts : List Symbol) →
      ((x : T) (after : List Symbol) → length after < length ts →
      Told (all (put before x)) (Gathers P put (put before x)) after (all (put before x) after)) → (b : Bool) → begins (first ts) ≡ b →
      Told (all before) (Gathers P put before) ts (all before ts)
  by_test before ts others true b = by_item before ts others b (one ts) refl (reads.tells ts)
  by_test before ts others false b =
      let F : Result (U × List Symbol) Fault → Type 0 = λ a. Told (all before) (Gathers P put before) ts a in
      subst F (sym (gather-end begins one put before ts b)) (ended before ts b)

  within : (n : ℕ) (before : U) (ts : List Symbol) → length ts < n → Told (all before) (Gathers P put before) ts (all before ts)
  within zero before ts h = absurd (omega (arith, h))
  within (suc n) before ts h =
      by_test before ts (λ x after less. within n (put before x) after (omega (arith, h, less))) (begins (first ts)) refl

  -- a list of items is what its items are, one after the other
  pub gathered : (before : U) → Describes (gather begins one put before) (Gathers P put before)
  gathered before = record {
    tells = λ ts. within (suc (length ts)) before ts (omega arith);
    possible = record { list = []; value = before; fits = none before };
  }
