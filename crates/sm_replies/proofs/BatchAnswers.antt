-- What is answered to a list by the lines of its files.
use Rattle.sm_replies.proofs.Imports.{◌≡◌, ◌++◌, inr, ℕ, List, map, Global, append_assoc, refl, sym, ap, subst, ◌∙◌, map-append, string_bytes, String, Contains, Contains-append_left, Contains-append_right, Known, Read, FailsToRead, Status, GivesList, Says, Line, numbered, status_of_all, Batches, FailsToReadOne, line_in, lines_of, statuses, texts, AreLinesRead, GoesOn, Effort, Reply}
use Rattle.sm_replies.proofs.BatchGiven.{lines_next, lines_wider, stays}
use Rattle.sm_replies.proofs.BatchSafe.{are_lines}

-- a file of some names that can't be read, by what is told of it elsewhere, and among more names
pub fails_among : (files others : List ℕ → Known) (names part : List (List ℕ)) (b c n : ℕ) (s : Status) (t : List ℕ)
    → ((name : List ℕ) → others name ≡ files name) → c ≡ b → ((name : List ℕ) → Contains part name → Contains names name)
    → FailsToReadOne others part c n s t → FailsToReadOne files names b n s t
fails_among files others names part b c n s t same still wider f = record {
  name = f.name;
  named = wider f.name f.named;
  fails = subst (λ (k : Known). FailsToRead k b n s t) (same f.name) (subst (λ (m : ℕ). FailsToRead (others f.name) m n s t) still f.fails);
}

-- a part of names that stands behind some and before others
pub in_part : (names done part others : List (List ℕ)) → done ++ (part ++ others) ≡ names → (name : List ℕ) → Contains part name
    → Contains names name
in_part names done part others is name has =
    subst (λ (ns : List (List ℕ)). Contains ns name) is
    (Contains-append_right done (part ++ others) name (Contains-append_left part others name has))

-- where all can
pub batch_lines : (files others : List ℕ → Known) (list : List ℕ) (effort : Effort) (b c n : ℕ) (before now : List Read)
    (names : List (List ℕ)) (lines : List Line) (s : Status) (t : List ℕ) → GivesList (files list) b c names
    → ((name : List ℕ) → others name ≡ files name) → n ≡ c → AreLinesRead others c before now effort names lines
    → Says (status_of_all (statuses lines)) (numbered 1 (texts lines)) s t → Batches files list effort b n s t
batch_lines files others list effort b c n before now names lines s t gives same quiet all says =
    inr (record {
      names = names;
      between = c;
      gives = gives;
      answers =
          inr (record {
            quiet = quiet;
            lines = lines;
            each = are_lines files effort c before now names lines
                (lines_wider files others c c before before now now effort same refl (stays before) (stays now) names lines all);
            says = says;
          });
    })

-- a file that has one of the names can't be read
pub fails_named : (files others : List ℕ → Known) (names : List (List ℕ)) (name : List ℕ) (b c n : ℕ) (s : Status) (t : List ℕ)
    → others name ≡ files name → c ≡ b → Contains names name → FailsToRead (others name) c n s t → FailsToReadOne files names b n s t
fails_named files others names name b c n s t same still has f = record {
  name = name;
  named = has;
  fails = subst (λ (k : Known). FailsToRead k b n s t) same (subst (λ (m : ℕ). FailsToRead (others name) m n s t) still f);
}

-- a group of names that stands behind those that are done and before others
pub group_behind : (names rest group others : List (String Global)) (done : List (List ℕ)) → done ++ map string_bytes rest ≡ map string_bytes names
    → rest ≡ group ++ others → done ++ (map string_bytes group ++ map string_bytes others) ≡ map string_bytes names
group_behind names rest group others done is all =
    ap (λ (z : List (List ℕ)). done ++ z) (sym (ap (map string_bytes) all ∙ map-append string_bytes group others)) ∙ is

pub in_group : (names rest group others : List (String Global)) (done : List (List ℕ)) → done ++ map string_bytes rest ≡ map string_bytes names
    → rest ≡ group ++ others → (name : List ℕ) → Contains (map string_bytes group) name → Contains (map string_bytes names) name
in_group names rest group others done is all =
    in_part (map string_bytes names) done (map string_bytes group) (map string_bytes others) (group_behind names rest group others done is all)

-- the lines so far, and those of the group
pub group_more : (files others : List ℕ → Known) (count c : ℕ) (before mid now : List Read) (effort : Effort)
    (names rest group left : List (String Global)) (done : List (List ℕ)) (lines more all : List Reply)
    → ((name : List ℕ) → others name ≡ files name) → c ≡ count → GoesOn before mid → GoesOn mid now
    → done ++ map string_bytes rest ≡ map string_bytes names → rest ≡ group ++ left
    → AreLinesRead files count before mid effort done (lines_of lines)
    → AreLinesRead others c mid now effort (map string_bytes group) (lines_of more) → all ≡ lines ++ more
    → (ns : List (List ℕ)) × (ns ++ map string_bytes left ≡ map string_bytes names)
    × AreLinesRead files count before now effort ns (lines_of all)
group_more files others count c before mid now effort names rest group left done lines more all same still early late is split a b put = (
  done ++ map string_bytes group,
  append_assoc done (map string_bytes group) (map string_bytes left) ∙ group_behind names rest group left done is split,
  subst (λ (ls : List Line). AreLinesRead files count before now effort (done ++ map string_bytes group) ls)
      (sym (ap lines_of put ∙ map-append line_in lines more))
      (lines_next files others count c before mid now effort same still early late done (map string_bytes group) (lines_of lines)
      (lines_of more) a b),
)
