-- The formula stands behind the others, and its parts behind it.
use Rattle.sm_list.proofs.Imports.{◌≡◌, ◌++◌, ◌∷◌, [], ℕ, List, OnOk, length, sym, ap, subst, ◌∙◌, arith, length-map, map-append, on_ok_weaker, Assertion, numbered, assertion_in, longer_twice, with_parts, all_numbered, assertions_in, AreFormulasWithin}
use Rattle.sm_list.proofs.PartsLemmas.{queue_from, queue_last, within-append}
use Rattle.sm_list.proofs.parts.add_with_parts.Goals as goal

pub returns-clause-added : goal.returns-clause-added
returns-clause-added c = λ sorts trees.
    let old = all_numbered c.args.facts.now.items in
    let before = assertions_in sorts trees old in
    let f = assertion_in sorts trees (numbered c.args.f) in
    let now = assertions_in sorts trees (all_numbered c.add_parts.new.facts.items) in
    let items : all_numbered c.push.new.self.items ≡ old ++ numbered c.args.f ∷ [] =
    ap all_numbered c.in_ok-push.ensures.items ∙ map-append numbered c.args.facts.now.items (c.args.f ∷ []) in
    let all : assertions_in sorts trees (all_numbered c.push.new.self.items) ≡ before ++ f ∷ [] =
    ap (assertions_in sorts trees) items ∙ map-append (assertion_in sorts trees) old (numbered c.args.f ∷ []) in
    let one = length-map c.args.facts.now.items numbered in
    let two = length-map old (assertion_in sorts trees) in
    let place : c.len-from.result ≡ length before = omega arith in
    let same : queue_from c.len-from.result (assertions_in sorts trees (all_numbered c.push.new.self.items)) ≡ before ++ with_parts (f ∷ []) =
    ap (λ (fs : List Assertion). queue_from c.len-from.result fs) all ∙ ap (λ (n : ℕ). queue_from n (before ++ f ∷ [])) place ∙ queue_last before f in
    subst (λ (fs : List Assertion). OnOk c.add_parts.result (now ≡ fs)) same (c.add_parts.ensures.added sorts trees)

pub returns-clause-within : goal.returns-clause-within
returns-clause-within c = λ count all one.
    let old = all_numbered c.args.facts.now.items in
    let items : all_numbered c.push.new.self.items ≡ old ++ numbered c.args.f ∷ [] =
    ap all_numbered c.in_ok-push.ensures.items ∙ map-append numbered c.args.facts.now.items (c.args.f ∷ []) in
    c.add_parts.ensures.within count
    (subst (AreFormulasWithin count) (sym items) (within-append count old (numbered c.args.f ∷ []) all (one, tt)))

pub returns-clause-longer : goal.returns-clause-longer
returns-clause-longer c =
    on_ok_weaker c.add_parts.result
    (longer_twice c.args.facts.now.items c.push.new.self.items c.add_parts.new.facts.items (c.args.f ∷ [], c.in_ok-push.ensures.items))
    c.add_parts.ensures.longer
