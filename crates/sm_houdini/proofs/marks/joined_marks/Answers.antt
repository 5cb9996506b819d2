use Rattle.sm_houdini.proofs.Imports.{◌<◌, ◌≤◌, ℕ, [], length, get_or, ap, ◌∙◌, arith, take_all, all_marked, joins}
use Rattle.sm_houdini.proofs.ShareLemmas.{sites_count, site_is, joined_site}
use Rattle.sm_houdini.proofs.marks.joined_marks.Goals as goal

pub loop-site-preserved : goal.loop-site-preserved
loop-site-preserved c = λ p q ch mine theirs.
    let k = c.loop-site.site in
    let count = sites_count p ch c.args.marks.now.sites.items mine in
    let inside : k < length ch = omega (arith, c.loop-site-test.true, count) in
    let one = c.site_marks-mine.ensures ∙ site_is p ch c.args.marks.now.sites.items k inside mine in
    let other = c.site_marks-theirs.ensures ∙ site_is q ch c.args.others.now.sites.items k inside theirs in
    joined_site (λ (s i : ℕ). joins c.args.join (p s i) (q s i)) ch c.push.new.self.items c.loop-site.sites.items c.in_ok-joined_at.field-0 k
    c.in_ok-push.ensures.items (c.in_ok-joined_at.ensures (p k) (q k) (get_or ch k []) one other) inside
    (c.loop-site.invariant p q ch mine theirs)

pub returns : goal.returns
returns c = λ p q ch mine theirs.
    let count = sites_count p ch c.args.marks.now.sites.items mine in
    let all : length ch ≤ c.loop-site.site = omega (arith, c.loop-site-test.false, count) in
    c.loop-site.invariant p q ch mine theirs
    ∙ ap (all_marked (λ (s i : ℕ). joins c.args.join (p s i) (q s i)) 0) (take_all c.loop-site.site ch all)
