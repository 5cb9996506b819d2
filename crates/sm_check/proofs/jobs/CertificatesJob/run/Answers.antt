-- The certificate with the job's number closes the branch of the opening with it.
use Rattle.sm_check.proofs.Imports.{◌≡◌, ℕ, Bool, true, List, length, Some, ap, ◌∙◌, subst, IfOk-weaker, trees_in, sorts_in, Opening, RawLines, Passes, ended_in, terms_in}
use Rattle.std.specs.List.{slice_get}
use Rattle.sm_check.proofs.JobsLemmas.{all_before, got_at}
use Rattle.sm_check.proofs.jobs.CertificatesJob.run.Goals as goal

pub closes-requires : goal.closes-requires
closes-requires c = all_before (length (trees_in c.args.self.now.table.now)) c.args.self.now.terms.now c.args.self.now.before

pub returns : goal.returns
returns c =
    let s = c.args.self.now in
    let trees = trees_in s.table.now in
    let passes : Opening → List ℕ → Type 0 =
    λ (o : Opening) (bytes : List ℕ).
    Passes s.exact (sorts_in s.table.now) trees (terms_in trees s.terms.now) s.path.now.list.items o (ended_in bytes) in
    IfOk-weaker c.closes.result _ _
    (λ (out : Bool) h (o : Opening) (lines : RawLines) (at : slice_get s.openings.now c.args.index ≡ Some o)
    (is : slice_get s.certificates.now c.args.index ≡ Some lines) (closes : out ≡ true).
    subst (λ (bytes : List ℕ). passes o bytes)
    (c.deref.ensures.value ∙ ap (λ (v : RawLines). v.bytes.items) (got_at s.certificates.now c.args.index _ lines is))
    (subst (λ (x : Opening). passes x c.deref.result.now) (got_at s.openings.now c.args.index _ o at) (h closes)))
    c.closes.ensures
