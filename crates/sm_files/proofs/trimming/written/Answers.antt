-- What is written can be written.
use Rattle.sm_files.proofs.trimming.written.Goals as goal

pub write_proof-requires-clause-writable : goal.write_proof-requires-clause-writable
write_proof-requires-clause-writable c = c.in_ok-is_writable.ensures.writable c.if-not-branch.false
