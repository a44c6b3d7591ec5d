-- Causes as the code has them.
use Rattle.std.proofs.Common.{◌≡◌, refl}
use Rattle.fs_cert_evidence.specs.declared.evidence.Cause.{Cause}
use Rattle.fs_cert_evidence.specs.declared.evidence.Cause.TheVariants.{Rule1, Rule2, Rule3, Rule4, Rule5, Rule6, Rule7, Rule8, Rule9, Rule10, Rule11, Rule12, Rule13, ReadsFrom, Coherence, FromReads}
use Rattle.fs_cert_evidence.specs.Evidence.{cause_of}
use Rattle.fs_app_why.specs.Chains.{code_cause}

pub same_cause : (c : Cause) → c ≡ code_cause (cause_of c)
same_cause Rule1 = refl
same_cause Rule2 = refl
same_cause Rule3 = refl
same_cause Rule4 = refl
same_cause Rule5 = refl
same_cause Rule6 = refl
same_cause Rule7 = refl
same_cause Rule8 = refl
same_cause Rule9 = refl
same_cause Rule10 = refl
same_cause Rule11 = refl
same_cause Rule12 = refl
same_cause Rule13 = refl
same_cause ReadsFrom = refl
same_cause Coherence = refl
same_cause FromReads = refl
