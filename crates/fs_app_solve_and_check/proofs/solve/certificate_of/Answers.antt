use Rattle.std.proofs.Common.{Some, ap, sym, ◌∙◌}
use Rattle.fs_cert_evidence.specs.Evidence.{Refuted}
use Rattle.fs_pool_workers.specs.Answers.{placement_of}
use Rattle.fs_app_solve_and_check.proofs.Founding.{fenced-certifies, fenced-cycles, witness-certifies}
use Rattle.fs_app_solve_and_check.proofs.solve.certificate_of.Goals as goal

pub fenced_certificate-requires-clause-placed : goal.fenced_certificate-requires-clause-placed
fenced_certificate-requires-clause-placed c =
    ap placement_of c.in-Fenced.is ∙ ap (λ (f : Refuted). Some f.placement) (sym c.deref.ensures)

pub fenced_certificate-requires-clause-cycles : goal.fenced_certificate-requires-clause-cycles
fenced_certificate-requires-clause-cycles c = fenced-cycles _ _ _ _ _ _ c.in-Fenced.is c.deref.ensures c.requires.2.answer

pub returns-in_ok-from_witness-in-None-clause-ok : goal.returns-in_ok-from_witness-in-None-clause-ok
returns-in_ok-from_witness-in-None-clause-ok c =
    witness-certifies _ _ _ _ _ c.in-None.is c.requires.2.answer c.requires.2.listed c.in_ok-from_witness-in-None.ensures

pub returns-in-Fenced-clause-ok : goal.returns-in-Fenced-clause-ok
returns-in-Fenced-clause-ok c =
    fenced-certifies _ _ _ _ _ _ c.fenced_certificate.result c.in-Fenced.is (ap (λ (f : Refuted). f.placement) c.deref.ensures)
    c.fenced_certificate.ensures.ok
