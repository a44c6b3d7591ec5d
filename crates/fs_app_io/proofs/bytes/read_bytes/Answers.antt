use Rattle.std.proofs.KnownBytes.{Consumes-trans}
use Rattle.fs_app_io.proofs.bytes.read_bytes.Goals as goal

pub returns-then-is_err-clause-front : goal.returns-then-is_err-clause-front
returns-then-is_err-clause-front g c =
    record { taken = _; consumed = Consumes-trans _ _ _ _ _ c.loop-chunk.invariant c.in-Ok.ensures.bytes.0 }
