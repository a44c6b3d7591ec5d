-- Runs of one hart (RISC-V Unprivileged ISA 20191213, chapters "RV32I Base Integer Instruction Set" and "“A” Standard
-- Extension for Atomic Instructions"). A load may return any word here, and an sc.w may fail.
pub use Rattle.fs_model.specs.Runs.{IsDeclared, IsWord, IsAtLocation, StoresItsWord, AccessesNothing, Succeeds, Accesses, paired_after, after_step, IsStep, AreSteps, hart_after, start_with, Runs}
