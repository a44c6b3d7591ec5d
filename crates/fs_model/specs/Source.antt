-- The global memory order, and what loads return (RISC-V Unprivileged ISA 20191213, chapter "RVWMO Memory Consistency
-- Model", section "Memory Model Axioms", the load value axiom).
pub use Rattle.fs_model.specs.Executions.{lists_each_once, gmo, may_return, source_in}
